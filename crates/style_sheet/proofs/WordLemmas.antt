-- Words and counted bytes that follow each other: what is read at their places.
use Rattle.std.proofs.Common.{◌≡◌, ℕ, zero, suc, ◌+◌, ◌-◌, ◌*◌, ◌%◌, ◌==◌, ◌<◌, if◌then◌else◌, List, [], ◌∷◌, ◌++◌}
use Rattle.std.proofs.Common.{length, take, drop, slice_index, slice_index_or, refl, sym, ◌∙◌, ap, subst, arith}
use Rattle.std.proofs.Common.{length-append, append_assoc}
use Rattle.std.specs.List.{All, flat_map}
use Rattle.std.proofs.Math.Seq.{take-append_seam, drop-append_seam}
use Rattle.doc_bits.specs.Number.{u16_at}
use Rattle.doc_bits.proofs.Public.{number_at-number_bytes, number_at-after, length-number_bytes}
use Rattle.style_sheet.specs.Counted.{even_up, counted_end, counted_place, counted_bytes, IsCountedPart}
use Rattle.style_sheet.specs.Counted.{written_counted}
use Rattle.style_sheet.specs.Written.{word}

pub length-word : (x : ℕ) → length (word x) ≡ 2
length-word x = length-number_bytes 2 x

-- the first word
pub word_front : (x : ℕ) (rest : List ℕ) → x < 65536 → u16_at (word x ++ rest) 0 ≡ x
word_front x rest h = number_at-number_bytes 2 x rest h

-- what is read after a word
pub word_after : (x : ℕ) (rest : List ℕ) (at : ℕ) → u16_at (word x ++ rest) (2 + at) ≡ u16_at rest at
word_after x rest at = subst (λ n. u16_at (word x ++ rest) (n + at) ≡ u16_at rest at) (length-word x) (number_at-after
    (word x) rest at 2)

pub length-words : (words : List ℕ) → length (flat_map word words) ≡ 2 * length words
length-words [] = refl
length-words (x ∷ xs) =
    let ih = length-words xs in
    let two = length-word x in
    let sum = length-append (word x) (flat_map word xs) in
    omega arith

-- each of several words
pub words_at : (words rest : List ℕ) (i : ℕ) → ((k : ℕ) → slice_index words k < 65536) → i < length words →
    u16_at (flat_map word words ++ rest) (2 * i) ≡ slice_index words i
words_at [] rest i small h = absurd (omega arith)
words_at (x ∷ xs) rest zero small h = rw (append_assoc (word x) (flat_map word xs) rest) (word_front x (flat_map word
    xs ++ rest) (small 0))
words_at (x ∷ xs) rest (suc i) small h =
    let place : 2 * suc i ≡ 2 + 2 * i = omega arith in
    rw (append_assoc (word x) (flat_map word xs) rest, place) (word_after x (flat_map word xs ++ rest) (2 * i) ∙
    words_at xs rest i (λ k. small (suc k)) (omega arith))

-- what is at a count
pub record IsItemAt (bytes : List ℕ) (at : ℕ) (item : List ℕ) : Type 0 where
  pub count : u16_at bytes at ≡ length item
  pub within : IsCountedPart bytes at
  pub bytes_are : counted_bytes bytes at ≡ item

abbrev pub pad_of : ℕ → List ℕ
pad_of n = if n % 2 == 0 then [] else 0 ∷ []

pub item_at : (front item more : List ℕ) → length item < 65536 → IsItemAt (front ++ (word (length item) ++
    (item ++ more))) (length front) item
item_at front item more short =
    let bytes = front ++ (word (length item) ++ (item ++ more)) in
    let zero_in : length front + 0 ≡ length front = omega arith in
    let count : u16_at bytes (length front) ≡ length item =
    subst (λ p. u16_at bytes p ≡ length item) zero_in (number_at-after front (word (length item) ++ (item ++ more)) 0
    2 ∙ word_front (length item) (item ++ more) short) in
    let a = length-append front (word (length item) ++ (item ++ more)) in
    let b = length-append (word (length item)) (item ++ more) in
    let d = length-append item more in
    let two = length-word (length item) in
    let from : length front + 2 ≡ length (front ++ word (length item)) = sym (length-append front (word (length item))
    ∙ ap (λ n. length front + n) two) in
    let size : counted_end bytes (length front) - (length front + 2) ≡ length item = omega arith in
    let rest : drop (length front + 2) bytes ≡ item ++ more =
    ap (λ n. drop n bytes) from ∙ (ap (drop (length (front ++ word (length item)))) (sym (append_assoc front
    (word (length item)) (item ++ more))) ∙ drop-append_seam (front ++ word (length item)) (item ++ more)) in
    record {
      count = count;
      within = omega arith;
      bytes_are = ap (λ n. take n (drop (length front + 2) bytes)) size ∙ (ap (take (length item)) rest ∙
          take-append_seam item more);
    }

even_twice : (n : ℕ) → even_up (even_up n) ≡ even_up n
even_twice n = omega arith

-- one step on is the same as starting after the first
pub place_shift : (bytes : List ℕ) (start k : ℕ) → counted_place bytes start (suc k) ≡ counted_place bytes
    (counted_end bytes (even_up start)) k
place_shift bytes start zero = refl
place_shift bytes start (suc k) = ap (λ p. even_up (counted_end bytes p)) (place_shift bytes start k)

pub place_even : (bytes : List ℕ) (start k : ℕ) → counted_place bytes (even_up start) k ≡ counted_place bytes start k
place_even bytes start zero = even_twice start
place_even bytes start (suc k) = ap (λ p. even_up (counted_end bytes p)) (place_even bytes start k)

pad_cases : (n r : ℕ) → r < 2 → n + length {A = ℕ} (if r == 0 then [] else 0 ∷ []) ≡ n + r
pad_cases n zero h = refl
pad_cases n (suc zero) h = refl
pad_cases n (suc (suc r)) h = absurd (omega arith)

length-pad : (n : ℕ) → n + length (pad_of n) ≡ even_up n
length-pad n = pad_cases n (n % 2) (omega arith)

pub length-written : (item : List ℕ) → length (written_counted item) ≡ 2 + even_up (length item)
length-written item =
    let a = length-append (word (length item)) (item ++ pad_of (length item)) in
    let b = length-append item (pad_of (length item)) in
    let two = length-word (length item) in
    let pad = length-pad (length item) in
    omega arith

-- the first of several, with what is before it and after it
first_item : (front item rest : List ℕ) → front ++ (written_counted item ++ rest) ≡ front ++ (word (length item) ++
    (item ++ (pad_of (length item) ++ rest)))
first_item front item rest =
    ap (λ t. front ++ t) (append_assoc (word (length item)) (item ++ pad_of (length item)) rest ∙ ap
    (λ t. word (length item) ++ t) (append_assoc item (pad_of (length item)) rest))

-- where the second one is
second_place : (front item rest : List ℕ) (k : ℕ) → length front % 2 ≡ 0 → length item < 65536 →
    counted_place (front ++ (written_counted item ++ rest)) (length front) (suc k) ≡ counted_place
    (front ++ (written_counted item ++ rest)) (length (front ++ written_counted item)) k
second_place front item rest k even short =
    let bytes = front ++ (written_counted item ++ rest) in
    let same = first_item front item rest in
    let first = subst (λ b. IsItemAt b (length front) item) (sym same) (item_at front item (pad_of (length item) ++
    rest) short) in
    let start : even_up (length front) ≡ length front = omega arith in
    let count = first.count in
    let end : counted_end bytes (even_up (length front)) ≡ length front + 2 + length item = ap (counted_end bytes)
    start ∙ ap (λ n. length front + 2 + n) count in
    let len = length-append front (written_counted item) in
    let written = length-written item in
    let next : even_up (length front + 2 + length item) ≡ length (front ++ written_counted item) = omega arith in
    place_shift bytes (length front) k
    ∙ (ap (λ p. counted_place bytes p k) end
    ∙ (sym (place_even bytes (length front + 2 + length item) k) ∙ ap (λ p. counted_place bytes p k) next))

-- each of several counted items
pub items_at : (front : List ℕ) (items : List (List ℕ)) (k : ℕ) (d : List ℕ) → length front % 2 ≡ 0 →
    All (λ item. length item < 65536) items → k < length items →
    IsItemAt (front ++ flat_map written_counted items) (counted_place (front ++ flat_map written_counted items)
    (length front) k) (slice_index_or items k d)
items_at front [] k d even short h = absurd (omega arith)
items_at front (x ∷ xs) zero d even short h =
    let rest = flat_map written_counted xs in
    let start : length front ≡ even_up (length front) = omega arith in
    let here = subst (λ b. IsItemAt b (length front) x) (sym (first_item front x rest)) (item_at front x
    (pad_of (length x) ++ rest) (short 0 d (omega arith))) in
    subst (λ p. IsItemAt (front ++ (written_counted x ++ rest)) p x) start here
items_at front (x ∷ xs) (suc k) d even short h =
    let rest = flat_map written_counted xs in
    let len = length-append front (written_counted x) in
    let written = length-written x in
    let ih = items_at (front ++ written_counted x) xs k d (omega arith) (λ i e below. short (suc i) e (omega arith))
    (omega arith) in
    let there = subst (λ b. IsItemAt b (counted_place b (length (front ++ written_counted x)) k) (slice_index_or xs k
    d)) (append_assoc front (written_counted x) rest) ih in
    subst (λ p. IsItemAt (front ++ (written_counted x ++ rest)) p (slice_index_or xs k d)) (sym (second_place front x
    rest k even (short 0 d (omega arith)))) there

-- after the last one the bytes end
pub items_end : (front : List ℕ) (items : List (List ℕ)) → length front % 2 ≡ 0 → All (λ item. length item < 65536)
    items →
    counted_place (front ++ flat_map written_counted items) (length front) (length items) ≡ length (front ++ flat_map
    written_counted items)
items_end front [] even short =
    let len = length-append front [] in
    omega arith
items_end front (x ∷ xs) even short =
    let rest = flat_map written_counted xs in
    let len = length-append front (written_counted x) in
    let written = length-written x in
    let ih = items_end (front ++ written_counted x) xs (omega arith) (λ i e below. short (suc i) e (omega arith)) in
    let there = subst (λ b. counted_place b (length (front ++ written_counted x)) (length xs) ≡ length b)
    (append_assoc front (written_counted x) rest) ih in
    second_place front x rest (length xs) even (short 0 x (omega arith)) ∙ there
