-- Words of an instruction, unit by unit.
use Rattle.std.proofs.Common.{◌≡◌, ℕ, ◌<◌, ◌≤◌, Bool, true, false, List, [], ◌∷◌, ◌++◌, length, drop, refl, sym}
use Rattle.std.proofs.Common.{ap, ◌∙◌, arith}
use Rattle.std.proofs.Common.{append_assoc}
use Rattle.std.proofs.lemmas.List.{append-nil}
use Rattle.std.specs.Prelude.{slice_index, if◌then◌else◌}
use Rattle.field_links.specs.declared.word.Extent.{Extent}
use Rattle.field_links.specs.declared.word.Extent.TheVariants.{Plain, Quoted, Whole}
use Rattle.field_links.specs.Words.{In_quotes, In_word, Between, field_words, is_quote, is_separator}
use Rattle.field_links.specs.Words.{is_solidus, plain, quoted, words_from}
use Rattle.field_links.specs.Kept.{HasFirstWord, IsUnitAt, behind_word, behind_plain, behind_quoted, front}
use Rattle.field_links.specs.Kept.{is_in_quotes}
use Rattle.field_links.specs.Kept.{plain_front, quoted_front}

-- ---- the first unit of a word

pub none_of_none : (extent : Extent) (xs : List ℕ) → length xs ≡ 0 → front extent xs ≡ []
unfolding quoted_front
none_of_none Plain [] e = refl
none_of_none Quoted [] e = refl
none_of_none Whole [] e = refl
none_of_none extent (x ∷ xs) e = absurd (omega (arith, e))

pub whole_at : (xs : List ℕ) → 0 < length xs → IsUnitAt Whole xs 0
whole_at [] some = absurd (omega (arith, some))
whole_at (x ∷ xs) some = record { within = some; unit = refl; follows = refl }

pub plain_at_separator : (xs : List ℕ) → 0 < length xs → is_separator (slice_index xs 0) ≡ true → plain_front xs ≡ []
plain_at_separator [] some e = absurd (omega (arith, some))
plain_at_separator (x ∷ xs) some e = rw e refl

pub plain_at_quote : (xs : List ℕ) → 0 < length xs → is_separator (slice_index xs 0) ≡ false →
    is_quote (slice_index xs 0) ≡ true → plain_front xs ≡ []
plain_at_quote [] some e f = absurd (omega (arith, some))
plain_at_quote (x ∷ xs) some e f = rw (e, f) refl

pub plain_at : (xs : List ℕ) → 0 < length xs → is_separator (slice_index xs 0) ≡ false →
    is_quote (slice_index xs 0) ≡ false → IsUnitAt Plain xs 0
plain_at [] some e f = absurd (omega (arith, some))
plain_at (x ∷ xs) some e f = record { within = some; unit = rw (e, f) refl; follows = rw (e, f) refl }

pub quoted_at_quote : (xs : List ℕ) → 0 < length xs → is_quote (slice_index xs 0) ≡ true → quoted_front xs ≡ []
unfolding quoted_front
quoted_at_quote [] some e = absurd (omega (arith, some))
quoted_at_quote (x ∷ []) some e = rw e refl
quoted_at_quote (x ∷ y ∷ xs) some e = rw e refl

pub quoted_at : (xs : List ℕ) → 0 < length xs → is_quote (slice_index xs 0) ≡ false →
    is_solidus (slice_index xs 0) ≡ false → IsUnitAt Quoted xs 0
unfolding quoted_front behind_quoted
quoted_at [] some e f = absurd (omega (arith, some))
quoted_at (x ∷ []) some e f = record { within = some; unit = rw (e, f) refl; follows = refl }
quoted_at (x ∷ y ∷ xs) some e f = record { within = some; unit = rw (e, f) refl; follows = rw (e, f) refl }

pub quoted_at_last : (xs : List ℕ) → 0 < length xs → is_quote (slice_index xs 0) ≡ false →
    is_solidus (slice_index xs 0) ≡ true → length xs < 2 → quoted_front xs ≡ []
unfolding quoted_front
quoted_at_last [] some e f short = absurd (omega (arith, some))
quoted_at_last (x ∷ []) some e f short = rw (e, f) refl
quoted_at_last (x ∷ y ∷ xs) some e f short = absurd (omega (arith, short))

pub quoted_at_second : (xs : List ℕ) → is_quote (slice_index xs 0) ≡ false → is_solidus (slice_index xs 0) ≡ true →
    2 ≤ length xs → IsUnitAt Quoted xs 1
unfolding quoted_front behind_quoted
quoted_at_second [] e f long = absurd (omega (arith, long))
quoted_at_second (x ∷ []) e f long = absurd (omega (arith, long))
quoted_at_second (x ∷ y ∷ xs) e f long = record {
  within = omega (arith, long);
  unit = rw (e, f) refl;
  follows = rw (e, f) refl;
}

-- ---- what follows a word of which nothing is left

quoted_end : (xs : List ℕ) → quoted_front xs ≡ [] → drop 1 xs ≡ behind_quoted xs
unfolding quoted_front behind_quoted
quoted_end [] e = refl
quoted_end (x ∷ []) e = refl
quoted_end (x ∷ y ∷ xs) e =
    elim (is_quote x) as (λ b. (if b then [] else if is_solidus x then y ∷ quoted_front xs else x ∷ quoted_front (y ∷
    xs)) ≡ [] → y ∷ xs ≡ (if b then y ∷ xs else if is_solidus x then behind_quoted xs else behind_quoted (y ∷ xs))) [
      | true ↦ λ _. refl
      | false ↦ elim (is_solidus x) as (λ b. (if b then y ∷ quoted_front xs else x ∷ quoted_front (y ∷ xs)) ≡ [] →
          y ∷ xs ≡ (if b then behind_quoted xs else behind_quoted (y ∷ xs))) [
            | true ↦ λ h. absurd (cc (h))
            | false ↦ λ h. absurd (cc (h))
          ]
    ] e

plain_end : (xs : List ℕ) → plain_front xs ≡ [] → xs ≡ behind_plain xs
plain_end [] e = refl
plain_end (x ∷ xs) e =
    elim (is_separator x) as (λ b. (if b then [] else if is_quote x then [] else x ∷ plain_front xs) ≡ [] → x ∷ xs ≡
    (if b then x ∷ xs else if is_quote x then x ∷ xs else behind_plain xs)) [
      | true ↦ λ _. refl
      | false ↦ elim (is_quote x) as (λ b. (if b then [] else x ∷ plain_front xs) ≡ [] → x ∷ xs ≡ (if b then x ∷ xs
          else behind_plain xs)) [
            | true ↦ λ _. refl
            | false ↦ λ h. absurd (cc (h))
          ]
    ] e

pub end_in_quotes : (extent : Extent) (xs : List ℕ) → is_in_quotes extent ≡ true → front extent xs ≡ [] →
    drop 1 xs ≡ behind_word extent xs
end_in_quotes Plain xs is e = absurd (cc (is))
end_in_quotes Quoted xs is e = quoted_end xs e
end_in_quotes Whole xs is e = absurd (cc (is))

pub end_elsewhere : (extent : Extent) (xs : List ℕ) → is_in_quotes extent ≡ false → front extent xs ≡ [] →
    xs ≡ behind_word extent xs
end_elsewhere Plain xs is e = plain_end xs e
end_elsewhere Quoted xs is e = absurd (cc (is))
end_elsewhere Whole xs is e = e

pub drop_none : (xs : List ℕ) → length xs ≡ 0 → xs ≡ drop 1 xs
drop_none [] e = refl
drop_none (x ∷ xs) e = absurd (omega (arith, e))

-- ---- words

-- a separator parts no word
pub separator_first : (xs : List ℕ) → 0 < length xs → is_separator (slice_index xs 0) ≡ true →
    field_words (drop 1 xs) ≡ field_words xs
separator_first [] some e = absurd (omega (arith, some))
separator_first (x ∷ xs) some e = rw e refl

at_separator : (x : ℕ) (xs : List ℕ) → is_separator x ≡ true → words_from Between (x ∷ xs) ≡ words_from Between xs
at_separator x xs e = rw e refl

at_quote : (x : ℕ) (xs : List ℕ) → is_separator x ≡ false → is_quote x ≡ true → words_from Between (x ∷ xs) ≡ words_from
    (In_quotes []) xs
at_quote x xs e f = rw (e, f) refl

at_other : (x : ℕ) (xs : List ℕ) → is_separator x ≡ false → is_quote x ≡ false → words_from Between (x ∷ xs) ≡ words_from
    (In_word (x ∷ [])) xs
at_other x xs e f = rw (e, f) refl

in_quotes : (so_far xs : List ℕ) → words_from (In_quotes so_far) xs ≡ quoted (so_far ++ quoted_front xs) ∷ words_from
    Between (behind_quoted xs)
unfolding quoted_front behind_quoted
in_quotes so_far [] = ap (λ units. quoted units ∷ []) (sym (append-nil so_far))
in_quotes so_far (x ∷ []) =
    elim (is_quote x) as (λ b. (if b then quoted so_far ∷ [] else if is_solidus x then quoted so_far ∷ [] else quoted
    (so_far ++ x ∷ []) ∷ []) ≡ quoted (so_far ++ (if b then [] else if is_solidus x then [] else x ∷ [])) ∷ []) [
      | true ↦ ap (λ units. quoted units ∷ []) (sym (append-nil so_far))
      | false ↦ elim (is_solidus x) as (λ b. (if b then quoted so_far ∷ [] else quoted (so_far ++ x ∷ []) ∷ []) ≡
          quoted (so_far ++ (if b then [] else x ∷ [])) ∷ []) [
            | true ↦ ap (λ units. quoted units ∷ []) (sym (append-nil so_far))
            | false ↦ refl
          ]
    ]
in_quotes so_far (x ∷ y ∷ xs) =
    elim (is_quote x) as (λ b. (if b then quoted so_far ∷ words_from Between (y ∷ xs) else if is_solidus x then
    words_from (In_quotes (so_far ++ y ∷ [])) xs else words_from (In_quotes (so_far ++ x ∷ [])) (y ∷ xs)) ≡ quoted
    (so_far ++ (if b then [] else if is_solidus x then y ∷ quoted_front xs else x ∷ quoted_front (y ∷ xs))) ∷
    words_from Between (if b then y ∷ xs else if is_solidus x then behind_quoted xs else behind_quoted (y ∷ xs))) [
      | true ↦ ap (λ units. quoted units ∷ words_from Between (y ∷ xs)) (sym (append-nil so_far))
      | false ↦ elim (is_solidus x) as (λ b. (if b then words_from (In_quotes (so_far ++ y ∷ [])) xs else words_from
          (In_quotes (so_far ++ x ∷ [])) (y ∷ xs)) ≡ quoted (so_far ++ (if b then y ∷ quoted_front xs else x ∷
          quoted_front (y ∷ xs))) ∷ words_from Between (if b then behind_quoted xs else behind_quoted (y ∷ xs))) [
            | true ↦ in_quotes (so_far ++ y ∷ []) xs ∙ ap (λ units. quoted units ∷ words_from Between (behind_quoted
                xs)) (append_assoc so_far (y ∷ []) (quoted_front xs))
            | false ↦ in_quotes (so_far ++ x ∷ []) (y ∷ xs) ∙ ap (λ units. quoted units ∷ words_from Between
                (behind_quoted (y ∷ xs))) (append_assoc so_far (x ∷ []) (quoted_front (y ∷ xs)))
          ]
    ]

-- a unit that ends a word: what follows is read from it on
in_word : (so_far xs : List ℕ) → words_from (In_word so_far) xs ≡ plain (so_far ++ plain_front xs) ∷ words_from Between
    (behind_plain xs)
in_word so_far [] = ap (λ units. plain units ∷ []) (sym (append-nil so_far))
in_word so_far (x ∷ xs) =
    elim (is_separator x) as (λ b. is_separator x ≡ b → (if b then plain so_far ∷ words_from Between xs else if
    is_quote x then plain so_far ∷ words_from (In_quotes []) xs else words_from (In_word (so_far ++ x ∷ [])) xs) ≡ plain
    (so_far ++ (if b then [] else if is_quote x then [] else x ∷ plain_front xs)) ∷ words_from Between (if b then x ∷
    xs else if is_quote x then x ∷ xs else behind_plain xs)) [
      | true ↦ λ e. ap (λ units. plain units ∷ words_from Between xs) (sym (append-nil so_far))
          ∙ ap (λ words. plain (so_far ++ []) ∷ words) (sym (at_separator x xs e))
      | false ↦ λ e. elim (is_quote x) as (λ b. is_quote x ≡ b → (if b then plain so_far ∷ words_from (In_quotes []) xs
          else words_from (In_word (so_far ++ x ∷ [])) xs) ≡ plain (so_far ++ (if b then [] else x ∷ plain_front xs)) ∷
          words_from Between (if b then x ∷ xs else behind_plain xs)) [
            | true ↦ λ f. ap (λ units. plain units ∷ words_from (In_quotes []) xs) (sym (append-nil so_far))
                ∙ ap (λ words. plain (so_far ++ []) ∷ words) (sym (at_quote x xs e f))
            | false ↦ λ f. in_word (so_far ++ x ∷ []) xs ∙ ap (λ units. plain units ∷ words_from Between (behind_plain
                xs)) (append_assoc so_far (x ∷ []) (plain_front xs))
          ] refl
    ] refl

-- one of two lists that are no longer
by_test : (test : Bool) (one other : List ℕ) (n : ℕ) → length one ≤ n → length other ≤ n →
    length (if test then one else other) ≤ n
by_test true one other n a b = a
by_test false one other n a b = b

length-behind_quoted : (xs : List ℕ) → length (behind_quoted xs) ≤ length xs
unfolding behind_quoted
length-behind_quoted [] = omega arith
length-behind_quoted (x ∷ []) = omega arith
length-behind_quoted (x ∷ y ∷ xs) =
    let one = length-behind_quoted xs in let two = length-behind_quoted (y ∷ xs) in
    by_test (is_quote x) (y ∷ xs) (if is_solidus x then behind_quoted xs else behind_quoted (y ∷ xs)) (length (x ∷ y ∷ xs))
    (omega arith)
    (by_test (is_solidus x) (behind_quoted xs) (behind_quoted (y ∷ xs)) (length (x ∷ y ∷ xs)) (omega (arith, one))
    (omega (arith, two)))

length-behind_plain : (xs : List ℕ) → length (behind_plain xs) ≤ length xs
length-behind_plain [] = omega arith
length-behind_plain (x ∷ xs) =
    let more = length-behind_plain xs in
    by_test (is_separator x) (x ∷ xs) (if is_quote x then x ∷ xs else behind_plain xs) (length (x ∷ xs)) (omega arith)
    (by_test (is_quote x) (x ∷ xs) (behind_plain xs) (length (x ∷ xs)) (omega arith) (omega (arith, more)))

-- the word of a quote
pub quoted_word : (xs : List ℕ) → 0 < length xs → is_separator (slice_index xs 0) ≡ false →
    is_quote (slice_index xs 0) ≡ true → HasFirstWord xs (quoted (quoted_front (drop 1 xs))) (behind_quoted (drop 1 xs))
quoted_word [] some e f = absurd (omega (arith, some))
quoted_word (x ∷ xs) some e f = record {
  words = at_quote x xs e f ∙ in_quotes [] xs;
  shorter = omega (arith, length-behind_quoted xs);
}

-- the word of another unit
pub plain_word : (xs : List ℕ) → 0 < length xs → is_separator (slice_index xs 0) ≡ false →
    is_quote (slice_index xs 0) ≡ false → HasFirstWord xs (plain (plain_front xs)) (behind_plain xs)
plain_word [] some e f = absurd (omega (arith, some))
plain_word (x ∷ xs) some e f = record {
  words = at_other x xs e f ∙ (in_word (x ∷ []) xs
      ∙ rw (e, f) refl);
  shorter = rw (e, f) (omega (arith, length-behind_plain xs));
}
