-- Blocks that are put behind others, and blocks that get other items.
use Rattle.std.proofs.Common.{◌≡◌, ℕ, sym, ap, subst, ◌∙◌, ◌+◌, ◌*◌, ◌-◌, ◌<◌, ◌≤◌, List, [], ◌∷◌, ◌++◌, length}
use Rattle.std.proofs.Common.{take, drop, set, get_or, map, arith, inl, inr, length-append}
use Rattle.std.specs.List.{sum}
use Rattle.std.specs.Prelude.{slice_range}
use Rattle.std.proofs.Math.Seq.{take-add}
use Rattle.std.proofs.lemmas.Bool.{cases_lt}
use Rattle.std.proofs.lemmas.List.{get_or_append_left, get_or_push, take_more_set, drop-set-lt, drop-drop, get_or-drop}
use Rattle.std.proofs.lemmas.List.{take-append-drop}
use Rattle.std.proofs.lemmas.List.Sums.{sum-map}
use Rattle.chunked_list.specs.Blocks.{joined, total_units, block_at, map_range, AreSized}
use Rattle.chunked_list.proofs.UnitLemmas.{units-append}
use Rattle.chunked_list.proofs.JoinLemmas.{joined-append, joined-one, joined_at, joined_more}
use Rattle.chunked_list.proofs.RangeLemmas.{map_range-append, range-append}
use Rattle.chunked_list.proofs.RemoveLemmas.{joined_set}

-- ---- a block more behind full ones

pub joined_push : {T : Type 0} (blocks : List (List T)) (block : List T) → joined (blocks ++ block ∷ [])
    ≡ joined blocks ++ block
joined_push {T = T} blocks block =
    joined-append blocks (block ∷ []) ∙ ap (λ (t : List T). joined blocks ++ t) (joined-one block)

push_at : {T : Type 0} (P : List T → Type 0) (blocks : List (List T)) (block : List T) (k : ℕ) →
    k < length (blocks ++ block ∷ []) → (k < length blocks → P (block_at blocks k)) → P block
    → P (block_at (blocks ++ block ∷ []) k)
push_at {T = T} P blocks block k low front back = elim (cases_lt k (length blocks)) [
  | inl less ↦ subst P (sym (get_or_append_left blocks (block ∷ []) [] k less)) (front less)
  | inr high ↦
      let last : length blocks ≡ k = omega (arith, length-append blocks (block ∷ []), low) in
      subst P (sym (get_or_push blocks block [] k last)) back
]

-- all blocks but the last are full
pub sized_push : {T : Type 0} (blocks : List (List T)) (block : List T) (full : ℕ) → AreSized blocks full →
    length blocks ≡ full → 1 ≤ length block → length block ≤ 128 → AreSized (blocks ++ block ∷ []) full
sized_push {T = T} blocks block full is all some most =
    let long = length-append blocks (block ∷ []) in
    record {
      most = λ k low. push_at (λ (t : List T). length t ≤ 128) blocks block k low (λ less. is.most k less) most;
      some = λ k low. push_at (λ (t : List T). 1 ≤ length t) blocks block k low (λ less. is.some k less) some;
      least = λ k low.
          let less : k < length blocks = omega (arith, long, low) in
          let size : length (block_at (blocks ++ block ∷ []) k) ≡ length (block_at blocks k) =
          ap length (get_or_append_left blocks (block ∷ []) [] k less) in
          let whole = is.whole k (omega arith) in
          omega arith;
      there = omega (arith, long);
      whole = λ k low.
          let less : k < length blocks = omega arith in
          ap length (get_or_append_left blocks (block ∷ []) [] k less) ∙ is.whole k low;
    }

-- all blocks are full
pub sized_push_full : {T : Type 0} (blocks : List (List T)) (block : List T) (full : ℕ) → AreSized blocks full →
    length blocks ≡ full → length block ≡ 128 → AreSized (blocks ++ block ∷ []) (full + 1)
sized_push_full {T = T} blocks block full is all whole =
    let long = length-append blocks (block ∷ []) in
    let one : 1 ≤ length block = omega arith in
    let most : length block ≤ 128 = omega arith in
    let more = sized_push blocks block full is all one most in
    record {
      most = more.most;
      some = more.some;
      least = more.least;
      there = omega (arith, long);
      whole = λ k low.
          let inside : k < length (blocks ++ block ∷ []) = omega (arith, long) in
          push_at (λ (t : List T). length t ≡ 128) blocks block k inside (λ less. is.whole k (omega arith)) whole;
    }

pub sized_nil : {T : Type 0} (blocks : List (List T)) → blocks ≡ [] → AreSized blocks 0
sized_nil blocks none =
    let count = ap length none in
    record {
      most = λ k low. absurd (omega (arith, count, low));
      some = λ k low. absurd (omega (arith, count, low));
      least = λ k low. absurd (omega (arith, count, low));
      there = omega arith;
      whole = λ k low. absurd (omega (arith, low));
    }

-- 128 items more
pub items_more : {T : Type 0} (items : List T) (n : ℕ) → take (128 * n) items ++ slice_range items (128 * n) (128 * n
    + 128) ≡ take (128 * (n + 1)) items
items_more {T = T} items n =
    let size : 128 * n + 128 - 128 * n ≡ 128 = omega arith in
    let all : 128 * n + 128 ≡ 128 * (n + 1) = omega arith in
    ap (λ (m : ℕ). take (128 * n) items ++ take m (drop (128 * n) items)) size
    ∙ sym (take-add (128 * n) 128 items)
    ∙ ap (λ (m : ℕ). take m items) all

-- the items of a range have no more units than all
pub units-range-le : {T : Type 0} (units : T → ℕ) (xs : List T) (a b : ℕ) → total_units units (slice_range xs a b)
    ≤ total_units units xs
units-range-le units xs a b =
    omega (
      arith,
      units-append units (take a xs) (drop a xs),
      ap (total_units units) (take-append-drop a xs),
      units-append units (take (b - a) (drop a xs)) (drop (b - a) (drop a xs)),
      ap (total_units units) (take-append-drop (b - a) (drop a xs)),
    )

-- ---- blocks that get other items

-- items of the same lengths
pub units_same : {T : Type 0} (units : T → ℕ) (xs ys : List T) → map units xs ≡ map units ys → total_units units xs
    ≡ total_units units ys
unfolding total_units
units_same units xs ys same = sym (sum-map units xs) ∙ ap sum same ∙ sum-map units ys

-- the block at a place from which on two lists are the same
pub same_at : {A : Type 0} (xs ys : List A) (b : ℕ) (d : A) → drop b xs ≡ drop b ys → get_or xs b d ≡ get_or ys b d
same_at {A = A} xs ys b d same =
    let here : b ≡ b + 0 = omega arith in
    ap (λ (n : ℕ). get_or xs n d) here
    ∙ sym (get_or-drop b xs 0 d)
    ∙ ap (λ (t : List A). get_or t 0 d) same
    ∙ get_or-drop b ys 0 d
    ∙ ap (λ (n : ℕ). get_or ys n d) (sym here)

-- behind a block that is another now the lists are the same still
pub rest_same : {A : Type 0} (xs ys new : List A) (b : ℕ) (x : A) → drop b xs ≡ drop b ys → new ≡ set xs b x →
    drop (b + 1) new ≡ drop (b + 1) ys
rest_same {A = A} xs ys new b x same put =
    let later : b < b + 1 = omega arith in
    ap (λ (t : List A). drop (b + 1) t) put
    ∙ drop-set-lt (b + 1) xs b x later
    ∙ sym (drop-drop 1 b xs)
    ∙ ap (λ (t : List A). drop 1 t) same
    ∙ drop-drop 1 b ys

-- a block more has its range exchanged
pub changed_more : {T : Type 0} (f : T → T) (old now new : List (List T)) (b first last before lo hi : ℕ) →
    b < length old → b < length now → first ≤ last → before ≡ length (joined (take b old)) → lo ≡ first - before
    → hi ≡ last - before → joined (take b now) ≡ map_range f (joined (take b old)) first last → drop b now ≡ drop b old
    → new ≡ set now b (map_range f (block_at now b) lo hi)
    → joined (take (b + 1) new) ≡ map_range f (joined (take (b + 1) old)) first last
changed_more {T = T} f old now new b first last before lo hi there still order counted is_lo is_hi so_far rest put =
    let front = joined (take b old) in
    let block = block_at old b in
    let x = map_range f (block_at now b) lo hi in
    let low : lo ≡ first - length front = omega (arith, counted, is_lo) in
    let high : hi ≡ last - length front = omega (arith, counted, is_hi) in
    ap (λ (t : List (List T)). joined (take (b + 1) t)) put
    ∙ ap joined (take_more_set now b x still)
    ∙ joined_push (take b now) x
    ∙ ap (λ (t : List T). t ++ x) so_far
    ∙ ap (λ (t : List T). map_range f front first last ++ map_range f t lo hi) (same_at now old b [] rest)
    ∙ ap (λ (n : ℕ). map_range f front first last ++ map_range f block n hi) low
    ∙ ap (λ (n : ℕ). map_range f front first last ++ map_range f block (first - length front) n) high
    ∙ sym (map_range-append f front block first last order)
    ∙ ap (λ (t : List T). map_range f t first last) (sym (joined_more old b there))

-- a block more is copied
pub copied_more : {T : Type 0} (blocks : List (List T)) (copy new : List T) (b first last before lo hi : ℕ) →
    b < length blocks → first ≤ last → before ≡ length (joined (take b blocks)) → lo ≡ first - before
    → hi ≡ last - before → copy ≡ slice_range (joined (take b blocks)) first last
    → new ≡ copy ++ slice_range (block_at blocks b) lo hi
    → new ≡ slice_range (joined (take (b + 1) blocks)) first last
copied_more {T = T} blocks copy new b first last before lo hi there order counted is_lo is_hi so_far put =
    let front = joined (take b blocks) in
    let block = block_at blocks b in
    let low : lo ≡ first - length front = omega (arith, counted, is_lo) in
    let high : hi ≡ last - length front = omega (arith, counted, is_hi) in
    put
    ∙ ap (λ (t : List T). t ++ slice_range block lo hi) so_far
    ∙ ap (λ (n : ℕ). slice_range front first last ++ slice_range block n hi) low
    ∙ ap (λ (n : ℕ). slice_range front first last ++ slice_range block (first - length front) n) high
    ∙ sym (range-append front block first last order)
    ∙ ap (λ (t : List T). slice_range t first last) (sym (joined_more blocks b there))

-- a block of as many units
pub units_like : {T : Type 0} (units : T → ℕ) (blocks new : List (List T)) (b : ℕ) (x : List T) → b < length blocks →
    new ≡ set blocks b x → total_units units x ≡ total_units units (block_at blocks b)
    → total_units units (joined new) ≡ total_units units (joined blocks)
units_like units blocks new b x there put same =
    let front = joined (take b blocks) in
    let back = joined (drop (b + 1) blocks) in
    let block = block_at blocks b in
    omega (
      arith,
      ap (λ t. total_units units (joined t)) put,
      ap (total_units units) (joined_set blocks b x there),
      units-append units front (x ++ back),
      units-append units x back,
      ap (total_units units) (joined_at blocks b there),
      units-append units front (block ++ back),
      units-append units block back,
      same,
    )
