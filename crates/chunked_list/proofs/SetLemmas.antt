-- An item in the place of another.
use Rattle.std.proofs.Common.{◌≡◌, ℕ, refl, sym, ap, subst, ◌∙◌, ◌+◌, ◌-◌, ◌^◌, ◌<◌, ◌≤◌, List, [], ◌++◌, length}
use Rattle.std.proofs.Common.{take, drop}
use Rattle.std.proofs.Common.{set, arith, length-set, inl, inr}
use Rattle.std.proofs.lemmas.Bool.{cases_eq}
use Rattle.std.proofs.lemmas.List.{get_or-set_same, get_or-set_other, set-append_left, set-append_right, take-set}
use Rattle.std.proofs.lemmas.List.{drop-set-lt}
use Rattle.chunked_list.specs.Blocks.{joined, total_units, block_at, BlockRow, AreSized, AreInBlocks}
use Rattle.chunked_list.proofs.JoinLemmas.{joined_at, units_of_block}

-- blocks of the same sizes
pub sized_like : {T : Type 0} (old new : List (List T)) (full : ℕ) → AreSized old full → length new ≡ length old →
    ((k : ℕ) → length (block_at new k) ≡ length (block_at old k)) → AreSized new full
sized_like old new full sized long each = record {
  most = λ k low. let same = each k in let most = sized.most k (omega arith) in omega arith;
  some = λ k low. let same = each k in let some = sized.some k (omega arith) in omega arith;
  least = λ k low. let same = each k in let least = sized.least k (omega arith) in omega arith;
  there = let there = sized.there in omega arith;
  whole = λ k low. each k ∙ sized.whole k low;
}

-- a block with another item has its size
pub size_of_set : {T : Type 0} (blocks : List (List T)) (b i k : ℕ) (x : T) → b < length blocks →
    length (block_at (set blocks b (set (block_at blocks b) i x)) k) ≡ length (block_at blocks k)
size_of_set {T = T} blocks b i k x there =
    let new = set (block_at blocks b) i x in
    elim (cases_eq k b) [
      | inl same ↦ subst (λ (n : ℕ). length (block_at (set blocks b new) n) ≡ length (block_at blocks n)) (sym same)
          (ap length (get_or-set_same blocks b new [] there) ∙ length-set (block_at blocks b) i x)
      | inr other ↦ ap length (get_or-set_other blocks b k new [] other)
    ]

-- an item in the place of another in a block is one in the list
pub set_joined : {T : Type 0} (blocks : List (List T)) (b k : ℕ) (x : T) → b < length blocks →
    k < length (block_at blocks b) →
    joined (set blocks b (set (block_at blocks b) k x)) ≡ set (joined blocks) (length (joined (take b blocks)) + k) x
set_joined {T = T} blocks b k x there within =
    let front = joined (take b blocks) in
    let block = block_at blocks b in
    let back = joined (drop (b + 1) blocks) in
    let new = set blocks b (set block k x) in
    let n = length front + k in
    let less : b < length new = omega (arith, length-set blocks b (set block k x)) in
    let place : n - length front ≡ k = omega arith in
    let behind : length front ≤ n = omega arith in
    let later : b < b + 1 = omega arith in
    joined_at new b less
    ∙ ap (λ (t : List (List T)). joined t ++ (block_at new b ++ joined (drop (b + 1) new))) (take-set blocks b (set
    block k x))
    ∙ ap (λ (t : List T). front ++ (t ++ joined (drop (b + 1) new))) (get_or-set_same blocks b (set block k x) [] there)
    ∙ ap (λ (t : List (List T)). front ++ (set block k x ++ joined t)) (drop-set-lt (b + 1) blocks b (set block k x)
    later)
    ∙ ap (λ (t : List T). front ++ t) (sym (set-append_left block back k x within))
    ∙ ap (λ (m : ℕ). front ++ set (block ++ back) m x) (sym place)
    ∙ sym (set-append_right front (block ++ back) (length front) n x refl behind)
    ∙ ap (λ (t : List T). set t n x) (sym (joined_at blocks b there))

-- the list with another item is in blocks
pub set_in_blocks : {T : Type 0} (units : T → ℕ) (row new : BlockRow T) (ready : List (List T)) (count full b k i :
    ℕ) (x : T) →
    AreInBlocks units row ready count full → b < length row.blocks → k < length (block_at row.blocks b)
    → length (joined (take b row.blocks)) + k ≡ i → new.blocks ≡ set row.blocks b (set (block_at row.blocks b) k x)
    → new.spare ≡ row.spare → total_units units (set (joined row.blocks) i x) < 2 ^ 32
    → AreInBlocks units new ready count full
set_in_blocks {T = T} units row new ready count full b k i x is there within here put spare total =
    let items : joined new.blocks ≡ set (joined row.blocks) i x =
    ap joined put ∙ set_joined row.blocks b k x there within ∙ ap (λ (n : ℕ). set (joined row.blocks) n x) here in
    let long = ap length items ∙ length-set (joined row.blocks) i x in
    let changed = set (block_at row.blocks b) k x in
    record {
      sized = subst (λ (t : List (List T)). AreSized t full) (sym put)
          (sized_like row.blocks (set row.blocks b changed) full is.sized (length-set row.blocks b changed)
          (λ n. size_of_set row.blocks b k n x there));
      counted = is.counted ∙ sym long;
      room = let room = is.room in omega arith;
      empty = is.empty;
      few = let few = is.few in omega (arith, long);
      total = let e = ap (total_units units) items in omega (arith, e, total);
    }

-- a block with another item is no longer than the list with it
pub set_units : {T : Type 0} (units : T → ℕ) (blocks : List (List T)) (b k i : ℕ) (x : T) → b < length blocks →
    k < length (block_at blocks b) → length (joined (take b blocks)) + k ≡ i
    → total_units units (set (block_at blocks b) k x) ≤ total_units units (set (joined blocks) i x)
set_units {T = T} units blocks b k i x there within here =
    let changed = set (block_at blocks b) k x in
    let new = set blocks b changed in
    let less : b < length new = omega (arith, length-set blocks b changed) in
    let items : joined new ≡ set (joined blocks) i x =
    set_joined blocks b k x there within ∙ ap (λ (n : ℕ). set (joined blocks) n x) here in
    omega (
      arith,
      ap (total_units units) (get_or-set_same blocks b changed [] there),
      ap (total_units units) items,
      units_of_block units new b less,
    )
