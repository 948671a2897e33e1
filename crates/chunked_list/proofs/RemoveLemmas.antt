-- Items that are taken out of blocks.
use Rattle.std.proofs.Common.{◌≡◌, ℕ, sym, ap, ◌∙◌, ◌+◌, ◌-◌, ◌<◌, ◌≤◌, List, [], ◌∷◌, ◌++◌, length}
use Rattle.std.proofs.Common.{take, drop, set, arith, append_assoc, length-append, length-take-le}
use Rattle.std.proofs.Common.{length-set}
use Rattle.std.proofs.Common.{inl, inr}
use Rattle.std.specs.List.{splice}
use Rattle.std.proofs.lemmas.Bool.{cases_lt}
use Rattle.std.proofs.lemmas.List.{take_at, drop_at, take-append-drop, drop-append-le, drop_more}
use Rattle.std.proofs.lemmas.List.{drop_all, drop-set-lt, take_more_set, take-take}
use Rattle.std.proofs.lemmas.List.{get_or-set_same}
use Rattle.chunked_list.specs.Blocks.{joined, total_units, block_at, BlockRow, AreSized, AreInBlocks}
use Rattle.chunked_list.proofs.UnitLemmas.{units-append, units-take-le, set_spliced}
use Rattle.chunked_list.proofs.JoinLemmas.{joined-nil, joined-cons, joined-append, joined-one, joined-splice, joined_at}
use Rattle.chunked_list.proofs.JoinLemmas.{take_mid}
use Rattle.chunked_list.proofs.SizeLemmas.{length-splice}
use Rattle.chunked_list.proofs.RangeLemmas.{drop_past}

-- ---- units of what is left

pub units-cut-le : {T : Type 0} (units : T → ℕ) (xs : List T) (a b : ℕ) → a ≤ b →
    total_units units (splice xs a b []) ≤ total_units units xs
units-cut-le units xs a b order =
    omega (
      arith,
      units-append units (take a xs) (drop b xs),
      units-append units (take b xs) (drop b xs),
      ap (total_units units) (take-append-drop b xs),
      ap (total_units units) (take-take a b xs order),
      units-take-le units (take b xs) a,
    )

-- ---- the list, where a block is another or is gone

pub joined_set : {T : Type 0} (blocks : List (List T)) (b : ℕ) (x : List T) → b < length blocks →
    joined (set blocks b x) ≡ joined (take b blocks) ++ (x ++ joined (drop (b + 1) blocks))
joined_set {T = T} blocks b x there =
    ap joined (set_spliced blocks b x there)
    ∙ joined-splice blocks (x ∷ []) b (b + 1)
    ∙ ap (λ (t : List T). joined (take b blocks) ++ (t ++ joined (drop (b + 1) blocks))) (joined-one x)

pub joined_out : {T : Type 0} (blocks : List (List T)) (b : ℕ) →
    joined (splice blocks b (b + 1) []) ≡ joined (take b blocks) ++ joined (drop (b + 1) blocks)
joined_out {T = T} blocks b =
    joined-splice blocks [] b (b + 1)
    ∙ ap (λ (t : List T). joined (take b blocks) ++ (t ++ joined (drop (b + 1) blocks))) joined-nil

pub joined_from : {T : Type 0} (blocks : List (List T)) (b : ℕ) →
    joined blocks ≡ joined (take b blocks) ++ joined (drop b blocks)
joined_from blocks b = ap joined (sym (take-append-drop b blocks)) ∙ joined-append (take b blocks) (drop b blocks)

pub joined_drop : {T : Type 0} (blocks : List (List T)) (b : ℕ) → b < length blocks →
    joined (drop b blocks) ≡ block_at blocks b ++ joined (drop (b + 1) blocks)
joined_drop blocks b there =
    ap joined (drop_more blocks b [] there) ∙ joined-cons (block_at blocks b) (drop (b + 1) blocks)

-- an empty block less is the same list
pub empty_out : {T : Type 0} (blocks : List (List T)) (b : ℕ) → b < length blocks → length (block_at blocks b) ≡ 0 →
    joined (splice blocks b (b + 1) []) ≡ joined blocks
empty_out {T = T} blocks b there none =
    let le : length (block_at blocks b) ≤ 0 = omega arith in
    joined_out blocks b
    ∙ ap (λ (t : List T). joined (take b blocks) ++ (t ++ joined (drop (b + 1) blocks)))
    (sym (drop_all 0 (block_at blocks b) le))
    ∙ sym (joined_at blocks b there)

-- a block less has fewer units
pub units_out : {T : Type 0} (units : T → ℕ) (blocks : List (List T)) (b : ℕ) → b < length blocks →
    total_units units (joined (splice blocks b (b + 1) [])) ≤ total_units units (joined blocks)
units_out units blocks b there =
    let front = joined (take b blocks) in
    let back = joined (drop (b + 1) blocks) in
    let block = block_at blocks b in
    omega (
      arith,
      ap (total_units units) (joined_out blocks b),
      units-append units front back,
      ap (total_units units) (joined_at blocks b there),
      units-append units front (block ++ back),
      units-append units block back,
    )

-- a shorter block has fewer units
pub units_shorter : {T : Type 0} (units : T → ℕ) (blocks : List (List T)) (b : ℕ) (x : List T) → b < length blocks →
    total_units units x ≤ total_units units (block_at blocks b)
    → total_units units (joined (set blocks b x)) ≤ total_units units (joined blocks)
units_shorter units blocks b x there le =
    let front = joined (take b blocks) in
    let back = joined (drop (b + 1) blocks) in
    let block = block_at blocks b in
    omega (
      arith,
      ap (total_units units) (joined_set blocks b x there),
      units-append units front (x ++ back),
      units-append units x back,
      ap (total_units units) (joined_at blocks b there),
      units-append units front (block ++ back),
      units-append units block back,
    )

-- two blocks have no more units than the list
pub units_of_two : {T : Type 0} (units : T → ℕ) (blocks : List (List T)) (b : ℕ) → b + 1 < length blocks →
    total_units units (block_at blocks b) + total_units units (block_at blocks (b + 1)) ≤ total_units units (joined
    blocks)
units_of_two units blocks b there =
    let front = joined (take b blocks) in
    let back = joined (drop (b + 1) blocks) in
    let rest = joined (drop (b + 1 + 1) blocks) in
    let block = block_at blocks b in
    let next = block_at blocks (b + 1) in
    let low : b < length blocks = omega arith in
    omega (
      arith,
      ap (total_units units) (joined_at blocks b low),
      units-append units front (block ++ back),
      units-append units block back,
      ap (total_units units) (joined_drop blocks (b + 1) there),
      units-append units next rest,
    )

-- ---- blocks that go from the front of a rest

-- the blocks behind one that is gone
pub drop_out : {T : Type 0} (blocks : List (List T)) (b : ℕ) → b < length blocks →
    drop b (splice blocks b (b + 1) []) ≡ drop (b + 1) blocks
drop_out blocks b there =
    let le : b ≤ length blocks = omega arith in
    drop_at (take b blocks) (drop (b + 1) blocks) b (length-take-le b blocks le)

pub take_out_front : {T : Type 0} (blocks : List (List T)) (b : ℕ) → b < length blocks →
    take b (splice blocks b (b + 1) []) ≡ take b blocks
take_out_front blocks b there =
    let le : b ≤ length blocks = omega arith in
    take_at (take b blocks) (drop (b + 1) blocks) b (length-take-le b blocks le)

pub length_out : {T : Type 0} (blocks : List (List T)) (b : ℕ) → b < length blocks →
    length (splice blocks b (b + 1) []) + 1 ≡ length blocks
length_out {T = T} blocks b there =
    let order : b ≤ b + 1 = omega arith in
    let within : b + 1 ≤ length blocks = omega arith in
    let cut : length (splice blocks b (b + 1) []) + (b + 1 - b) ≡ length blocks + length {A = List T} [] =
    length-splice blocks [] b (b + 1) order within in
    omega (arith, cut)

-- a whole block goes
pub dropped_out : {T : Type 0} (blocks : List (List T)) (b left len : ℕ) (goal : List T) → b < length blocks →
    len ≡ length (block_at blocks b) → len ≤ left → drop left (joined (drop b blocks)) ≡ goal
    → drop (left - len) (joined (drop b (splice blocks b (b + 1) []))) ≡ goal
dropped_out {T = T} blocks b left len goal there is le so_far =
    let block = block_at blocks b in
    let rest = joined (drop (b + 1) blocks) in
    let past : length block ≤ left = omega arith in
    ap (λ (t : List (List T)). drop (left - len) (joined t)) (drop_out blocks b there)
    ∙ ap (λ (n : ℕ). drop (left - n) rest) is
    ∙ sym (drop_past left block rest past)
    ∙ ap (λ (t : List T). drop left t) (sym (joined_drop blocks b there))
    ∙ so_far

pub left_out : {T : Type 0} (blocks : List (List T)) (b left len : ℕ) → b < length blocks →
    len ≡ length (block_at blocks b) → left ≤ length (joined (drop b blocks))
    → left - len ≤ length (joined (drop b (splice blocks b (b + 1) [])))
left_out {T = T} blocks b left len there is le =
    omega (
      arith,
      ap (λ (t : List (List T)). length (joined t)) (drop_out blocks b there),
      ap length (joined_drop blocks b there),
      length-append (block_at blocks b) (joined (drop (b + 1) blocks)),
      is,
      le,
    )

-- the front of a block goes
pub dropped_cut : {T : Type 0} (blocks new : List (List T)) (b left : ℕ) (goal : List T) → b < length blocks →
    left ≤ length (block_at blocks b) → drop left (joined (drop b blocks)) ≡ goal
    → new ≡ set blocks b (splice (block_at blocks b) 0 left []) → joined (drop b new) ≡ goal
dropped_cut {T = T} blocks new b left goal there le so_far is =
    let block = block_at blocks b in
    let x = splice block 0 left [] in
    let rest = joined (drop (b + 1) blocks) in
    let low : b < length (set blocks b x) = omega (arith, length-set blocks b x) in
    let later : b < b + 1 = omega arith in
    ap (λ (t : List (List T)). joined (drop b t)) is
    ∙ joined_drop (set blocks b x) b low
    ∙ ap (λ (t : List T). t ++ joined (drop (b + 1) (set blocks b x))) (get_or-set_same blocks b x [] there)
    ∙ ap (λ (t : List (List T)). x ++ joined t) (drop-set-lt (b + 1) blocks b x later)
    ∙ sym (drop-append-le left block rest le)
    ∙ ap (λ (t : List T). drop left t) (sym (joined_drop blocks b there))
    ∙ so_far

-- nothing is left
pub dropped_all : {T : Type 0} (blocks : List (List T)) (b left : ℕ) (goal : List T) → length blocks ≤ b →
    left ≤ length (joined (drop b blocks)) → drop left (joined (drop b blocks)) ≡ goal → joined (drop b blocks) ≡ goal
dropped_all {T = T} blocks b left goal past le so_far =
    let nothing : joined (drop b blocks) ≡ [] = ap joined (drop_all b blocks past) ∙ joined-nil in
    let none : left ≡ 0 = omega (arith, le, ap length nothing) in
    ap (λ (n : ℕ). drop n (joined (drop b blocks))) (sym none) ∙ so_far

-- ---- a range of items

-- what is left behind a place in a block
left_behind : {A : Type 0} (block back : List A) (within here count : ℕ) → within + here ≤ length block → here ≤ count →
    (here < count → within + here ≡ length block) →
    drop (within + count) (block ++ back) ≡ drop (within + here) block ++ drop (count - here) back
left_behind {A = A} block back within here count inside le all = elim (cases_lt here count) [
  | inl less ↦
      let end = all less in
      let past : length block ≤ within + count = omega arith in
      let gone : length block ≤ within + here = omega arith in
      let rest : within + count - length block ≡ count - here = omega arith in
      drop_past (within + count) block back past
      ∙ ap (λ (n : ℕ). drop n back) rest
      ∙ ap (λ (t : List A). t ++ drop (count - here) back) (sym (drop_all (within + here) block gone))
  | inr more ↦
      let same : within + count ≡ within + here = omega arith in
      let none : 0 ≡ count - here = omega arith in
      ap (λ (n : ℕ). drop n (block ++ back)) same
      ∙ drop-append-le (within + here) block back inside
      ∙ ap (λ (n : ℕ). drop (within + here) block ++ drop n back) none
]

-- the front of a list, a block and what is behind it, where some items of the block and some behind it go
pub erased : {A : Type 0} (front block back : List A) (within here count : ℕ) → within + here ≤ length block →
    here ≤ count → (here < count → within + here ≡ length block) →
    (front ++ (take within block ++ drop (within + here) block)) ++ drop (count - here) back
    ≡ take (length front + within) (front ++ (block ++ back)) ++ drop (length front + within + count) (front ++ (block
    ++ back))
erased {A = A} front block back within here count inside le all =
    let low : within ≤ length block = omega arith in
    let list = front ++ (block ++ back) in
    let first : take (length front + within) list ≡ front ++ take within block = take_mid front block back within low in
    let fewer : length front ≤ length front + within + count = omega arith in
    let place : length front + within + count - length front ≡ within + count = omega arith in
    let second : drop (length front + within + count) list ≡ drop (within + count) (block ++ back) =
    drop_past (length front + within + count) front (block ++ back) fewer
    ∙ ap (λ (n : ℕ). drop n (block ++ back)) place in
    let third : drop (within + count) (block ++ back) ≡ drop (within + here) block ++ drop (count - here) back =
    left_behind block back within here count inside le all in
    append_assoc front (take within block ++ drop (within + here) block) (drop (count - here) back)
    ∙ ap (λ (t : List A). front ++ t) (append_assoc (take within block) (drop (within + here) block) (drop (count
    - here) back))
    ∙ ap (λ (t : List A). front ++ (take within block ++ t)) (sym (second ∙ third))
    ∙ sym (append_assoc front (take within block) (drop (length front + within + count) list))
    ∙ ap (λ (t : List A). t ++ drop (length front + within + count) list) (sym first)

-- the list up to a block that is another now
pub set_front : {T : Type 0} (old now : List (List T)) (b : ℕ) (x : List T) → b < length old → now ≡ set old b x →
    joined (take (b + 1) now) ≡ joined (take b old) ++ x
set_front {T = T} old now b x low is =
    ap (λ (t : List (List T)). joined (take (b + 1) t)) is
    ∙ ap joined (take_more_set old b x low)
    ∙ joined-append (take b old) (x ∷ [])
    ∙ ap (λ (t : List T). joined (take b old) ++ t) (joined-one x)

-- the list where some items of a block and some behind it are gone
pub erased_joined : {T : Type 0} (old mid new : List (List T)) (b within here count : ℕ) → b < length old →
    within + here ≤ length (block_at old b) → here ≤ count
    → (here < count → within + here ≡ length (block_at old b))
    → mid ≡ set old b (splice (block_at old b) within (within + here) [])
    → take (b + 1) new ≡ take (b + 1) mid
    → joined (drop (b + 1) new) ≡ drop (count - here) (joined (drop (b + 1) mid))
    → joined new ≡ splice (joined old) (length (joined (take b old)) + within)
    (length (joined (take b old)) + within + count) []
erased_joined {T = T} old mid new b within here count low inside le all cut front_is back_is =
    let front = joined (take b old) in
    let block = block_at old b in
    let back = joined (drop (b + 1) old) in
    let x = splice block within (within + here) [] in
    let n = length front + within in
    let later : b < b + 1 = omega arith in
    joined_from new (b + 1)
    ∙ ap (λ (t : List (List T)). joined t ++ joined (drop (b + 1) new)) front_is
    ∙ ap (λ (t : List T). t ++ joined (drop (b + 1) new)) (set_front old mid b x low cut)
    ∙ ap (λ (t : List T). (front ++ x) ++ t) back_is
    ∙ ap (λ (t : List (List T)). (front ++ x) ++ drop (count - here) (joined (drop (b + 1) t))) cut
    ∙ ap (λ (t : List (List T)). (front ++ x) ++ drop (count - here) (joined t)) (drop-set-lt (b + 1) old b x later)
    ∙ erased front block back within here count inside le all
    ∙ ap (λ (t : List T). take n t ++ drop (n + count) t) (sym (joined_at old b low))

-- ---- lists in blocks

-- fewer items
pub cut_in_blocks : {T : Type 0} (units : T → ℕ) (row new : BlockRow T) (ready : List (List T)) (count full fewer first
    last : ℕ) →
    AreInBlocks units row ready count full → AreSized new.blocks fewer
    → joined new.blocks ≡ splice (joined row.blocks) first last [] → first ≤ last → last ≤ length (joined row.blocks)
    → new.spare ≡ row.spare → AreInBlocks units new ready (count - (last - first)) fewer
cut_in_blocks {T = T} units row new ready count full fewer first last is sized items order within spare =
    let old = joined row.blocks in
    let cut : length (splice old first last []) + (last - first) ≡ length old + length {A = T} [] =
    length-splice old [] first last order within in
    let long : length (joined new.blocks) + (last - first) ≡ length old = omega (arith, ap length items, cut) in
    let few = is.few in
    let total = is.total in
    record {
      sized = sized;
      counted = let c = is.counted in omega arith;
      room = let r = is.room in omega arith;
      empty = is.empty;
      few = omega arith;
      total = omega (arith, ap (total_units units) items, units-cut-le units old first last order, total);
    }

-- as many items, and as many units
pub like_in_blocks : {T : Type 0} (units : T → ℕ) (row new : BlockRow T) (ready : List (List T)) (count full : ℕ) →
    AreInBlocks units row ready count full → AreSized new.blocks full
    → length (joined new.blocks) ≡ length (joined row.blocks)
    → total_units units (joined new.blocks) ≡ total_units units (joined row.blocks) → new.spare ≡ row.spare
    → AreInBlocks units new ready count full
like_in_blocks units row new ready count full is sized long total spare = record {
  sized = sized;
  counted = is.counted ∙ sym long;
  room = let r = is.room in omega arith;
  empty = is.empty;
  few = let f = is.few in omega arith;
  total = let t = is.total in omega arith;
}
