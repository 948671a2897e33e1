-- The list that blocks represent, part by part.
use Rattle.std.proofs.Common.{◌≡◌, ℕ, refl, sym, ap, ◌∙◌, ◌+◌, ◌<◌, ◌≤◌, List, [], ◌∷◌, ◌++◌, length, map}
use Rattle.std.proofs.Common.{take, drop, set, get_or, arith, append_assoc, length-append, length-take-le, Some}
use Rattle.std.specs.Prelude.{slice_get}
use Rattle.std.specs.List.{splice}
use Rattle.std.proofs.Math.Seq.{take-add}
use Rattle.std.proofs.lemmas.List.{take-append-drop, take_at, drop_at, take-append-le, drop-append-le, drop_more}
use Rattle.std.proofs.lemmas.List.{take_more, take_all, drop-drop, append-nil, drop_all, take_more_set, drop-set-lt}
use Rattle.std.proofs.lemmas.List.{get_or_read}
use Rattle.std.proofs.lemmas.List.Concat.{flat_map-cons}
use Rattle.std.proofs.lemmas.Grind.{flat_map-append}
use Rattle.std.proofs.lemmas.Option.{slice_get_within, get_or_from_slice_get}
use Rattle.doc_bits.proofs.Public.{slice_get_before, same_front, from_map, from_behind}
use Rattle.chunked_list.specs.Blocks.{joined, total_units, block_at, IsSpotOf, IsFoundOf}
use Rattle.chunked_list.proofs.UnitLemmas.{units-append}

pub joined-nil : {T : Type 0} → joined {T = T} [] ≡ []
unfolding joined
joined-nil = refl

pub joined-cons : {T : Type 0} (block : List T) (blocks : List (List T)) → joined (block ∷ blocks) ≡ block
    ++ joined blocks
unfolding joined
joined-cons block blocks = flat_map-cons (λ block. block) block blocks

pub joined-append : {T : Type 0} (front back : List (List T)) → joined (front ++ back) ≡ joined front ++ joined back
unfolding joined
joined-append front back = flat_map-append (λ block. block) front back

pub joined-one : {T : Type 0} (block : List T) → joined (block ∷ []) ≡ block
joined-one {T = T} block = joined-cons block [] ∙ ap (λ (t : List T). block ++ t) joined-nil ∙ append-nil block

pub joined-two : {T : Type 0} (first second : List T) → joined (first ∷ second ∷ []) ≡ first ++ second
joined-two {T = T} first second = joined-cons first (second ∷ []) ∙ ap (λ (t : List T). first ++ t) (joined-one second)

-- a block that was read is there
pub block_read : {T : Type 0} (blocks now : List (List T)) (b : ℕ) (block : List T) → blocks ≡ now → b < length now →
    block ≡ get_or blocks b block → (b < length blocks) × (block ≡ block_at now b)
block_read {T = T} blocks now b block same there read =
    let low : b < length blocks = omega (arith, ap length same, there) in (
      low,
      get_or_read blocks b block low read [] ∙ ap (λ (t : List (List T)). block_at t b) same,
    )

-- ---- a block, and those around it

pub joined-splice : {T : Type 0} (blocks fresh : List (List T)) (b c : ℕ) →
    joined (splice blocks b c fresh) ≡ joined (take b blocks) ++ (joined fresh ++ joined (drop c blocks))
joined-splice {T = T} blocks fresh b c =
    joined-append (take b blocks) (fresh ++ drop c blocks)
    ∙ ap (λ (t : List T). joined (take b blocks) ++ t) (joined-append fresh (drop c blocks))

pub joined_at : {T : Type 0} (blocks : List (List T)) (b : ℕ) → b < length blocks →
    joined blocks ≡ joined (take b blocks) ++ (block_at blocks b ++ joined (drop (b + 1) blocks))
joined_at {T = T} blocks b within =
    ap joined (sym (take-append-drop b blocks))
    ∙ joined-append (take b blocks) (drop b blocks)
    ∙ ap (λ (t : List (List T)). joined (take b blocks) ++ joined t) (drop_more blocks b [] within)
    ∙ ap (λ (t : List T). joined (take b blocks) ++ t) (joined-cons (block_at blocks b) (drop (b + 1) blocks))

pub joined_more : {T : Type 0} (blocks : List (List T)) (b : ℕ) → b < length blocks →
    joined (take (b + 1) blocks) ≡ joined (take b blocks) ++ block_at blocks b
joined_more {T = T} blocks b within =
    ap joined (take_more blocks b [] within)
    ∙ joined-append (take b blocks) (block_at blocks b ∷ [])
    ∙ ap (λ (t : List T). joined (take b blocks) ++ t) (joined-one (block_at blocks b))

pub joined_more_length : {T : Type 0} (blocks : List (List T)) (b : ℕ) → b < length blocks →
    length (joined (take (b + 1) blocks)) ≡ length (joined (take b blocks)) + length (block_at blocks b)
joined_more_length blocks b within =
    ap length (joined_more blocks b within) ∙ length-append (joined (take b blocks)) (block_at blocks b)

pub joined_all : {T : Type 0} (blocks : List (List T)) (b : ℕ) → length blocks ≤ b → joined (take b blocks)
    ≡ joined blocks
joined_all blocks b all = ap joined (take_all b blocks all)

-- the items before the last block, and its own
pub last_block : {T : Type 0} (blocks : List (List T)) (last : ℕ) → length blocks ≡ last + 1 →
    length (joined blocks) ≡ length (joined (take last blocks)) + length (block_at blocks last)
last_block blocks last long =
    let low : last < length blocks = omega arith in
    let all : length blocks ≤ last + 1 = omega arith in
    sym (ap length (joined_all blocks (last + 1) all)) ∙ joined_more_length blocks last low

-- a front is no longer
pub joined-take-le : {T : Type 0} (blocks : List (List T)) (b : ℕ) →
    length (joined (take b blocks)) ≤ length (joined blocks)
joined-take-le blocks b =
    let e = ap length (ap joined (sym (take-append-drop b blocks)) ∙ joined-append (take b blocks) (drop b blocks)) in
    omega (arith, e, length-append (joined (take b blocks)) (joined (drop b blocks)))

-- the units of a block more
pub units_more_blocks : {T : Type 0} (units : T → ℕ) (blocks : List (List T)) (b : ℕ) → b < length blocks →
    total_units units (joined (take (b + 1) blocks))
    ≡ total_units units (joined (take b blocks)) + total_units units (block_at blocks b)
units_more_blocks units blocks b within =
    ap (total_units units) (joined_more blocks b within) ∙ units-append units (joined (take b blocks)) (block_at blocks
    b)

-- the units of a block whose items went to two
pub units_parts : {T : Type 0} (units : T → ℕ) (block old fresh first second : List T) →
    first ++ second ≡ old ++ fresh → fresh ≡ [] → old ≡ block
    → total_units units first + total_units units second ≡ total_units units block
units_parts {T = T} units block old fresh first second parts none is =
    omega (
      arith,
      ap (total_units units) (parts ∙ ap (λ (t : List T). old ++ t) none ∙ append-nil old ∙ is),
      units-append units first second,
    )

-- a block is no longer than the list
pub units_of_block : {T : Type 0} (units : T → ℕ) (blocks : List (List T)) (b : ℕ) → b < length blocks →
    total_units units (block_at blocks b) ≤ total_units units (joined blocks)
units_of_block units blocks b within =
    let back = joined (drop (b + 1) blocks) in
    let block = block_at blocks b in
    let e = ap (total_units units) (joined_at blocks b within) in
    omega (arith, e, units-append units (joined (take b blocks)) (block ++ back), units-append units block back)

-- ---- a place in the middle

pub take_mid : {A : Type 0} (front mid back : List A) (k : ℕ) → k ≤ length mid →
    take (length front + k) (front ++ (mid ++ back)) ≡ front ++ take k mid
take_mid {A = A} front mid back k within =
    take-add (length front) k (front ++ (mid ++ back))
    ∙ ap (λ (t : List A). t ++ take k (drop (length front) (front ++ (mid ++ back))))
    (take_at front (mid ++ back) (length front) refl)
    ∙ ap (λ (t : List A). front ++ take k t) (drop_at front (mid ++ back) (length front) refl)
    ∙ ap (λ (t : List A). front ++ t) (take-append-le k mid back within)

pub drop_mid : {A : Type 0} (front mid back : List A) (k : ℕ) → k ≤ length mid →
    drop (length front + k) (front ++ (mid ++ back)) ≡ drop k mid ++ back
drop_mid {A = A} front mid back k within =
    sym (drop-drop k (length front) (front ++ (mid ++ back)))
    ∙ ap (λ (t : List A). drop k t) (drop_at front (mid ++ back) (length front) refl)
    ∙ drop-append-le k mid back within

-- an item more in a block is an item more in the list
pub put_joined : {T : Type 0} (blocks : List (List T)) (b k : ℕ) (x : T) → b < length blocks →
    k ≤ length (block_at blocks b) →
    joined (splice blocks b (b + 1) ((take k (block_at blocks b) ++ (x ∷ drop k (block_at blocks b))) ∷ []))
    ≡ take (length (joined (take b blocks)) + k) (joined blocks)
    ++ (x ∷ drop (length (joined (take b blocks)) + k) (joined blocks))
put_joined {T = T} blocks b k x there within =
    let front = joined (take b blocks) in
    let block = block_at blocks b in
    let back = joined (drop (b + 1) blocks) in
    let fresh = take k block ++ (x ∷ drop k block) in
    let n = length front + k in
    let whole = joined_at blocks b there in
    let first : take n (joined blocks) ≡ front ++ take k block = ap (take n) whole ∙ take_mid front block back k
    within in
    let second : drop n (joined blocks) ≡ drop k block ++ back = ap (drop n) whole ∙ drop_mid front block back k
    within in
    joined-splice blocks (fresh ∷ []) b (b + 1)
    ∙ ap (λ (t : List T). front ++ (t ++ back)) (joined-one fresh)
    ∙ ap (λ (t : List T). front ++ t) (append_assoc (take k block) (x ∷ drop k block) back)
    ∙ sym (append_assoc front (take k block) (x ∷ (drop k block ++ back)))
    ∙ ap (λ (t : List T). t ++ (x ∷ (drop k block ++ back))) (sym first)
    ∙ ap (λ (t : List T). take n (joined blocks) ++ (x ∷ t)) (sym second)

-- a block in two is the same list
pub divided_joined : {T : Type 0} (blocks : List (List T)) (b k : ℕ) → b < length blocks →
    joined (splice blocks b (b + 1) (take k (block_at blocks b) ∷ drop k (block_at blocks b) ∷ [])) ≡ joined blocks
divided_joined {T = T} blocks b k there =
    let front = joined (take b blocks) in
    let block = block_at blocks b in
    let back = joined (drop (b + 1) blocks) in
    joined-splice blocks (take k block ∷ drop k block ∷ []) b (b + 1)
    ∙ ap (λ (t : List T). front ++ (t ++ back)) (joined-two (take k block) (drop k block))
    ∙ ap (λ (t : List T). front ++ (t ++ back)) (take-append-drop k block)
    ∙ sym (joined_at blocks b there)

-- ---- places

-- an item of a block is an item of the list
pub item_of_block : {T : Type 0} (blocks : List (List T)) (b k : ℕ) → b < length blocks →
    k < length (block_at blocks b) →
    slice_get (joined blocks) (length (joined (take b blocks)) + k) ≡ slice_get (block_at blocks b) k
item_of_block {T = T} blocks b k there within =
    let front = joined (take b blocks) in
    let block = block_at blocks b in
    let back = joined (drop (b + 1) blocks) in
    ap (λ (t : List T). slice_get t (length front + k)) (joined_at blocks b there)
    ∙ from_behind front (block ++ back) k
    ∙ slice_get_before block back k within

-- the item of the unit is in this block
pub found_here : {T : Type 0} (units : T → ℕ) (blocks : List (List T)) (b cp left item within before : ℕ) →
    b < length blocks →
    before ≡ length (joined (take b blocks)) → total_units units (joined (take b blocks)) + left ≡ cp
    → IsSpotOf units (block_at blocks b) left (record { item = item; within = within })
    → IsFoundOf units blocks cp (record { block = b; item = before + item; within = within })
found_here {T = T} units blocks b cp left item within before there counted here spot =
    let front = joined (take b blocks) in
    let block = block_at blocks b in
    let back = joined (drop (b + 1) blocks) in
    let inside : item < length block = slice_get_within block item spot.item spot.there in
    let same : slice_get (joined blocks) (before + item) ≡ Some spot.item =
    ap (λ (n : ℕ). slice_get (joined blocks) (n + item)) counted ∙ item_of_block blocks b item there inside ∙
    spot.there in
    let le : item ≤ length block = omega arith in
    let taken : take (before + item) (joined blocks) ≡ front ++ take item block =
    ap (λ (n : ℕ). take (n + item) (joined blocks)) counted
    ∙ ap (take (length front + item)) (joined_at blocks b there)
    ∙ take_mid front block back item le in
    record {
      spot = record {
        item = spot.item;
        there = same;
        inside = spot.inside;
        here = let e = ap (total_units units) taken ∙ units-append units front (take item block) in
            omega (arith, e, spot.here);
      };
      there = there;
      behind = omega arith;
    }

-- ---- sums of blocks

-- a sum that is known is that of its block
pub sum_told : {T : Type 0} (units : T → ℕ) (blocks : List (List T)) (sums : List ℕ) (b u : ℕ) → sums
    ≡ map (total_units units) blocks →
    slice_get sums b ≡ Some u → u ≡ total_units units (block_at blocks b)
sum_told {T = T} units blocks sums b u is found =
    let block : (x : List T) × ((slice_get blocks b ≡ Some x) × (total_units units x ≡ u)) =
    from_map (total_units units) blocks b u (sym (ap (λ (l : List ℕ). slice_get l b) is) ∙ found) in
    sym block.1.1 ∙ sym (ap (total_units units) (get_or_from_slice_get blocks b block.0 [] block.1.0))

-- where there are items there are blocks
pub some_blocks : {T : Type 0} (blocks : List (List T)) → 0 < length (joined blocks) → 0 < length blocks
some_blocks {T = T} [] some = absurd (let e = ap length (joined-nil {T = T}) in omega (arith, e))
some_blocks (block ∷ blocks) some = omega arith

-- where there are no items there are no blocks
pub none_blocks : {T : Type 0} (blocks : List (List T)) → ((k : ℕ) → k < length blocks → 1 ≤ length (block_at blocks k))
    → length (joined blocks) ≡ 0 → blocks ≡ []
none_blocks [] some none = refl
none_blocks (block ∷ blocks) some none =
    absurd (let e = ap length (joined-cons block blocks) in
    omega (arith, e, length-append block (joined blocks), some 0 (omega arith)))

-- ---- items that move from a block to the next

pub give_one : {A : Type 0} (a b less more : List A) (x : A) (last : ℕ) → last + 1 ≡ length a → slice_get a last
    ≡ Some x →
    less ≡ take last a ++ drop (last + 1) a → more ≡ x ∷ b → less ++ more ≡ a ++ b
give_one {A = A} a b less more x last end is cut put =
    let le : length a ≤ last + 1 = omega arith in
    let low : last < length a = omega arith in
    let front : less ≡ take last a =
    cut ∙ ap (λ (t : List A). take last a ++ t) (drop_all (last + 1) a le) ∙ append-nil (take last a) in
    let whole : a ≡ take last a ++ x ∷ [] =
    sym (take_all (last + 1) a le) ∙ take_more a last x low
    ∙ ap (λ (y : A). take last a ++ y ∷ []) (get_or_from_slice_get a last x x is) in
    ap (λ (t : List A). t ++ more) front
    ∙ ap (λ (t : List A). take last a ++ t) put
    ∙ sym (append_assoc (take last a) (x ∷ []) b)
    ∙ ap (λ (t : List A). t ++ b) (sym whole)

-- a list in two parts
pub two_parts : {A : Type 0} (whole a b : List A) (n : ℕ) → a ++ b ≡ whole → length a ≡ n → n ≤ length whole →
    (a ≡ take n whole) × (b ≡ drop n whole)
two_parts whole a b n is long within =
    same_front a (take n whole) b (drop n whole) (long ∙ sym (length-take-le n whole within))
    (is ∙ sym (take-append-drop n whole))

-- a block that is set, and one behind it
pub splice_two : {A : Type 0} (xs : List A) (b : ℕ) (y z : A) → b < length xs →
    splice (set xs b y) (b + 1) (b + 1) (z ∷ []) ≡ splice xs b (b + 1) (y ∷ z ∷ [])
splice_two {A = A} xs b y z low =
    let less : b < b + 1 = omega arith in
    ap (λ (t : List A). t ++ (z ∷ drop (b + 1) (set xs b y))) (take_more_set xs b y low)
    ∙ ap (λ (t : List A). (take b xs ++ y ∷ []) ++ (z ∷ t)) (drop-set-lt (b + 1) xs b y less)
    ∙ append_assoc (take b xs) (y ∷ []) (z ∷ drop (b + 1) xs)
