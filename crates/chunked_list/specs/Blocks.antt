-- Lists in blocks.
use Rattle.std.specs.Prelude.{◌≡◌, ℕ, ◌+◌, ◌^◌, ◌<◌, ◌≤◌, List, [], ◌∷◌, ◌++◌, length, take, drop, map, flat_map}
use Rattle.std.specs.Prelude.{sum_by, All}
use Rattle.std.specs.Prelude.{Some, slice_get, slice_range, slice_index_or, refl}
use Rattle.std.specs.List.{splice}
use Rattle.std.specs.Coded.{Coded, code_by, coded×, coded_ℕ, coded_list}
use Rattle.doc_bits.specs.Sums.{SumList}
use Rattle.chunked_list.specs.declared.places.Spot.{Spot}
use Rattle.chunked_list.specs.declared.places.Place.{Place}
use Rattle.chunked_list.specs.declared.places.Found.{Found}
use Rattle.chunked_list.specs.declared.places.Mark.{Mark}

-- the list that blocks represent
unfoldable pub joined : {T : Type 0} → List (List T) → List T
joined blocks = flat_map (λ block. block) blocks

-- how long the items are together
unfoldable pub total_units : {T : Type 0} → (T → ℕ) → List T → ℕ
total_units units items = sum_by units items

-- a list with the elements from `first` to before `last` exchanged for what they become
abbrev pub map_range : {T : Type 0} → (T → T) → List T → ℕ → ℕ → List T
map_range f items first last = splice items first last (map f (slice_range items first last))

-- the block of a number
abbrev pub block_at : {T : Type 0} → List (List T) → ℕ → List T
block_at blocks k = slice_index_or blocks k []

-- the spot of a unit: its item has it, and the items before it have those before it
pub record IsSpotOf {T : Type 0} (units : T → ℕ) (items : List T) (cp : ℕ) (spot : Spot) : Type 0 where
  pub item : T
  pub there : slice_get items spot.item ≡ Some item
  pub inside : spot.within < units item
  pub here : total_units units (take spot.item items) + spot.within ≡ cp

-- ---- what lists are seen as

-- items, how many insertions there are ready blocks for, how many blocks there are with the ready ones, and how many
-- there is room for in the list of blocks
pub record MeasuredList (T : Type 0) : Type 0 where
  pub items : List T
  pub spare : ℕ
  pub blocks : ℕ
  pub room : ℕ

abbrev pub measured_list_code : {T : Type 0} → Coded T → Coded (MeasuredList T)
measured_list_code {T = T} t =
    code_by (List T × (ℕ × (ℕ × ℕ)))
    (coded× (coded_list t) (coded× coded_ℕ (coded× coded_ℕ coded_ℕ)))
    (λ l. (l.items, (l.spare, (l.blocks, l.room))))
    (λ p. record { items = p.0; spare = p.1.0; blocks = p.1.1.0; room = p.1.1.1 })
    (λ _. refl)

-- no block is made, and no room for more
pub record IsNoLarger {T : Type 0} (old new : MeasuredList T) : Type 0 where
  pub blocks : new.blocks ≤ old.blocks
  pub room : new.room ≤ old.room

-- blocks, and how many more there is room for
pub record BlockRow (T : Type 0) : Type 0 where
  pub blocks : List (List T)
  pub spare : ℕ

abbrev pub block_row : {T : Type 0} → List (List T) → ℕ → BlockRow T
block_row xs n = record { blocks = xs; spare = n }

abbrev pub block_row_code : {T : Type 0} → Coded T → Coded (BlockRow T)
block_row_code {T = T} t =
    code_by (List (List T) × ℕ) (coded× (coded_list (coded_list t)) coded_ℕ) (λ r. (r.blocks, r.spare)) (λ p.
    block_row p.0 p.1)
    (λ _. refl)

-- ---- invariants

-- the first ones of 128 lengths are those of the items, and there is room for 128
pub record IsMeasuredBlock {T : Type 0} (units : T → ℕ) (items : List T) (lens : SumList) (capacity : ℕ) : Type 0 where
  pub lengths : take (length items) lens.sums ≡ map units items
  pub long : length lens.sums ≡ 128
  pub most : length items ≤ 128
  pub room : 128 ≤ capacity

-- the sums are those of the blocks, and there is room for so many more
pub record IsBlockRow {T : Type 0} (units : T → ℕ) (blocks : List (List T)) (sums : SumList) (spare capacity : ℕ) : Type
    0
  where
    pub each : sums.sums ≡ map (total_units units) blocks
    pub room : length blocks + spare ≤ capacity
    pub further : spare ≤ sums.spare

-- a block has one item at least and 128 at most, each but the last 32 at least, and so many at the front are full
pub record AreSized {T : Type 0} (blocks : List (List T)) (full : ℕ) : Type 0 where
  pub most : (k : ℕ) → k < length blocks → length (block_at blocks k) ≤ 128
  pub some : (k : ℕ) → k < length blocks → 1 ≤ length (block_at blocks k)
  pub least : (k : ℕ) → k + 1 < length blocks → 32 ≤ length (block_at blocks k)
  pub there : full ≤ length blocks
  pub whole : (k : ℕ) → k < full → length (block_at blocks k) ≡ 128

-- blocks of such sizes, but that those from `from` to before `to` may have any number of items up to 128
pub record AreSizedBut {T : Type 0} (blocks : List (List T)) (full from to : ℕ) : Type 0 where
  pub most : (k : ℕ) → k < length blocks → length (block_at blocks k) ≤ 128
  pub some_front : (k : ℕ) → k < length blocks → k < from → 1 ≤ length (block_at blocks k)
  pub some_back : (k : ℕ) → k < length blocks → to ≤ k → 1 ≤ length (block_at blocks k)
  pub least_front : (k : ℕ) → k + 1 < length blocks → k < from → 32 ≤ length (block_at blocks k)
  pub least_back : (k : ℕ) → k + 1 < length blocks → to ≤ k → 32 ≤ length (block_at blocks k)
  pub low : full ≤ from
  pub there : from ≤ length blocks
  pub whole : (k : ℕ) → k < full → length (block_at blocks k) ≡ 128

-- a list in blocks
pub record AreInBlocks {T : Type 0} (units : T → ℕ) (row : BlockRow T) (ready : List (List T)) (count full : ℕ) : Type 0
  where
    pub sized : AreSized row.blocks full
    pub counted : count ≡ length (joined row.blocks)
    pub room : length ready ≤ row.spare
    pub empty : All (λ block. block ≡ []) ready
    pub few : length (joined row.blocks) < 2 ^ 32
    pub total : total_units units (joined row.blocks) < 2 ^ 32

-- ---- places

-- the place is in a block, or at its end
pub record IsPlaceIn {T : Type 0} (blocks : List (List T)) (place : Place) : Type 0 where
  pub there : place.block < length blocks
  pub inside : place.within ≤ length (block_at blocks place.block)

-- how many items are before the place
abbrev pub number_of : {T : Type 0} → List (List T) → Place → ℕ
number_of blocks place = length (joined (take place.block blocks)) + place.within

-- the place of the item of a number
pub record IsPlace {T : Type 0} (blocks : List (List T)) (i : ℕ) (place : Place) : Type 0 where
  pub in_block : IsPlaceIn blocks place
  pub here : number_of blocks place ≡ i

-- the item of a unit, and its block
pub record IsFoundOf {T : Type 0} (units : T → ℕ) (blocks : List (List T)) (cp : ℕ) (found : Found) : Type 0 where
  pub spot : IsSpotOf units (joined blocks) cp (record { item = found.item; within = found.within })
  pub there : found.block < length blocks
  pub behind : length (joined (take found.block blocks)) ≤ found.item

-- a walk is at the start of a block, or at the end
pub record IsAtMark {T : Type 0} (blocks : List (List T)) (mark : Mark) : Type 0 where
  pub there : mark.block ≤ length blocks
  pub before : length (joined (take mark.block blocks)) ≡ mark.before

-- ---- an item that is put

-- the same items, where the place has room. Blocks before it are as they were
pub record IsMadeRoom {T : Type 0} (old new : List (List T)) (place seat : Place) : Type 0 where
  pub same : joined new ≡ joined old
  pub in_block : IsPlaceIn new seat
  pub room : length (block_at new seat.block) < 128
  pub here : number_of new seat ≡ number_of old place
  pub behind : place.block ≤ seat.block
  pub sized : (full : ℕ) → full ≤ place.block → AreSized old full → AreSized new full

-- an item more in the place
pub record IsInserted {T : Type 0} (old new : List (List T)) (place : Place) (item : T) : Type 0 where
  pub items : joined new ≡ take (number_of old place) (joined old) ++ (item ∷ drop (number_of old place) (joined old))
  pub sized : (full : ℕ) → full ≤ place.block → AreSized old full → AreSized new full
