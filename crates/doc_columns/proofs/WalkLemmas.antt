-- Walks over the columns of a text, and its items.
use Rattle.std.proofs.Common.{◌≡◌, ◌∙◌, ℕ, refl, sym, ap, subst, ◌+◌, ◌-◌, ◌<◌, ◌≤◌, List, length, map, drop, Option}
use Rattle.std.proofs.Common.{Some, None, Bool, true, false, inl, inr, arith, length-take, length-drop}
use Rattle.std.specs.Prelude.{slice_get, slice_range, option_map}
use Rattle.std.proofs.lemmas.Bool.{cases_lt}
use Rattle.std.proofs.lemmas.Option.{same_Some, slice_get-map, slice_get_past}
use Rattle.doc_bits.proofs.Public.{there_is, get-map, slice_get-take, got_drop}
use Rattle.run_lists.specs.Spread.{expanded}
use Rattle.run_lists.proofs.Public.{length-spread}
use Rattle.doc_model.specs.declared.item.Item.{Item}
use Rattle.doc_model.specs.Stretches.{joins_at, joins_next, BeginsStretch}
use Rattle.doc_columns.specs.declared.attached.Attached.{Attached}
use Rattle.doc_columns.specs.declared.walk.Parts.{Parts}
use Rattle.doc_columns.specs.declared.walk.Walk.{Walk}
use Rattle.doc_columns.specs.Attached.{attached_of}
use Rattle.doc_columns.specs.Walks.{items_in, AreFullParts, IsColumnWalk}
use Rattle.doc_columns.proofs.ItemsOfLemmas.{length-items_of, units-items_of, chps-items_of, attachments-items_of}
use Rattle.doc_columns.proofs.CollectLemmas.{start_at}

-- ---- columns and items

pub long_chps : (parts : Parts) → AreFullParts parts → length (expanded parts.chps.now) ≡ length parts.units.now
long_chps parts are = length-spread parts.chps.now ∙ are.chps_long

pub long_attachments : (parts : Parts) → AreFullParts parts → length (expanded parts.attachments.now) ≡ length
    parts.units.now
long_attachments parts are = length-spread parts.attachments.now ∙ are.attachments_long

pub items_long : (parts : Parts) → AreFullParts parts → length (items_in parts) ≡ length parts.units.now
items_long parts are =
    length-items_of parts.units.now (expanded parts.chps.now) (expanded parts.attachments.now) (long_chps parts are)
    (long_attachments parts are)

pub units_are : (parts : Parts) → AreFullParts parts → map (λ item. item.unit) (items_in parts) ≡ parts.units.now
units_are parts are =
    units-items_of parts.units.now (expanded parts.chps.now) (expanded parts.attachments.now) (long_chps parts are)
    (long_attachments parts are)

pub chps_are : (parts : Parts) → AreFullParts parts → map (λ item. item.chp) (items_in parts) ≡ expanded parts.chps.now
chps_are parts are =
    chps-items_of parts.units.now (expanded parts.chps.now) (expanded parts.attachments.now) (long_chps parts are)
    (long_attachments parts are)

pub attachments_are : (parts : Parts) → AreFullParts parts → map attached_of (items_in parts) ≡ expanded
    parts.attachments.now
attachments_are parts are =
    attachments-items_of parts.units.now (expanded parts.chps.now) (expanded parts.attachments.now) (long_chps parts
    are)
    (long_attachments parts are)

-- what is beside an item is in its column
pub attached_there : (parts : Parts) → AreFullParts parts → (k : ℕ) (item : Item) → slice_get (items_in parts) k ≡ Some
    item
    →
    slice_get (expanded parts.attachments.now) k ≡ Some (attached_of item)
attached_there parts are k item here =
    subst (λ (xs : List Attached). slice_get xs k ≡ Some (attached_of item)) (attachments_are parts are)
    (get-map attached_of (items_in parts) k item here)

-- ---- walks

pub later_walk : (parts : Parts) (walk : Walk) (m n : ℕ) → IsColumnWalk parts walk m → m ≤ n → IsColumnWalk parts walk n
later_walk parts walk m n is le = record {
  at_chps = is.at_chps;
  chps_ahead = (let ahead = is.chps_ahead in omega (arith, ahead, le));
  at_attachments = is.at_attachments;
  attachments_ahead = (let ahead = is.attachments_ahead in omega (arith, ahead, le));
}

pub first_walk : (parts : Parts) (walk : Walk) →
    walk ≡ record { chps = record { run = 0; begin = 0 }; attachments = record { run = 0; begin = 0 } } →
    IsColumnWalk parts walk 0
first_walk parts walk is =
    subst (λ (w : Walk). IsColumnWalk parts w 0) (sym is)
    (record {
      at_chps = start_at parts.chps.now (record { run = 0; begin = 0 }) refl;
      chps_ahead = omega arith;
      at_attachments = start_at parts.attachments.now (record { run = 0; begin = 0 }) refl;
      attachments_ahead = omega arith;
    })

-- a part of an element is in the column of these parts
pub part_at : {A B : Type 0} (f : A → B) (xs : List A) (ys : List B) (k : ℕ) (x : A) (y : B) → map f xs ≡ ys →
    slice_get xs k ≡ Some x → slice_get ys k ≡ Some y → f x ≡ y
part_at {A = A} {B = B} f xs ys k x y is here there =
    same_Some (f x) y
    (sym (slice_get-map f xs k ∙ ap (λ (o : Option A). option_map f o) here)
    ∙ ap (λ (zs : List B). slice_get zs k) is ∙ there)

-- ---- ranges

-- what is at a place of a range is in the list
pub range_got : {A : Type 0} (xs : List A) (from to k : ℕ) (x : A) → slice_get (slice_range xs from to) k ≡ Some x →
    slice_get xs (from + k) ≡ Some x
range_got xs from to k x is = got_drop from xs k x (slice_get-take (to - from) (drop from xs) k x is)

pub range_long : {A : Type 0} (xs : List A) (from to : ℕ) → to ≤ length xs → length (slice_range xs from to) ≡ to - from
range_long xs from to within = omega (arith, length-take (to - from) (drop from xs), length-drop from xs)

joined_by : {A : Type 0} (joins : A → A → Bool) (xs : List A) (k : ℕ) (b : Bool) (x y : A) → slice_get xs k ≡ Some x →
    slice_get xs (k + 1) ≡ Some y → joins x y ≡ b → joins_at joins xs k ≡ b
joined_by joins xs k b x y here next is =
    (λ i. joins_next joins (here i) (next i)) ∙ is

last_alone : {A : Type 0} (joins : A → A → Bool) (xs : List A) (k : ℕ) (x : A) → slice_get xs k ≡ Some x →
    slice_get xs (k + 1) ≡ None → joins_at joins xs k ≡ false
last_alone joins xs k x here next = (λ i. joins_next joins (here i) (next i))

-- a range begins with a stretch that ends where no element joins the next one
pub begins_range : {A : Type 0} (joins : A → A → Bool) (xs : List A) (from to end : ℕ) → from < to → to ≤ end →
    end ≤ length xs →
    ((k : ℕ) (x y : A) → from ≤ k → k + 1 < to → slice_get xs k ≡ Some x → slice_get xs (k + 1) ≡ Some y →
    joins x y ≡ true) →
    (to < end → (x y : A) → slice_get xs (to - 1) ≡ Some x → slice_get xs to ≡ Some y → joins x y ≡ false) →
    BeginsStretch joins (slice_range xs from end) (to - from)
begins_range {A = A} joins xs from to end some within inside joined ends =
    let part = slice_range xs from end in
    let long : length part ≡ end - from = range_long xs from end inside in
    record {
      some = omega (arith, some);
      within = omega (arith, long, within);
      joined = λ k low.
          let one = there_is part k (omega (arith, long, within, low)) in
          let next = there_is part (k + 1) (omega (arith, long, within, low)) in
          let place : from + (k + 1) ≡ from + k + 1 = omega arith in
          joined_by joins part k true one.0 next.0 one.1 next.1
          (joined (from + k) one.0 next.0 (omega arith) (omega (arith, low))
          (range_got xs from end k one.0 one.1)
          (subst (λ n. slice_get xs n ≡ Some next.0) place (range_got xs from end (k + 1) next.0 next.1)));
      ends =
          let k = to - from - 1 in
          let one = there_is part k (omega (arith, long, within, some)) in
          let here : from + k ≡ to - 1 = omega (arith, some) in
          let behind : from + (k + 1) ≡ to = omega (arith, some) in
          let last = subst (λ n. slice_get xs n ≡ Some one.0) here (range_got xs from end k one.0 one.1) in
          elim (cases_lt (k + 1) (length part)) [
            | inl more ↦ (let next = there_is part (k + 1) more in
                joined_by joins part k false one.0 next.0 one.1 next.1
                (ends (omega (arith, more, long, some)) one.0 next.0 last
                (subst (λ n. slice_get xs n ≡ Some next.0) behind (range_got xs from end (k + 1) next.0 next.1))))
            | inr none ↦ last_alone joins part k one.0 one.1 (slice_get_past part (k + 1) none)
          ];
    }
