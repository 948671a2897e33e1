-- A text is written piece by piece, and a piece by what its items have in common and the units of all.
use Rattle.std.proofs.Common.{◌≡◌, ◌+◌, ◌-◌, ◌<◌, ◌≤◌, ℕ, List, [], ◌∷◌, take, drop, length, map, Some, Bool, true}
use Rattle.std.proofs.Common.{false}
use Rattle.std.proofs.Common.{not, ◌&&◌, refl, sym, ap, ◌∙◌, subst, arith, inl, inr}
use Rattle.std.specs.Prelude.{codes, nat_lt, option_map, slice_get, slice_range}
use Rattle.std.proofs.lemmas.Bool.{lt-ltb, cases_lt}
use Rattle.std.proofs.lemmas.List.{drop-drop, drop_all, take-map, drop-map}
use Rattle.std.proofs.lemmas.Option.{same_Some}
use Rattle.doc_bits.proofs.Public.{there_is, not_true, both_are}
use Rattle.prop_map.specs.Settings.{Properties}
use Rattle.serde_json.specs.Data.{Members, no_members, member}
use Rattle.serde_json.specs.Written.{compact_text, comma_if}
use Rattle.doc_model.specs.declared.item.Item.{Item}
use Rattle.doc_model.specs.Settings.{same_properties}
use Rattle.doc_model.specs.Stretches.{stretches, BeginsStretch}
use Rattle.plain_doc.proofs.Public.{equal_are_same}
use Rattle.doc_model.proofs.Public.{stretches-first, stretches-nil, rest_of, part_of}
use Rattle.doc_columns.specs.Specials.{is_special_item}
use Rattle.doc_columns.specs.declared.attached.Attached.{Attached}
use Rattle.doc_columns.specs.declared.walk.Parts.{Parts}
use Rattle.doc_columns.specs.Attached.{attached_of, has_something}
use Rattle.doc_columns.specs.Walks.{items_in, AreFullParts}
use Rattle.doc_columns.proofs.Public.{items_long, units_are, range_got, range_long, begins_range}
use Rattle.json_values.specs.Digits.{units_json}
use Rattle.json_values.specs.Out.{Output, Adds}
use Rattle.json_values.specs.Rows.{member_if}
use Rattle.json_values.specs.Settings.{properties_json}
use Rattle.json_doc.specs.Frames.{piece_with}
use Rattle.json_doc.specs.Pieces.{is_one_piece, mark_json, note_json, piece_json, stretch_json}
use Rattle.json_doc.proofs.WrittenLemmas.{HasWritten, one_written, all_written}

-- ---- what the items of a piece have in common

-- the items from a place to another have nothing beside their properties, and the same of these
abbrev pub AreAlike : List Item → ℕ → ℕ → Properties → Type 0
AreAlike items from to chp =
    (k : ℕ) (item : Item) → from ≤ k → k < to → slice_get items k ≡ Some item →
    (is_special_item item ≡ false) × (item.chp ≡ chp)

pub alike_by : (items : List Item) (from to : ℕ) (chp : Properties) (attached : Attached) → has_something attached ≡
    false →
    ((k : ℕ) (item : Item) → from ≤ k → k < to → slice_get items k ≡ Some item → item.chp ≡ chp) →
    ((k : ℕ) (item : Item) → from ≤ k → k < to → slice_get items k ≡ Some item → attached_of item ≡ attached) →
    AreAlike items from to chp
alike_by items from to chp attached bare chps attachments = λ k item le until here. (
  ap has_something (attachments k item le until here) ∙ bare,
  chps k item le until here,
)

-- two stretches of such items one behind the other
pub alike_on : (items : List Item) (from to end : ℕ) (first next : Properties) (attached : Attached) →
    AreAlike items from to first → true ≡ (not (has_something attached) && same_properties first next) →
    ((k : ℕ) (item : Item) → to ≤ k → k < end → slice_get items k ≡ Some item → item.chp ≡ next) →
    ((k : ℕ) (item : Item) → to ≤ k → k < end → slice_get items k ≡ Some item → attached_of item ≡ attached) →
    AreAlike items from end first
alike_on items from to end first next attached before same chps attachments = λ k item le until here.
    let both = both_are (not (has_something attached)) (same_properties first next) same in
    let one : first ≡ next = (equal_are_same first next).0 both.1 in
    elim (cases_lt k to) [
      | inl early ↦ before k item le early here
      | inr late ↦ (let more = alike_by items to end next attached (not_true (has_something attached) both.0) chps
          attachments k
          item (omega (arith, late)) until here in
          (more.0, more.1 ∙ sym one))
    ]

-- they are of one piece
pub alike_joined : (items : List Item) (from to : ℕ) (chp : Properties) → AreAlike items from to chp →
    (k : ℕ) (item next : Item) → from ≤ k → k + 1 < to → slice_get items k ≡ Some item →
    slice_get items (k + 1) ≡ Some next → is_one_piece item next ≡ true
alike_joined items from to chp alike k item next le until here there =
    let one = alike k item le (omega (arith, until)) here in
    let other = alike (k + 1) next (omega (arith, le)) until there in
    (λ i. not (one.0 i) && (not (other.0 i) && same_properties (one.1 i) (other.1 i))) ∙ (equal_are_same chp chp).1 refl

-- the piece ends before an item that is special or has other properties
pub alike_ends : (items : List Item) (from to end : ℕ) (first next : Properties) (attached : Attached) → from < to →
    to < end →
    AreAlike items from to first → false ≡ (not (has_something attached) && same_properties first next) →
    ((k : ℕ) (item : Item) → to ≤ k → k < end → slice_get items k ≡ Some item → item.chp ≡ next) →
    ((k : ℕ) (item : Item) → to ≤ k → k < end → slice_get items k ≡ Some item → attached_of item ≡ attached) →
    (one other : Item) → slice_get items (to - 1) ≡ Some one → slice_get items to ≡ Some other →
    is_one_piece one other ≡ false
alike_ends items from to end first next attached some more alike apart chps attachments one other here there =
    let last = alike (to - 1) one (omega (arith, some)) (omega (arith, some)) here in
    let chp = chps to other (omega arith) more there in
    let bare : is_special_item other ≡ has_something attached = ap has_something (attachments to other (omega arith)
    more
    there) in
    (λ i. not (last.0 i) && (not (bare i) && same_properties (last.1 i) (chp i))) ∙ sym apart

-- a special item joins no other
pub special_ends : (items : List Item) (place : ℕ) (attached : Attached) → has_something attached ≡ true →
    ((item : Item) → slice_get items place ≡ Some item → attached_of item ≡ attached) →
    (one other : Item) → slice_get items place ≡ Some one → is_one_piece one other ≡ false
special_ends items place attached some attachments one other here =
    let special : is_special_item one ≡ true = ap has_something (attachments one here) ∙ some in
    ap (λ (b : Bool). not b && (not (is_special_item other) && same_properties one.chp other.chp)) special

-- ---- the value of a piece

piece_of_items : (xs : List Item) (x : Item) → slice_get xs 0 ≡ Some x →
    stretch_json xs ≡ piece_json (piece_with x.chp (attached_of x) (map (λ item. item.unit) xs))
piece_of_items [] x is = absurd (cc)
piece_of_items (y ∷ ys) x is =
    ap (λ (z : Item). piece_json (piece_with z.chp (attached_of z) (map (λ (item : Item). item.unit) (y ∷ ys))))
    (same_Some y x is)

-- that of the items of a range
pub stretch_json-range : (parts : Parts) → AreFullParts parts → (at to end : ℕ) (chp : Properties) (attached : Attached)
    →
    at < to → to ≤ length parts.units.now → at < end →
    ((k : ℕ) (item : Item) → at ≤ k → k < end → slice_get (items_in parts) k ≡ Some item → item.chp ≡ chp) →
    ((k : ℕ) (item : Item) → at ≤ k → k < end → slice_get (items_in parts) k ≡ Some item → attached_of item ≡ attached)
    →
    stretch_json (slice_range (items_in parts) at to)
    ≡ piece_json (piece_with chp attached (slice_range parts.units.now at to))
stretch_json-range parts are at to end chp attached some within first chps attachments =
    let items = items_in parts in
    let part = slice_range items at to in
    let long : length part ≡ to - at = range_long items at to (omega (arith, items_long parts are, within)) in
    let one = there_is part 0 (omega (arith, long, some)) in
    let place : at + 0 ≡ at = omega arith in
    let here : slice_get items at ≡ Some one.0 =
    subst (λ n. slice_get items n ≡ Some one.0) place (range_got items at to 0 one.0 one.1) in
    let unit : Item → ℕ = λ item. item.unit in
    let units : map unit part ≡ slice_range parts.units.now at to =
    sym (take-map unit (to - at) (drop at items)) ∙ ap (take (to - at)) (sym (drop-map unit at items))
    ∙ ap (λ (us : List ℕ). slice_range us at to) (units_are parts are) in
    let one_chp = chps at one.0 (omega arith) first here in
    let one_attached = attachments at one.0 (omega arith) first here in
    piece_of_items part one.0 one.1 ∙ (λ i. piece_json (piece_with (one_chp i) (one_attached i) (units i)))

-- ---- stretches

-- one stretch more
next_stretch : (xs : List Item) (at len : ℕ) (whole : List ℕ) {old now between new : Output} →
    BeginsStretch is_one_piece (take (length xs - at) (drop at xs)) len →
    HasWritten old now (nat_lt 0 at) (map stretch_json (stretches is_one_piece (drop at xs))) whole →
    Adds now between (comma_if (nat_lt 0 at)) →
    Adds between new (compact_text (stretch_json (take (at + len - at) (drop at xs)))) →
    HasWritten old new (nat_lt 0 (at + len)) (map stretch_json (stretches is_one_piece (drop (at + len) xs))) whole
next_stretch xs at len whole {old} {new = new} b so_far comma text =
    let begins = rw (rest_of xs at) at b in
    let some = begins.some in
    let more = map stretch_json (stretches is_one_piece (drop (at + len) xs)) in
    let first = stretches-first is_one_piece (drop at xs) len begins in
    let is : map stretch_json (stretches is_one_piece (drop at xs))
    ≡ stretch_json (take (at + len - at) (drop at xs)) ∷ more =
    ap (map stretch_json) first
    ∙ (λ i. stretch_json (sym (part_of xs at len) i) ∷ map stretch_json (stretches is_one_piece (drop-drop len at xs
    i))) in
    subst (λ later. HasWritten old new later more whole) (sym (lt-ltb 0 (at + len) (omega arith)))
    (one_written (stretch_json (take (at + len - at) (drop at xs))) more is so_far comma text)

-- and none is left
pub no_stretch : (xs : List Item) (at : ℕ) (whole : List ℕ) {old now new : Output} → length xs ≤ at →
    HasWritten old now (nat_lt 0 at) (map stretch_json (stretches is_one_piece (drop at xs))) whole →
    Adds now new (93 ∷ []) → Adds old new whole
no_stretch xs at whole all so_far bracket =
    all_written (ap (λ rest. map stretch_json (stretches is_one_piece rest)) (drop_all at xs all)
    ∙ ap (map stretch_json) (stretches-nil is_one_piece)) so_far bracket

-- one more, by where it ends
pub next_piece : (parts : Parts) → AreFullParts parts → (at to : ℕ) (whole : List ℕ) {old now between new : Output} →
    at < to → to ≤ length parts.units.now →
    ((k : ℕ) (item next : Item) → at ≤ k → k + 1 < to → slice_get (items_in parts) k ≡ Some item →
    slice_get (items_in parts) (k + 1) ≡ Some next → is_one_piece item next ≡ true) →
    (to < length parts.units.now → (item next : Item) → slice_get (items_in parts) (to - 1) ≡ Some item →
    slice_get (items_in parts) to ≡ Some next → is_one_piece item next ≡ false) →
    HasWritten old now (nat_lt 0 at) (map stretch_json (stretches is_one_piece (drop at (items_in parts)))) whole →
    Adds now between (comma_if (nat_lt 0 at)) →
    Adds between new (compact_text (stretch_json (slice_range (items_in parts) at to))) →
    HasWritten old new (nat_lt 0 to) (map stretch_json (stretches is_one_piece (drop to (items_in parts)))) whole
next_piece parts are at to whole {old = old} {between = between} {new = new} some within joined ends so_far comma text =
    let items = items_in parts in
    let long = items_long parts are in
    let sum : at + (to - at) ≡ to = omega (arith, some) in
    let begins : BeginsStretch is_one_piece (slice_range items at (length items)) (to - at) =
    begins_range is_one_piece items at to (length items) some (omega (arith, long, within)) (omega arith) joined
    (λ more. ends (omega (arith, long, more))) in
    subst (λ n. HasWritten old new (nat_lt 0 n) (map stretch_json (stretches is_one_piece (drop n items))) whole) sum
    (next_stretch items at (to - at) whole begins so_far comma
    (subst (λ n. Adds between new (compact_text (stretch_json (slice_range items at n)))) (sym sum) text))

-- what a piece has behind its properties, from its units on, and behind its field byte and its mark
abbrev pub from_units : Attached → List ℕ → Members
from_units attached units =
    member (codes "t") (units_json units) (member_if (codes "x") (option_map properties_json attached.sect) no_members)

abbrev pub from_note : Attached → List ℕ → Members
from_note attached units = member_if (codes "n") (option_map note_json attached.note) (from_units attached units)

abbrev pub from_mark : Attached → List ℕ → Members
from_mark attached units = member_if (codes "m") (option_map mark_json attached.mark) (from_note attached units)
