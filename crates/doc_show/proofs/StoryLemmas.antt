-- The lines of a text by its columns.
use Rattle.std.proofs.Common.{◌≡◌, ◌∙◌, ℕ, refl, sym, ap, subst, ◌+◌, ◌-◌, ◌<◌, ◌≤◌, List, [], ◌∷◌, ◌++◌, length, map}
use Rattle.std.proofs.Common.{take, drop, Option, Some, None, true, false, not, ◌&&◌, arith, append_assoc, inl}
use Rattle.std.proofs.Common.{inr}
use Rattle.std.specs.Prelude.{slice_get, slice_range, IsSome}
use Rattle.std.specs.List.{flat_map}
use Rattle.std.proofs.lemmas.Bool.{cases_lt}
use Rattle.std.proofs.lemmas.List.{take-map, drop-map, take_all}
use Rattle.std.proofs.lemmas.Option.{same_Some}
use Rattle.doc_bits.proofs.Public.{there_is, both_are}
use Rattle.prop_map.specs.Settings.{Properties}
use Rattle.run_lists.specs.Spread.{expanded}
use Rattle.doc_model.specs.declared.item.Item.{Item}
use Rattle.doc_model.specs.Stretches.{stretches, BeginsStretch}
use Rattle.doc_model.specs.Settings.{same_properties, is_inside}
use Rattle.plain_doc.proofs.Public.{equal_are_same}
use Rattle.doc_model.proofs.Public.{a_mark, no_mark}
use Rattle.doc_columns.specs.declared.attached.Attached.{Attached}
use Rattle.doc_columns.specs.Attached.{attached_of}
use Rattle.doc_columns.specs.declared.walk.Parts.{Parts}
use Rattle.doc_columns.specs.Walks.{items_in, AreFullParts}
use Rattle.doc_columns.proofs.Public.{items_long, units_are, attached_there, range_got, range_long, begins_range}
use Rattle.doc_show.specs.Story.{is_plain_item, is_one_run, run_line, mark_line, sect_line, line_of_mark, line_of_sect}
use Rattle.doc_show.specs.Story.{paragraph_lines}
use Rattle.doc_show.specs.Walks.{is_unattached, alike_line}

-- ---- runs

-- the items from a place to another are plain and have the same properties
abbrev pub AreAlike : List Item → ℕ → ℕ → Properties → Type 0
AreAlike items from to chp =
    (k : ℕ) (item : Item) → from ≤ k → k < to → slice_get items k ≡ Some item →
    (is_plain_item item ≡ true) × (item.chp ≡ chp)

pub alike_by : (items : List Item) (from to : ℕ) (chp : Properties) (attached : Attached) → is_unattached attached ≡
    true →
    ((k : ℕ) (item : Item) → from ≤ k → k < to → slice_get items k ≡ Some item → item.chp ≡ chp) →
    ((k : ℕ) (item : Item) → from ≤ k → k < to → slice_get items k ≡ Some item → attached_of item ≡ attached) →
    AreAlike items from to chp
alike_by items from to chp attached bare chps attachments = λ k item le until here. (
  ap is_unattached (attachments k item le until here) ∙ bare,
  chps k item le until here,
)

-- two stretches of such items one behind the other
pub alike_on : (items : List Item) (from to end : ℕ) (first next : Properties) (attached : Attached) →
    AreAlike items from to first → true ≡ (is_unattached attached && same_properties first next) →
    ((k : ℕ) (item : Item) → to ≤ k → k < end → slice_get items k ≡ Some item → item.chp ≡ next) →
    ((k : ℕ) (item : Item) → to ≤ k → k < end → slice_get items k ≡ Some item → attached_of item ≡ attached) →
    AreAlike items from end first
alike_on items from to end first next attached before same chps attachments = λ k item le until here.
    let both = both_are (is_unattached attached) (same_properties first next) same in
    let one : first ≡ next = (equal_are_same first next).0 both.1 in
    elim (cases_lt k to) [
      | inl early ↦ before k item le early here
      | inr late ↦ (let more = alike_by items to end next attached both.0 chps attachments k item (omega (arith, late))
          until
          here in
          (more.0, more.1 ∙ sym one))
    ]

-- they are of one run
pub alike_joined : (items : List Item) (from to : ℕ) (chp : Properties) → AreAlike items from to chp →
    (k : ℕ) (item next : Item) → from ≤ k → k + 1 < to → slice_get items k ≡ Some item →
    slice_get items (k + 1) ≡ Some next → is_one_run item next ≡ true
alike_joined items from to chp alike k item next le until here there =
    let one = alike k item le (omega (arith, until)) here in
    let other = alike (k + 1) next (omega (arith, le)) until there in
    (λ i. one.0 i && (other.0 i && same_properties (one.1 i) (other.1 i))) ∙ (equal_are_same chp chp).1 refl

-- the run ends before an item that is not plain or has other properties
pub alike_ends : (items : List Item) (from to end : ℕ) (first next : Properties) (attached : Attached) → from < to →
    to < end →
    AreAlike items from to first → false ≡ (is_unattached attached && same_properties first next) →
    ((k : ℕ) (item : Item) → to ≤ k → k < end → slice_get items k ≡ Some item → item.chp ≡ next) →
    ((k : ℕ) (item : Item) → to ≤ k → k < end → slice_get items k ≡ Some item → attached_of item ≡ attached) →
    (one other : Item) → slice_get items (to - 1) ≡ Some one → slice_get items to ≡ Some other →
    is_one_run one other ≡ false
alike_ends items from to end first next attached some more alike apart chps attachments one other here there =
    let last = alike (to - 1) one (omega (arith, some)) (omega (arith, some)) here in
    let chp = chps to other (omega arith) more there in
    let plain : is_plain_item other ≡ is_unattached attached = ap is_unattached (attachments to other (omega arith) more
    there) in
    (λ i. last.0 i && (plain i && same_properties (last.1 i) (chp i))) ∙ sym apart

run_line_of : (xs : List Item) (x : Item) → slice_get xs 0 ≡ Some x →
    run_line xs ≡ alike_line (attached_of x) x.chp (map (λ item. item.unit) xs)
run_line_of [] x is = absurd (cc)
run_line_of (y ∷ ys) x is =
    ap (λ (z : Item). alike_line (attached_of z) z.chp (map (λ (item : Item). item.unit) (y ∷ ys))) (same_Some y x is)

-- the line of the items of a range
pub run_line-range : (parts : Parts) → AreFullParts parts → (at to end : ℕ) (chp : Properties) (attached : Attached) →
    at <
    to →
    to ≤ length parts.units.now → at < end →
    ((k : ℕ) (item : Item) → at ≤ k → k < end → slice_get (items_in parts) k ≡ Some item → item.chp ≡ chp) →
    ((k : ℕ) (item : Item) → at ≤ k → k < end → slice_get (items_in parts) k ≡ Some item → attached_of item ≡ attached)
    →
    run_line (slice_range (items_in parts) at to) ≡ alike_line attached chp (slice_range parts.units.now at to)
run_line-range parts are at to end chp attached some within first chps attachments =
    let items = items_in parts in
    let part = slice_range items at to in
    let long : length part ≡ to - at = range_long items at to (omega (arith, items_long parts are, within)) in
    let one = there_is part 0 (omega (arith, long, some)) in
    let place : at + 0 ≡ at = omega arith in
    let here : slice_get items at ≡ Some one.0 =
    subst (λ n. slice_get items n ≡ Some one.0) place (range_got items at to 0 one.0 one.1) in
    let unit : Item → ℕ = λ item. item.unit in
    let units : map unit part ≡ slice_range parts.units.now at to =
    sym (take-map unit (to - at) (drop at items)) ∙ ap (take (to - at)) (sym (drop-map unit at items))
    ∙ ap (λ (us : List ℕ). slice_range us at to) (units_are parts are) in
    let one_chp = chps at one.0 (omega arith) first here in
    let one_attached = attachments at one.0 (omega arith) first here in
    run_line_of part one.0 one.1 ∙ (λ i. alike_line (one_attached i) (one_chp i) (units i))

-- ---- paragraphs

-- a paragraph of the text
pub begins_paragraph : (parts : Parts) → AreFullParts parts → (from to : ℕ) → from < to → to ≤ length parts.units.now →
    ((k : ℕ) (attached : Attached) → from ≤ k → k + 1 < to → slice_get (expanded parts.attachments.now) k ≡ Some
    attached →
    attached.mark ≡ None) →
    (to < length parts.units.now → (attached : Attached) → slice_get (expanded parts.attachments.now) (to - 1) ≡ Some
    attached →
    IsSome attached.mark) →
    BeginsStretch is_inside (slice_range (items_in parts) from (length parts.units.now)) (to - from)
begins_paragraph parts are from to some within inside ends =
    begins_range is_inside (items_in parts) from to (length parts.units.now) some within
    (omega (arith, items_long parts are))
    (λ k x y le until here there. no_mark x y (inside k (attached_of x) le until (attached_there parts are k x here)))
    (λ more x y here there. a_mark x y (ends more (attached_of x) (attached_there parts are (to - 1) x here)))

-- its lines, by what is beside its last item
pub paragraph-range : (parts : Parts) → AreFullParts parts → (from to : ℕ) (attached : Attached) → from < to →
    to ≤ length parts.units.now → slice_get (expanded parts.attachments.now) (to - 1) ≡ Some attached →
    paragraph_lines (slice_range (items_in parts) from to)
    ≡ mark_line attached.mark ++ (flat_map run_line (stretches is_one_run (slice_range (items_in parts) from to))
    ++ sect_line attached.sect)
paragraph-range parts are from to attached some within last =
    let items = items_in parts in
    let part = slice_range items from to in
    let runs = flat_map run_line (stretches is_one_run part) in
    let long : length part ≡ to - from = range_long items from to (omega (arith, items_long parts are, within)) in
    let one = there_is part (length part - 1) (omega (arith, long, some)) in
    let place : from + (length part - 1) ≡ to - 1 = omega (arith, long, some) in
    let here : slice_get items (to - 1) ≡ Some one.0 =
    subst (λ n. slice_get items n ≡ Some one.0) place (range_got items from to (length part - 1) one.0 one.1) in
    let same : attached_of one.0 ≡ attached =
    same_Some (attached_of one.0) attached (sym (attached_there parts are (to - 1) one.0 here) ∙ last) in
    ap (λ (o : Option Item). line_of_mark o ++ (runs ++ line_of_sect o)) one.1
    ∙ ap (λ (b : Attached). mark_line b.mark ++ (runs ++ sect_line b.sect)) same

-- three texts one behind the other
pub three_put : (start one two three p q s : List ℕ) → one ≡ start ++ p → two ≡ one ++ q → three ≡ two ++ s →
    three ≡ start ++ (p ++ (q ++ s))
three_put start one two three p q s e f g =
    g
    ∙ ap (λ t. t ++ s) (f ∙ ap (λ t. t ++ q) e)
    ∙ append_assoc (start ++ p) q s
    ∙ append_assoc start p (q ++ s)

-- all of a text is a range of it
pub whole_range : (parts : Parts) → AreFullParts parts → slice_range (items_in parts) 0 (length parts.units.now) ≡
    items_in
    parts
whole_range parts are =
    let none : length parts.units.now - 0 ≡ length parts.units.now = omega arith in
    ap (λ n. take n (items_in parts)) none
    ∙ take_all (length parts.units.now) (items_in parts) (omega (arith, items_long parts are))
