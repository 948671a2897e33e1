-- Bookmarks are read as what they were written for, and from no other value.
use Rattle.std.proofs.Common.{◌≡◌, ◌<◌, ◌^◌, ℕ, zero, suc, List, [], ◌∷◌, Some, None}
use Rattle.std.proofs.Common.{length, get_or, refl, sym, ◌∙◌, subst, arith, All}
use Rattle.std.proofs.lemmas.Option.{none-some, same_Some}
use Rattle.serde_json.specs.Data.{array, Items, no_items, item}
use Rattle.serde_json.specs.Find.{as_array}
use Rattle.serde_json.specs.View.{items_view, view}
use Rattle.serde_json.specs.declared.value.Value.{Value}
use Rattle.edit_script.specs.Values.{position, short_number}
use Rattle.document_bookmarks.specs.declared.bookmark_order.Bookmark.{Bookmark}
use Rattle.document_bookmarks.specs.Bookmarks.{HasFileNumbers}
use Rattle.json_values.specs.Digits.{units_json, hex_units_of, AreUnits}
use Rattle.json_values.specs.Rows.{number_json}
use Rattle.json_values.proofs.Public.{digits_one, step_found}
use Rattle.json_doc.specs.Documents.{bookmark_json, bookmarks_json}
use Rattle.json_doc.specs.DocumentReading.{bookmark_of_items, bookmark_of}
use Rattle.json_doc.specs.StyleReading.{list_as}
use Rattle.json_doc.proofs.FieldLemmas.{numbers_one, number_is, units_are_one}
use Rattle.json_doc.proofs.ListLemmas.{array_is, lists_one}
use Rattle.json_doc.proofs.RowLemmas.{AreOne, then_found}
use Rattle.json_doc.proofs.StyleReadLemmas.{all_units}

-- units of 16 bits, place by place
units_all : (units : List ℕ) → AreUnits units → All (λ unit. unit < 2 ^ 16) units
units_all [] small k d less = absurd (omega (arith, less))
units_all (u ∷ us) small zero d less = small zero
units_all (u ∷ us) small (suc k) d less = units_all us (λ i. small (suc i)) k d (omega (arith, less))

mark_back : (b : Bookmark) → HasFileNumbers b → bookmark_of (bookmark_json b) ≡ Some b
mark_back b is =
    then_found (hex_units_of (units_json b.name)) _ b.name b (units_are_one.back b.name (all_units b.name is.units))
    (then_found (position (number_json b.from)) _ b.from b ((numbers_one (2 ^ 32)).back b.from is.from)
    (then_found (position (number_json b.to)) _ b.to b ((numbers_one (2 ^ 32)).back b.to is.to)
    (then_found (short_number (number_json b.flags)) _ b.flags b ((numbers_one (2 ^ 16)).back b.flags is.flags) refl)))

mark_items_one : (items : Items) (b : Bookmark) → bookmark_of_items items ≡ Some b →
    HasFileNumbers b × (array items ≡ bookmark_json b)
mark_items_one no_items b e = absurd (none-some b e)
mark_items_one (item u no_items) b e = absurd (none-some b e)
mark_items_one (item u (item v no_items)) b e = absurd (none-some b e)
mark_items_one (item u (item v (item x no_items))) b e = absurd (none-some b e)
mark_items_one (item u (item v (item x (item y (item z more))))) b e = absurd (none-some b e)
mark_items_one (item u (item v (item x (item y no_items)))) b e =
    let k = step_found (hex_units_of u) _ b e in
    let l = step_found (position v) _ b k.2 in
    let m = step_found (position x) _ b l.2 in
    let n = step_found (short_number y) _ b m.2 in
    let found : Bookmark = record { name = k.0; from = l.0; to = m.0; flags = n.0 } in
    let made : found ≡ b = same_Some found b n.2 in
    let name = digits_one.units_one u k.0 k.1 in
    let from = number_is (2 ^ 32) v l.0 l.1 in
    let to = number_is (2 ^ 32) x m.0 m.1 in
    let flags = number_is (2 ^ 16) y n.0 n.1 in
    subst (λ t. HasFileNumbers t × (array (item u (item v (item x (item y no_items)))) ≡ bookmark_json t)) made (
      record { units = units_all k.0 name.0; from = from.0; to = to.0; flags = flags.0 },
      λ t. array (item (name.1 t) (item (from.1 t) (item (to.1 t) (item (flags.1 t) no_items)))),
    )

marks_are_one : AreOne bookmark_of bookmark_json HasFileNumbers
marks_are_one = record {
  back = mark_back;
  one = λ value b order e.
      let a = step_found (as_array value) bookmark_of_items b e in
      let is = array_is value a.0 a.1 in
      let one = mark_items_one a.0 b a.2 in (one.0, is ∙ one.1);
}

pub bookmarks_one : AreOne (list_as bookmark_of) bookmarks_json (All HasFileNumbers)
bookmarks_one = lists_one marks_are_one

-- more or fewer values than four
pub not_four : (values : List Value) → (length values ≡ 4 → ⊥) → bookmark_of_items (items_view values) ≡ None
not_four [] other = refl
not_four (a ∷ []) other = refl
not_four (a ∷ b ∷ []) other = refl
not_four (a ∷ b ∷ c ∷ []) other = refl
not_four (a ∷ b ∷ c ∷ d ∷ []) other = absurd (other refl)
not_four (a ∷ b ∷ c ∷ d ∷ e ∷ more) other = refl

-- a bookmark of its parts
abbrev pub bookmark_with : List ℕ → ℕ → ℕ → ℕ → Bookmark
bookmark_with name from to flags = record { name = name; from = from; to = to; flags = flags }

-- four values, place by place
pub four_values : (values : List Value) (a b c d : Value) → length values ≡ 4 → a ≡ get_or values 0 a →
    b ≡ get_or values 1 b → c ≡ get_or values 2 c → d ≡ get_or values 3 d →
    items_view values ≡ item (view a) (item (view b) (item (view c) (item (view d) no_items)))
four_values [] a b c d four first second third fourth = absurd (cc (four))
four_values (p ∷ []) a b c d four first second third fourth = absurd (cc (four))
four_values (p ∷ q ∷ []) a b c d four first second third fourth = absurd (cc (four))
four_values (p ∷ q ∷ r ∷ []) a b c d four first second third fourth = absurd (cc (four))
four_values (p ∷ q ∷ r ∷ s ∷ []) a b c d four first second third fourth = λ i.
    item (view (sym first i)) (item (view (sym second i)) (item (view (sym third i)) (item (view (sym fourth i))
    no_items)))
four_values (p ∷ q ∷ r ∷ s ∷ t ∷ more) a b c d four first second third fourth = absurd (cc (four))
