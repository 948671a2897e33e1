-- Lists of runs that represent the same values.
use Rattle.std.proofs.Common.{◌≡◌, ℕ, refl, sym, ap, ◌∙◌, ◌<◌, ◌≤◌, List, length, map, get_or, Bool, true, false, not}
use Rattle.std.proofs.Common.{arith}
use Rattle.std.specs.Prelude.{slice_get}
use Rattle.std.proofs.lemmas.List.{same_lists, length-map}
use Rattle.std.proofs.lemmas.Option.{slice_get-get_or, get_or_from_slice_get}
use Rattle.run_lists.specs.declared.runs.Run.{Run}
use Rattle.run_lists.specs.declared.cursor.Cursor.{Cursor}
use Rattle.run_lists.specs.Spread.{expanded, total_len}
use Rattle.run_lists.proofs.Public.{extent_of}
use Rattle.doc_model.specs.declared.item.Item.{Item}
use Rattle.doc_columns.specs.Attached.{attached_of}
use Rattle.doc_columns.specs.Columns.{items_of}
use Rattle.doc_columns.proofs.ItemsOfLemmas.{items_of-maps}

-- a test that did not say other
pub not_false : (b : Bool) → false ≡ not b → true ≡ b
not_false true is = refl
not_false false is = absurd (cc)

-- a walk at the start is behind no place
pub begins_at_start : (cursor : Cursor) → cursor ≡ record { run = 0; begin = 0 } → cursor.begin ≤ 0
begins_at_start cursor is = let e : cursor.begin ≡ 0 = ap (λ (c : Cursor). c.begin) is in omega arith

-- a column has as many values as its text has items
pub column_long : {T : Type 0} (runs : List (Run T)) (text : List Item) (f : Item → T) (len : ℕ) →
    expanded runs ≡ map f text → len ≡ length text → total_len runs ≡ len
column_long runs text f len is long = extent_of runs (map f text) is ∙ length-map text f ∙ sym long

-- lists of one length that are the same place by place
pub whole_same : {T : Type 0} (xs ys : List T) (len : ℕ) → length xs ≡ len → length ys ≡ len →
    ((k : ℕ) → k < len → slice_get xs k ≡ slice_get ys k) → xs ≡ ys
whole_same xs ys len xs_long ys_long same =
    same_lists xs ys (xs_long ∙ sym ys_long) (λ k d within.
    let below : k < len = omega (arith, within, xs_long) in
    let there = slice_get-get_or xs k d within in
    sym (get_or_from_slice_get ys k (get_or xs k d) d (sym (same k below) ∙ there)))

-- texts whose columns are the same are the same
pub same_columns : (one other : List Item) → map (λ item. item.unit) one ≡ map (λ item. item.unit) other →
    map (λ item. item.chp) one ≡ map (λ item. item.chp) other → map attached_of one ≡ map attached_of other → one ≡
    other
same_columns one other units chps attachments =
    sym (items_of-maps one) ∙ (λ i. items_of (units i) (chps i) (attachments i)) ∙ items_of-maps other
