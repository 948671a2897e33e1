-- The rows of a text, one item after the other.
use Rattle.std.proofs.Common.{◌≡◌, ◌∙◌, ap, sym, refl, subst, ℕ, zero, suc, ◌+◌, ◌-◌, ◌<◌, ◌≤◌, Bool, true, false}
use Rattle.std.proofs.Common.{List, [], ◌∷◌, ◌++◌, length, map, take, reverse, arith, Option, Some, None, slice_get, cond, not}
use Rattle.std.proofs.Common.{add-one}
use Rattle.std.specs.Prelude.{All, if◌then◌else◌}
use Rattle.std.specs.List.{count_by, take_while, filter_map}
use Rattle.std.proofs.lemmas.List.{reverse-append, take_more}
use Rattle.std.proofs.lemmas.List.Elements.{All-nil, All-append, All-cons, filter_map-append}
use Rattle.std.proofs.lemmas.List.Sums.{take_while-cons, sum_by-cons}
use Rattle.std.proofs.lemmas.Option.{same_Some, slice_get_within, get_or_from_slice_get}
use Rattle.doc_bits.proofs.Public.{from_map, get-map, there_is}
use Rattle.doc_bits.specs.declared.places.Story.{Story}
use Rattle.doc_parts.specs.Tabulated.{tabulate}
use Rattle.doc_model.specs.declared.item.Item.{Item}
use Rattle.doc_model.specs.declared.item.Mark.{Mark}
use Rattle.plain_doc.specs.Rows.{is_row_mark, is_cell_mark}
use Rattle.doc_columns.specs.declared.attached.Attached.{Attached}
use Rattle.doc_columns.specs.Attached.{attached_of}
use Rattle.doc_mends.specs.declared.mends.BrokenRow.{BrokenRow}
use Rattle.doc_mends.specs.declared.rows.OpenRow.{OpenRow}
use Rattle.doc_mends.specs.BrokenRows.{parts_rows, open_items, open_length, cells_of_row, mark_length, marked_item}
use Rattle.doc_mends.specs.BrokenRows.{fits_behind, broken_row, broken_row_at, text_broken_rows}
use Rattle.doc_mends.specs.OpenRows.{IsOpenBefore}
use Rattle.document_bookmarks.proofs.Public.{one_at_most}
use Rattle.plain_doc.proofs.Public.{one_cell_more}

-- ---- the open row after one item more

pub open_items-nil : open_items [] ≡ []
unfolding open_items
open_items-nil = refl

other_way : {A : Type 0} (b : Bool) (x y : A) → cond (not b) x y ≡ cond b y x
other_way true x y = refl
other_way false x y = refl

pub open_items_more : (text : List Item) (at : ℕ) (item : Item) → slice_get text at ≡ Some item →
    open_items (take (at + 1) text) ≡ (if parts_rows item then [] else item ∷ open_items (take at text))
unfolding open_items
open_items_more text at item is =
    let such : Item → Bool = λ it. not (parts_rows it) in
    let here : take (at + 1) text ≡ take at text ++ item ∷ [] =
    take_more text at item (slice_get_within text at item is)
    ∙ ap (λ (y : Item). take at text ++ y ∷ []) (get_or_from_slice_get text at item item is) in
    let turned : reverse (take (at + 1) text) ≡ item ∷ reverse (take at text) =
    ap reverse here ∙ reverse-append (take at text) (item ∷ []) in
    ap (take_while such) turned
    ∙ (take_while-cons such item (reverse (take at text))
    ∙ other_way (parts_rows item) (item ∷ take_while such (reverse (take at text))) [])

length_where : (b : Bool) (item : Item) (items : List Item) → length (cond b [] (item ∷ items)) ≡ cond b 0 (length items + 1)
length_where true item items = refl
length_where false item items = sym (add-one (length items))

pub length_more : (text : List Item) (at : ℕ) (item : Item) → slice_get text at ≡ Some item →
    open_length (take (at + 1) text) ≡ (if parts_rows item then 0 else open_length (take at text) + 1)
length_more text at item is =
    ap length (open_items_more text at item is) ∙ length_where (parts_rows item) item (open_items (take at text))

count_where : (b : Bool) (item : Item) (items : List Item) → count_by is_cell_mark (cond b [] (item ∷ items)) ≡ cond b 0
    (count_by is_cell_mark (item ∷ items))
count_where true item items = refl
count_where false item items = refl

pub cells_more : (text : List Item) (at : ℕ) (item : Item) → slice_get text at ≡ Some item →
    cells_of_row (take (at + 1) text) ≡ (if parts_rows item then 0 else if is_cell_mark item then cells_of_row
    (take at text) + 1 else cells_of_row (take at text))
cells_more text at item is =
    let items = open_items (take at text) in
    let b = parts_rows item in
    ap (count_by is_cell_mark) (open_items_more text at item is)
    ∙ (count_where b item items
    ∙ (ap (λ (n : ℕ). cond b 0 n) (sum_by-cons (λ (x : Item). cond (is_cell_mark x) 1 0) item items)
    ∙ one_cell_more b (is_cell_mark item) (count_by is_cell_mark items)))

-- ---- an item by its unit and what is beside it

pub record IsItemOf (text : List Item) (at unit : ℕ) (mark : Option Mark) : Type 0 where
  pub item : Item
  pub there : slice_get text at ≡ Some item
  pub unit_is : item.unit ≡ unit
  pub mark_is : item.mark ≡ mark

pub item_there : (text : List Item) (at unit : ℕ) (attached : Attached) →
    slice_get (map (λ item. item.unit) text) at ≡ Some unit → slice_get (map attached_of text) at ≡ Some attached →
    IsItemOf text at unit attached.mark
item_there text at unit attached unit_is attached_is =
    let it = from_map (λ (item : Item). item.unit) text at unit unit_is in
    let same : attached_of it.0 ≡ attached =
    same_Some (attached_of it.0) attached (sym (get-map attached_of text at it.0 it.1.0) ∙ attached_is) in
    record {
      item = it.0;
      there = it.1.0;
      unit_is = it.1.1;
      mark_is = ap (λ (b : Attached). b.mark) same;
    }

-- ---- the loop over a text

bounds : (b cell : Bool) (len cells at : ℕ) → len ≤ at → cells ≤ len →
    (cond b 0 (len + 1) ≤ at + 1) × (cond b 0 (cond cell (cells + 1) cells) ≤ cond b 0 (len + 1))
bounds true cell len cells at within few = (omega arith, omega arith)
bounds false true len cells at within few = (omega (arith, within), omega (arith, few))
bounds false false len cells at within few = (omega (arith, within), omega (arith, few))

pub none_open : (text : List Item) (row : OpenRow) → row.len ≡ 0 → row.cells ≡ 0 → IsOpenBefore text 0 row
none_open text row len cells = record {
  len = len ∙ sym (ap length open_items-nil);
  cells = cells ∙ sym (ap (count_by is_cell_mark) open_items-nil);
  within = omega (arith, len);
  few = omega (arith, cells);
}

pub one_passed : (text : List Item) (at unit : ℕ) (mark : Option Mark) (row next : OpenRow) →
    IsOpenBefore text at row → IsItemOf text at unit mark →
    next.len ≡ (if parts_rows (marked_item unit mark) then 0 else row.len + 1) →
    next.cells ≡ (if parts_rows (marked_item unit mark) then 0 else if is_cell_mark (marked_item unit mark)
    then row.cells + 1 else row.cells) → IsOpenBefore text (at + 1) next
one_passed text at unit mark row next before it len cells =
    let item = it.item in
    let unit_is : unit ≡ item.unit = sym it.unit_is in
    let mark_is : mark ≡ item.mark = sym it.mark_is in
    let same : (if parts_rows (marked_item unit mark) then 0 else row.len + 1) ≡ (if parts_rows item then 0 else
    row.len + 1) =
    ap (λ (u : ℕ). if parts_rows (marked_item u mark) then 0 else row.len + 1) unit_is
    ∙ ap (λ (m : Option Mark). if parts_rows (marked_item item.unit m) then 0 else row.len + 1) mark_is in
    let also : (if parts_rows (marked_item unit mark) then 0 else if is_cell_mark (marked_item unit mark)
    then row.cells + 1 else row.cells) ≡ (if parts_rows item then 0 else if is_cell_mark item then row.cells + 1
    else row.cells) =
    ap (λ (u : ℕ). if parts_rows (marked_item u mark) then 0 else if is_cell_mark (marked_item u mark)
    then row.cells + 1 else row.cells) unit_is
    ∙ ap (λ (m : Option Mark). if parts_rows (marked_item item.unit m) then 0 else if is_cell_mark (marked_item
    item.unit m) then row.cells + 1 else row.cells) mark_is in
    let limits = bounds (parts_rows item) (is_cell_mark item) row.len row.cells at before.within before.few in
    let len_is = len ∙ same in
    let cells_is = cells ∙ also in
    record {
      len = len_is
          ∙ (ap (λ (n : ℕ). if parts_rows item then 0 else n + 1) before.len
          ∙ sym (length_more text at item it.there));
      cells = cells_is
          ∙ (ap (λ (n : ℕ). if parts_rows item then 0 else if is_cell_mark item then n + 1 else n) before.cells
          ∙ sym (cells_more text at item it.there));
      within = omega (arith, limits.0, len_is);
      few = omega (arith, limits.1, len_is, cells_is);
    }

-- what was found at an item is the row that breaks the rule there
pub found_there : (story : Story) (text : List Item) (at unit : ℕ) (mark : Option Mark) (row : OpenRow) →
    IsOpenBefore text at row → IsItemOf text at unit mark →
    broken_row story at row.len row.cells (Some (marked_item unit mark)) ≡ broken_row_at story text at
found_there story text at unit mark row before it =
    let len : ℕ = open_length (take at text) in
    let cells : ℕ = cells_of_row (take at text) in
    ap (λ (n : ℕ). broken_row story at n row.cells (Some (marked_item unit mark))) before.len
    ∙ (ap (λ (n : ℕ). broken_row story at len n (Some (marked_item unit mark))) before.cells
    ∙ (ap (λ (u : ℕ). broken_row story at len cells (Some (marked_item u mark))) (sym it.unit_is)
    ∙ (ap (λ (m : Option Mark). broken_row story at len cells (Some (marked_item it.item.unit m))) (sym it.mark_is)
    ∙ ap (broken_row story at len cells) (sym it.there))))

pub past : {A : Type 0} (xs : List A) (n : ℕ) → length xs ≤ n → slice_get xs n ≡ None
past [] n low = refl
past (x ∷ xs) zero low = absurd (omega (arith, low))
past (x ∷ xs) (suc n) low = past xs n (omega (arith, low))

-- and so at the end
pub found_last : (story : Story) (text : List Item) (row : OpenRow) → IsOpenBefore text (length text) row →
    broken_row story (length text) row.len row.cells None ≡ broken_row_at story text (length text)
found_last story text row before =
    let at : ℕ = length text in
    ap (λ (n : ℕ). broken_row story at n row.cells None) before.len
    ∙ (ap (λ (n : ℕ). broken_row story at (open_length (take at text)) n None) before.cells
    ∙ ap (broken_row story at (open_length (take at text)) (cells_of_row (take at text)))
    (sym (past text at (omega arith))))

-- ---- rows are within their text

open_where : (b : Bool) (n at : ℕ) → n ≤ at → cond b 0 (n + 1) ≤ suc at
open_where true n at low = omega arith
open_where false n at low = omega (arith, low)

pub open_within : (text : List Item) (at : ℕ) → at ≤ length text → open_length (take at text) ≤ at
open_within text zero low = let none = ap length open_items-nil in omega (arith, none)
open_within text (suc at) low =
    let it = there_is text at (omega (arith, low)) in
    let more : open_length (take (suc at) text) ≡ (if parts_rows it.0 then 0 else open_length (take at text) + 1) =
    ap (λ (n : ℕ). open_length (take n text)) (sym (add-one at)) ∙ length_more text at it.0 it.1 in
    let fits = open_where (parts_rows it.0) (open_length (take at text)) at (open_within text at (omega (arith, low))) in
    omega (arith, more, fits)

one_listed : {A : Type 0} (P : A → Type 0) (o : Option A) → ((x : A) → o ≡ Some x → P x) →
    All P (filter_map (λ (p : Option A). p) (o ∷ []))
one_listed P None each = All-nil P
one_listed P (Some x) each = All-cons P x [] (each x refl) (All-nil P)

pub listed_all : {A : Type 0} (P : A → Type 0) (f : ℕ → Option A) (n : ℕ) →
    ((k : ℕ) (x : A) → k < n → f k ≡ Some x → P x) → All P (filter_map (λ o. o) (tabulate f n))
unfolding tabulate
listed_all P f zero each = All-nil P
listed_all {A = A} P f (suc n) each =
    subst (All P) (sym (filter_map-append (λ (o : Option A). o) (tabulate f n) (f n ∷ [])))
    (All-append P (filter_map (λ (o : Option A). o) (tabulate f n)) (filter_map (λ (o : Option A). o) (f n ∷ []))
    (listed_all P f n (λ k x low is. each k x (omega (arith, low)) is))
    (one_listed P (f n) (λ x is. each n x (omega arith) is)))

-- the mark of a row is within the text
mark_within : (text : List Item) (at : ℕ) (o : Option Item) → slice_get text at ≡ o → at ≤ length text →
    at + mark_length o ≤ length text
mark_within text at None is low = omega (arith, low)
mark_within text at (Some item) is low =
    let one = one_at_most (is_row_mark item) in
    let here = slice_get_within text at item is in
    omega (arith, one, here)

row_within : (len at end more : ℕ) (b : Bool) (broken row : BrokenRow) → broken.from ≡ at - len →
    broken.len ≡ len + more → if◌then◌else◌ {A = Option BrokenRow} b None (Some broken) ≡ Some row → len ≤ at →
    at + more ≤ end → row.from + row.len ≤ end
row_within len at end more true broken row from long is short within = absurd (cc is)
row_within len at end more false broken row from long is short within =
    subst (λ (r : BrokenRow). r.from + r.len ≤ end) (same_Some broken row is)
    (omega (arith, from, long, short, within))

pub rows_within : (story : Story) (text : List Item) →
    All (λ row. row.from + row.len ≤ length text) (text_broken_rows story text)
rows_within story text =
    listed_all (λ (row : BrokenRow). row.from + row.len ≤ length text) (broken_row_at story text) (length text + 1)
    (λ at row low is.
    let short : at ≤ length text = omega (arith, low) in
    let len : ℕ = open_length (take at text) in
    let cells : ℕ = cells_of_row (take at text) in
    let more : ℕ = mark_length (slice_get text at) in
    row_within len at (length text) more (fits_behind cells (slice_get text at))
    (record { story = story; from = at - len; len = len + more; cells = cells }) row refl refl is
    (open_within text at short) (mark_within text at (slice_get text at) refl short))
