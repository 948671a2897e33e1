-- In a text whose rows became paragraphs no row breaks the rule any more.
use Rattle.std.proofs.Common.{◌≡◌, ◌∙◌, ap, sym, refl, subst, ℕ, zero, suc, ◌+◌, ◌-◌, ◌≤◌, ◌==◌, Bool, true, false, inl, inr}
use Rattle.std.proofs.Common.{List, [], ◌∷◌, ◌++◌, length, take, drop, map, arith, Option, Some, None, slice_get, not}
use Rattle.std.proofs.Common.{add-one, append_assoc, cond}
use Rattle.std.specs.Prelude.{All, ◌||◌, slice_range, if◌then◌else◌}
use Rattle.std.specs.List.{count_by, filter_map}
use Rattle.std.proofs.Math.Seq.{take-append_seam, drop-append_seam}
use Rattle.std.proofs.lemmas.Bool.{cases_Bool, eqb-true, or_parts, or_right}
use Rattle.std.proofs.lemmas.List.{length-append, length-map, append-nil, drop_all}
use Rattle.std.proofs.lemmas.List.Elements.{All-nil, All-push}
use Rattle.std.proofs.lemmas.List.Sums.{fold-append, sum_by-cons, sum_by-append}
use Rattle.doc_bits.proofs.Public.{range_mid, there_is}
use Rattle.doc_bits.specs.declared.places.Story.TheVariants.{Main}
use Rattle.doc_parts.specs.Tabulated.{tabulate}
use Rattle.doc_model.specs.declared.item.Item.{Item}
use Rattle.plain_doc.specs.Rows.{is_row_mark, is_cell_mark, is_mark_outside, paragraph_value, FitsRow}
use Rattle.plain_doc.specs.Rows.{BreaksRows}
use Rattle.plain_doc.proofs.Public.{open_cells-nil}
use Rattle.doc_patch.specs.Changes.{map_range}
use Rattle.doc_losses.proofs.Public.{listed_more}
use Rattle.doc_mends.specs.declared.mends.BrokenRow.{BrokenRow}
use Rattle.doc_mends.specs.BrokenRows.{parts_rows, open_length, cells_of_row, names_cells, fits_row}
use Rattle.doc_mends.specs.BrokenRows.{fits_behind, mark_length, broken_row_at}
use Rattle.doc_mends.specs.PlainRows.{plain_item, row_plain, rows_plain, plain_text}
use Rattle.doc_mends.proofs.RowLemmas.{open_items-nil, length_more, cells_more, past}
use Rattle.doc_mends.proofs.WholeRowLemmas.{IsInside, FitsAndHas, inside_row, plain_row, fits_rule, parted, after_where}
use Rattle.run_lists.proofs.Public.{run_and_rest}

-- ---- rows found so far

-- a range between others
range_seam : {A : Type 0} (f : A → A) (front mid back : List A) (from to : ℕ) → from ≡ length front →
    to ≡ length front + length mid → map_range f (front ++ (mid ++ back)) from to ≡ front ++ (map f mid ++ back)
range_seam {A = A} f front mid back from to from_is to_is =
    let all : List A = front ++ (mid ++ back) in
    let first : take from all ≡ front = ap (λ (n : ℕ). take n all) from_is ∙ take-append_seam front (mid ++ back) in
    let range : slice_range all from to ≡ mid = range_mid all front mid back from to refl from_is to_is in
    let end : to ≡ length (front ++ mid) = to_is ∙ sym (length-append front mid) in
    let last : drop to all ≡ back =
    ap (drop to) (sym (append_assoc front mid back))
    ∙ (ap (λ (n : ℕ). drop n ((front ++ mid) ++ back)) end ∙ drop-append_seam (front ++ mid) back) in
    ap (λ (t : List A). t ++ (map f (slice_range all from to) ++ drop to all)) first
    ∙ (ap (λ (t : List A). front ++ (map f t ++ drop to all)) range
    ∙ ap (λ (t : List A). front ++ (map f mid ++ t)) last)

abbrev found : List Item → ℕ → List BrokenRow
found text at = filter_map (λ (o : Option BrokenRow). o) (tabulate (broken_row_at Main text) at)

-- the rows before a place became paragraphs, and then comes the row that is open there
record IsDone (text : List Item) (at : ℕ) : Type 0 where
  front : List Item
  row : List Item
  same : rows_plain (found text at) text ≡ front ++ (row ++ drop at text)
  len : length front + length row ≡ at
  long : open_length (take at text) ≡ length row
  cells : cells_of_row (take at text) ≡ count_by is_cell_mark row
  fits : FitsAndHas front 0
  inside : All IsInside row

nothing_done : (text : List Item) → IsDone text 0
unfolding tabulate
nothing_done text = record {
  front = [];
  row = [];
  same = refl;
  len = refl;
  long = ap length open_items-nil;
  cells = ap (count_by is_cell_mark) open_items-nil;
  fits = (λ i item is. absurd (cc is), open_cells-nil);
  inside = All-nil IsInside;
}

none_found : (text : List Item) (at : ℕ) → broken_row_at Main text at ≡ None → found text (at + 1) ≡ found text at
none_found text at is =
    listed_more (broken_row_at Main text) at
    ∙ (ap (λ (o : Option BrokenRow). found text at ++ filter_map (λ (p : Option BrokenRow). p) (o ∷ [])) is
    ∙ append-nil (found text at))

one_found : (text : List Item) (at : ℕ) (row : BrokenRow) → broken_row_at Main text at ≡ Some row →
    rows_plain (found text (at + 1)) text ≡ row_plain (rows_plain (found text at) text) row
one_found text at row is =
    ap (λ (rows : List BrokenRow). rows_plain rows text) (listed_more (broken_row_at Main text) at
    ∙ ap (λ (o : Option BrokenRow). found text at ++ filter_map (λ (p : Option BrokenRow). p) (o ∷ [])) is)
    ∙ fold-append row_plain text (found text at) (row ∷ [])

if_fits : {A : Type 0} (fits : Bool) (row : A) → fits ≡ true → (if◌then◌else◌ {A = Option A} fits None (Some row)) ≡ None
if_fits true row is = refl
if_fits false row is = absurd (cc is)

if_not : {A : Type 0} (fits : Bool) (row : A) → fits ≡ false →
    (if◌then◌else◌ {A = Option A} fits None (Some row)) ≡ Some row
if_not true row is = absurd (cc is)
if_not false row is = refl

abbrev row_there : List Item → ℕ → BrokenRow
row_there text at = record {
  story = Main;
  from = at - open_length (take at text);
  len = open_length (take at text) + mark_length (slice_get text at);
  cells = cells_of_row (take at text);
}

fits_there : (text : List Item) (at : ℕ) → fits_behind (cells_of_row (take at text)) (slice_get text at) ≡ true →
    broken_row_at Main text at ≡ None
fits_there text at is =
    if_fits (fits_behind (cells_of_row (take at text)) (slice_get text at)) (row_there text at) is

breaks_there : (text : List Item) (at : ℕ) → fits_behind (cells_of_row (take at text)) (slice_get text at) ≡ false →
    broken_row_at Main text at ≡ Some (row_there text at)
breaks_there text at is =
    if_not (fits_behind (cells_of_row (take at text)) (slice_get text at)) (row_there text at) is

-- ---- one item more

-- the items up to an item, and those behind it
cut_at : (text : List Item) (at : ℕ) (item : Item) (done : IsDone text at) → slice_get text at ≡ Some item →
    rows_plain (found text at) text ≡ done.front ++ (done.row ++ item ∷ drop (at + 1) text)
cut_at text at item done is =
    done.same ∙ ap (λ (t : List Item). done.front ++ (done.row ++ t)) (run_and_rest text at item is)

if_true : {A : Type 0} (b : Bool) (x y : A) → b ≡ true → (if b then x else y) ≡ x
if_true true x y is = refl
if_true false x y is = absurd (cc is)

if_false : {A : Type 0} (b : Bool) (x y : A) → b ≡ false → (if b then x else y) ≡ y
if_false true x y is = absurd (cc is)
if_false false x y is = refl

inside_so : (row outside named : Bool) (cells : ℕ) → (row || outside) ≡ false →
    (if row then named else (cells == 0 || not outside)) ≡ true
inside_so true outside named cells is = absurd (cc is)
inside_so false true named cells is = absurd (cc is)
inside_so false false named cells is = or_right (cells == 0) true refl

-- an item of the open row
inside_step : (text : List Item) (at : ℕ) (item : Item) → IsDone text at → slice_get text at ≡ Some item →
    parts_rows item ≡ false → IsDone text (at + 1)
inside_step text at item done is inside =
    let fit : fits_behind (cells_of_row (take at text)) (slice_get text at) ≡ true =
    ap (fits_behind (cells_of_row (take at text))) is
    ∙ inside_so (is_row_mark item) (is_mark_outside item) (names_cells (cells_of_row (take at text)) (paragraph_value
    item 0xD608)) (cells_of_row (take at text)) inside in
    let long : length (done.row ++ item ∷ []) ≡ length done.row + 1 = length-append done.row (item ∷ []) in
    let sum : count_by is_cell_mark (done.row ++ item ∷ []) ≡ count_by is_cell_mark done.row + count_by is_cell_mark
    (item ∷ []) = sum_by-append (λ (x : Item). cond (is_cell_mark x) 1 0) done.row (item ∷ []) in
    let one : count_by is_cell_mark (item ∷ []) ≡ cond (is_cell_mark item) 1 0 + 0 =
    sum_by-cons (λ (x : Item). cond (is_cell_mark x) 1 0) item [] in
    let parts = or_parts (is_row_mark item) (is_mark_outside item) inside in
    let before = done.len in
    record {
      front = done.front;
      row = done.row ++ item ∷ [];
      same = ap (λ (rows : List BrokenRow). rows_plain rows text) (none_found text at (fits_there text at fit))
          ∙ (cut_at text at item done is
          ∙ ap (λ (t : List Item). done.front ++ t) (sym (append_assoc done.row (item ∷ []) (drop (at + 1) text))));
      len = omega (arith, long, before);
      long = length_more text at item is
          ∙ (if_false (parts_rows item) 0 (open_length (take at text) + 1) inside
          ∙ (ap (λ (n : ℕ). n + 1) done.long ∙ sym long));
      cells = cells_more text at item is
          ∙ (if_false (parts_rows item) 0 (if is_cell_mark item then cells_of_row (take at text) + 1 else cells_of_row
          (take at text)) inside
          ∙ (after_where false (is_cell_mark item) (cells_of_row (take at text)) refl
          ∙ (ap (λ (n : ℕ). n + cond (is_cell_mark item) 1 0) done.cells ∙ omega (arith, sum, one))));
      fits = done.fits;
      inside = All-push IsInside done.row item done.inside inside;
    }

-- what is known behind an item that parts rows
behind_parted : (text front : List Item) (at : ℕ) (item : Item) → slice_get text at ≡ Some item →
    parts_rows item ≡ true → rows_plain (found text (at + 1)) text ≡ front ++ drop (at + 1) text →
    length front ≡ at + 1 → FitsAndHas front 0 → IsDone text (at + 1)
behind_parted text front at item is parts same len fits = record {
  front = front;
  row = [];
  same = same;
  len = omega (arith, len);
  long = length_more text at item is ∙ if_true (parts_rows item) 0 (open_length (take at text) + 1) parts;
  cells = cells_more text at item is
      ∙ if_true (parts_rows item) 0 (if is_cell_mark item then cells_of_row (take at text) + 1 else cells_of_row
      (take at text)) parts;
  fits = fits;
  inside = All-nil IsInside;
}

-- the cells of the row that is open
row_fits : (text : List Item) (at : ℕ) (done : IsDone text at) →
    FitsAndHas (done.front ++ done.row) (cells_of_row (take at text))
row_fits text at done =
    let all = inside_row done.row done.front 0 done.fits done.inside in
    let cells = done.cells in (all.0, all.1 ∙ omega (arith, cells))

-- an item that parts rows and fits
fit_step : (text : List Item) (at : ℕ) (item : Item) → IsDone text at → slice_get text at ≡ Some item →
    parts_rows item ≡ true → fits_row (cells_of_row (take at text)) item ≡ true → IsDone text (at + 1)
fit_step text at item done is parts fit =
    let fits_it : fits_behind (cells_of_row (take at text)) (slice_get text at) ≡ true =
    ap (fits_behind (cells_of_row (take at text))) is ∙ fit in
    let both : List Item = done.front ++ done.row in
    let rest : List Item = drop (at + 1) text in
    let len : length both ≡ at = length-append done.front done.row ∙ done.len in
    let more : length (both ++ item ∷ []) ≡ length both + 1 = length-append both (item ∷ []) in
    behind_parted text (both ++ item ∷ []) at item is parts
    (ap (λ (rows : List BrokenRow). rows_plain rows text) (none_found text at (fits_there text at fits_it))
    ∙ (cut_at text at item done is
    ∙ (sym (append_assoc done.front done.row (item ∷ rest)) ∙ sym (append_assoc both (item ∷ []) rest))))
    (omega (arith, len, more))
    (parted both (cells_of_row (take at text)) item (row_fits text at done)
    (fits_rule (cells_of_row (take at text)) item fit) parts)

broken_from : (text : List Item) (at : ℕ) (done : IsDone text at) →
    at - open_length (take at text) ≡ length done.front
broken_from text at done =
    let long = done.long in
    let len = done.len in
    omega (arith, long, len)

-- a row mark that does not fit is of the row
row_mark_step : (text : List Item) (at : ℕ) (item : Item) → IsDone text at → slice_get text at ≡ Some item →
    parts_rows item ≡ true → fits_row (cells_of_row (take at text)) item ≡ false → is_row_mark item ≡ true →
    IsDone text (at + 1)
row_mark_step text at item done is parts fit mark =
    let breaks : fits_behind (cells_of_row (take at text)) (slice_get text at) ≡ false =
    ap (fits_behind (cells_of_row (take at text))) is ∙ fit in
    let broken : BrokenRow = row_there text at in
    let rest : List Item = drop (at + 1) text in
    let whole : List Item = done.row ++ item ∷ [] in
    let whole_len : length whole ≡ length done.row + 1 = length-append done.row (item ∷ []) in
    let own : mark_length (slice_get text at) ≡ 1 =
    ap mark_length is ∙ if_true (is_row_mark item) 1 0 mark in
    let from : broken.from ≡ length done.front = broken_from text at done in
    let size : broken.len ≡ open_length (take at text) + mark_length (slice_get text at) = refl in
    let long = done.long in
    let to : broken.from + broken.len ≡ length done.front + length whole = omega (arith, from, size, long, own, whole_len) in
    let text_is : rows_plain (found text at) text ≡ done.front ++ (whole ++ rest) =
    cut_at text at item done is
    ∙ ap (λ (t : List Item). done.front ++ t) (sym (append_assoc done.row (item ∷ []) rest)) in
    let made : List Item = map plain_item whole in
    let made_len : length made ≡ length whole = length-map whole plain_item in
    let all_len : length (done.front ++ made) ≡ length done.front + length made = length-append done.front made in
    let before = done.len in
    behind_parted text (done.front ++ made) at item is parts
    (one_found text at broken (breaks_there text at breaks)
    ∙ (ap (λ (t : List Item). row_plain t broken) text_is
    ∙ (range_seam plain_item done.front whole rest broken.from (broken.from + broken.len) from to
    ∙ sym (append_assoc done.front made rest))))
    (omega (arith, all_len, made_len, whole_len, before))
    (plain_row whole done.front done.fits)

-- a mark outside of tables that does not fit is behind the row
outside_step : (text : List Item) (at : ℕ) (item : Item) → IsDone text at → slice_get text at ≡ Some item →
    parts_rows item ≡ true → fits_row (cells_of_row (take at text)) item ≡ false → is_row_mark item ≡ false →
    IsDone text (at + 1)
outside_step text at item done is parts fit mark =
    let breaks : fits_behind (cells_of_row (take at text)) (slice_get text at) ≡ false =
    ap (fits_behind (cells_of_row (take at text))) is ∙ fit in
    let broken : BrokenRow = row_there text at in
    let rest : List Item = drop (at + 1) text in
    let own : mark_length (slice_get text at) ≡ 0 =
    ap mark_length is ∙ if_false (is_row_mark item) 1 0 mark in
    let from : broken.from ≡ length done.front = broken_from text at done in
    let size : broken.len ≡ open_length (take at text) + mark_length (slice_get text at) = refl in
    let long = done.long in
    let to : broken.from + broken.len ≡ length done.front + length done.row = omega (arith, from, size, long, own) in
    let made : List Item = map plain_item done.row in
    let both : List Item = done.front ++ made in
    let made_len : length made ≡ length done.row = length-map done.row plain_item in
    let both_len : length both ≡ length done.front + length made = length-append done.front made in
    let all_len : length (both ++ item ∷ []) ≡ length both + 1 = length-append both (item ∷ []) in
    let before = done.len in
    let fits : FitsRow 0 item = record { row = λ it_is. absurd (cc (sym mark ∙ it_is)); outside = λ it_is. refl } in
    behind_parted text (both ++ item ∷ []) at item is parts
    (one_found text at broken (breaks_there text at breaks)
    ∙ (ap (λ (t : List Item). row_plain t broken) (cut_at text at item done is)
    ∙ (range_seam plain_item done.front done.row (item ∷ rest) broken.from (broken.from + broken.len) from to
    ∙ (sym (append_assoc done.front made (item ∷ rest)) ∙ sym (append_assoc both (item ∷ []) rest)))))
    (omega (arith, all_len, both_len, made_len, before))
    (parted both 0 item (plain_row done.row done.front done.fits) fits parts)

one_done : (text : List Item) (at : ℕ) (item : Item) → IsDone text at → slice_get text at ≡ Some item →
    IsDone text (at + 1)
one_done text at item done is = elim (cases_Bool (parts_rows item)) [
  | inl parts ↦ elim (cases_Bool (fits_row (cells_of_row (take at text)) item)) [
    | inl fit ↦ fit_step text at item done is parts fit
    | inr breaks ↦ elim (cases_Bool (is_row_mark item)) [
      | inl mark ↦ row_mark_step text at item done is parts breaks mark
      | inr outside ↦ outside_step text at item done is parts breaks outside
    ]
  ]
  | inr inside ↦ inside_step text at item done is inside
]

all_done : (text : List Item) (at : ℕ) → at ≤ length text → IsDone text at
all_done text zero low = nothing_done text
all_done text (suc at) low =
    let it = there_is text at (omega (arith, low)) in
    subst (IsDone text) (add-one at) (one_done text at it.0 (all_done text at (omega (arith, low))) it.1)

-- ---- the end of the text

end_fits : (text : List Item) (done : IsDone text (length text)) →
    (cells_of_row (take (length text) text) == 0) ≡ true → FitsAndHas (plain_text text) 0
end_fits text done none =
    let at : ℕ = length text in
    let behind : slice_get text at ≡ None = past text at (omega arith) in
    let fit : fits_behind (cells_of_row (take at text)) (slice_get text at) ≡ true =
    ap (fits_behind (cells_of_row (take at text))) behind ∙ none in
    let row = row_fits text at done in
    let rest : drop at text ≡ [] = drop_all at text (omega arith) in
    let same : plain_text text ≡ done.front ++ done.row =
    ap (λ (rows : List BrokenRow). rows_plain rows text) (none_found text at (fits_there text at fit))
    ∙ (done.same
    ∙ (ap (λ (t : List Item). done.front ++ (done.row ++ t)) rest
    ∙ ap (λ (t : List Item). done.front ++ t) (append-nil done.row))) in
    subst (λ (t : List Item). FitsAndHas t 0) (sym same)
    (row.0, row.1 ∙ eqb-true (cells_of_row (take at text)) 0 none)

end_breaks : (text : List Item) (done : IsDone text (length text)) →
    (cells_of_row (take (length text) text) == 0) ≡ false → FitsAndHas (plain_text text) 0
end_breaks text done some =
    let at : ℕ = length text in
    let behind : slice_get text at ≡ None = past text at (omega arith) in
    let breaks : fits_behind (cells_of_row (take at text)) (slice_get text at) ≡ false =
    ap (fits_behind (cells_of_row (take at text))) behind ∙ some in
    let broken : BrokenRow = row_there text at in
    let own : mark_length (slice_get text at) ≡ 0 = ap mark_length behind in
    let from : broken.from ≡ length done.front = broken_from text at done in
    let size : broken.len ≡ open_length (take at text) + mark_length (slice_get text at) = refl in
    let long = done.long in
    let to : broken.from + broken.len ≡ length done.front + length done.row = omega (arith, from, size, long, own) in
    let made : List Item = map plain_item done.row in
    let rest : drop at text ≡ [] = drop_all at text (omega arith) in
    let same : plain_text text ≡ done.front ++ made =
    one_found text at broken (breaks_there text at breaks)
    ∙ (ap (λ (t : List Item). row_plain t broken) done.same
    ∙ (range_seam plain_item done.front done.row (drop at text) broken.from (broken.from + broken.len) from to
    ∙ (ap (λ (t : List Item). done.front ++ (made ++ t)) rest
    ∙ ap (λ (t : List Item). done.front ++ t) (append-nil made)))) in
    subst (λ (t : List Item). FitsAndHas t 0) (sym same) (plain_row done.row done.front done.fits)

pub text_whole : (text : List Item) → FitsAndHas (plain_text text) 0
text_whole text =
    let done = all_done text (length text) (omega arith) in
    elim (cases_Bool (cells_of_row (take (length text) text) == 0)) [
      | inl none ↦ end_fits text done none
      | inr some ↦ end_breaks text done some
    ]

-- ---- a whole text

pub no_row_breaks : (text : List Item) (place : ℕ) → FitsAndHas text 0 → ¬ (BreaksRows text place)
no_row_breaks text place is broken = elim broken [
  | inl wrong ↦ wrong.wrong (is.0 place wrong.item wrong.there)
  | inr end ↦ end.1 is.1
]
