-- Rows that become paragraphs.
use Rattle.std.proofs.Common.{◌≡◌, ◌∙◌, ap, sym, refl, subst, ℕ, ◌+◌, ◌-◌, ◌<◌, ◌≤◌, Bool, true, false}
use Rattle.std.proofs.Common.{List, [], ◌∷◌, ◌++◌, length, map, take, drop, arith, Option, Some, None, slice_get, append_assoc}
use Rattle.std.proofs.Common.{slice_set}
use Rattle.std.specs.Prelude.{All, slice_range, option_map, if◌then◌else◌}
use Rattle.std.specs.Option.{ForSome, unwrap_or}
use Rattle.std.proofs.lemmas.List.{length-map, length-append, length-take-le, map-append, take-append-drop}
use Rattle.std.proofs.lemmas.List.Edits.{length-between, between_more}
use Rattle.std.proofs.lemmas.List.Elements.{All-head, All-tail}
use Rattle.std.proofs.lemmas.List.Sums.{fold_more}
use Rattle.std.proofs.lemmas.Option.{same_Some, slice_get_within, get_or_from_slice_get}
use Rattle.doc_bits.specs.declared.places.Story.{Story}
use Rattle.doc_bits.specs.declared.places.Story.TheVariants.{Main}
use Rattle.doc_bits.proofs.Public.{from_map, there_is}
use Rattle.prop_map.specs.Formed.{IsPropertyMap, paragraph_groups}
use Rattle.prop_map.proofs.Public.{without_formed}
use Rattle.doc_model.specs.declared.item.Item.{Item}
use Rattle.doc_model.specs.declared.item.Mark.{Mark}
use Rattle.doc_model.specs.declared.document.Document.{Document}
use Rattle.plain_doc.specs.declared.rules_texts.Side.{Side}
use Rattle.plain_doc.specs.declared.rules_texts.Side.TheVariants.{Notes, Heads}
use Rattle.doc_model.specs.Document.{HasPropertyMaps}
use Rattle.doc_model.proofs.Public.{length-splice}
use Rattle.doc_patch.specs.Changes.{changed_at, put_changed, map_range}
use Rattle.doc_losses.proofs.Public.{none_listed, none_joined, left_nil, right_nil, nothing_listed}
use Rattle.doc_mends.specs.declared.mends.BrokenRow.{BrokenRow}
use Rattle.doc_mends.specs.Sides.{side_name}
use Rattle.doc_mends.specs.BrokenRows.{open_length, cells_of_row, fits_behind, mark_length, broken_row, broken_row_at}
use Rattle.doc_mends.specs.BrokenRows.{text_broken_rows, texts_broken_rows, broken_rows}
use Rattle.doc_mends.specs.PlainRows.{table_codes, plain_mark, plain_item, row_plain, rows_plain, plain_text}
use Rattle.doc_mends.specs.PlainRows.{with_plain_rows}
use Rattle.doc_mends.proofs.RowLemmas.{rows_within}
use Rattle.doc_mends.proofs.TextLemmas.{same_map, put_next}

-- ---- a range of a list, changed entry by entry

pub none_changed : {A : Type 0} (f : A → A) (xs : List A) (from : ℕ) → map_range f xs from from ≡ xs
none_changed {A = A} f xs from =
    let none : from - from ≡ 0 = omega arith in
    ap (λ (n : ℕ). take from xs ++ (map f (take n (drop from xs)) ++ drop from xs)) none ∙ take-append-drop from xs

-- one entry more of the range
pub range_next : {A : Type 0} (f : A → A) (xs : List A) (from at : ℕ) → from ≤ at → at < length xs →
    changed_at (map_range f xs from at) at f ≡ map_range f xs from (at + 1)
range_next {A = A} f xs from at ordered low =
    let it = there_is xs at low in
    let front : List A = take from xs in
    let done : List A = map f (slice_range xs from at) in
    let rest : List A = drop (at + 1) xs in
    let front_len : length front ≡ from = length-take-le from xs (omega (arith, ordered, low)) in
    let done_len : length done ≡ at - from =
    length-map (slice_range xs from at) f ∙ length-between xs from at (omega (arith, low)) in
    let all_len : length (front ++ done) ≡ at =
    length-append front done ∙ omega (arith, front_len, done_len, ordered) in
    let range : slice_range xs from (at + 1) ≡ slice_range xs from at ++ it.0 ∷ [] =
    between_more xs from at it.0 ordered low
    ∙ ap (λ (x : A). slice_range xs from at ++ x ∷ []) (get_or_from_slice_get xs at it.0 it.0 it.1) in
    let made : map f (slice_range xs from (at + 1)) ≡ done ++ f it.0 ∷ [] =
    ap (map f) range ∙ map-append f (slice_range xs from at) (it.0 ∷ []) in
    ap (λ (t : List A). changed_at t at f) (sym (append_assoc front done (drop at xs)))
    ∙ (put_next f (front ++ done) xs at it.0 all_len it.1
    ∙ (ap (λ (t : List A). t ++ rest) (append_assoc front done (f it.0 ∷ []))
    ∙ (append_assoc front (done ++ f it.0 ∷ []) rest
    ∙ ap (λ (t : List A). front ++ (t ++ rest)) (sym made))))

-- an entry put in place of what it became
pub set_changed : {A : Type 0} (f : A → A) (xs : List A) (at : ℕ) (made : A) → slice_get (map f xs) at ≡ Some made →
    slice_set xs at made ≡ changed_at xs at f
set_changed {A = A} f xs at made is =
    let it = from_map f xs at made is in
    ap (λ (y : A). slice_set xs at y) (sym it.1.1) ∙ sym (ap (put_changed xs at f) it.1.0)

pub range_length : {A : Type 0} (f : A → A) (xs : List A) (from to : ℕ) → from ≤ to → to ≤ length xs →
    length (map_range f xs from to) ≡ length xs
range_length f xs from to ordered within =
    let all = length-splice xs (map f (slice_range xs from to)) from to ordered within in
    let made : length (map f (slice_range xs from to)) ≡ to - from =
    length-map (slice_range xs from to) f ∙ length-between xs from to within in
    omega (arith, all, made, ordered, within)

-- ---- rows of a text, one after the other

abbrev pub AreWithin : List BrokenRow → ℕ → Type 0
AreWithin rows len = All (λ row. row.from + row.len ≤ len) rows

pub row_length : (text : List Item) (row : BrokenRow) → row.from + row.len ≤ length text →
    length (row_plain text row) ≡ length text
row_length text row within = range_length plain_item text row.from (row.from + row.len) (omega arith) within

pub rows_length : (rows : List BrokenRow) (text : List Item) → AreWithin rows (length text) →
    length (rows_plain rows text) ≡ length text
rows_length [] text within = refl
rows_length (row ∷ rows) text within =
    let same : length (row_plain text row) ≡ length text =
    row_length text row (All-head (λ (r : BrokenRow). r.from + r.len ≤ length text) row rows within) in
    let rest : AreWithin rows (length (row_plain text row)) =
    subst (AreWithin rows) (sym same) (All-tail (λ (r : BrokenRow). r.from + r.len ≤ length text) row rows within) in
    rows_length rows (row_plain text row) rest ∙ same

pub plain_length : (text : List Item) → length (plain_text text) ≡ length text
plain_length text = rows_length (text_broken_rows Main text) text (rows_within Main text)

pub rows_more : (rows : List BrokenRow) (text : List Item) (k : ℕ) (row : BrokenRow) → slice_get rows k ≡ Some row →
    rows_plain (take (k + 1) rows) text ≡ row_plain (rows_plain (take k rows) text) row
rows_more rows text k row is =
    fold_more row_plain text rows k row (slice_get_within rows k row is)
    ∙ ap (row_plain (rows_plain (take k rows) text)) (get_or_from_slice_get rows k row row is)

-- ---- maps stay well formed

plain_some : (o : Option Mark) → ForSome o (λ mark. IsPropertyMap paragraph_groups mark.pap) →
    ForSome (option_map plain_mark o) (λ mark. IsPropertyMap paragraph_groups mark.pap)
plain_some None maps made is = absurd (cc is)
plain_some (Some mark) maps made is =
    subst (λ (m : Mark). IsPropertyMap paragraph_groups m.pap) (same_Some (plain_mark mark) made is)
    (without_formed paragraph_groups (table_codes mark.pap) mark.pap (maps mark refl))

pub plain_maps : (item : Item) → HasPropertyMaps item → HasPropertyMaps (plain_item item)
plain_maps item maps = record { chp = maps.chp; pap = plain_some item.mark maps.pap; sect = maps.sect }

-- ---- where no row breaks the rule

not_broken : (fits : Bool) (row other : BrokenRow) →
    if◌then◌else◌ {A = Option BrokenRow} fits None (Some row) ≡ None →
    if◌then◌else◌ {A = Option BrokenRow} fits None (Some other) ≡ None
not_broken true row other is = refl
not_broken false row other is = absurd (cc is)

by_another : (story other : Story) (at len cells : ℕ) (behind : Option Item) →
    broken_row story at len cells behind ≡ None → broken_row other at len cells behind ≡ None
by_another story other at len cells behind is =
    not_broken (fits_behind cells behind)
    (record { story = story; from = at - len; len = len + mark_length behind; cells = cells })
    (record { story = other; from = at - len; len = len + mark_length behind; cells = cells }) is

-- under any name
pub none_of_another : (story other : Story) (text : List Item) → text_broken_rows story text ≡ [] →
    text_broken_rows other text ≡ []
none_of_another story other text none =
    nothing_listed (broken_row_at other text) (length text + 1) (λ at low.
    by_another story other at (open_length (take at text)) (cells_of_row (take at text)) (slice_get text at)
    (none_listed (broken_row_at story text) (length text + 1) none at low))

pub plain_stays : (story : Story) (text : List Item) → text_broken_rows story text ≡ [] → plain_text text ≡ text
plain_stays story text none =
    ap (λ (rows : List BrokenRow). rows_plain rows text) (none_of_another story Main text none)

texts_stay : (side : Side) (texts : List (List Item)) → texts_broken_rows side texts ≡ [] →
    map plain_text texts ≡ texts
texts_stay side texts none =
    same_map plain_text texts (λ i text is.
    let right : text_broken_rows (side_name side i) (unwrap_or (slice_get texts i) []) ≡ [] =
    none_joined (λ (number : ℕ). text_broken_rows (side_name side number) (unwrap_or (slice_get texts number) []))
    (length texts) none i (slice_get_within texts i text is) in
    plain_stays (side_name side i) text
    (sym (ap (λ (o : Option (List Item)). text_broken_rows (side_name side i) (unwrap_or o [])) is) ∙ right))

pub document_stays : (document : Document) → broken_rows document ≡ [] → with_plain_rows document ≡ document
document_stays document none =
    let main : List BrokenRow = text_broken_rows Main document.main in
    let notes : List BrokenRow = texts_broken_rows Notes document.notes in
    let heads : List BrokenRow = texts_broken_rows Heads document.heads in
    let behind : notes ++ heads ≡ [] = right_nil main (notes ++ heads) none in
    ap (λ (t : List Item). record document {
      main = t;
      notes = map plain_text document.notes;
      heads = map plain_text document.heads;
    }) (plain_stays Main document.main (left_nil main (notes ++ heads) none))
    ∙ (ap (λ (t : List (List Item)). record document { notes = t; heads = map plain_text document.heads })
    (texts_stay Notes document.notes (left_nil notes heads behind))
    ∙ ap (λ (t : List (List Item)). record document { heads = t })
    (texts_stay Heads document.heads (right_nil notes heads behind)))
