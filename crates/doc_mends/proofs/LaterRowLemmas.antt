-- No row breaks the rule either once references are cut and texts have ends.
use Rattle.std.proofs.Common.{◌≡◌, ◌∙◌, ap, sym, refl, subst, ℕ, zero, suc, ◌+◌, ◌-◌, ◌≤◌, ◌==◌, Bool, true, false, inl}
use Rattle.std.proofs.Common.{inr}
use Rattle.std.proofs.Common.{List, [], ◌∷◌, ◌++◌, length, take, map, arith, Option, Some, None, slice_get, not, add-one}
use Rattle.std.proofs.Common.{append_assoc}
use Rattle.std.specs.Prelude.{All, is_some, if◌then◌else◌}
use Rattle.std.specs.Option.{option_and_then, unwrap_or}
use Rattle.std.proofs.Math.Seq.{take-append_seam, take-length}
use Rattle.std.proofs.lemmas.Bool.{cases_Bool, eqb-true, and_left}
use Rattle.std.proofs.lemmas.List.{length-map, length-take-le, map-append, append-nil, take-append-le, take_more}
use Rattle.std.proofs.lemmas.Option.{same_Some, slice_get_within, get_or_from_slice_get}
use Rattle.doc_bits.specs.declared.places.Story.{Story}
use Rattle.doc_bits.specs.declared.places.Story.TheVariants.{Main, Note, Head}
use Rattle.doc_bits.specs.declared.places.Where.{Where}
use Rattle.doc_bits.specs.declared.places.Where.TheVariants as places
use Rattle.doc_bits.proofs.Public.{there_is, slice_get_push, slice_get_before, from_map, All_at}
use Rattle.doc_parts.specs.Tabulated.{tabulate}
use Rattle.doc_parts.proofs.Public.{tabulate-next, all_tabulated_below, length-tabulate}
use Rattle.text_codes.specs.Paragraph.{cell_mark}
use Rattle.fib_versions.specs.declared.further.Further.{Further}
use Rattle.doc_model.specs.declared.item.Item.{Item}
use Rattle.doc_model.specs.declared.document.Document.{Document}
use Rattle.plain_doc.specs.Rows.{is_row_mark, is_cell_mark, is_byte_one, paragraph_value, open_cells, cells_after}
use Rattle.plain_doc.specs.Rows.{FitsRow}
use Rattle.plain_doc.specs.RulesOfTexts.{text_of_place}
use Rattle.plain_doc.proofs.Public.{open_cells_more}
use Rattle.doc_columns.specs.Attached.{attached_of, has_something}
use Rattle.doc_losses.specs.References.{Names, mark_of_unit, where_named, marked_story, marked_story_at, head_begin}
use Rattle.doc_losses.specs.References.{head_at}
use Rattle.doc_mends.specs.Cuts.{unflagged, cut_text, cut_heads, references_cut}
use Rattle.doc_mends.specs.Ends.{is_ended, last_left, without_section, ending_item, ended_text, with_end}
use Rattle.doc_mends.specs.Ends.{with_ends}
use Rattle.doc_mends.specs.NormalMarks.{with_normal_marks}
use Rattle.doc_mends.specs.PlainRows.{plain_text, with_plain_rows}
use Rattle.doc_mends.specs.WholeRows.{MendedRowsAreWhole}
use Rattle.doc_mends.proofs.CutLemmas.{unflagged-append, unflagged-nil, unflagged-one}
use Rattle.doc_mends.proofs.FitRowLemmas.{RowsFit}
use Rattle.doc_mends.proofs.WholeRowLemmas.{FitsAndHas, fit_push}
use Rattle.doc_mends.proofs.WholeLemmas.{text_whole, no_row_breaks}
use Rattle.doc_columns.proofs.Public.{cells_onto_last}

-- ---- a reference

-- no row ends with it, and no cell
abbrev IsInert : Item → Type 0
IsInert item = (is_row_mark item ≡ false) × (is_cell_mark item ≡ false)

after_none : (row cell : Bool) (n : ℕ) → row ≡ false → cell ≡ false →
    (if row then 0 else if cell then n + 1 else n) ≡ n
after_none true cell n is never = absurd (cc is)
after_none false true n is never = absurd (cc never)
after_none false false n is never = refl

inert_after : (item : Item) (n : ℕ) → IsInert item → cells_after n item ≡ n
inert_after item n inert = after_none (is_row_mark item) (is_cell_mark item) n inert.0 inert.1

inert_unit : (item : Item) → (item.unit == cell_mark) ≡ false → IsInert item
inert_unit item unit = (
  and_left (item.unit == cell_mark) (is_byte_one (paragraph_value item 0x2417)) unit,
  and_left (item.unit == cell_mark) (not (is_byte_one (paragraph_value item 0x2417))) unit,
)

no_mark_of : (story : Story) → mark_of_unit story cell_mark ≡ None
no_mark_of Main = refl
no_mark_of (Note n) = refl
no_mark_of (Head n) = refl

other_unit : (names : Names) (story : Story) (cp unit : ℕ) →
    is_some (where_named names cp (mark_of_unit story unit)) ≡ true → (unit == cell_mark) ≡ false
other_unit names story cp unit is = elim (cases_Bool (unit == cell_mark)) [
  | inl same ↦
      let none : where_named names cp (mark_of_unit story unit) ≡ None =
      ap (λ (u : ℕ). where_named names cp (mark_of_unit story u)) (eqb-true unit cell_mark same)
      ∙ ap (where_named names cp) (no_mark_of story) in
      absurd (cc (sym (ap (λ (o : Option Further). is_some o) none) ∙ is))
  | inr other ↦ other
]

by_something : (some : Bool) (o : Option Further) →
    is_some (if◌then◌else◌ {A = Option Further} some None o) ≡ true → is_some o ≡ true
by_something true o is = absurd (cc is)
by_something false o is = is

inert_mark : (names : Names) (story : Story) (cp : ℕ) (item : Item) → is_some (marked_story names story cp item) ≡ true
    →
    IsInert item
inert_mark names story cp item is =
    inert_unit item
    (other_unit names story cp item.unit
    (by_something (has_something (attached_of item)) (where_named names cp (mark_of_unit story item.unit)) is))

-- ---- references are cut

-- an item that stays, or a reference that is cut
one_kept : (flag : Bool) (front : List Item) (item : Item) (n : ℕ) → FitsAndHas front n → FitsRow n item →
    (flag ≡ true → IsInert item) → FitsAndHas (front ++ (if flag then [] else item ∷ [])) (cells_after n item)
one_kept true front item n is fits inert =
    subst (λ (t : List Item). FitsAndHas t (cells_after n item)) (sym (append-nil front))
    (is.0, is.1 ∙ sym (inert_after item n (inert refl)))
one_kept false front item n is fits inert = (
  fit_push front item is.0 (subst (λ (c : ℕ). FitsRow c item) (sym is.1) fits),
  cells_onto_last front item ∙ ap (λ (c : ℕ). cells_after c item) is.1,
)

no_items : FitsAndHas [] (open_cells [])
no_items = (λ i item is. absurd (cc is), refl)

cut_front : (names : Names) (story : Story) (begin : ℕ) (text : List Item) → RowsFit text → (n : ℕ) →
    n ≤ length text → FitsAndHas (unflagged (map is_some (tabulate (marked_story_at names story begin text) n)) (take n
    text))
    (open_cells (take n text))
cut_front names story begin text fit zero low =
    subst (λ (t : List Item). FitsAndHas t (open_cells (take 0 text)))
    (sym (unflagged-nil (map is_some (tabulate (marked_story_at names story begin text) 0)))) no_items
cut_front names story begin text fit (suc n) low =
    let it = there_is text n (omega (arith, low)) in
    let item = it.0 in
    let f : ℕ → Option Further = marked_story_at names story begin text in
    let front : List Item = take n text in
    let flags : List Bool = map is_some (tabulate f n) in
    let more : List Bool = is_some (f n) ∷ [] in
    let flags_more : map is_some (tabulate f (n + 1)) ≡ flags ++ more =
    ap (map is_some) (tabulate-next f n) ∙ map-append is_some (tabulate f n) (f n ∷ []) in
    let items_more : take (n + 1) text ≡ front ++ item ∷ [] =
    take_more text n item (slice_get_within text n item it.1)
    ∙ ap (λ (x : Item). front ++ x ∷ []) (get_or_from_slice_get text n item item it.1) in
    let len : length flags ≡ length front =
    length-map (tabulate f n) is_some
    ∙ (length-tabulate f n ∙ sym (length-take-le n text (omega (arith, low)))) in
    let cut : unflagged (map is_some (tabulate f (n + 1))) (take (n + 1) text) ≡ unflagged flags front
    ++ (if is_some (f n) then [] else item ∷ []) =
    ap (λ (l : List Bool). unflagged l (take (n + 1) text)) flags_more
    ∙ (ap (λ (t : List Item). unflagged (flags ++ more) t) items_more
    ∙ (unflagged-append flags more front (item ∷ []) len
    ∙ ap (λ (t : List Item). unflagged flags front ++ t) (unflagged-one (is_some (f n)) item))) in
    let cells : open_cells (take (n + 1) text) ≡ cells_after (open_cells front) item =
    open_cells_more text n item (omega (arith, low)) (sym (get_or_from_slice_get text n item item it.1)) in
    let mark : f n ≡ marked_story names story (begin + n) item =
    ap (option_and_then (marked_story names story (begin + n))) it.1 in
    let one =
    one_kept (is_some (f n)) (unflagged flags front) item (open_cells front)
    (cut_front names story begin text fit n (omega (arith, low))) (fit n item it.1)
    (λ flagged. inert_mark names story (begin + n) item
    (sym (ap (λ (o : Option Further). is_some o) mark) ∙ flagged)) in
    let whole : FitsAndHas (unflagged (map is_some (tabulate f (n + 1))) (take (n + 1) text)) (open_cells
    (take (n + 1) text)) =
    subst (λ (t : List Item). FitsAndHas t (open_cells (take (n + 1) text))) (sym cut) (one.0, one.1 ∙ sym cells) in
    subst (λ (k : ℕ). FitsAndHas (unflagged (map is_some (tabulate f k)) (take k text)) (open_cells (take k text)))
    (add-one n) whole

cut_fits : (names : Names) (story : Story) (begin : ℕ) (text : List Item) → FitsAndHas text 0 →
    FitsAndHas (cut_text names story begin text) 0
cut_fits names story begin text is =
    let flags : List Bool = map is_some (tabulate (marked_story_at names story begin text) (length text)) in
    let all = cut_front names story begin text is.0 (length text) (omega arith) in
    let whole : FitsAndHas (unflagged flags text) (open_cells text) =
    subst (λ (t : List Item). FitsAndHas (unflagged flags t) (open_cells t)) (take-length text) all in
    (whole.0, whole.1 ∙ is.1)

-- ---- texts get ends

abbrev FitsLast : ℕ → Item → Type 0
FitsLast n item = FitsRow n item × (cells_after n item ≡ 0)

left_where : (is : Bool) (item : Item) (n : ℕ) → (item.unit == cell_mark) ≡ is → FitsLast n item →
    FitsLast n (record item { mark = if is then item.mark else None; sect = None })
left_where true item n same fits = (record { row = fits.0.row; outside = fits.0.outside }, fits.1)
left_where false item n same fits =
    let left : Item = record item { mark = None; sect = None } in
    let inert = inert_unit left same in
    let none : n ≡ 0 = sym (inert_after item n (inert_unit item same)) ∙ fits.1 in (
      record {
        row = λ it_is. absurd (cc (sym inert.0 ∙ it_is));
        outside = λ it_is. absurd (cc it_is);
      },
      inert_after left n inert ∙ none,
    )

last_left_fits : (front : List Item) (last : Item) → FitsAndHas (front ++ last ∷ []) 0 →
    FitsAndHas (front ++ without_section last ∷ []) 0
last_left_fits front last is =
    let before : RowsFit front =
    λ i item there.
    subst (λ (t : List Item). FitsRow (open_cells t) item) (take-append-le i front (last ∷ [])
    (let low = slice_get_within front i item there in omega (arith, low))) (is.0 i item
    (slice_get_before front (last ∷ []) i (slice_get_within front i item there) ∙ there)) in
    let fits : FitsRow (open_cells front) last =
    subst (λ (t : List Item). FitsRow (open_cells t) last) (take-append_seam front (last ∷ []))
    (is.0 (length front) last (slice_get_push front last)) in
    let zero_after : cells_after (open_cells front) last ≡ 0 = sym (cells_onto_last front last) ∙ is.1 in
    let left = left_where (last.unit == cell_mark) last (open_cells front) refl (fits, zero_after) in (
      fit_push front (without_section last) before left.0,
      cells_onto_last front (without_section last) ∙ left.1,
    )

-- the end of a paragraph outside of tables
with_ending : (front : List Item) (last : Option Item) → FitsAndHas front 0 →
    FitsAndHas (front ++ ending_item last ∷ []) 0
with_ending front last is = (
  fit_push front (ending_item last) is.0 (record {
    row = λ it_is. absurd (cc it_is);
    outside = λ it_is. is.1;
  }),
  cells_onto_last front (ending_item last) ∙ is.1,
)

ended_fits : (text : List Item) → FitsAndHas text 0 → FitsAndHas (ended_text text) 0
ended_fits [] is = with_ending [] None is
ended_fits (first ∷ rest) is =
    let text : List Item = first ∷ rest in
    let n : ℕ = length text - 1 in
    let it = there_is text n (omega arith) in
    let last : Item = it.0 in
    let front : List Item = take n text in
    let long : n + 1 ≡ length text = omega arith in
    let whole : text ≡ front ++ last ∷ [] =
    sym (take-length text)
    ∙ (ap (λ (k : ℕ). take k text) (sym long)
    ∙ (take_more text n last (slice_get_within text n last it.1)
    ∙ ap (λ (x : Item). front ++ x ∷ []) (get_or_from_slice_get text n last last it.1))) in
    let left : List Item = without_section last ∷ [] in
    let made : ended_text text ≡ (front ++ left) ++ ending_item (Some last) ∷ [] =
    ap (λ (o : Option Item). front ++ (last_left o ++ ending_item o ∷ [])) it.1
    ∙ sym (append_assoc front left (ending_item (Some last) ∷ [])) in
    subst (λ (t : List Item). FitsAndHas t 0) (sym made)
    (with_ending (front ++ left) (Some last) (last_left_fits front last (subst (λ (t : List Item). FitsAndHas t 0) whole
    is)))

if_fits : (is : Bool) (one other : List Item) → FitsAndHas one 0 → FitsAndHas other 0 →
    FitsAndHas (if is then one else other) 0
if_fits true one other a b = a
if_fits false one other a b = b

end_fits : (is_head : Bool) (text : List Item) → FitsAndHas text 0 → FitsAndHas (with_end is_head text) 0
end_fits is_head text is = if_fits (is_ended is_head text) text (ended_text text) is (ended_fits text is)

-- ---- a document

abbrev Whole : List Item → Type 0
Whole text = FitsAndHas text 0

mapped_whole : (texts : List (List Item)) (n : ℕ) (text : List Item) →
    slice_get (map plain_text texts) n ≡ Some text → Whole text
mapped_whole texts n text is =
    let it = from_map plain_text texts n text is in subst Whole it.1.1 (text_whole it.0)

heads_whole : (names : Names) (texts : List (List Item)) → All Whole (cut_heads names (map plain_text texts))
heads_whole names texts =
    let heads : List (List Item) = map plain_text texts in
    all_tabulated_below Whole (λ (number : ℕ). cut_text names (Head number) (head_begin heads number) (head_at heads
    number))
    (length heads) (λ number low.
    let it = there_is heads number low in
    let there : it.0 ≡ head_at heads number = sym (ap (λ (o : Option (List Item)). unwrap_or o []) it.1) in
    cut_fits names (Head number) (head_begin heads number) (head_at heads number)
    (subst Whole there (mapped_whole texts number it.0 it.1)))

ends_whole : (is_head : Bool) (texts : List (List Item)) (n : ℕ) (text : List Item) →
    ((k : ℕ) (one : List Item) → slice_get texts k ≡ Some one → Whole one) →
    slice_get (map (with_end is_head) texts) n ≡ Some text → Whole text
ends_whole is_head texts n text each is =
    let it = from_map (with_end is_head) texts n text is in
    subst Whole it.1.1 (end_fits is_head it.0 (each n it.0 it.1.0))

abbrev later : Names → Document → Document
later names document = with_ends (references_cut names (with_plain_rows document))

of_part : (names : Names) (document : Document) (part : Where) (text : List Item) →
    text_of_place (later names document) part ≡ Some text → Whole text
of_part names document places.File text is = absurd (cc is)
of_part names document places.Wd text is = absurd (cc is)
of_part names document places.Table text is = absurd (cc is)
of_part names document places.Sheet text is = absurd (cc is)
of_part names document places.Main text is =
    let main : List Item = cut_text names Main 0 (plain_text document.main) in
    subst Whole (same_Some (with_end false main) text is)
    (end_fits false main (cut_fits names Main 0 (plain_text document.main) (text_whole document.main)))
of_part names document (places.Note n) text is =
    ends_whole false (map plain_text document.notes) n text (mapped_whole document.notes) is
of_part names document (places.Head n) text is =
    let heads : List (List Item) = cut_heads names (map plain_text document.heads) in
    ends_whole true heads n text (λ k one there. All_at Whole heads k one (heads_whole names document.heads) there) is

pub mended_whole : MendedRowsAreWhole
mended_whole names meant mended mends is place broken =
    let made : text_of_place (later names (with_normal_marks is.based)) place.0 ≡ Some broken.text =
    sym (ap (λ (d : Document). text_of_place d place.0) is.document_is) ∙ broken.there in
    no_row_breaks broken.text place.1 (of_part names (with_normal_marks is.based) place.0 broken.text made) broken.broken
