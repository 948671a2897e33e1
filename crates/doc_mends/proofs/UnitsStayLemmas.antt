-- The units of a mended document are those that it had, but for what is printed of its mends.
use Rattle.std.proofs.Common.{◌≡◌, ◌∙◌, ap, sym, refl, ℕ, zero, suc, ◌+◌, ◌<◌, Bool, true, false, not}
use Rattle.std.proofs.Common.{List, [], ◌∷◌, ◌++◌, length, map, arith, inl, inr, replicate, append_assoc}
use Rattle.std.proofs.Common.{Option, Some, slice_get}
use Rattle.std.specs.Prelude.{option_map}
use Rattle.std.specs.Option.{unwrap_or}
use Rattle.std.specs.List.{list_any}
use Rattle.std.proofs.lemmas.Bool.{cases_lt}
use Rattle.std.proofs.lemmas.List.{get_or-replicate, length-map, length-replicate}
use Rattle.std.proofs.lemmas.Option.{get_or_from_slice_get, slice_get-get_or, slice_get_past, slice_get_within}
use Rattle.doc_bits.specs.declared.places.Story.{Story}
use Rattle.doc_bits.specs.declared.places.Story.TheVariants.{Main, Note, Head}
use Rattle.doc_bits.proofs.Public.{get-map, slice_get_before, slice_get_push, there_is}
use Rattle.doc_parts.specs.Tabulated.{tabulate}
use Rattle.doc_parts.proofs.Public.{length-tabulate}
use Rattle.style_sheet.specs.Sheet.{Sheet}
use Rattle.text_losses.specs.declared.features.Reference.{Reference}
use Rattle.doc_model.specs.declared.item.Item.{Item}
use Rattle.doc_model.specs.declared.document.Document.{Document}
use Rattle.doc_losses.specs.References.{Names, head_at, head_begin, references, text_references}
use Rattle.doc_mends.specs.declared.mends.BrokenRow.{BrokenRow}
use Rattle.doc_mends.specs.declared.mends.Mend.{Mend}
use Rattle.doc_mends.specs.declared.mends.Mend.TheVariants.{DropBase, NormalMark, PlainRow, CutReference, EndText}
use Rattle.doc_mends.specs.NormalMarks.{normal_text, with_normal_marks, wrong_marks}
use Rattle.doc_mends.specs.BrokenRows.{broken_rows, text_broken_rows}
use Rattle.doc_mends.specs.PlainRows.{plain_text}
use Rattle.doc_mends.specs.Cuts.{cut_heads, cut_text, reference_flags, references_cut}
use Rattle.doc_mends.specs.Ends.{is_ended, open_stories, open_text, with_end, with_ends}
use Rattle.doc_mends.specs.Mending.{mended_in_place}
use Rattle.doc_mends.specs.UnitsStay.{MendLists, units_left, units_of, UnitsStay}
use Rattle.doc_mends.proofs.CutLemmas.{IsClear, unflagged-clear}
use Rattle.doc_mends.proofs.GroupLemmas.{head_group, main_group, note_group}
use Rattle.doc_mends.proofs.ListedLemmas.{any_open, any_story, open_grouped, references_grouped, rows_grouped}
use Rattle.doc_mends.proofs.TextUnitLemmas.{AreListsOf, text_left}
use Rattle.doc_mends.proofs.UncutLemmas.{length-flags}
use Rattle.doc_mends.proofs.PlainUnitLemmas.{covers, placed_length, placed_text, units}
use Rattle.doc_mends.proofs.UnitLemmas.{flag_there, is_at}

-- the lists of the mends of a document whose bases are dropped
abbrev lists_of : List ℕ → Names → Document → MendLists
lists_of istds names based = record {
  bases = istds;
  marks = wrong_marks based;
  rows = broken_rows (with_normal_marks based);
  cut = references names (mended_in_place based);
  ended = open_stories (references_cut names (mended_in_place based));
}

abbrev left_document : Names → Document → Document
left_document names based = with_ends (references_cut names (mended_in_place based))

-- ---- the main text

main_lists : (istds : List ℕ) (names : Names) (based : Document) →
    AreListsOf (lists_of istds names based) Main based.sheet based.main
    (reference_flags names Main 0 (placed_text based.sheet based.main)) false
main_lists istds names based =
    let placed : Document = mended_in_place based in
    let left : Document = references_cut names placed in
    record {
      rows = λ at.
          main_group (λ (row : BrokenRow). row.story) (covers at) (broken_rows (with_normal_marks based))
          (rows_grouped (with_normal_marks based));
      len = length-flags names Main 0 placed.main ∙ placed_length based.sheet based.main;
      cut = λ at low.
          let same = placed_length based.sheet based.main in
          flag_there names Main 0 placed.main at (omega (arith, low, same))
          ∙ ap (λ (b : Bool). Some b)
          (sym (main_group (λ (reference : Reference). reference.story) (is_at at) (references names placed)
          (references_grouped names placed)));
      ended =
          any_story Main (open_stories left)
          ∙ (main_group (λ (s : Story). s) (λ (s : Story). true) (open_stories left) (open_grouped left)
          ∙ any_open false Main left.main);
    }

-- ---- notes

get-replicate : {A : Type 0} (n at : ℕ) (x : A) → at < n → slice_get (replicate n x) at ≡ Some x
get-replicate {A = A} n at x low =
    let len = length-replicate n x in
    slice_get-get_or (replicate n x) at x (omega (arith, low, len))
    ∙ ap (λ (y : A). Some y) (get_or-replicate n at x x low)

clear-replicate : (n : ℕ) → IsClear (replicate n false)
clear-replicate n i flag is =
    let len = length-replicate n false in
    let low = slice_get_within (replicate n false) i flag is in
    sym (get_or_from_slice_get (replicate n false) i flag false is)
    ∙ get_or-replicate n i false false (omega (arith, low, len))

note_lists : (istds : List ℕ) (names : Names) (based : Document) (number : ℕ) (text : List Item) →
    slice_get based.notes number ≡ Some text →
    AreListsOf (lists_of istds names based) (Note number) based.sheet text (replicate (length text) false) false
note_lists istds names based number text is =
    let sheet : Sheet = based.sheet in
    let normal : Document = with_normal_marks based in
    let placed : Document = mended_in_place based in
    let left : Document = references_cut names placed in
    let flags : List Bool = replicate (length text) false in
    let low : number < length based.notes = slice_get_within based.notes number text is in
    let normal_long = length-map based.notes (normal_text sheet) in
    let placed_long = length-map normal.notes plain_text in
    let there : slice_get placed.notes number ≡ Some (placed_text sheet text) =
    get-map plain_text normal.notes number (normal_text sheet text)
    (get-map (normal_text sheet) based.notes number text is) in
    record {
      rows = λ at.
          note_group (λ (row : BrokenRow). row.story) (covers at) (broken_rows normal) (rows_grouped normal) number
          (omega (arith, low, normal_long))
          ∙ ap (λ (o : Option (List Item)). list_any (covers at) (text_broken_rows (Note number) (unwrap_or o [])))
          (get-map (normal_text sheet) based.notes number text is);
      len = length-replicate (length text) false;
      cut = λ at below.
          get-replicate (length text) at false below
          ∙ ap (λ (b : Bool). Some b)
          (sym (note_group (λ (reference : Reference). reference.story) (is_at at) (references names placed)
          (references_grouped names placed) number (omega (arith, low, normal_long, placed_long))));
      ended =
          any_story (Note number) (open_stories left)
          ∙ (note_group (λ (s : Story). s) (λ (s : Story). true) (open_stories left) (open_grouped left) number
          (omega (arith, low, normal_long, placed_long))
          ∙ (ap (λ (o : Option (List Item)). list_any (λ (s : Story). true) (open_text false (Note number)
          (unwrap_or o []))) there
          ∙ (any_open false (Note number) (placed_text sheet text)
          ∙ ap (λ (t : List Item). not (is_ended false t))
          (sym (unflagged-clear flags (placed_text sheet text) (clear-replicate (length text)))))));
    }

note_units : (istds : List ℕ) (names : Names) (based : Document) (number : ℕ) →
    units_of (left_document names based) (Note number)
    ≡ option_map (units_left (lists_of istds names based) (Note number)) (units_of based (Note number))
note_units istds names based number =
    let lists : MendLists = lists_of istds names based in
    let normal : Document = with_normal_marks based in
    let placed : Document = mended_in_place based in
    elim (cases_lt number (length based.notes)) [
      | inl low ↦
          let it = there_is based.notes number low in
          let flags : List Bool = replicate (length it.0) false in
          ap (option_map units)
          (get-map (with_end false) placed.notes number (placed_text based.sheet it.0)
          (get-map plain_text normal.notes number (normal_text based.sheet it.0)
          (get-map (normal_text based.sheet) based.notes number it.0 it.1)))
          ∙ (ap (λ (t : List Item). Some (units (with_end false t)))
          (sym (unflagged-clear flags (placed_text based.sheet it.0) (clear-replicate (length it.0))))
          ∙ (ap (λ (l : List ℕ). Some l)
          (text_left lists (Note number) based.sheet it.0 flags false (note_lists istds names based number it.0 it.1))
          ∙ ap (λ (o : Option (List Item)). option_map (units_left lists (Note number)) (option_map units o))
          (sym it.1)))
      | inr past ↦
          let normal_long = length-map based.notes (normal_text based.sheet) in
          let placed_long = length-map normal.notes plain_text in
          let long = length-map placed.notes (with_end false) in
          ap (option_map units)
          (slice_get_past (map (with_end false) placed.notes) number
          (omega (arith, past, normal_long, placed_long, long)))
          ∙ ap (λ (o : Option (List Item)). option_map (units_left lists (Note number)) (option_map units o))
          (sym (slice_get_past based.notes number past))
    ]

-- ---- header texts

tabulated_there : {A : Type 0} (f : ℕ → A) (n at : ℕ) → at < n → slice_get (tabulate f n) at ≡ Some (f at)
unfolding tabulate
tabulated_there f zero at low = absurd (omega (arith, low))
tabulated_there {A = A} f (suc n) at low =
    let len = length-tabulate f n in
    elim (cases_lt at n) [
      | inl before ↦
          slice_get_before (tabulate f n) (f n ∷ []) at (omega (arith, before, len)) ∙ tabulated_there f n at before
      | inr last ↦
          let here : at ≡ length (tabulate f n) = omega (arith, low, last, len) in
          let same : n ≡ at = omega (arith, low, last) in
          ap (slice_get (tabulate f n ++ f n ∷ [])) here
          ∙ (slice_get_push (tabulate f n) (f n) ∙ ap (λ (k : ℕ). Some (f k)) same)
    ]

-- a header text, behind the marks of style 0 and the rows, and then without references
record IsHeadOf (names : Names) (based : Document) (number : ℕ) (text : List Item) : Type 0 where
  low : number < length (mended_in_place based).heads
  placed : head_at (mended_in_place based).heads number ≡ placed_text based.sheet text
  cut :
      slice_get (cut_heads names (mended_in_place based).heads) number
      ≡ Some (cut_text names (Head number) (head_begin (mended_in_place based).heads number)
      (placed_text based.sheet text))

head_of : (names : Names) (based : Document) (number : ℕ) (text : List Item) →
    slice_get based.heads number ≡ Some text → IsHeadOf names based number text
head_of names based number text is =
    let sheet : Sheet = based.sheet in
    let heads : List (List Item) = (mended_in_place based).heads in
    let there : slice_get heads number ≡ Some (placed_text sheet text) =
    get-map plain_text (with_normal_marks based).heads number (normal_text sheet text)
    (get-map (normal_text sheet) based.heads number text is) in
    let low : number < length heads = slice_get_within heads number (placed_text sheet text) there in
    let same : head_at heads number ≡ placed_text sheet text =
    ap (λ (o : Option (List Item)). unwrap_or o []) there in
    record {
      low = low;
      placed = same;
      cut =
          tabulated_there (λ (k : ℕ). cut_text names (Head k) (head_begin heads k) (head_at heads k)) (length heads)
          number low
          ∙ ap (λ (t : List Item). Some (cut_text names (Head number) (head_begin heads number) t)) same;
    }

head_lists : (istds : List ℕ) (names : Names) (based : Document) (number : ℕ) (text : List Item) →
    slice_get based.heads number ≡ Some text →
    AreListsOf (lists_of istds names based) (Head number) based.sheet text
    (reference_flags names (Head number) (head_begin (mended_in_place based).heads number)
    (placed_text based.sheet text)) true
head_lists istds names based number text is =
    let sheet : Sheet = based.sheet in
    let normal : Document = with_normal_marks based in
    let placed : Document = mended_in_place based in
    let left : Document = references_cut names placed in
    let begin : ℕ = head_begin placed.heads number in
    let made : List Item = placed_text sheet text in
    let head = head_of names based number text is in
    let low = slice_get_within based.heads number text is in
    let normal_long = length-map based.heads (normal_text sheet) in
    let left_long =
    length-tabulate (λ (k : ℕ). cut_text names (Head k) (head_begin placed.heads k) (head_at placed.heads k))
    (length placed.heads) in
    let there = head.low in
    record {
      rows = λ at.
          head_group (λ (row : BrokenRow). row.story) (covers at) (broken_rows normal) (rows_grouped normal) number
          (omega (arith, low, normal_long))
          ∙ ap (λ (o : Option (List Item)). list_any (covers at) (text_broken_rows (Head number) (unwrap_or o [])))
          (get-map (normal_text sheet) based.heads number text is);
      len = length-flags names (Head number) begin made ∙ placed_length sheet text;
      cut = λ at below.
          let same = placed_length sheet text in
          flag_there names (Head number) begin made at (omega (arith, below, same))
          ∙ ap (λ (b : Bool). Some b)
          (sym (head_group (λ (reference : Reference). reference.story) (is_at at) (references names placed)
          (references_grouped names placed) number there
          ∙ ap (λ (t : List Item). list_any (is_at at) (text_references names (Head number) begin t)) head.placed));
      ended =
          any_story (Head number) (open_stories left)
          ∙ (head_group (λ (s : Story). s) (λ (s : Story). true) (open_stories left) (open_grouped left) number
          (omega (arith, there, left_long))
          ∙ (ap (λ (o : Option (List Item)). list_any (λ (s : Story). true) (open_text true (Head number)
          (unwrap_or o []))) head.cut
          ∙ any_open true (Head number) (cut_text names (Head number) begin made)));
    }

head_units : (istds : List ℕ) (names : Names) (based : Document) (number : ℕ) →
    units_of (left_document names based) (Head number)
    ≡ option_map (units_left (lists_of istds names based) (Head number)) (units_of based (Head number))
head_units istds names based number =
    let lists : MendLists = lists_of istds names based in
    let normal : Document = with_normal_marks based in
    let placed : Document = mended_in_place based in
    elim (cases_lt number (length based.heads)) [
      | inl low ↦
          let it = there_is based.heads number low in
          let begin : ℕ = head_begin placed.heads number in
          let made : List Item = placed_text based.sheet it.0 in
          ap (option_map units)
          (get-map (with_end true) (cut_heads names placed.heads) number (cut_text names (Head number) begin made)
          (let head = head_of names based number it.0 it.1 in head.cut))
          ∙ (ap (λ (l : List ℕ). Some l)
          (text_left lists (Head number) based.sheet it.0 (reference_flags names (Head number) begin made) true
          (head_lists istds names based number it.0 it.1))
          ∙ ap (λ (o : Option (List Item)). option_map (units_left lists (Head number)) (option_map units o))
          (sym it.1))
      | inr past ↦
          let normal_long = length-map based.heads (normal_text based.sheet) in
          let placed_long = length-map normal.heads plain_text in
          let cut_long =
          length-tabulate (λ (k : ℕ). cut_text names (Head k) (head_begin placed.heads k) (head_at placed.heads k))
          (length placed.heads) in
          let long = length-map (cut_heads names placed.heads) (with_end true) in
          ap (option_map units)
          (slice_get_past (map (with_end true) (cut_heads names placed.heads)) number
          (omega (arith, past, normal_long, placed_long, cut_long, long)))
          ∙ ap (λ (o : Option (List Item)). option_map (units_left lists (Head number)) (option_map units o))
          (sym (slice_get_past based.heads number past))
    ]

-- ---- a document

based_units : (istds : List ℕ) (names : Names) (based : Document) (story : Story) →
    units_of (left_document names based) story
    ≡ option_map (units_left (lists_of istds names based) story) (units_of based story)
based_units istds names based Main =
    ap (λ (l : List ℕ). Some l)
    (text_left (lists_of istds names based) Main based.sheet based.main
    (reference_flags names Main 0 (placed_text based.sheet based.main)) false (main_lists istds names based))
based_units istds names based (Note number) = note_units istds names based number
based_units istds names based (Head number) = head_units istds names based number

-- the sheet is in no text
same_units : (sheet : Sheet) (document : Document) (story : Story) →
    units_of (record document { sheet = sheet }) story ≡ units_of document story
same_units sheet document Main = refl
same_units sheet document (Note number) = refl
same_units sheet document (Head number) = refl

pub units_stay : UnitsStay
units_stay names meant mended mends is =
    let drops = is.drops in
    let based : Document = is.based in
    let placed : Document = mended_in_place based in
    let lists : MendLists = lists_of drops.istds names based in
    let bases : List Mend = map DropBase drops.istds in
    let marks : List Mend = map NormalMark lists.marks in
    let rows : List Mend = map PlainRow lists.rows in
    let others : List Mend = map CutReference lists.cut ++ map EndText lists.ended in
    record {
      lists = lists;
      printed =
          is.mends_are
          ∙ (ap (λ (l : List Mend). l ++ ((marks ++ rows) ++ others)) drops.named
          ∙ ap (λ (l : List Mend). bases ++ l) (append_assoc marks rows others));
      units = λ story.
          ap (λ (d : Document). units_of d story) is.document_is
          ∙ (based_units drops.istds names based story
          ∙ ap (option_map (units_left lists story))
          (ap (λ (d : Document). units_of d story) drops.document
          ∙ same_units based.sheet meant story));
    }
