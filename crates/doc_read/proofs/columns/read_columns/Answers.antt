-- The columns make the items of the text with its units.
use Rattle.std.proofs.Common.{◌≡◌, ◌∙◌, refl, sym, ap, subst, ℕ, ◌<◌, ◌≤◌, ◌^◌, List, length, arith}
use Rattle.std.proofs.Common.{Option, MatchOption}
use Rattle.std.proofs.lemmas.List.{length-take-le}
use Rattle.fib_form.specs.declared.table_parts.TablePart.TheVariants.{PlcfBteChpx, PlcfBtePapx}
use Rattle.piece_table.specs.Piece.{TextPiece}
use Rattle.file_rules.specs.Source.{DocSource, table_part_bytes}
use Rattle.file_rules.specs.FileRules.{doc_source_of}
use Rattle.file_rules.specs.FormatRules.{text_count, judged_units, judged_places}
use Rattle.doc_columns.specs.Columns.{items_of}
use Rattle.doc_read.specs.declared.columns.ReadColumns.{ReadColumns}
use Rattle.doc_read.specs.Reading.{AreMarkListsOf, ArePlacedItems, HaveValidPages, IsReadable, TextView, mark_lists}
use Rattle.doc_read.proofs.ReadableLemmas.{pages_hold, pages_right, readable_of, view_of, view_same}
use Rattle.doc_read.proofs.PlacedLemmas.{enough_units, held}
use Rattle.doc_read.specs.ReadParts.{AreReadColumns}
use Rattle.doc_read.proofs.MeetLemmas.{length-read, placed_maps}
use Rattle.doc_read.proofs.columns.read_columns.Goals as goal

pub read_marks-requires : goal.read_marks-requires
read_marks-requires c = rw c.source-source.ensures c.requires.lists

pub columns_of_pieces-requires-clause-readable : goal.columns_of_pieces-requires-clause-readable
columns_of_pieces-requires-clause-readable c =
    let source = doc_source_of c.args.text.now in
    let same = c.source-source.ensures in
    let marks = mark_lists c.in_ok-marks.marks in
    let maps = c.args.sections.now in
    let wd_is = c.wd.ensures.bytes ∙ ap (λ (s : DocSource). s.wd) same in
    let characters_are = c.part.ensures.bytes ∙ ap (λ s. table_part_bytes s PlcfBteChpx) same in
    let paragraphs_are = c.part-2.ensures.bytes ∙ ap (λ s. table_part_bytes s PlcfBtePapx) same in
    let units_are = c.judged_units.ensures.units ∙ ap judged_units same in
    let places_are = c.judged_places.ensures.places ∙ ap judged_places same in
    let small = subst (λ l. length l < 2 ^ 32) wd_is c.wd.ensures.small in
    let few = subst (λ l. length l ≤ 500000) units_are c.judged_units.ensures.few in
    let count : length (judged_places source) ≡ length (judged_units source) =
    ap length (sym places_are) ∙ (c.judged_places.ensures.count ∙ ap (λ s. length (judged_units s)) same) in
    let are = rw same at c.in_ok-marks.ensures in
    let readable = readable_of source c.args.parts.now marks maps c.requires.rules c.requires.lists c.requires.sections
    are small few count in
    subst IsReadable
    (sym (view_same source marks maps _ _ _ _ _ wd_is characters_are paragraphs_are units_are places_are)) readable

pub columns_of_pieces-requires-clause-enough : goal.columns_of_pieces-requires-clause-enough
columns_of_pieces-requires-clause-enough c =
    enough_units c.args.text.now (doc_source_of c.args.text.now) c.judged_units.result.now c.pieces.result.now.pieces
    (c.judged_units.ensures.units ∙ ap judged_units c.source-source.ensures) refl c.pieces.ensures

-- what is read of a text
abbrev IsReadOf : TextView → List TextPiece → Option ReadColumns → Type 0
IsReadOf view pieces read =
    MatchOption read (¬ (HaveValidPages view 0 (length view.units))) (AreReadColumns view pieces)

pub returns-in_default : goal.returns-in_default
returns-in_default c = λ holds.
    let source = doc_source_of c.args.text.now in
    let same = c.source-source.ensures in
    let marks = mark_lists c.in_ok-marks.marks in
    let maps = c.args.sections.now in
    let view_is = view_same source marks maps _ _ _ _ _
    (c.wd.ensures.bytes ∙ ap (λ (s : DocSource). s.wd) same)
    (c.part.ensures.bytes ∙ ap (λ s. table_part_bytes s PlcfBteChpx) same)
    (c.part-2.ensures.bytes ∙ ap (λ s. table_part_bytes s PlcfBtePapx) same)
    (c.judged_units.ensures.units ∙ ap judged_units same)
    (c.judged_places.ensures.places ∙ ap judged_places same) in
    let in_view = subst (λ (v : TextView). IsReadOf v c.pieces.result.now.pieces c.in_ok-read.field-0) view_is
    c.in_ok-read.ensures in
    let count : length (judged_places source) ≡ length (judged_units source) =
    ap length (sym (c.judged_places.ensures.places ∙ ap judged_places same))
    ∙ (c.judged_places.ensures.count ∙ ap (λ s. length (judged_units s)) same) in
    let are = rw same at c.in_ok-marks.ensures in
    subst (IsReadOf (view_of source marks maps) c.pieces.result.now.pieces) c.in_default.is in_view
    (pages_right source c.args.parts.now marks maps c.requires.rules c.requires.lists c.requires.sections are count
    holds)

pub returns : goal.returns
returns c =
    let text = c.args.text.now in
    let source = doc_source_of text in
    let same = c.source-source.ensures in
    let lists = c.args.parts.now in
    let marks = mark_lists c.in_ok-marks.marks in
    let maps = c.args.sections.now in
    let read = c.in-Some.read in
    let view = view_of source marks maps in
    let count = text_count source in
    let view_is = view_same source marks maps _ _ _ _ _
    (c.wd.ensures.bytes ∙ ap (λ (s : DocSource). s.wd) same)
    (c.part.ensures.bytes ∙ ap (λ s. table_part_bytes s PlcfBteChpx) same)
    (c.part-2.ensures.bytes ∙ ap (λ s. table_part_bytes s PlcfBtePapx) same)
    (c.judged_units.ensures.units ∙ ap judged_units same)
    (c.judged_places.ensures.places ∙ ap judged_places same) in
    let in_view = subst (λ (v : TextView). IsReadOf v c.pieces.result.now.pieces c.in_ok-read.field-0) view_is
    c.in_ok-read.ensures in
    let here = subst (IsReadOf view c.pieces.result.now.pieces) c.in-Some.is in_view in
    let items = items_of view.units read.chps read.attachments in
    let placed = subst (λ pieces. ArePlacedItems view pieces items) c.pieces.ensures here.each in
    let enough : text_count source ≤ length source.text.units = rw same at c.has_units.ensures in
    let all : length view.units ≡ count = length-take-le count source.text.units enough in
    let len : length items ≡ count =
    length-read view.units read.chps read.attachments (length view.units) here.chps here.attachments (omega arith) ∙ all
    in
    let few = subst (λ (l : List ℕ). length l ≤ 500000) (c.judged_units.ensures.units ∙ ap judged_units same)
    c.judged_units.ensures.few in
    let same_count : length (judged_places source) ≡ length (judged_units source) =
    ap length (sym (c.judged_places.ensures.places ∙ ap judged_places same))
    ∙ (c.judged_places.ensures.count ∙ ap (λ s. length (judged_units s)) same) in
    let are : AreMarkListsOf source lists marks = rw same at c.in_ok-marks.ensures in (
      pages_hold source lists marks maps c.requires.rules c.requires.lists c.requires.sections are same_count
          here.right,
      record {
        fit = record {
          few = omega (arith, few);
          chps = here.chps;
          attachments = here.attachments;
          maps = placed_maps _ c.pieces.result.now.pieces items here.each;
        };
        holds = held text source lists marks maps items refl are len placed;
      },
    )
