-- Marks of paragraphs that get style 0: rule 64. Their properties stay.
use Rattle.std.specs.Prelude.{ℕ, ◌==◌, Bool, not, List, [], ◌++◌, length, map, Option, Some, None, slice_get, option_map}
use Rattle.std.specs.Prelude.{if◌then◌else◌}
use Rattle.std.specs.Option.{option_and_then, unwrap_or}
use Rattle.std.specs.List.{filter_map, flat_map}
use Rattle.doc_bits.specs.declared.places.Story.{Story}
use Rattle.doc_bits.specs.declared.places.Story.TheVariants.{Main}
use Rattle.doc_parts.specs.Tabulated.{tabulate}
use Rattle.style_sheet.specs.Sheet.{Sheet}
use Rattle.style_sheet.specs.Chain.{style_kind_at}
use Rattle.doc_model.specs.declared.item.Item.{Item}
use Rattle.doc_model.specs.declared.item.Mark.{Mark}
use Rattle.doc_model.specs.declared.document.Document.{Document}
use Rattle.plain_doc.specs.declared.rules_texts.Side.{Side}
use Rattle.plain_doc.specs.declared.rules_texts.Side.TheVariants.{Notes, Heads}
use Rattle.doc_mends.specs.declared.mends.WrongMark.{WrongMark}
use Rattle.doc_mends.specs.Sides.{side_name}

-- the mark's style is no style of paragraphs
abbrev pub is_wrong_mark : Sheet → Mark → Bool
is_wrong_mark sheet mark = not (style_kind_at sheet mark.istd == 1)

abbrev pub normal_mark : Sheet → Mark → Mark
normal_mark sheet mark = if is_wrong_mark sheet mark then record mark { istd = 0 } else mark

abbrev pub normal_item : Sheet → Item → Item
normal_item sheet item = record item { mark = option_map (normal_mark sheet) item.mark }

abbrev pub normal_text : Sheet → List Item → List Item
normal_text sheet text = map (normal_item sheet) text

-- the document with style 0 at each such mark
abbrev pub with_normal_marks : Document → Document
with_normal_marks document = record document {
  main = normal_text document.sheet document.main;
  notes = map (normal_text document.sheet) document.notes;
  heads = map (normal_text document.sheet) document.heads;
}

-- ---- which they are

abbrev pub wrong_mark : Sheet → Story → ℕ → Mark → Option WrongMark
wrong_mark sheet story at mark =
    if is_wrong_mark sheet mark then Some (record { story = story; at = at; istd = mark.istd }) else None

abbrev pub wrong_mark_at : Sheet → Story → List Item → ℕ → Option WrongMark
wrong_mark_at sheet story text at =
    option_and_then (λ item. option_and_then (wrong_mark sheet story at) item.mark) (slice_get text at)

-- those of a text
abbrev pub text_wrong_marks : Sheet → Story → List Item → List WrongMark
text_wrong_marks sheet story text =
    filter_map (λ mark. mark) (tabulate (wrong_mark_at sheet story text) (length text))

-- those of the notes, or of the header texts
abbrev pub texts_wrong_marks : Sheet → Side → List (List Item) → List WrongMark
texts_wrong_marks sheet side texts =
    flat_map (λ marks. marks)
    (tabulate (λ number. text_wrong_marks sheet (side_name side number) (unwrap_or (slice_get texts number) []))
    (length texts))

-- those of a document
abbrev pub wrong_marks : Document → List WrongMark
wrong_marks document =
    text_wrong_marks document.sheet Main document.main
    ++ (texts_wrong_marks document.sheet Notes document.notes ++ texts_wrong_marks document.sheet Heads document.heads)
