-- Texts that get an end of a paragraph behind them: rule 60.
use Rattle.std.specs.Prelude.{◌-◌, ◌==◌, Bool, true, false, ◌&&◌, ◌||◌, List, [], ◌∷◌, ◌++◌, length, map, take}
use Rattle.std.specs.Prelude.{Option, Some, None, slice_get, if◌then◌else◌}
use Rattle.std.specs.Option.{option_and_then, unwrap_or}
use Rattle.std.specs.List.{flat_map}
use Rattle.std.specs.FinMap.{empty}
use Rattle.doc_bits.specs.declared.places.Story.{Story}
use Rattle.doc_bits.specs.declared.places.Story.TheVariants.{Main}
use Rattle.doc_parts.specs.Tabulated.{tabulate}
use Rattle.text_codes.specs.Paragraph.{paragraph_mark, cell_mark}
use Rattle.doc_model.specs.declared.item.Item.{Item}
use Rattle.doc_model.specs.declared.document.Document.{Document}
use Rattle.plain_doc.specs.declared.rules_texts.Side.{Side}
use Rattle.plain_doc.specs.declared.rules_texts.Side.TheVariants.{Notes, Heads}
use Rattle.doc_mends.specs.Sides.{side_name}

-- an item that ends a paragraph
abbrev pub is_ending : Option Item → Bool
is_ending None = false
is_ending (Some item) = item.unit == paragraph_mark

abbrev pub last_item : List Item → Option Item
last_item text = slice_get text (length text - 1)

abbrev pub is_heads : Side → Bool
is_heads Notes = false
is_heads Heads = true

-- the text ends so, or it is a header text of no items
abbrev pub is_ended : Bool → List Item → Bool
is_ended is_head text = is_ending (last_item text) || is_head && length text == 0

-- the last item, which ends no section any more; what is left of its mark is that of a cell
abbrev pub without_section : Item → Item
without_section item = record item { mark = if item.unit == cell_mark then item.mark else None; sect = None }

-- the end of a paragraph of style 0. A section that ended before it ends there
abbrev pub ending_item : Option Item → Item
ending_item last = record {
  unit = paragraph_mark;
  fld = None;
  note = None;
  chp = empty;
  mark = Some (record { istd = 0; pap = empty });
  sect = option_and_then (λ item. item.sect) last;
}

abbrev pub last_left : Option Item → List Item
last_left None = []
last_left (Some item) = without_section item ∷ []

abbrev pub ended_text : List Item → List Item
ended_text text = take (length text - 1) text ++ (last_left (last_item text) ++ ending_item (last_item text) ∷ [])

abbrev pub with_end : Bool → List Item → List Item
with_end is_head text = if is_ended is_head text then text else ended_text text

-- the document whose texts all end so
abbrev pub with_ends : Document → Document
with_ends document = record document {
  main = with_end false document.main;
  notes = map (with_end (is_heads Notes)) document.notes;
  heads = map (with_end (is_heads Heads)) document.heads;
}

-- the texts that did not
abbrev pub open_text : Bool → Story → List Item → List Story
open_text is_head story text = if is_ended is_head text then [] else story ∷ []

abbrev pub open_texts : Side → List (List Item) → List Story
open_texts side texts =
    flat_map (λ stories. stories)
    (tabulate (λ number. open_text (is_heads side) (side_name side number) (unwrap_or (slice_get texts number) []))
    (length texts))

abbrev pub open_stories : Document → List Story
open_stories document =
    open_text false Main document.main
    ++ (open_texts Notes document.notes ++ open_texts Heads document.heads)
