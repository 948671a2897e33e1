-- What an edit changes: a list of changes, each of which is a function of documents.
use Rattle.std.specs.Prelude.{ℕ, List, Option, Some, None, map, option_map, slice_get, slice_set, slice_range}
use Rattle.std.specs.List.{splice, fold}
use Rattle.doc_bits.specs.declared.places.Story.{Story}
use Rattle.doc_bits.specs.declared.places.Story.TheVariants.{Main, Note, Head}
use Rattle.prop_map.specs.declared.modifiers.Modifier.{Modifier}
use Rattle.prop_map.specs.Settings.{Properties}
use Rattle.prop_map.specs.Modifiers.{mark_style}
use Rattle.prop_map.specs.Overlay.{overlay, modified_characters, modified_paragraph}
use Rattle.style_sheet.specs.declared.styles.Style.{Style}
use Rattle.style_sheet.specs.declared.styles.Kind.{Kind}
use Rattle.style_sheet.specs.Sheet.{Sheet, style_at}
use Rattle.style_sheet.specs.Changes.{kind_characters, with_characters, pap_of_style, with_paragraphs, with_kind}
use Rattle.style_sheet.specs.Changes.{with_style}
use Rattle.doc_model.specs.declared.item.Item.{Item}
use Rattle.doc_model.specs.declared.item.Mark.{Mark}
use Rattle.doc_model.specs.declared.document.Document.{Document}
use Rattle.doc_model.specs.Marks.{main_spliced}
use Rattle.doc_patch.specs.declared.changes.Change.{Change}
use Rattle.doc_patch.specs.declared.changes.Change.TheVariants.{SpliceText, ModifyItems, SetSection, SpliceNotes}
use Rattle.doc_patch.specs.declared.changes.Change.TheVariants.{SpliceHeads, SetStyleCharacters, SetStyleParagraphs}
use Rattle.doc_patch.specs.declared.changes.Change.TheVariants.{SetBookmarks}

-- the list with the entry at the place changed, where there is one
abbrev pub put_changed : {A : Type 0} → List A → ℕ → (A → A) → Option A → List A
put_changed entries at change None = entries
put_changed entries at change (Some entry) = slice_set entries at (change entry)

abbrev pub changed_at : {A : Type 0} → List A → ℕ → (A → A) → List A
changed_at entries at change = put_changed entries at change (slice_get entries at)

-- the list with each entry of a range changed
abbrev pub map_range : {A : Type 0} → (A → A) → List A → ℕ → ℕ → List A
map_range change entries from to = splice entries from to (map change (slice_range entries from to))

-- the document with a text changed
abbrev pub text_changed : (List Item → List Item) → Story → Document → Document
text_changed change Main document = record document { main = change document.main }
text_changed change (Note number) document = record document { notes = changed_at document.notes number change }
text_changed change (Head number) document = record document { heads = changed_at document.heads number change }

-- the document with items in place of some of a text; the ends of its bookmarks go with the main text
abbrev pub text_spliced : Story → ℕ → ℕ → List Item → Document → Document
text_spliced Main from to fresh document = main_spliced from to fresh document
text_spliced (Note number) from to fresh document =
    text_changed (λ text. splice text from to fresh) (Note number) document
text_spliced (Head number) from to fresh document =
    text_changed (λ text. splice text from to fresh) (Head number) document

-- a mark and an item after a modifier
abbrev pub modified_mark : Modifier → Mark → Mark
modified_mark modifier mark = record {
  istd = mark_style modifier mark.istd;
  pap = modified_paragraph modifier
      mark.pap;
}

abbrev pub modified_item : Modifier → Item → Item
modified_item modifier item = record item {
  chp = modified_characters modifier item.chp;
  mark = option_map (modified_mark modifier) item.mark;
}

-- the item with properties put over those of the section that it ends
abbrev pub with_section : Properties → Item → Item
with_section set item = record item { sect = option_map (overlay set) item.sect }

-- the kind of a style with properties put over its own
abbrev pub characters_set : Properties → Kind → Kind
characters_set set kind = with_characters kind (overlay set (kind_characters kind))

abbrev pub paragraphs_set : Properties → Kind → Kind
paragraphs_set set kind = with_paragraphs kind (overlay set (pap_of_style kind))

abbrev pub put_style : Sheet → ℕ → (Kind → Kind) → Option Style → Sheet
put_style sheet istd change None = sheet
put_style sheet istd change (Some style) = with_style sheet istd (with_kind style (change style.kind))

-- the sheet with the kind of a style changed, where the style is there
abbrev pub with_kind_at : Sheet → ℕ → (Kind → Kind) → Sheet
with_kind_at sheet istd change = put_style sheet istd change (style_at sheet istd)

-- the document after a change
abbrev pub changed : Change → Document → Document
changed (SpliceText story from to fresh) document = text_spliced story from to fresh document
changed (ModifyItems story from to modifier) document =
    text_changed (λ text. map_range (modified_item modifier) text from to) story document
changed (SetSection at set) document = record document { main = changed_at document.main at (with_section set) }
changed (SpliceNotes from to fresh) document = record document { notes = splice document.notes from to fresh }
changed (SpliceHeads from to fresh) document = record document { heads = splice document.heads from to fresh }
changed (SetStyleCharacters istd set) document =
    record document { sheet = with_kind_at document.sheet istd (characters_set set) }
changed (SetStyleParagraphs istd set) document =
    record document { sheet = with_kind_at document.sheet istd (paragraphs_set set) }
changed (SetBookmarks list) document = record document { bookmarks = list }

-- the document after changes, one after another
abbrev pub all_changed : List Change → Document → Document
all_changed changes document = fold (λ now change. changed change now) document changes
