-- The rules on the parts of a document, in their order, and what the parts hold.
use Rattle.std.specs.Prelude.{◌≡◌, ℕ, List}
use Rattle.doc_bits.specs.Rules.{Rules, ◌then◌, Hold}
use Rattle.doc_bits.specs.Places.{Place}
use Rattle.style_sheet.specs.Sheet.{Sheet}
use Rattle.doc_parts.specs.declared.lists.Sed.{Sed}
use Rattle.doc_parts.specs.declared.lists.Fld.{Fld}
use Rattle.doc_parts.specs.declared.lists.NoteRef.{NoteRef}
use Rattle.document_bookmarks.specs.declared.bookmark_order.Bookmark.{Bookmark}
use Rattle.fib_form.specs.declared.stories.StoryKind.TheVariants.{Main, Notes, Heads}
use Rattle.file_rules.specs.Source.{DocSource}
use Rattle.file_rules.specs.SectionRules.{rules_of_sections, HasSections}
use Rattle.file_rules.specs.BinRules.{rules_of_bins}
use Rattle.file_rules.specs.FormatRules.{rules_of_formats}
use Rattle.file_rules.specs.SheetRules.{rules_of_sheet, HasSheet}
use Rattle.file_rules.specs.FieldRules.{rules_of_fields, HasStoryFields}
use Rattle.file_rules.specs.NoteRules.{rules_of_notes, HasRefs, HasNoteCuts}
use Rattle.file_rules.specs.HeadRules.{rules_of_heads, HasHeadCuts}
use Rattle.file_rules.specs.EndRules.{rules_of_ends}
use Rattle.file_rules.specs.ListRules.{rules_of_lists, HasLevels}
use Rattle.file_rules.specs.BookmarkRules.{rules_of_bookmarks, HasBookmarks}

-- the rules 33 to 38
abbrev pub layout_rules : DocSource → Rules Place
layout_rules source = rules_of_sections source then rules_of_bins source

-- the rules 52 to 57; those on the document (60 to 71) come next
abbrev pub story_rules : DocSource → Rules Place
story_rules source =
    rules_of_fields source then rules_of_notes source then rules_of_heads source then rules_of_ends source
    then rules_of_lists source then rules_of_bookmarks source

-- the rules 53 to 57
abbrev pub other_rules : DocSource → Rules Place
other_rules source =
    rules_of_notes source then rules_of_heads source then rules_of_ends source then rules_of_lists source
    then rules_of_bookmarks source

abbrev pub part_rules : DocSource → Rules Place
part_rules source = layout_rules source then rules_of_formats source then rules_of_sheet source then story_rules source

-- the rules 49 to 57
abbrev pub rest_rules : DocSource → Rules Place
rest_rules source = rules_of_sheet source then story_rules source

-- none of the rules 33 to 57 is broken but for those on the pages
pub record HoldButFormats (source : DocSource) : Type 0 where
  pub layout : Hold (layout_rules source)
  pub rest : Hold (rest_rules source)

-- what the parts hold: the sections, the styles, the field characters of each story, the references to the notes, the
-- CPs that cut the notes and the header texts, the bytes of the levels, and the bookmarks
pub record PartLists : Type 0 where
  pub sections : List Sed
  pub sheet : Sheet
  pub main_fields : List Fld
  pub note_fields : List Fld
  pub head_fields : List Fld
  pub refs : List NoteRef
  pub notes : List ℕ
  pub heads : List ℕ
  pub levels : List ℕ
  pub bookmarks : List Bookmark

-- the document has these
pub record HasPartLists (source : DocSource) (parts : PartLists) : Type 0 where
  pub has_sections : HasSections source parts.sections
  pub has_sheet : HasSheet source parts.sheet
  pub has_main_fields : HasStoryFields source Main parts.main_fields
  pub has_note_fields : HasStoryFields source Notes parts.note_fields
  pub has_head_fields : HasStoryFields source Heads parts.head_fields
  pub has_refs : HasRefs source parts.refs
  pub has_notes : HasNoteCuts source parts.notes
  pub has_heads : HasHeadCuts source parts.heads
  pub has_levels : HasLevels source parts.levels
  pub has_bookmarks : HasBookmarks source parts.bookmarks

-- it has one of each
abbrev pub PartsAreOne : Type 0
PartsAreOne = (source : DocSource) (a b : PartLists) → HasPartLists source a → HasPartLists source b → a ≡ b
