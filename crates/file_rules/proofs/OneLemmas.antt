-- A document has one list of each kind.
use Rattle.std.proofs.Common.{◌≡◌, inl, inr, ℕ, ◌+◌, List, length, sym, ap, ◌∙◌, arith}
use Rattle.std.specs.List.{slice_range}
use Rattle.doc_bits.specs.Rules.{IsSingle}
use Rattle.doc_parts.specs.declared.lists.Sed.{Sed}
use Rattle.doc_parts.specs.declared.lists.Fld.{Fld}
use Rattle.doc_parts.specs.declared.lists.NoteRef.{NoteRef}
use Rattle.document_bookmarks.specs.declared.bookmark_order.Bookmark.{Bookmark}
use Rattle.doc_parts.specs.Table.{plc_part}
use Rattle.doc_parts.specs.Sections.{sed_form, sed_cps}
use Rattle.doc_parts.specs.Fields.{fld_form, fld_cps}
use Rattle.doc_parts.specs.Stories.{ref_form, ref_cps, cut_form, cut_cps}
use Rattle.doc_parts.proofs.Public.{AreEntries-unique}
use Rattle.fib_form.specs.declared.table_parts.TablePart.TheVariants.{Stshf, PlcffndRef, PlcffndTxt, PlcfSed, PlcfHdd}
use Rattle.fib_form.specs.declared.table_parts.TablePart.TheVariants.{PlfLst}
use Rattle.fib_form.specs.declared.stories.StoryKind.{StoryKind}
use Rattle.fib_form.specs.declared.stories.StoryKind.TheVariants.{Main, Notes, Heads}
use Rattle.file_rules.specs.Source.{DocSource, table_part_bytes, part_place, story_length}
use Rattle.style_sheet.specs.Sheet.{Sheet}
use Rattle.style_sheet.proofs.Public.{sheets_agree}
use Rattle.file_rules.specs.SectionRules.{HasSections, rules_of_sections}
use Rattle.file_rules.specs.SheetRules.{HasSheet}
use Rattle.file_rules.specs.FieldRules.{field_part, HasStoryFields}
use Rattle.file_rules.specs.NoteRules.{HasRefs, HasNoteCuts}
use Rattle.file_rules.specs.HeadRules.{HasHeadCuts}
use Rattle.file_rules.specs.ListRules.{HasLevels}
use Rattle.file_rules.specs.BookmarkRules.{HasBookmarks}
use Rattle.file_rules.specs.PartRules.{PartLists, HasPartLists}

pub sections_one : (source : DocSource) (a b : List Sed) → HasSections source a → HasSections source b → a ≡ b
sections_one source a b ha hb =
    AreEntries-unique sed_form (sed_cps (story_length source Main)) (plc_part 12 (table_part_bytes source PlcfSed)) a b
    ha hb

-- the rules on sections speak of single ones
pub sections_single : (source : DocSource) → IsSingle (rules_of_sections source)
sections_single source = (tt, ((λ a b ha hb. sections_one source a b ha hb), λ list h. (tt, (tt, tt))))

fields_one : (source : DocSource) (story : StoryKind) (a b : List Fld) → HasStoryFields source story a → HasStoryFields
    source
    story b → a ≡ b
fields_one source story a b ha hb =
    AreEntries-unique fld_form (fld_cps (story_length source story)) (plc_part 2 (table_part_bytes source
    (field_part story))) a b ha hb

refs_one : (source : DocSource) (a b : List NoteRef) → HasRefs source a → HasRefs source b → a ≡ b
refs_one source a b ha hb =
    AreEntries-unique ref_form (ref_cps (story_length source Main)) (plc_part 2 (table_part_bytes source PlcffndRef)) a
    b ha
    hb

pub notes_one : (source : DocSource) (a b : List ℕ) → HasNoteCuts source a → HasNoteCuts source b → a ≡ b
notes_one source a b (inl x) (inl y) =
    AreEntries-unique cut_form (cut_cps (story_length source Notes)) (plc_part 0 (table_part_bytes source PlcffndTxt)) a
    b
    x.1 y.1
notes_one source a b (inl x) (inr y) = absurd (y.0 x.0)
notes_one source a b (inr x) (inl y) = absurd (x.0 y.0)
notes_one source a b (inr x) (inr y) = x.1 ∙ sym y.1

pub heads_one : (source : DocSource) (a b : List ℕ) → HasHeadCuts source a → HasHeadCuts source b → a ≡ b
heads_one source a b ha hb =
    AreEntries-unique cut_form (cut_cps (story_length source Heads)) (plc_part 0 (table_part_bytes source PlcfHdd)) a b
    ha hb

levels_one : (source : DocSource) (a b : List ℕ) → HasLevels source a → HasLevels source b → a ≡ b
levels_one source a b ha hb =
    let one = ha.have in
    let two = hb.have in
    let same : ha.len ≡ hb.len = omega arith in
    let from = part_place source PlfLst + length (table_part_bytes source PlfLst) in
    ha.bytes_are ∙ (ap (λ len. slice_range source.table from (from + len)) same ∙ sym hb.bytes_are)

sheet_one : (source : DocSource) (a b : Sheet) → HasSheet source a → HasSheet source b → a ≡ b
sheet_one source a b ha hb = sheets_agree (table_part_bytes source Stshf) a b ha hb

bookmarks_one : (source : DocSource) (a b : List Bookmark) → HasBookmarks source a → HasBookmarks source b → a ≡ b
bookmarks_one source a b ha hb = ha ∙ sym hb

-- lists are the same where each of them is
lists_same : (a b : PartLists) → a.sections ≡ b.sections → a.sheet ≡ b.sheet → a.main_fields ≡ b.main_fields →
    a.note_fields ≡ b.note_fields → a.head_fields ≡ b.head_fields → a.refs ≡ b.refs → a.notes ≡ b.notes →
    a.heads ≡ b.heads → a.levels ≡ b.levels → a.bookmarks ≡ b.bookmarks → a ≡ b
lists_same a b e0 es e1 e2 e3 e4 e5 e6 e7 e8 =
    let f0 : List Sed → PartLists = λ x. record a { sections = x } in
    let fs : Sheet → PartLists = λ x. record a { sections = b.sections; sheet = x } in
    let f1 : List Fld → PartLists = λ x. record a { sections = b.sections; sheet = b.sheet; main_fields = x } in
    let f2 : List Fld → PartLists = λ x. record a {
      sections = b.sections;
      sheet = b.sheet;
      main_fields = b.main_fields;
      note_fields = x;
    } in
    let f3 : List Fld → PartLists = λ x. record b {
      head_fields = x;
      refs = a.refs;
      notes = a.notes;
      heads = a.heads;
      levels = a.levels;
      bookmarks = a.bookmarks;
    } in
    let f4 : List NoteRef → PartLists = λ x. record b {
      refs = x;
      notes = a.notes;
      heads = a.heads;
      levels = a.levels;
      bookmarks = a.bookmarks;
    } in
    let f5 : List ℕ → PartLists = λ x. record b {
      notes = x;
      heads = a.heads;
      levels = a.levels;
      bookmarks = a.bookmarks;
    } in
    let f6 : List ℕ → PartLists = λ x. record b { heads = x; levels = a.levels; bookmarks = a.bookmarks } in
    let f7 : List ℕ → PartLists = λ x. record b { levels = x; bookmarks = a.bookmarks } in
    let f8 : List Bookmark → PartLists = λ x. record b { bookmarks = x } in
    ap f0 e0 ∙ (ap fs es ∙ (ap f1 e1 ∙ (ap f2 e2 ∙ (ap f3 e3 ∙ (ap f4 e4 ∙ (ap f5 e5 ∙ (ap f6 e6 ∙ (ap f7 e7
    ∙ ap f8 e8))))))))

pub parts_one : (source : DocSource) (a b : PartLists) → HasPartLists source a → HasPartLists source b → a ≡ b
parts_one source a b ha hb =
    lists_same a b
    (sections_one source a.sections b.sections ha.has_sections hb.has_sections)
    (sheet_one source a.sheet b.sheet ha.has_sheet hb.has_sheet)
    (fields_one source Main a.main_fields b.main_fields ha.has_main_fields hb.has_main_fields)
    (fields_one source Notes a.note_fields b.note_fields ha.has_note_fields hb.has_note_fields)
    (fields_one source Heads a.head_fields b.head_fields ha.has_head_fields hb.has_head_fields)
    (refs_one source a.refs b.refs ha.has_refs hb.has_refs)
    (notes_one source a.notes b.notes ha.has_notes hb.has_notes)
    (heads_one source a.heads b.heads ha.has_heads hb.has_heads)
    (levels_one source a.levels b.levels ha.has_levels hb.has_levels)
    (bookmarks_one source a.bookmarks b.bookmarks ha.has_bookmarks hb.has_bookmarks)
