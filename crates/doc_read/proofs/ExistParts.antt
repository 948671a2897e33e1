-- The parts of a document that breaks no rule hold their lists.
use Rattle.std.proofs.Common.{◌≡◌, inl, inr, refl, subst, ℕ, ◌+◌, ◌-◌, ◌*◌, ◌<◌, ◌≤◌, List, length, arith}
use Rattle.std.specs.List.{All, slice_range}
use Rattle.doc_bits.specs.declared.places.Where.TheVariants.{Table}
use Rattle.doc_bits.specs.Rules.{Nowhere, Hold}
use Rattle.doc_bits.proofs.Public.{length-range, AreBytes-range}
use Rattle.doc_bits.specs.Number.{AreBytes}
use Rattle.style_sheet.specs.Formed.{IsFormedSheet}
use Rattle.style_sheet.specs.Stsh.{stsh_rules}
use Rattle.doc_parts.specs.declared.lists.Fld.{Fld}
use Rattle.doc_parts.specs.Table.{plc_part, IsValidEntry}
use Rattle.doc_parts.specs.Fields.{fld_form, fld_cps}
use Rattle.doc_parts.specs.Levels.{level_start, level_count, list_part}
use Rattle.document_bookmarks.specs.Bookmarks.{HasFileNumbers}
use Rattle.doc_parts.specs.BookmarkParts.{bookmarks_of}
use Rattle.doc_parts.proofs.Public.{level_start-zero, level_start-up}
use Rattle.fib_form.specs.declared.table_parts.TablePart.{TablePart}
use Rattle.fib_form.specs.declared.table_parts.TablePart.TheVariants.{Stshf, PlcffndRef, PlfLst}
use Rattle.fib_form.specs.declared.table_parts.TablePart.TheVariants.{SttbfBkmk, PlcfBkf, PlcfBkl}
use Rattle.fib_form.specs.declared.stories.StoryKind.{StoryKind}
use Rattle.fib_form.specs.declared.stories.StoryKind.TheVariants.{Main, Notes, Heads}
use Rattle.file_rules.specs.Source.{DocSource, table_part_bytes, part_place, story_begin, story_length, story_units}
use Rattle.file_rules.specs.FormatRules.{text_count}
use Rattle.fib_form.specs.Fib.{fib_pair}
use Rattle.fib_form.specs.TableParts.{pair_number}
use Rattle.file_rules.specs.FieldRules.{BreaksAllFields, BreaksStoryFields, field_part, HasStoryFields}
use Rattle.file_rules.specs.ListRules.{HasLevels}
use Rattle.file_rules.specs.BookmarkRules.{bookmark_parts}
use Rattle.file_rules.specs.PartRules.{PartLists, HasPartLists, part_rules}
use Rattle.file_rules.proofs.Public.{hold_out}
use Rattle.doc_read.proofs.BookmarkLemmas.{bookmarks-numbers}
use Rattle.doc_read.proofs.ExistTables.{refs_there, fields_there}
use Rattle.style_sheet.proofs.Public.{sheet_there}
use Rattle.doc_read.proofs.EntryValues.{AreByteFields, fields_are_bytes}

pub part_bytes_are : (source : DocSource) (part : TablePart) → AreBytes source.table → AreBytes (table_part_bytes source
    part)
part_bytes_are source part are =
    let pair = fib_pair source.wd (pair_number part) in
    AreBytes-range source.table pair.0 (pair.0 + pair.1) are

-- a story has its units, where the text is long enough
story_fits : (source : DocSource) (story : StoryKind) → text_count source ≤ length source.text.units →
    length (story_units source story) ≡ story_length source story
story_fits source Main long =
    let from = story_begin source Main in
    let to = from + story_length source Main in
    let len : length (story_units source Main) ≡ to - from = length-range source.text.units from to (omega arith) in
    omega arith
story_fits source Notes long =
    let from = story_begin source Notes in
    let to = from + story_length source Notes in
    let len : length (story_units source Notes) ≡ to - from = length-range source.text.units from to (omega arith) in
    omega arith
story_fits source Heads long =
    let from = story_begin source Heads in
    let to = from + story_length source Heads in
    let len : length (story_units source Heads) ≡ to - from = length-range source.text.units from to (omega arith) in
    omega arith

-- the field characters of a story, with their bytes
record HasByteFields (source : DocSource) (story : StoryKind) : Type 0 where
  list : List Fld
  has : HasStoryFields source story list
  bytes : All (λ (fld : Fld). fld.byte < 256) list

story_fields : (source : DocSource) (story : StoryKind) → AreBytes source.table →
    text_count source ≤ length source.text.units → Nowhere (BreaksStoryFields source story) → HasByteFields source story
story_fields source story are long none =
    let bytes = table_part_bytes source (field_part story) in
    let at = part_place source (field_part story) in
    let found = fields_there bytes (story_length source story) (λ k below no.
    none (at + 4 * k) (inr (record {
      entry = k;
      below = below;
      broken = record {
        here = refl;
        broken = λ there.
            no (subst (λ len. IsValidEntry fld_form (fld_cps len) (plc_part 2 bytes) k) (story_fits source story long)
            there.right);
      };
    }))) in
    record {
      list = found.0;
      has = found.1;
      bytes = fields_are_bytes bytes (story_length source story) found.0
          (part_bytes_are source (field_part story) are) found.1;
    }

all_stories : (source : DocSource) → Nowhere (BreaksAllFields source) → (story : StoryKind) →
    Nowhere (BreaksStoryFields source story)
all_stories source none Main = λ place broken. none place (inl broken)
all_stories source none Notes = λ place broken. none place (inr (inl broken))
all_stories source none Heads = λ place broken. none place (inr (inr broken))

-- the levels
levels_there : (source : DocSource) → (bytes : List ℕ) × HasLevels source bytes
levels_there source =
    let at = part_place source PlfLst in
    let lcb = length (table_part_bytes source PlfLst) in
    let count = level_count (list_part source.table at lcb) in
    let end = level_start source.table (at + lcb) count in
    let first = level_start-zero source.table (at + lcb) in
    let up = level_start-up source.table (at + lcb) 0 count (omega arith) in
    let len = end - (at + lcb) in
    (slice_range source.table (at + lcb) (at + lcb + len), record { len = len; have = omega arith; bytes_are = refl })

pub record HasFormedLists (source : DocSource) : Type 0 where
  pub lists : PartLists
  pub has : HasPartLists source lists
  pub sheet : IsFormedSheet lists.sheet
  pub fields : AreByteFields lists
  pub numbers : All HasFileNumbers lists.bookmarks

pub part_lists_there : (source : DocSource) → AreBytes source.table → text_count source ≤ length source.text.units →
    Hold (part_rules source) → HasFormedLists source
part_lists_there source are long hold =
    let story = hold.1.1.1 in
    let none_fields : (s : StoryKind) → Nowhere (BreaksStoryFields source s) =
    all_stories source (λ place broken. story.0 (Table, place) (refl, broken)) in
    let main = story_fields source Main are long (none_fields Main) in
    let notes = story_fields source Notes are long (none_fields Notes) in
    let heads = story_fields source Heads are long (none_fields Heads) in
    let refs = refs_there (table_part_bytes source PlcffndRef) (part_place source PlcffndRef) (story_length source Main)
    (λ place broken. story.1.0 (Table, place) (refl, inl broken)) in
    let ends = story.1.1.1.0 in
    let sheet = sheet_there (table_part_bytes source Stshf) (part_place source Stshf) (part_bytes_are source Stshf are)
    (hold_out Table (stsh_rules (table_part_bytes source Stshf) (part_place source Stshf)) hold.1.1.0) in
    let levels = levels_there source in
    let sections = hold.0.0.1 in
    record {
      lists = record {
        sections = sections.0;
        sheet = sheet.sheet;
        main_fields = main.list;
        note_fields = notes.list;
        head_fields = heads.list;
        refs = refs.0;
        notes = ends.0;
        heads = ends.1.1.0;
        levels = levels.0;
        bookmarks = bookmarks_of (bookmark_parts source) (story_length source Main);
      };
      has = record {
        has_sections = sections.1.0;
        has_sheet = sheet.has;
        has_main_fields = main.has;
        has_note_fields = notes.has;
        has_head_fields = heads.has;
        has_refs = refs.1;
        has_notes = ends.1.0;
        has_heads = ends.1.1.1.0;
        has_levels = levels.1;
        has_bookmarks = refl;
      };
      sheet = sheet.formed;
      fields = record { main = main.bytes; notes = notes.bytes; heads = heads.bytes };
      numbers = bookmarks-numbers (bookmark_parts source) (story_length source Main)
          (part_bytes_are source SttbfBkmk are) (part_bytes_are source PlcfBkf are) (part_bytes_are source PlcfBkl are);
    }
