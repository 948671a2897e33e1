-- What the parts hold is the same for a text that reads the same.
use Rattle.std.proofs.Common.{◌≡◌, ◌⊎◌, ◌∙◌, refl, sym, ap, subst, ℕ, ◌==◌, ◌||◌, false, List, [], ◌∷◌}
use Rattle.fib_form.specs.declared.table_parts.TablePart.{TablePart}
use Rattle.fib_form.specs.declared.table_parts.TablePart.TheVariants.{PlcffndRef, PlcffndTxt, PlcfSed, PlcfHdd}
use Rattle.fib_form.specs.declared.table_parts.TablePart.TheVariants.{SttbfBkmk, PlcfBkf, PlcfBkl, PlcfFldMom}
use Rattle.fib_form.specs.declared.table_parts.TablePart.TheVariants.{PlcfFldHdr, PlcfFldFtn}
use Rattle.fib_form.specs.TableParts.{pair_number}
use Rattle.fib_form.specs.declared.stories.StoryKind.{StoryKind}
use Rattle.fib_form.specs.declared.stories.StoryKind.TheVariants.{Main, Notes, Heads}
use Rattle.doc_parts.specs.declared.lists.Fld.{Fld}
use Rattle.document_bookmarks.specs.declared.bookmark_order.Bookmark.{Bookmark}
use Rattle.doc_parts.specs.Sections.{AreSections}
use Rattle.doc_parts.specs.Fields.{AreFieldCharacters}
use Rattle.doc_parts.specs.Stories.{AreRefs, AreCuts}
use Rattle.doc_parts.specs.BookmarkParts.{parts_at, bookmarks_of}
use Rattle.file_rules.specs.Source.{DocSource, table_part_bytes, part_place, story_length}
use Rattle.file_rules.specs.FieldRules.{HasStoryFields, field_part}
use Rattle.file_rules.specs.NoteRules.{HasEntries, HasNoteCuts}
use Rattle.file_rules.specs.BookmarkRules.{HasBookmarks}
use Rattle.file_rules.specs.PartRules.{PartLists, HasPartLists}
use Rattle.file_rules.specs.FileRules.{FileText, doc_source_of}
use Rattle.doc_meaning.specs.Lifted.{ReadsTheSame, IsReadPart, IsPlainPart}

-- the parts of two sources, and how long their stories are
record HaveSameParts (old new : DocSource) : Type 0 where
  place : (part : TablePart) → IsPlainPart part → part_place new part ≡ part_place old part
  bytes : (part : TablePart) → IsPlainPart part → table_part_bytes new part ≡ table_part_bytes old part
  count : (story : StoryKind) → story_length new story ≡ story_length old story

same_parts : (old new : FileText) → ReadsTheSame old new → HaveSameParts (doc_source_of old) (doc_source_of new)
same_parts old new same = record {
  place = λ part plain. ap (λ (p : ℕ × ℕ). p.0) (same.pairs part plain);
  bytes = same.parts;
  count = same.counts;
}

-- a part whose pair is neither that of the style sheet nor that of the Clx
pub read_of : (part : TablePart) → (pair_number part == 1 || pair_number part == 33) ≡ false → IsReadPart part
read_of part other = record {
  no_sheet = λ e. absurd (cc (sym other ∙ ap (λ n. n == 1 || n == 33) e));
  no_clx = λ e. absurd (cc (sym other ∙ ap (λ n. n == 1 || n == 33) e));
}

-- and that of no bin table
pub plain_of : (part : TablePart) → (pair_number part == 1 || pair_number part == 33) ≡ false →
    (pair_number part == 12 || pair_number part == 13) ≡ false → IsPlainPart part
plain_of part other no_bin = record {
  reads = read_of part other;
  no_chpx = λ e. absurd (cc (sym no_bin ∙ ap (λ n. n == 12 || n == 13) e));
  no_papx = λ e. absurd (cc (sym no_bin ∙ ap (λ n. n == 12 || n == 13) e));
}

field_read : (story : StoryKind) → IsPlainPart (field_part story)
field_read Main = plain_of PlcfFldMom refl refl
field_read Notes = plain_of PlcfFldFtn refl refl
field_read Heads = plain_of PlcfFldHdr refl refl

-- a fact on bytes and on a length
two : (P : List ℕ → ℕ → Type 0) (x y : List ℕ) (m n : ℕ) → x ≡ y → m ≡ n → P x m → P y n
two P x y m n bytes len p = subst (P y) len (subst (λ b. P b m) bytes p)

fields_same : (old new : DocSource) (story : StoryKind) (list : List Fld) → HaveSameParts old new →
    HasStoryFields new story list → HasStoryFields old story list
fields_same old new story list same =
    let part = field_part story in
    two (λ b n. AreFieldCharacters b n list) (table_part_bytes new part) (table_part_bytes old part) (story_length new
    story)
    (story_length old story) (same.bytes part (field_read story)) (same.count story)

-- the CPs that cut the notes, by the two parts
abbrev AreNoteCuts : List ℕ → List ℕ → ℕ → List ℕ → Type 0
AreNoteCuts refs cuts count list = (HasEntries refs × AreCuts cuts count list) ⊎ ((¬ (HasEntries refs)) × (list ≡ []))

notes_same : (old new : DocSource) (list : List ℕ) → HaveSameParts old new → HasNoteCuts new list → HasNoteCuts old list
notes_same old new list same has =
    let cuts = table_part_bytes new PlcffndTxt in
    let count = story_length new Notes in
    let has_refs : AreNoteCuts (table_part_bytes old PlcffndRef) cuts count list =
    subst (λ b. AreNoteCuts b cuts count list) (same.bytes PlcffndRef (plain_of PlcffndRef refl refl)) has in
    two (λ b n. AreNoteCuts (table_part_bytes old PlcffndRef) b n list) cuts (table_part_bytes old PlcffndTxt) count
    (story_length old Notes) (same.bytes PlcffndTxt (plain_of PlcffndTxt refl refl)) (same.count Notes) has_refs

bookmarks_same : (old new : DocSource) (list : List Bookmark) → HaveSameParts old new → HasBookmarks new list →
    HasBookmarks old list
bookmarks_same old new list same has =
    let names : table_part_bytes new SttbfBkmk ≡ table_part_bytes old SttbfBkmk =
    same.bytes SttbfBkmk (plain_of SttbfBkmk refl refl) in
    let starts : table_part_bytes new PlcfBkf ≡ table_part_bytes old PlcfBkf =
    same.bytes PlcfBkf (plain_of PlcfBkf refl refl) in
    let ends : table_part_bytes new PlcfBkl ≡ table_part_bytes old PlcfBkl =
    same.bytes PlcfBkl (plain_of PlcfBkl refl refl) in
    let at_names : part_place new SttbfBkmk ≡ part_place old SttbfBkmk = same.place SttbfBkmk (plain_of SttbfBkmk refl refl) in
    let at_starts : part_place new PlcfBkf ≡ part_place old PlcfBkf = same.place PlcfBkf (plain_of PlcfBkf refl refl) in
    let at_ends : part_place new PlcfBkl ≡ part_place old PlcfBkl = same.place PlcfBkl (plain_of PlcfBkl refl refl) in
    let count : story_length new Main ≡ story_length old Main = same.count Main in
    has
    ∙ (λ i. bookmarks_of (parts_at (names i) (starts i) (ends i) (at_names i ∷ at_starts i ∷ at_ends i ∷ [])) (count i))

-- all of them
pub lists_same : (old new : FileText) (lists : PartLists) → ReadsTheSame old new →
    HasPartLists (doc_source_of new) lists → HasPartLists (doc_source_of old) lists
lists_same old new lists same has =
    let a = doc_source_of old in
    let b = doc_source_of new in
    let parts = same_parts old new same in
    record {
      has_sections = two (λ bytes n. AreSections bytes n lists.sections) (table_part_bytes b PlcfSed) (table_part_bytes
          a PlcfSed)
          (story_length b Main) (story_length a Main) (parts.bytes PlcfSed (plain_of PlcfSed refl refl))
          (parts.count Main) has.has_sections;
      has_sheet = same.sheet lists.sheet has.has_sheet;
      has_main_fields = fields_same a b Main lists.main_fields parts has.has_main_fields;
      has_note_fields = fields_same a b Notes lists.note_fields parts has.has_note_fields;
      has_head_fields = fields_same a b Heads lists.head_fields parts has.has_head_fields;
      has_refs = two (λ bytes n. AreRefs bytes n lists.refs) (table_part_bytes b PlcffndRef) (table_part_bytes a
          PlcffndRef)
          (story_length b Main) (story_length a Main) (parts.bytes PlcffndRef (plain_of PlcffndRef refl refl))
          (parts.count Main) has.has_refs;
      has_notes = notes_same a b lists.notes parts has.has_notes;
      has_heads = two (λ bytes n. AreCuts bytes n lists.heads) (table_part_bytes b PlcfHdd) (table_part_bytes a PlcfHdd)
          (story_length b Heads) (story_length a Heads) (parts.bytes PlcfHdd (plain_of PlcfHdd refl refl))
          (parts.count Heads) has.has_heads;
      has_levels = same.levels lists.levels has.has_levels;
      has_bookmarks = bookmarks_same a b lists.bookmarks parts has.has_bookmarks;
    }
