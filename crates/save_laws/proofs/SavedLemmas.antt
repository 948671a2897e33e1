-- A sound document that is saved: the counts, places and units of its stories, and the parts of its table stream.
use Rattle.std.specs.Prelude.{slice_get, slice_index}
use Rattle.std.proofs.Common.{◌≡◌, ◌∙◌, refl, sym, ap, ℕ, ◌+◌, ◌<◌, ◌≤◌, List, length, Some, arith}
use Rattle.std.proofs.lemmas.Option.{slice_get_within, get_or_from_slice_get}
use Rattle.std.proofs.lemmas.List.{get_or-map}
use Rattle.doc_bits.proofs.Public.{length-range, range_index, Beside, beside}
use Rattle.cfb_streams.specs.Contents.{Contents}
use Rattle.fib_form.specs.FibFields.{text_length}
use Rattle.fib_form.specs.TableParts.{pair_number}
use Rattle.fib_form.proofs.Public.{sum-three}
use Rattle.fib_form.specs.declared.table_parts.TablePart.{TablePart}
use Rattle.fib_form.specs.declared.stories.StoryKind.{StoryKind}
use Rattle.fib_form.specs.declared.stories.StoryKind.TheVariants.{Main, Notes, Heads}
use Rattle.piece_table.specs.Piece.{UnitPlace, flat_pieces, total_length}
use Rattle.piece_table.proofs.Public.{length-flat_pieces}
use Rattle.doc_model.specs.declared.item.Item.{Item}
use Rattle.doc_model.specs.declared.document.Document.{Document}
use Rattle.doc_model.specs.Formed.{IsFormed}
use Rattle.plain_doc.specs.RightDocument.{IsValidDocument}
use Rattle.plain_doc.proofs.Public.{main_ends}
use Rattle.file_rules.specs.Units.{unit_at}
use Rattle.file_rules.proofs.Public.{length-text_units}
use Rattle.file_rules.specs.Source.{DocSource, table_part_bytes, story_length, story_begin, story_units}
use Rattle.file_rules.specs.FormatRules.{text_count}
use Rattle.file_rules.specs.FileRules.{doc_source_of}
use Rattle.fib_form.specs.TableEntries.{entry}
use Rattle.save_laws.specs.Places.{StandsInside, GivesAt}
use Rattle.save_laws.specs.Slots.{Slot, shown, note_slots, head_slots, IsPlaceForSlot, document_slots, story_counts}
use Rattle.save_laws.specs.Saves.{SavedText, IsSavedAs, saved_entries, file_text}
use Rattle.save_laws.proofs.SlotLemmas.{slot_unit, IsJudgedSlot, length-whole, main_slot, note_slot, head_slot}
use Rattle.save_laws.proofs.PlaceLemmas.{unit_placed}

-- a well-formed right document and what is saved of it
pub record Save : Type 0 where
  pub document : Document
  pub saved : SavedText
  pub table : List ℕ
  pub contents : Contents
  pub formed : IsFormed document
  pub right : IsValidDocument document
  pub is : IsSavedAs document saved table contents

-- what is read of it
abbrev pub the_source : Save → DocSource
the_source s = doc_source_of (file_text s.saved s.table)

abbrev pub the_whole : Save → List Slot
the_whole s = document_slots s.document s.saved.ends

abbrev pub the_notes : Save → List Slot
the_notes s = note_slots s.document s.saved.ends

abbrev pub the_heads : Save → List Slot
the_heads s = head_slots s.document s.saved.ends

abbrev pub the_flat : Save → List UnitPlace
the_flat s = flat_pieces s.saved.pieces

-- ---- counts

pub main_len : (s : Save) → story_length (the_source s) Main ≡ length s.document.main
main_len s = ap (λ c. slice_index c 0) s.is.counts

pub note_len : (s : Save) → story_length (the_source s) Notes ≡ length (the_notes s)
note_len s = ap (λ c. slice_index c 1) s.is.counts

pub head_len : (s : Save) → story_length (the_source s) Heads ≡ length (the_heads s)
head_len s = ap (λ c. slice_index c 2) s.is.counts

pub main_some : (s : Save) → 1 ≤ length s.document.main
main_some s = let some = (main_ends s.document s.right).some in omega arith

pub total_is : (s : Save) → total_length s.saved.pieces ≡ text_length (story_counts s.document s.saved.ends)
total_is s =
    sym (length-flat_pieces s.saved.pieces) ∙ (s.is.text.len ∙ length-whole s.document s.saved.ends)

-- the CPs of the three stories are among those of the pieces, and few
pub record HasFewUnits (s : Save) : Type 0 where
  pub few : length s.document.main + length (the_notes s) + length (the_heads s) ≤ 500001
  pub there : length s.document.main + length (the_notes s) + length (the_heads s) ≤ length (the_flat s)
  pub units : text_count (the_source s) ≤ length (the_source s).text.units

pub few_units : (s : Save) → HasFewUnits s
few_units s =
    let counted = sum-three (story_counts s.document s.saved.ends) refl in
    let total = total_is s in
    let most = s.is.pieces.total in
    let flat = length-flat_pieces s.saved.pieces in
    let units = length-text_units s.saved.stream.wd s.saved.pieces in
    let main = main_len s in
    let notes = note_len s in
    let heads = head_len s in
    record {
      few = omega (arith, counted, total, most);
      there = omega (arith, counted, total, flat);
      units = omega (arith, counted, total, units, main, notes, heads);
    }

-- ---- places and units

-- the place of a slot
pub placed_at : (s : Save) (cp : ℕ) (slot : Slot) → slice_get (the_whole s) cp ≡ Some slot →
    Beside (IsPlaceForSlot (StandsInside s.saved.stream) (GivesAt s.saved.stream)) (the_flat s) cp slot
placed_at s cp slot here =
    beside (IsPlaceForSlot (StandsInside s.saved.stream) (GivesAt s.saved.stream)) (the_flat s)
    (the_whole s) cp slot s.is.text here

-- the unit of a checked slot
pub unit_here : (s : Save) (cp : ℕ) (slot : Slot) → slice_get (the_whole s) cp ≡ Some slot → IsJudgedSlot slot →
    slice_index (the_source s).text.units cp ≡ slot_unit slot
unit_here s cp slot here judged =
    let wd = s.saved.stream.wd in
    let placed = placed_at s cp slot here in
    let within = slice_get_within (the_flat s) cp placed.other placed.here in
    get_or-map (unit_at wd) (the_flat s) cp placed.other 0 within
    ∙ (ap (unit_at wd) (get_or_from_slice_get (the_flat s) cp placed.other placed.other placed.here)
    ∙ unit_placed s.saved.stream placed.other slot judged placed.is)

-- the stories end within the text
story_end : (s : Save) (story : StoryKind) →
    story_begin (the_source s) story + story_length (the_source s) story ≤ text_count (the_source s)
story_end s Main = omega arith
story_end s Notes = omega arith
story_end s Heads = omega arith

pub length-story_units : (s : Save) (story : StoryKind) →
    length (story_units (the_source s) story) ≡ story_length (the_source s) story
length-story_units s story =
    let source = the_source s in
    let begin = story_begin source story in
    let len = story_length source story in
    let ends = story_end s story in
    let units = (few_units s).units in
    let range = length-range source.text.units begin (begin + len) (omega (arith, ends, units)) in
    omega (arith, range)

story_unit : (s : Save) (story : StoryKind) (i : ℕ) → i < story_length (the_source s) story →
    slice_index (story_units (the_source s) story) i
    ≡ slice_index (the_source s).text.units (story_begin (the_source s) story + i)
story_unit s story i below =
    let source = the_source s in
    let begin = story_begin source story in
    range_index source.text.units begin (begin + story_length source story) i (omega (arith, below))

pub main_unit : (s : Save) (i : ℕ) (item : Item) → slice_get s.document.main i ≡ Some item →
    slice_index (story_units (the_source s) Main) i ≡ item.unit
main_unit s i item here =
    let at : 0 + i ≡ i = omega arith in
    story_unit s Main i (omega (arith, main_len s, slice_get_within s.document.main i item here))
    ∙ (ap (slice_index (the_source s).text.units) at
    ∙ unit_here s i (shown item) (main_slot s.document s.saved.ends i item here) tt)

pub note_unit : (s : Save) (i : ℕ) (slot : Slot) → slice_get (the_notes s) i ≡ Some slot → IsJudgedSlot slot →
    slice_index (story_units (the_source s) Notes) i ≡ slot_unit slot
note_unit s i slot here judged =
    let at : story_begin (the_source s) Notes + i ≡ length s.document.main + i = ap (λ n. n + i) (main_len s) in
    story_unit s Notes i (omega (arith, note_len s, slice_get_within (the_notes s) i slot here))
    ∙ (ap (slice_index (the_source s).text.units) at
    ∙ unit_here s (length s.document.main + i) slot (note_slot s.document s.saved.ends i slot here) judged)

pub head_unit : (s : Save) (i : ℕ) (slot : Slot) → slice_get (the_heads s) i ≡ Some slot → IsJudgedSlot slot →
    slice_index (story_units (the_source s) Heads) i ≡ slot_unit slot
head_unit s i slot here judged =
    let main = main_len s in
    let notes = note_len s in
    let cp = length s.document.main + length (the_notes s) + i in
    let at : story_begin (the_source s) Heads + i ≡ cp = omega (arith, main, notes) in
    story_unit s Heads i (omega (arith, head_len s, slice_get_within (the_heads s) i slot here))
    ∙ (ap (slice_index (the_source s).text.units) at
    ∙ unit_here s cp slot (head_slot s.document s.saved.ends i slot here) judged)

-- ---- parts

pub part_is : (s : Save) (k : ℕ) (part : TablePart) (bytes : List ℕ) →
    slice_get (saved_entries s.document s.saved) k ≡ Some (entry (pair_number part) bytes) →
    table_part_bytes (the_source s) part ≡ bytes
part_is s k part bytes here = (s.is.parts k (entry (pair_number part) bytes) here).bytes
