-- The layout of a full save is a save of its document.
use Rattle.std.specs.Prelude.{slice_get, slice_index_or}
use Rattle.std.specs.Option.{option_or}
use Rattle.std.specs.FinMap.{get, get-empty}
use Rattle.std.proofs.Common.{◌≡◌, inl, ℕ, zero, suc, ◌+◌, ◌*◌, ◌<◌, true}
use Rattle.std.proofs.Common.{List, [], ◌∷◌, ◌++◌, length, map, Some, None, Option, refl, sym, ap, ◌∙◌, subst, arith}
use Rattle.std.proofs.Common.{append_assoc}
use Rattle.std.proofs.lemmas.List.{length-map, map-append, append-nil}
use Rattle.std.proofs.lemmas.List.Elements.{All-nil}
use Rattle.std.proofs.lemmas.Option.{slice_get_within, same_Some, none-some, get_or_from_slice_get}
use Rattle.doc_bits.specs.declared.places.Where.TheVariants.{Main}
use Rattle.doc_bits.proofs.Public.{get-map, from_map, All_at}
use Rattle.prop_map.specs.Settings.{Properties}
use Rattle.prop_map.specs.Modifiers.{no_modifier, IsCharacterAfter}
use Rattle.cfb_streams.specs.Contents.{Contents, HasNamed}
use Rattle.cfb_streams.specs.Names.{table_name, second_table_name}
use Rattle.fib_form.specs.Fib.{fib_form, fib_pair, fib_which_table}
use Rattle.fib_form.specs.FibFields.{FibFields, listed_pair}
use Rattle.fib_form.proofs.Public.{form_size-most, pair_at-fib_pairs}
use Rattle.fkp_pages.specs.declared.kind.PageKind.{PageKind}
use Rattle.fkp_pages.specs.declared.kind.PageKind.TheVariants.{Chpx, Papx}
use Rattle.fkp_pages.specs.declared.lists.Run.{Run}
use Rattle.piece_table.specs.Piece.{TextPiece, UnitPlace, places_of_piece, flat_pieces, total_length, one_piece}
use Rattle.piece_table.specs.Printing.{IsPrintedPrc, IsPrintedPcd, IsPrintedClx, pcd_bytes}
use Rattle.piece_table.proofs.Public.{one_sound, length-flat_pieces, length-unit_places, get_or-unit_places}
use Rattle.piece_table.proofs.Public.{one_printable}
use Rattle.doc_model.specs.declared.item.Mark.{Mark}
use Rattle.doc_model.specs.declared.item.Item.{Item}
use Rattle.doc_model.specs.declared.document.Document.{Document}
use Rattle.doc_model.specs.Collected.{joined_texts, sections_of}
use Rattle.doc_model.specs.Document.{IsFormedItem}
use Rattle.plain_doc.proofs.Public.{sound_is_valid}
use Rattle.doc_model.proofs.Public.{collected_from}
use Rattle.full_save.specs.Text.{extra_mark, with_mark, note_story, head_story, text_items, text_counts}
use Rattle.fib_form.specs.TableEntries.{TableEntry, IsPartAt}
use Rattle.full_save.specs.TableText.{table_entries}
use Rattle.full_save.specs.TableStream.{entries_bytes, entries_pairs}
use Rattle.full_save.specs.WordDocument.{text_offset, document_runs, full_text, full_entries, table_stream, full_fib}
use Rattle.full_save.specs.WordDocument.{wd_stream}
use Rattle.full_save.specs.Sections.{seds_from}
use Rattle.save_laws.specs.Places.{PagedStream, GivenUnit, given_of, StandsInside, GivesAt, IsMarkedAfter, IsGivenAfter}
use Rattle.save_laws.specs.Slots.{Slot, shown, loose, last, StoryEnds, loose_if, note_slots, head_slots}
use Rattle.save_laws.specs.Slots.{last_slots, document_slots, story_counts, IsPlaceForSlot}
use Rattle.save_laws.specs.Saves.{saved_entries, HasRanges, AreSavedSections, StandsForText, IsSavedAs}
use Rattle.file_rules.specs.FileRules.{table_stream_name}
use Rattle.fkp_pages.specs.Bin.{IsBinPage}
use Rattle.fkp_pages.specs.Rows.{IsPageRow, NamesRow}
use Rattle.save_laws.specs.Plans.{Plan, IsPlannedUnit, AreRunsOf, IsWrittenPlan}
use Rattle.save_laws.specs.FullSaves.{has_items, full_saved_text, HasLayout, FullSavesAreSaves}
use Rattle.fkp_pages.proofs.Public.{table_of_row}
use Rattle.save_laws.proofs.PlanLemmas.{plans_give}
use Rattle.full_save.proofs.Public.{character_run, paragraph_run, entry_stands, table_numbered, LaidOut, few_items}
use Rattle.full_save.proofs.Public.{short_wd, fib_read, unit_there, text_within, HasRowTable, character_table}
use Rattle.full_save.proofs.Public.{paragraph_table, stand_sepxes}
use Rattle.save_laws.proofs.FullSections.{FitsSepx, sections_saved}

-- ---- slots and items

-- the item of a slot: the marks behind stories and the last CP are those that a full save writes
abbrev pub slot_item : Slot → Item
slot_item (shown item) = item
slot_item loose = extra_mark
slot_item last = extra_mark

shown_items : (items : List Item) → map slot_item (map shown items) ≡ items
shown_items [] = refl
shown_items (item ∷ items) = ap (λ rest. item ∷ rest) (shown_items items)

story_by : (joined : List Item) → map slot_item (map shown joined ++ loose_if (has_items joined)) ≡ with_mark joined
story_by [] = refl
story_by (item ∷ items) =
    map-append slot_item (map shown (item ∷ items)) (loose ∷ [])
    ∙ ap (λ front. front ++ extra_mark ∷ []) (shown_items (item ∷ items))

last_by : (slots : List Slot) → map slot_item (slots ++ last_slots slots) ≡ with_mark (map slot_item slots)
last_by [] = refl
last_by (slot ∷ slots) = map-append slot_item (slot ∷ slots) (last ∷ [])

abbrev pub full_ends : Document → StoryEnds
full_ends document = (full_saved_text document).ends

notes_by : (document : Document) → map slot_item (note_slots document (full_ends document)) ≡ note_story document
unfolding note_story
notes_by document = story_by (joined_texts document.notes)

heads_by : (document : Document) → map slot_item (head_slots document (full_ends document)) ≡ head_story document
unfolding head_story
heads_by document = story_by (joined_texts document.heads)

-- the slots of the whole text are the items of the layout
pub whole_items : (document : Document) → map slot_item (document_slots document (full_ends document)) ≡ text_items
    document
unfolding document_slots text_items
whole_items document =
    let main : List Slot = map shown document.main in
    let notes = note_slots document (full_ends document) in
    let heads = head_slots document (full_ends document) in
    let ends = last_slots (notes ++ heads) in
    let both : map slot_item (notes ++ heads) ≡ note_story document ++ head_story document =
    map-append slot_item notes heads ∙ (λ i. notes_by document i ++ heads_by document i) in
    let later : map slot_item (notes ++ (heads ++ ends)) ≡ with_mark (note_story document ++ head_story document) =
    ap (map slot_item) (sym (append_assoc notes heads ends)) ∙ (last_by (notes ++ heads) ∙ ap with_mark both) in
    map-append slot_item main (notes ++ (heads ++ ends)) ∙ (λ i. shown_items document.main i ++ later i)

-- the counts are those of the layout
counts_by : (document : Document) → story_counts document (full_ends document) ≡ text_counts document
unfolding text_counts
counts_by document =
    let notes : length (note_slots document (full_ends document)) ≡ length (note_story document) =
    sym (length-map (note_slots document (full_ends document)) slot_item) ∙ ap length (notes_by document) in
    let heads : length (head_slots document (full_ends document)) ≡ length (head_story document) =
    sym (length-map (head_slots document (full_ends document)) slot_item) ∙ ap length (heads_by document) in
    λ i. length document.main ∷ notes i ∷ heads i ∷ []

-- ---- the text as added text

abbrev the_stream : Document → PagedStream
the_stream document = (full_saved_text document).stream

abbrev the_plan : Document → Plan
the_plan document = record { base = text_offset; added = map given_of (text_items document) }

runs_of : (document : Document) →
    AreRunsOf (the_plan document) (document_runs Chpx document) (document_runs Papx document)
runs_of document =
    let items = text_items document in
    record {
      character = λ k given here.
          let found = from_map given_of items k given here in
          let run = character_run text_offset items k found.0 found.1.0 in
          (run.0, (run.1.0, run.1.1 ∙ ap (λ (g : GivenUnit). g.chp) found.1.1));
      paragraph = λ k given mark here marked.
          let found = from_map given_of items k given here in
          paragraph_run text_offset items k found.0 mark found.1.0 (ap (λ (g : GivenUnit). g.mark) found.1.1 ∙ marked);
    }

-- a row's own table names its pages
names_own : (kind : PageKind) (wd : List ℕ) (runs : List Run) (table : List ℕ) → HasRowTable kind wd runs table →
    (first : ℕ) × ((row : IsPageRow kind wd runs first) × NamesRow row table)
names_own kind wd runs table has =
    (has.first, (has.row, λ fc number is. subst (λ bin. IsBinPage bin fc number) has.table_is is))

written : (s : LaidOut) → IsWrittenPlan (the_plan s.document) (the_stream s.document)
written s =
    let d = s.document in
    let items = text_items d in
    let count = length-map items given_of in
    let within = text_within s in
    record {
      behind_fib = omega (arith, form_size-most (fib_form (wd_stream d)));
      within = omega (arith, count, within);
      units = λ k given here.
          let found = from_map given_of items k given here in
          unit_there s k found.0 found.1.0 ∙ ap (λ (g : GivenUnit). g.unit) found.1.1;
      characters = document_runs Chpx d;
      paragraphs = document_runs Papx d;
      runs = runs_of d;
      character_row = λ some. names_own Chpx (wd_stream d) (document_runs Chpx d) (the_stream d).characters
          (character_table s);
      paragraph_row = λ some. names_own Papx (wd_stream d) (document_runs Papx d) (the_stream d).paragraphs
          (paragraph_table s);
    }

-- what a modifier that does nothing leaves
pub nothing_done : (properties : Properties) → IsCharacterAfter no_modifier properties properties
nothing_done properties code = ap (λ o. option_or o (get properties code)) (sym (get-empty _ code))

pub mark_stays : (mark : Option Mark) → IsMarkedAfter no_modifier mark mark
mark_stays None = tt
mark_stays (Some mark) = (refl, λ code. ap (λ o. option_or o (get mark.pap code)) (sym (get-empty _ code)))

pub given_after : (given : GivenUnit) → IsGivenAfter no_modifier given given
given_after given = record { unit = refl; characters = nothing_done given.chp; mark = mark_stays given.mark }

placed_by : (stream : PagedStream) (at : ℕ) (slot : Slot) → GivesAt stream at true (given_of (slot_item slot)) →
    IsPlaceForSlot (StandsInside stream) (GivesAt stream) (record { at = at; wide = true; modifier = no_modifier }) slot
placed_by stream at (shown item) gives =
    record { before = given_of item; gives = gives; after = given_after (given_of item) }
placed_by stream at loose gives = record { given = given_of extra_mark; unit = refl; marked = refl; gives = gives }
placed_by stream at last gives = gives.stands

-- the places of the one piece
abbrev the_piece : ℕ → TextPiece
the_piece len = record { at = text_offset; wide = true; len = len; modifier = no_modifier }

abbrev pub the_place : ℕ → UnitPlace
the_place k = record { at = text_offset + 2 * k; wide = true; modifier = no_modifier }

pub place_is : (len k : ℕ) (place : UnitPlace) → slice_get (flat_pieces (one_piece text_offset len)) k ≡ Some place →
    place ≡ the_place k
unfolding flat_pieces
place_is len k place here =
    let all : flat_pieces (one_piece text_offset len) ≡ places_of_piece (the_piece len) =
    append-nil (places_of_piece (the_piece len)) in
    let there : slice_get (places_of_piece (the_piece len)) k ≡ Some place =
    subst (λ (places : List UnitPlace). slice_get places k ≡ Some place) all here in
    let within = slice_get_within (places_of_piece (the_piece len)) k place there in
    let count = length-unit_places (the_piece len) in
    let below : k < len = omega (arith, within, count) in
    let got = get_or-unit_places (the_piece len) k place below in
    let e : text_offset + k * 2 ≡ text_offset + 2 * k = omega arith in
    sym (get_or_from_slice_get (places_of_piece (the_piece len)) k place place there)
    ∙ (got ∙ (λ i. record { at = e i; wide = true; modifier = no_modifier }))

full_placed : (s : LaidOut) →
    StandsForText (the_stream s.document) (one_piece text_offset (length (text_items s.document))) s.document
    (full_ends s.document)
full_placed s =
    let d = s.document in
    let items = text_items d in
    let slots = document_slots d (full_ends d) in
    let stream = the_stream d in
    let flat = length-flat_pieces (one_piece text_offset (length items)) in
    let whole = length-map slots slot_item in
    let same = ap length (whole_items d) in
    let one : total_length (one_piece text_offset (length items)) ≡ length items = omega arith in
    record {
      len = omega (arith, flat, whole, same, one);
      each = λ k place slot here there.
          let item : slice_get items k ≡ Some (slot_item slot) =
          subst (λ (xs : List Item). slice_get xs k ≡ Some (slot_item slot)) (whole_items d)
          (get-map slot_item slots k slot there) in
          let planned : IsPlannedUnit (the_plan d) (text_offset + 2 * k) true (given_of (slot_item slot)) = record {
            number = k;
            there = get-map given_of items k (slot_item slot) item;
            here = refl;
            two_bytes = refl;
          } in
          let gives =
          plans_give (the_plan d) stream (text_offset + 2 * k) true (given_of (slot_item slot)) (written s) planned in
          subst (λ p. IsPlaceForSlot (StandsInside stream) (GivesAt stream) p slot)
          (sym (place_is (length items) k place here))
          (placed_by stream (text_offset + 2 * k) slot gives);
    }

-- ---- the pieces

one_pcd : (len k : ℕ) (piece : TextPiece) → slice_get (one_piece text_offset len) k ≡ Some piece →
    IsPrintedPcd [] piece (slice_index_or (pcd_bytes (record { at = text_offset; wide = true; len = len }) 0 ∷ []) k [])
one_pcd len zero piece here =
    subst (λ p. IsPrintedPcd [] p (pcd_bytes (record { at = text_offset; wide = true; len = len }) 0))
    (same_Some (the_piece len) piece here)
    (record { prm = 0; names = inl (refl, refl); spelt = refl })
one_pcd len (suc k) piece here = absurd (none-some piece here)

one_printed : (document : Document) →
    IsPrintedClx (one_piece text_offset (length (text_items document))) (full_saved_text document).clx
one_printed document = record {
  prcs = [];
  pcds = pcd_bytes (record { at = text_offset; wide = true; len = length (text_items document) }) 0 ∷ [];
  few = omega arith;
  each = All-nil (IsPrintedPrc (one_piece text_offset (length (text_items document))));
  once = λ i j modifier here there. absurd (none-some modifier here);
  count = refl;
  pcd = one_pcd (length (text_items document));
  spelt = refl;
}

-- ---- tables, sections and parts

has_ranges : (kind : PageKind) (wd : List ℕ) (runs : List Run) (table : List ℕ) → HasRowTable kind wd runs table →
    HasRanges table
has_ranges kind wd runs table has =
    let is = table_of_row kind wd runs has.first has.row in
    let some = is.printable.some in
    subst HasRanges has.table_is (record { table = is.table.table; some = omega (arith, is.table.count, some) })

full_sections : (s : LaidOut) →
    AreSavedSections (sections_of s.document.main) (wd_stream s.document) (full_saved_text s.document).seds
full_sections s =
    let d = s.document in
    let stand = stand_sepxes s in
    let fit : (k : ℕ) (section : ℕ × Properties) → slice_get (sections_of d.main) k ≡ Some section →
    FitsSepx section.1 = λ k section here.
    let from = collected_from (λ (item : Item). item.sect) 0 d.main k section here in
    let formed = All_at IsFormedItem d.main from.index from.item s.formed.main.each from.here in
    let right = (s.right.texts Main d.main refl).short from.index from.item from.here in
    record { formed = formed.maps.sect section.1 from.has; short = right.sect section.1 from.has } in
    let saved =
    sections_saved (wd_stream d) stand.before stand.after (sections_of d.main) fit stand.there stand.low (short_wd s) in
    subst (λ n. AreSavedSections (sections_of d.main) (wd_stream d) (seds_from 0 n (sections_of d.main))) stand.place
    saved

full_part : (s : LaidOut) (k : ℕ) (part : TableEntry) → slice_get (full_entries s.document) k ≡ Some part →
    IsPartAt (table_stream s.document) (fib_pair (wd_stream s.document) part.number) part
unfolding table_stream full_fib
full_part s k part here =
    let d = s.document in
    let stands = entry_stands (full_entries d) k part (table_numbered d (full_text d) s.formed.carried.lists) here in
    let pairs : listed_pair (entries_pairs (full_entries d)) part.number ≡ fib_pair (wd_stream d) part.number =
    ap (λ (fib : FibFields). listed_pair fib.pairs part.number) (sym (fib_read s).fields)
    ∙ pair_at-fib_pairs (wd_stream d) part.number stands.below in
    subst (λ pair. IsPartAt (entries_bytes (full_entries d)) pair part) pairs stands.there

-- the parts of the saved text are those of the layout
entries_same : (document : Document) → saved_entries document (full_saved_text document) ≡ full_entries document
entries_same document =
    ap (λ (counts : List ℕ). table_entries document (record {
      counts = counts;
      seds = (full_text document).seds;
      characters = (full_text document).characters;
      paragraphs = (full_text document).paragraphs;
      clx = (full_text document).clx;
    })) (counts_by document)

-- ---- the whole

saved_of : (s : LaidOut) (contents : Contents) → HasLayout s.document contents →
    IsSavedAs s.document (full_saved_text s.document) (table_stream s.document) contents
unfolding full_fib
saved_of s contents has =
    let d = s.document in
    let read = fib_read s in
    let few = few_items d s.right in
    let short = short_wd s in
    let which : fib_which_table (wd_stream d) ≡ 1 = ap (λ (fib : FibFields). fib.which_table) read.fields in
    let named : table_stream_name (wd_stream d) ≡ second_table_name = ap table_name which in
    record {
      pieces = one_sound text_offset (length (text_items d)) few.some few.all (omega (arith, few.all));
      printable = one_printable text_offset (length (text_items d)) (omega arith);
      clx = one_printed d;
      text = full_placed s;
      characters = has_ranges Chpx (wd_stream d) (document_runs Chpx d) (the_stream d).characters (character_table s);
      paragraphs = has_ranges Papx (wd_stream d) (document_runs Papx d) (the_stream d).paragraphs (paragraph_table s);
      sections = full_sections s;
      fib = read.rules;
      counts = ap (λ (fib : FibFields). fib.ccps) read.fields ∙ sym (counts_by d);
      kept = record {
        lid = sym (ap (λ (fib : FibFields). fib.kept.lid) read.fields);
        lid_fe = sym (ap (λ (fib : FibFields). fib.kept.lid_fe) read.fields);
        flags = sym (ap (λ (fib : FibFields). fib.kept.flags) read.fields);
      };
      parts = λ k part here. full_part s k part (subst (λ parts. slice_get parts k ≡ Some part) (entries_same d) here);
      wd_small = omega (arith, short);
      has_wd = has.wd;
      has_table = subst (λ name. HasNamed contents.streams name (table_stream d)) (sym named) has.table;
      clsid = has.clsid;
      streams = has.streams;
    }

pub full_saves_are_saves : FullSavesAreSaves
full_saves_are_saves document contents formed sound short has =
    saved_of (record { document = document; formed = formed; right = sound_is_valid document sound; short = short })
    contents has
