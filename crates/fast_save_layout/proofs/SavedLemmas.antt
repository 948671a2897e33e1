-- What is written behind an old stream is a fast save of the document, and the file holds its streams.
use Rattle.std.specs.Prelude.{slice_get, slice_index, take}
use Rattle.std.proofs.Common.{◌≡◌, ◌∙◌, refl, sym, ap, subst, inl, inr, ℕ, ◌+◌, ◌<◌, ◌≤◌, ◌^◌}
use Rattle.std.proofs.Common.{List, [], ◌++◌, length, map, Some, Bool, eqb, arith}
use Rattle.std.proofs.lemmas.List.{length-map}
use Rattle.std.proofs.lemmas.Option.{slice_get_within}
use Rattle.doc_bits.proofs.Public.{All_at, All-from_slice_get, there_is}
use Rattle.doc_bits.specs.declared.places.Where.TheVariants.{File}
use Rattle.cfb_streams.specs.Contents.{Contents, NamedBytes, HasNamed, AreStreams}
use Rattle.cfb_streams.specs.Container.{container_rules, HasContents}
use Rattle.cfb_streams.specs.Names.{wd_name, table_name}
use Rattle.cfb_layout.specs.Counts.{Fits}
use Rattle.cfb_layout.specs.Layout.{lengths_of, compound_file}
use Rattle.cfb_layout.specs.Laws.{AreLayoutStreams}
use Rattle.cfb_layout.proofs.Public.{file_holds, file_contents}
use Rattle.fib_form.specs.Fib.{fib_pair, fib_which_table}
use Rattle.fib_form.specs.FibFields.{FibFields, fib_fields, listed_pair}
use Rattle.fib_form.specs.TableEntries.{TableEntry, IsPartAt}
use Rattle.fib_form.proofs.Public.{pair_at-fib_pairs}
use Rattle.fkp_pages.specs.declared.kind.PageKind.TheVariants.{Chpx, Papx}
use Rattle.piece_table.specs.Piece.{TextPiece, UnitPlace, IsTextPiece, flat_pieces, place_of_cp, total_length}
use Rattle.piece_table.specs.ClxRules.{FitsPages}
use Rattle.piece_table.specs.Printing.{IsPrintable}
use Rattle.doc_model.specs.Collected.{sections_of}
use Rattle.doc_read.specs.CarriedParts.{AreWithinBounds, carried_streams}
use Rattle.doc_read.proofs.Public.{contents-bounded, place_at, place_in_piece}
use Rattle.file_rules.proofs.Public.{hold_out}
use Rattle.full_save.specs.TableStream.{entries_bytes, entries_pairs}
use Rattle.full_save.proofs.Public.{AreNumbered, entry_stands, table_numbered}
use Rattle.doc_bits.specs.Together.{AreTogether}
use Rattle.fib_form.specs.declared.fib.KeptFib.{KeptFib}
use Rattle.doc_model.specs.declared.carried.Carried.{Carried}
use Rattle.save_laws.specs.Places.{GivenUnit, given_of}
use Rattle.save_laws.specs.Slots.{Slot, shown, loose, last, IsPlaceForSlot, document_slots}
use Rattle.save_laws.specs.Saves.{saved_entries, KeepsFields, IsFileOfContents}
use Rattle.save_laws.specs.FastSaves.{StandsInEither, IsGivenBy, IsFastSaved}
use Rattle.save_laws.proofs.Public.{name_six}
use Rattle.fast_save_layout.specs.Saves.{plan_of}
use Rattle.fast_save_layout.specs.Answers.{IsAppended}
use Rattle.fast_save_layout.specs.PlannedSections.{planned_seds}
use Rattle.fast_save_layout.specs.Appended.{table_name_of, old_wd, old_stream, added_pages_end, fast_seds}
use Rattle.fast_save_layout.specs.Appended.{fast_entries, fast_table, fast_fib, fast_streams, fast_contents}
use Rattle.fast_save_layout.specs.Appended.{fast_text, fast_saved_text}
use Rattle.fast_save_layout.proofs.StreamLemmas.{renewed_wd, renewed_table, renewed_carried, renewed_are_streams}
use Rattle.fast_save_layout.proofs.StreamLemmas.{length-renewed, renewed_units, contents_clsid}
use Rattle.fast_save_layout.proofs.PlannedLemmas.{planned_starts, planned_saved, HasPlanned, StandsInOne}
use Rattle.fast_save_layout.proofs.ReadyLemmas.{Ready, the_text, wd_is, base_is, have_room}
use Rattle.fast_save_layout.proofs.FilledTable.{part_in_table}
use Rattle.fast_save_layout.proofs.TableLemmas.{text_stands, has_ranges}
use Rattle.fast_save_layout.proofs.WrittenLemmas.{Made, the_save, new_wd, parts_of, wd_parts, parts_cut, places}
use Rattle.fast_save_layout.proofs.WrittenLemmas.{table_small, short_added, length-new_wd, fib_read, kept_of, kept_is}
use Rattle.fast_save_layout.proofs.WrittenLemmas.{keeps_pages, written_plan, sections_fit}

-- ---- the pieces can be printed

-- a place is below the end of what is added
place_small : (r : Ready) (at : ℕ) (wide : Bool) → StandsInEither (old_stream r.save) (plan_of r.save) at wide →
    at < 2 ^ 29
place_small r at wide (inl stands) =
    let inside = stands.inside in
    let base = base_is r in
    let behind = base.behind in
    let small = base.small in
    omega (arith, inside, behind, small)
place_small r at wide (inr planned) =
    let here = planned.here in
    let below = planned.below in
    let len = length-map r.save.added given_of in
    let small = (base_is r).small in
    omega (arith, here, below, len, small)

-- what gives something there is there
stands_by : (r : Ready) (at : ℕ) (wide : Bool) (given : GivenUnit) →
    IsGivenBy (old_stream r.save) (plan_of r.save) at wide given →
    StandsInEither (old_stream r.save) (plan_of r.save) at wide
stands_by r at wide given (inl gives) = inl gives.stands
stands_by r at wide given (inr planned) = inr (record {
  number = planned.number;
  below = slice_get_within (map given_of r.save.added) planned.number given planned.there;
  here = planned.here;
  two_bytes = planned.two_bytes;
})

stands_placed : (r : Ready) (place : UnitPlace) (slot : Slot) →
    IsPlaceForSlot (StandsInEither (old_stream r.save) (plan_of r.save)) (IsGivenBy (old_stream r.save) (plan_of
    r.save))
    place
    slot → StandsInEither (old_stream r.save) (plan_of r.save) place.at place.wide
stands_placed r place (shown item) placed = stands_by r place.at place.wide placed.before placed.gives
stands_placed r place loose placed = stands_by r place.at place.wide placed.given placed.gives
stands_placed r place last placed = placed

-- the first unit of a piece
first_place : (r : Ready) (k : ℕ) (piece : TextPiece) → slice_get r.save.pieces k ≡ Some piece →
    (cp : ℕ) × (place_of_cp r.save.pieces cp ≡ Some (place_at piece 0))
first_place r k piece here =
    let some = (All_at IsTextPiece r.save.pieces k piece r.can.pieces.each here).units.some in
    let front = total_length (take k r.save.pieces) in
    (front + 0, place_in_piece r.save.pieces k 0 (front + 0) piece here (omega (arith, some)) refl)

piece_fits : (r : Ready) (k : ℕ) (piece : TextPiece) → slice_get r.save.pieces k ≡ Some piece →
    (piece.at < 2 ^ 29) × FitsPages piece.modifier
piece_fits r k piece here =
    let first = first_place r k piece here in
    let flat = flat_pieces r.save.pieces in
    let place = place_at piece 0 in
    let text = text_stands r in
    let whole = document_slots r.save.document r.save.ends in
    let below = slice_get_within flat first.0 place first.1 in
    let len = text.len in
    let slot = there_is whole first.0 (omega (arith, below, len)) in
    let stands = stands_placed r place slot.0 (text.each first.0 place slot.0 first.1 slot.1) in
    let small = place_small r place.at place.wide stands in
    let fits = All_at (λ (p : UnitPlace). FitsPages p.modifier) flat first.0 place r.can.fit first.1 in
    (omega (arith, small), fits)

pub printable : (r : Ready) → IsPrintable r.save.pieces
printable r = record {
  few = r.can.few;
  places = All-from_slice_get (λ (p : TextPiece). p.at < 2 ^ 29) r.save.pieces (λ k piece here. (piece_fits r k piece
      here).0);
  fit = All-from_slice_get (λ (p : TextPiece). FitsPages p.modifier) r.save.pieces
      (λ k piece here. (piece_fits r k piece here).1);
}

-- ---- the parts of the table stream

numbered : (m : Made) → AreNumbered 0 (fast_entries (the_save m) m.clx)
numbered m = table_numbered (the_save m).document (fast_text (the_save m) m.clx) m.ready.formed.carried.lists

part_there : (m : Made) (k : ℕ) (part : TableEntry) →
    slice_get (saved_entries (the_save m).document (fast_saved_text (the_save m) m.clx)) k ≡ Some part →
    IsPartAt (fast_table (the_save m) m.clx) (fib_pair (new_wd m) part.number) part
unfolding fast_fib
part_there m k part here =
    let entries = fast_entries (the_save m) m.clx in
    let stands = entry_stands entries k part (numbered m) here in
    let pairs : listed_pair (entries_pairs entries) part.number ≡ fib_pair (new_wd m) part.number =
    ap (λ (fib : FibFields). listed_pair fib.pairs part.number) (sym (fib_read m).fields)
    ∙ pair_at-fib_pairs (new_wd m) part.number stands.below in
    part_in_table (the_save m) m.clx (fib_pair (new_wd m) part.number) part
    (subst (λ pair. IsPartAt (entries_bytes entries) pair part) pairs stands.there)

-- ---- the sections

sections_stand : (r : Ready) → AreTogether (HasPlanned (old_wd r.save)) r.save.places (sections_of r.save.document.main)
sections_stand r =
    subst (λ wd. AreTogether (HasPlanned wd) r.save.places (sections_of r.save.document.main)) (sym (wd_is r))
    r.can.sections

pub small_wd : (m : Made) → length (new_wd m) < 2 ^ 30
small_wd m =
    let len = length-new_wd m in
    let short = short_added m in
    omega (arith, len, short)

sections_there : (m : Made) →
    AreTogether (StandsInOne (old_wd (the_save m)) (new_wd m)) (fast_seds (the_save m))
    (sections_of (the_save m).document.main)
sections_there m =
    let save = the_save m in
    let p = parts_of m in
    let before = p.front ++ (p.text ++ (p.chp ++ p.pap)) in
    let at = (places m).sections in
    let room = (have_room m.ready).low in
    let small = small_wd m in
    subst (λ n. AreTogether (StandsInOne (old_wd save) (new_wd m))
    (planned_seds 0 n save.places (sections_of save.document.main)) (sections_of save.document.main)) at
    (planned_saved (old_wd save) (new_wd m) before [] save.places (sections_of save.document.main)
    (sections_stand m.ready) (sections_fit m.ready) (wd_parts m ∙ (parts_cut p).1.1) (omega (arith, at, room))
    (omega (arith, small)))

-- ---- the container

pub bounds : (r : Ready) → AreWithinBounds r.save.contents
bounds r =
    subst AreWithinBounds (sym r.can.contents)
    (contents-bounded r.save.file r.can.held.parts.contents (hold_out File (container_rules r.save.file)
    r.can.held.rules.0)
    r.can.held.has_parts.has_contents)

pub has_contents : (r : Ready) → HasContents r.save.file r.save.contents
has_contents r = subst (HasContents r.save.file) (sym r.can.contents) r.can.held.has_parts.has_contents

pub old_has_wd : (r : Ready) → HasNamed r.save.contents.streams wd_name (the_text r).wd
old_has_wd r =
    subst (λ (c : Contents). HasNamed c.streams wd_name (the_text r).wd) (sym r.can.contents)
    r.can.held.has_parts.has_text.has_wd

pub old_has_table : (r : Ready) → HasNamed r.save.contents.streams (table_name_of r.save) (the_text r).table
old_has_table r =
    subst (λ (c : Contents). HasNamed c.streams (table_name_of r.save) (the_text r).table) (sym r.can.contents)
    (subst (λ (fib : FibFields). HasNamed r.can.held.parts.contents.streams (table_name fib.which_table)
    (the_text r).table)
    (sym r.can.fib) r.can.held.has_parts.has_text.has_table)

pub streams_are : (m : Made) → AreStreams (fast_streams (the_save m) m.clx)
unfolding fast_streams
streams_are m =
    let small = small_wd m in
    let table = table_small m in
    renewed_are_streams (table_name_of (the_save m)) (new_wd m) (fast_table (the_save m) m.clx) (the_save m).contents
    (bounds m.ready) (omega (arith, small)) (omega (arith, table))

pub streams_few : (m : Made) → length (fast_streams (the_save m) m.clx) ≤ 1023
unfolding fast_streams
streams_few m =
    let save = the_save m in
    let same = length-renewed (table_name_of save) (new_wd m) (fast_table save m.clx) save.contents.streams in
    let few = (bounds m.ready).few in
    omega (arith, same, few)

-- ---- the save

new_which : (m : Made) → fib_which_table (new_wd m) ≡ (the_save m).fib.which_table
unfolding fast_fib
new_which m = ap (λ (fib : FibFields). fib.which_table) (fib_read m).fields

keeps_fields : (m : Made) → KeepsFields (the_save m).document (fib_fields (new_wd m))
unfolding fast_fib
keeps_fields m =
    let kept : kept_of (the_save m).document.carried ≡ (fib_fields (new_wd m)).kept =
    kept_is m.ready ∙ ap (λ (fib : FibFields). fib.kept) (sym (fib_read m).fields) in
    record {
      lid = ap (λ (k : KeptFib). k.lid) kept;
      lid_fe = ap (λ (k : KeptFib). k.lid_fe) kept;
      flags = ap (λ (k : KeptFib). k.flags) kept;
    }

clsid_is : (r : Ready) → r.save.document.carried.clsid ≡ r.save.contents.clsid
clsid_is r =
    ap (λ (c : Carried). c.clsid) r.can.carried
    ∙ (r.can.held.document_is.carried.clsid ∙ ap (λ (c : Contents). c.clsid) (sym r.can.contents))

carried_are : (r : Ready) → r.save.document.carried.streams ≡ carried_streams r.save.contents.streams
carried_are r =
    ap (λ (c : Carried). c.streams) r.can.carried
    ∙ (r.can.held.document_is.carried.streams ∙ ap (λ (c : Contents). carried_streams c.streams) (sym r.can.contents))

-- what a file holds that has the streams of the save
pub record HasSavedStreams (m : Made) (contents : Contents) : Type 0 where
  pub has_wd : HasNamed contents.streams wd_name (new_wd m)
  pub has_table : HasNamed contents.streams (table_name_of (the_save m)) (fast_table (the_save m) m.clx)
  pub clsid : contents.clsid ≡ (the_save m).contents.clsid
  pub carried : carried_streams contents.streams ≡ carried_streams (the_save m).contents.streams

pub fast_saved : (m : Made) (contents : Contents) → HasSavedStreams m contents →
    IsFastSaved (the_save m).document (old_stream (the_save m)) (plan_of (the_save m))
    (fast_saved_text (the_save m) m.clx) (fast_table (the_save m) m.clx) contents
unfolding fast_fib
fast_saved m contents has =
    let r = m.ready in
    let save = the_save m in
    let read = fib_read m in
    let small = small_wd m in
    let table = fast_table save m.clx in
    record {
      text = text_stands r;
      keeps = keeps_pages m;
      written = written_plan m;
      characters = has_ranges Chpx r;
      paragraphs = has_ranges Papx r;
      starts = planned_starts 0 (added_pages_end save) save.places (sections_of save.document.main) r.can.sections.len;
      properties = sections_there m;
      pieces = r.can.pieces;
      printable = printable r;
      clx = m.printed;
      fib = read.rules;
      counts = ap (λ (fib : FibFields). fib.ccps) read.fields;
      kept = keeps_fields m;
      parts = part_there m;
      wd_small = omega (arith, small);
      has_wd = has.has_wd;
      has_table =
          subst (λ (which : ℕ). HasNamed contents.streams (table_name which) table) (sym (new_which m)) has.has_table;
      clsid = clsid_is r ∙ sym has.clsid;
      streams = carried_are r ∙ sym has.carried;
    }

-- ---- the file that is laid out anew

streams_anew : (m : Made) → HasSavedStreams m (fast_contents (the_save m) m.clx)
unfolding fast_streams
streams_anew m =
    let r = m.ready in
    let save = the_save m in
    let name = table_name_of save in
    let table = fast_table save m.clx in
    let streams = save.contents.streams in
    let clsid = save.contents.clsid in
    record {
      has_wd = renewed_wd name (new_wd m) table streams clsid (the_text r).wd (old_has_wd r);
      has_table =
          renewed_table name (new_wd m) table streams clsid (the_text r).table (name_six save.fib.which_table)
          (old_has_table r);
      clsid = contents_clsid (fast_streams save m.clx) clsid;
      carried = renewed_carried (eqb save.fib.which_table 1) (new_wd m) table streams clsid;
    }

names_small : (m : Made) (i : ℕ) (stream : NamedBytes) →
    slice_get (fast_streams (the_save m) m.clx) i ≡ Some stream → (k : ℕ) → slice_index stream.name k < 2 ^ 16
unfolding fast_streams
names_small m =
    let save = the_save m in
    renewed_units m.ready.save.file (table_name_of save) (new_wd m) (fast_table save m.clx) save.contents
    m.ready.can.bytes (has_contents m.ready)

pub layout_is : (m : Made) → Fits (lengths_of (fast_streams (the_save m) m.clx)) →
    AreLayoutStreams (fast_streams (the_save m) m.clx) (the_save m).contents.clsid
layout_is m fits =
    let save = the_save m in
    let clsid = ap length (clsid_is m.ready) in
    let sixteen = m.ready.formed.carried.clsid in
    record {
      few = streams_few m;
      fits = fits;
      clsid_len = omega (arith, clsid, sixteen);
      names = names_small m;
    }

file_is : (m : Made) → Fits (lengths_of (fast_streams (the_save m) m.clx)) →
    IsFileOfContents (compound_file (fast_streams (the_save m) m.clx) (the_save m).contents.clsid)
    (fast_contents (the_save m) m.clx)
file_is m fits =
    let streams = fast_streams (the_save m) m.clx in
    let clsid = (the_save m).contents.clsid in
    record {
      rules = file_holds streams clsid (streams_are m) (layout_is m fits);
      has_contents = file_contents streams clsid (streams_are m) (layout_is m fits);
    }

-- a save whose file was laid out anew
pub appended_anew : (m : Made) (file : List ℕ) → length (old_wd (the_save m)) < 4096 →
    Fits (lengths_of (fast_streams (the_save m) m.clx)) →
    file ≡ compound_file (fast_streams (the_save m) m.clx) (the_save m).contents.clsid → IsAppended (the_save m) file
appended_anew m file short fits is = record {
  clx = m.clx;
  printed = m.printed;
  contents = fast_contents (the_save m) m.clx;
  written = inl (record { short = short; file_is = is; fits = fits; contents_are = refl });
  few_saves = m.few_saves;
  fib = (fib_read m).fields;
  saved = fast_saved m (fast_contents (the_save m) m.clx) (streams_anew m);
  container = subst (λ (f : List ℕ). IsFileOfContents f (fast_contents (the_save m) m.clx)) (sym is) (file_is m fits);
}
