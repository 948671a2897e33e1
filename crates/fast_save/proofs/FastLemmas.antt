-- The file of a fast save, and the session after it.
use Rattle.std.specs.Prelude.{ℕ, List, min}
use Rattle.std.proofs.Common.{◌≡◌, ◌∙◌, ◌⊎◌, ◌+◌, ◌-◌, ◌*◌, ◌/◌, ◌^◌, ◌≤◌, [], inl, inr, refl, sym, ap, subst, true}
use Rattle.std.proofs.Common.{length}
use Rattle.std.proofs.Common.{arith}
use Rattle.cfb_sectors.specs.Header.{sector_count}
use Rattle.cfb_streams.specs.Names.{wd_name}
use Rattle.cfb_in_place.specs.InPlace.{StaysInPlace}
use Rattle.fib_form.specs.FibFields.{FibFields, fib_fields}
use Rattle.fib_form.specs.declared.table_parts.TablePart.TheVariants.{PlcfBteChpx, PlcfBtePapx}
use Rattle.fkp_pages.specs.declared.kind.PageKind.TheVariants.{Chpx, Papx}
use Rattle.piece_table.specs.Piece.{TextPiece, ArePieces, flat_pieces}
use Rattle.doc_model.specs.declared.document.Document.{Document}
use Rattle.doc_model.specs.Document.{IsFormedText}
use Rattle.doc_model.specs.Formed.{IsFormed}
use Rattle.plain_doc.proofs.Public.{sound_is_valid}
use Rattle.file_rules.specs.FileRules.{FileText, doc_source_of}
use Rattle.full_save.specs.WordDocument.{table_stream}
use Rattle.doc_read.specs.Opened.{OpenedFile}
use Rattle.save_laws.specs.declared.ends.Ends.{Ends}
use Rattle.save_laws.specs.Ends.{ends_of}
use Rattle.save_laws.specs.ByRuns.{IsBounded, AreBounded, text_ends}
use Rattle.save_laws.specs.GivenFiles.{paged_stream_of}
use Rattle.save_laws.specs.KeptPages.{KeepsBytes}
use Rattle.save_laws.specs.Places.{PagedStream, fib_end}
use Rattle.save_laws.specs.Slots.{StoryEnds, document_slots}
use Rattle.save_laws.specs.Laws.{IsSavedIn}
use Rattle.save_laws.proofs.Public.{fast_saves_are_saves, slot_there, files_hold, Save as SavedCopy, part_is}
use Rattle.save_laws.specs.SharedPages.{page_bound}
use Rattle.fast_save_layout.specs.declared.fault.AppendFault.TheVariants.{Sixteenth, TooLarge}
use Rattle.fast_save_layout.specs.Saves.{FastSave, plan_of}
use Rattle.fast_save_layout.specs.Appended.{old_wd, old_stream, fast_fib, fast_wd, fast_table, change_of, table_name_of}
use Rattle.fast_save_layout.specs.Appended.{fast_bin_table, fast_saved_text}
use Rattle.fast_save_layout.specs.FastByRuns.{AreBoundedBefore}
use Rattle.fast_save_layout.specs.Answers.{IsAnew, IsAppended, IsAppendFault, IsInPlace}
use Rattle.fast_save_layout.proofs.Public.{fast_saves_are_bounded, Ready, stays, appended_saves_are_short}
use Rattle.fast_save_layout.proofs.Public.{appended_files_are_short, counted_saves_fit}
use Rattle.session_text.specs.SessionText.{HaveNoModifiers, HaveModifiersWithin, unwritten_count}
use Rattle.fast_save.specs.declared.fast_parts.FastParts.{FastParts}
use Rattle.fast_save.specs.declared.ledgers.Counts.{Counts}
use Rattle.fast_save.specs.declared.parts.SessionParts.{SessionParts}
use Rattle.fast_save.specs.Ledgers.{modifier_bytes, sector_bound, after_fast}
use Rattle.fast_save.specs.Session.{IsBoundedFile, IsSession, IsSessionCounted, saved_stream, bin_length}
use Rattle.fast_save.specs.Started.{IsOpenFile}
use Rattle.fast_save.specs.Fast.{CanSaveFast, IsFastFile, AreFastParts, IsSavedFast, GrowsBehindFib, IsWithinBounds}
use Rattle.fast_save.specs.Fast.{counts_over}
use Rattle.fast_save.specs.Fast.{KeepsSectors, KeepsOtherSectors, IsInOwnSectors, save_in, save_counts}
use Rattle.fast_save.proofs.BoundedLemmas.{same_ends}
use Rattle.fast_save.proofs.CanLemmas.{small, wd_is, old_stream_is, can_append, counted}
use Rattle.fast_save.proofs.CountLemmas.{no_pages}
use Rattle.fast_save.proofs.StartLemmas.{opened_stand, AreFileParts, begun, all_written}

-- ---- the file

fast_quick_saves : (save : FastSave) (clx : List ℕ) → (fast_fib save clx).quick_saves ≡ save.fib.quick_saves + 1
unfolding fast_fib
fast_quick_saves save clx = refl

fast_complex : (save : FastSave) (clx : List ℕ) → (fast_fib save clx).complex ≡ true
unfolding fast_fib
fast_complex save clx = refl

-- no fewer sectors are reckoned where more are there, or more bytes of bin tables
bound_grows : (sectors more front bins most : ℕ) → sectors ≤ more → bins ≤ most →
    min (sectors + (front + bins + 16384 + 499) / 500 + 8) (2 ^ 64 - 1)
    ≤ min (more + (front + most + 16384 + 499) / 500 + 8) (2 ^ 64 - 1)
bound_grows sectors more front bins most fewer less = omega (arith, fewer, less)

-- what is reckoned of the bytes but for those of bin tables
abbrev bytes_beside : Counts → ℕ → ℕ
bytes_beside counts table_bytes =
    2 * counts.units + 528 * counts.runs + 512 * counts.sections + (12 + modifier_bytes counts) * counts.pieces
    + table_bytes

module _ {old : List ℕ} (document : Document) (parts : SessionParts) (can : CanSaveFast old document parts)
    (formed : IsFormed document) (items : IsFormedText parts.text.added.items)
    (pieces : ArePieces parts.text.pieces.pieces) where
  abbrev save : FastSave
  save = save_in old document parts

  abbrev full_table : ℕ
  full_table = length (table_stream document)

  -- the counts over the old file are no more than the counts
  abbrev own : Counts
  own = counts_over old can.session.held.parts.text.wd can.counts

  own_bins : bin_length parts.fib ≡ bin_length (fib_fields can.session.held.parts.text.wd)
  own_bins = ap bin_length can.session.fib

  own_bound : sector_bound own full_table ≤ sector_bound can.counts full_table
  own_bound =
      bound_grows (sector_count old) can.counts.sectors (bytes_beside can.counts full_table)
      (bin_length (fib_fields can.session.held.parts.text.wd)) can.counts.bin_bytes can.counted.sectors
      (omega (arith, own_bins, can.counted.bins))

  can_own : CanSaveFast old document parts
  can_own = record {
    counts = own;
    session = can.session;
    counted = record {
      pieces = can.counted.pieces;
      modified = can.counted.modified;
      printed = can.counted.printed;
      sectors = omega arith;
      few = omega (arith, can.counted.sectors, can.counted.few);
      bins = omega (arith, own_bins);
      pages = can.counted.pages;
      text = can.counted.text;
      unwritten = can.counted.unwritten;
    };
    judged = record {
      saves = can.judged.saves;
      pieces = can.judged.pieces;
      sectors = omega (arith, own_bound, can.judged.sectors);
    };
  }

  pub never_sixteenth : ¬ IsAppendFault save Sixteenth
  never_sixteenth fifteen = absurd (omega (arith, fifteen, can.judged.saves))

  pub never_large : (sectors : ℕ) → ¬ IsAppendFault save (TooLarge sectors)
  never_large sectors =
      counted_saves_fit (save_counts can.counts (length (table_stream document))) save sectors
      (counted document parts can formed items pieces)
      (omega (arith, (small document parts can formed items pieces).exact, can.judged.sectors))

  module _ (file : List ℕ) (made : IsAppended save file) where
    read : IsSavedIn file document (fast_saved_text save made.clx) (fast_table save made.clx) made.contents
    read =
        files_hold file document (fast_saved_text save made.clx) (fast_table save made.clx) made.contents formed
        can.session.sound
        (fast_saves_are_saves document (old_stream save) (plan_of save) (fast_saved_text save made.clx)
        (fast_table save made.clx) made.contents made.saved)
        made.container

    new_wd : read.holds.parts.text.wd ≡ fast_wd save made.clx
    new_wd = ap (λ (t : FileText). t.wd) read.text_is

    behind : GrowsBehindFib can.counts can.session.held.parts.text.wd read.holds.parts.text.wd
    behind =
        let wd_was = wd_is document parts can formed items pieces in
        let short =
        appended_saves_are_short (save_counts can.counts (length (table_stream document))) save made.clx
        (counted document parts can formed items pieces) made.printed in
        let wd = short.wd in
        record {
          keeps =
              subst (λ (w : List ℕ). KeepsBytes w read.holds.parts.text.wd) wd_was
              (subst (KeepsBytes (old_wd save)) (sym new_wd) made.saved.keeps.bytes);
          grown = omega (arith, wd, ap length wd_was, ap length new_wd);
          complex =
              ap (λ (w : List ℕ). (fib_fields w).complex) new_wd
              ∙ (ap (λ (f : FibFields). f.complex) made.fib ∙ fast_complex save made.clx);
        }

    new_table : read.holds.parts.text.table ≡ fast_table save made.clx
    new_table = ap (λ (t : FileText). t.table) read.text_is

    within : IsWithinBounds own full_table file read.holds.parts.text.wd read.holds.parts.text.table
    unfolding can_own
    within =
        let count = counted document parts can_own formed items pieces in
        let short = appended_saves_are_short (save_counts own full_table) save made.clx count made.printed in
        let few = appended_files_are_short (save_counts own full_table) save file count made in
        let sectors = few.sectors in
        let bins = few.bins in
        record {
          table =
              subst
              (λ (t : List ℕ).
              length t
              ≤ full_table + own.bin_bytes + (12 + modifier_bytes own) * own.pieces + 16 * own.runs + 4096)
              (sym new_table) short.table;
          bins = omega (arith, bins, ap (λ (w : List ℕ). bin_length (fib_fields w)) new_wd);
          sectors = omega (arith, sectors, (small document parts can_own formed items pieces).exact);
        }

    -- the old units are bounded in the old stream
    before_bounded : IsBoundedFile can.session.held → AreBoundedBefore save
    before_bounded old_file k place end here there low =
        let units = can.session.bounded old_file in
        let slot = slot_there document (ends_of parts.text.ends) k end there in
        subst (λ (s : PagedStream). IsBounded s place.at place.wide end)
        (sym (old_stream_is document parts can formed items pieces))
        (units.each k place slot.slot here slot.here low end slot.is)

    abbrev saved_as : SavedCopy
    saved_as = record {
      document = document;
      saved = fast_saved_text save made.clx;
      table = fast_table save made.clx;
      contents = made.contents;
      formed = formed;
      right = sound_is_valid document can.session.sound;
      is = fast_saves_are_saves document (old_stream save) (plan_of save) (fast_saved_text save made.clx)
          (fast_table save made.clx) made.contents made.saved;
    }

    new_stream_is : saved_stream read.holds ≡ (fast_saved_text save made.clx).stream
    new_stream_is =
        let chp = part_is saved_as 5 PlcfBteChpx (fast_bin_table Chpx save) refl in
        let pap = part_is saved_as 6 PlcfBtePapx (fast_bin_table Papx save) refl in
        ap (λ (t : FileText). paged_stream_of (doc_source_of t)) read.text_is
        ∙ (λ i. record { wd = fast_wd save made.clx; characters = chp i; paragraphs = pap i })

    bounded : IsBoundedFile can.session.held → IsBoundedFile read.holds
    bounded old_file ends counts =
        let law = fast_saves_are_bounded save file (can_append document parts can formed items pieces) formed items made
        (before_bounded old_file) in
        let same : ends ≡ save.ends =
        same_ends document ends save.ends
        (sym counts ∙ (ap (λ (w : List ℕ). (fib_fields w).ccps) new_wd ∙ made.saved.counts)) in
        let own : read.holds.parts.text.pieces ≡ save.pieces = ap (λ (t : FileText). t.pieces) read.text_is in
        subst
        (λ (e : StoryEnds). AreBounded (saved_stream read.holds) (flat_pieces read.holds.parts.text.pieces)
        (text_ends (document_slots document e)))
        (sym same)
        (subst
        (λ (p : List TextPiece). AreBounded (saved_stream read.holds) (flat_pieces p)
        (text_ends (document_slots document save.ends)))
        (sym own)
        (subst
        (λ (s : PagedStream). AreBounded s (flat_pieces save.pieces) (text_ends (document_slots document save.ends)))
        (sym new_stream_is) law))

    -- where the old stream has sectors of its own it stays in them
    in_place : KeepsSectors old file can.session.held.parts.text.wd
    in_place long =
        let ready : Ready = record {
          save = save;
          can = can_append document parts can formed items pieces;
          formed = formed;
          items = items;
        } in
        let same = wd_is document parts can formed items pieces in
        subst (λ (wd : List ℕ). StaysInPlace wd_name (fib_end wd) old file wd) same
        (stays ready file made (omega (arith, ap length same, long)))

    in_own_sectors : (IsAnew save made.clx file made.contents ⊎ IsInPlace save made.clx file made.contents) →
        4096 ≤ length (old_wd save) → IsInOwnSectors old file
    in_own_sectors (inl anew) long = absurd (omega (arith, anew.short, long))
    in_own_sectors (inr place) long = record {
      contents = save.contents;
      change = change_of save made.clx;
      table = table_name_of save;
      saved = place.in_place;
    }

    -- the other streams stay in theirs
    others : KeepsOtherSectors old file can.session.held.parts.text.wd
    others long =
        let same = wd_is document parts can formed items pieces in
        in_own_sectors made.written (omega (arith, ap length same, long))

    pub fast_file : IsFastFile can file
    fast_file =
        record {
          held = record { accepted = read.accepted; holds = read.holds; sound = can.session.sound };
          pieces = ap (λ (t : FileText). t.pieces) read.text_is;
          quick_saves =
              ap (λ (w : List ℕ). (fib_fields w).quick_saves) new_wd
              ∙ (ap (λ (f : FibFields). f.quick_saves) made.fib ∙ fast_quick_saves save made.clx);
          behind = behind;
          within = within;
          bounded = bounded;
          in_place = in_place;
          others = others;
        }

-- ---- the session after it

-- what a session has beside its document after a fast save: the pieces stay
pub record AreAfter (old : SessionParts) (behind : FastParts) (new : SessionParts) : Type 0 where
  pub pieces : new.text.pieces.pieces ≡ old.text.pieces.pieces
  pub base : new.text.added.base ≡ behind.base
  pub items : new.text.added.items ≡ []
  pub ends : new.text.ends ≡ behind.ends
  pub places : new.text.sections.items ≡ behind.places.items
  pub fib : new.fib ≡ behind.fib
  pub contents : new.container ≡ behind.container

module _ {old : List ℕ} (document : Document) (parts : SessionParts) (can : CanSaveFast old document parts)
    (file : List ℕ) (made : IsFastFile can file) (behind : FastParts) (are : AreFastParts made.held.holds behind)
    (new : SessionParts) (after : AreAfter parts behind new) where
  abbrev opened : OpenedFile
  opened = record {
    document = document;
    fib = new.fib;
    contents = new.container;
    pieces = new.text.pieces.pieces;
  }

  abbrev opening : IsOpenFile opened
  opening = record {
    file = file;
    bytes = are.bytes;
    is = record {
      accepted = made.held.accepted;
      holds = made.held.holds;
      sound = made.held.sound;
      contents = after.contents ∙ are.contents;
      fib = after.fib ∙ are.fib;
      pieces = after.pieces ∙ sym made.pieces;
    };
  }

  file_parts : AreFileParts opened opening new
  file_parts =
      let stand = opened_stand opened opening in
      record {
        pieces = after.pieces ∙ sym made.pieces;
        items = after.items;
        base = after.base ∙ are.base;
        ends = ap (λ (e : Ends). ends_of e) after.ends ∙ are.ends stand.ends stand.counts;
        sections = after.places ∙ are.places;
        fib = refl;
        contents = refl;
      }

  pub session_after_fast : IsSession file document new
  session_after_fast = begun opened opening new file_parts

  abbrev pub bound : ℕ
  bound = sector_bound can.counts (length (table_stream document))

  pub counted_after_fast : can.counts.bin_bytes + 16 * can.counts.runs ≤ 6976000 →
      IsSessionCounted file new (after_fast bound can.counts)
  counted_after_fast low =
      let sectors = made.within.sectors in
      let bins = made.within.bins in
      let before = ap bin_length can.session.fib in
      let grows =
      bound_grows (sector_count old) can.counts.sectors (bytes_beside can.counts (length (table_stream document)))
      (bin_length (fib_fields can.session.held.parts.text.wd)) can.counts.bin_bytes can.counted.sectors
      (omega (arith, before, can.counted.bins)) in
      record {
        pieces = omega (arith, can.counted.pieces, ap (λ (p : List TextPiece). length p) after.pieces);
        modified = λ no. subst HaveNoModifiers (sym after.pieces) (can.counted.modified no);
        printed = subst (HaveModifiersWithin can.counts.printed) (sym after.pieces) can.counted.printed;
        sectors = omega (arith, sectors, grows);
        few = can.judged.sectors;
        bins = omega (arith, bins, low, before, can.counted.bins, ap bin_length (after.fib ∙ are.fib));
        added = omega (arith, ap length after.items);
        pages = omega (arith, ap page_bound after.items, no_pages);
        text = omega (arith, ap length after.items, ap page_bound after.items, no_pages);
        unwritten =
            let none = ap unwritten_count (after.places ∙ are.places) in
            omega (arith, none, all_written made.held.holds.parts.lists.sections);
      }

  pub saved_fast :
      IsSavedFast
      (record { bytes = old; document = document; counts = can.counts; quick_saves = parts.fib.quick_saves })
      (record {
        bytes = file;
        document = document;
        counts = after_fast bound can.counts;
        quick_saves = new.fib.quick_saves;
      })
  saved_fast = record {
    judged = can.judged;
    accepted = made.held.accepted;
    holds = made.held.holds;
    document = refl;
    quick_saves = ap (λ (f : FibFields). f.quick_saves) (after.fib ∙ are.fib) ∙ made.quick_saves;
    counts = refl;
    before = can.session.held.parts;
    has_before = can.session.held.has_parts;
    behind = made.behind;
    count = made.quick_saves;
    within = made.within;
    bounded = record { saved = can.session.saved; held = can.session.held; stays = made.bounded };
    in_place = made.in_place;
    others = made.others;
  }
