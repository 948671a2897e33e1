-- The counts of a session: they are those of a file at its start, and no edit passes them.
use Rattle.std.specs.Prelude.{ℕ, List, min, max, slice_get, option_map, Option}
use Rattle.std.specs.List.{fold, sum_by, take-map}
use Rattle.std.proofs.Common.{None, take, get_or}
use Rattle.std.proofs.lemmas.List.{length-map}
use Rattle.std.proofs.lemmas.List.Sums.{fold_more, sum_by-cons}
use Rattle.std.proofs.lemmas.Option.{none-some, same_Some, slice_get_within, get_or_from_slice_get}
use Rattle.doc_bits.proofs.Public.{get-map, neither}
use Rattle.std.proofs.Common.{◌≡◌, ◌∙◌, ◌∷◌, ◌+◌, ◌*◌, ◌-◌, ◌^◌, ◌<◌, ◌≤◌, [], refl, sym, ap, subst}
use Rattle.std.proofs.Common.{false, Some, length, map, arith, All}
use Rattle.std.proofs.lemmas.List.Elements.{All-nil, All-cons, All-head, All-tail}
use Rattle.cfb_sectors.specs.Opening.{HasRightLength}
use Rattle.prop_map.specs.declared.modifiers.Modifier.{Modifier}
use Rattle.prop_map.specs.Modifiers.{no_modifier, printed_modifier}
use Rattle.piece_table.specs.Piece.{TextPiece, IsTextPiece, ArePieces, total_length}
use Rattle.piece_table.proofs.Public.{printed_short}
use Rattle.doc_model.specs.declared.document.Document.{Document}
use Rattle.edit_script.specs.declared.commands.Command.{Command}
use Rattle.edit_ops.specs.Codes.{HasValidCodes}
use Rattle.edit_ops.specs.Runs.{reckoned_runs}
use Rattle.edit_ops.specs.Edits.{changes_of}
use Rattle.doc_model.specs.Stretches.{stretches}
use Rattle.save_laws.specs.SharedPages.{pages_begun, page_bound}
use Rattle.session_text.specs.SessionText.{HaveFitModifiers, HaveNoModifiers, HaveModifiersWithin, unwritten_count}
use Rattle.session_text.specs.EditSteps.{growth_of, pieces_added}
use Rattle.session_text.specs.TextEdits.{IsTextEdit, IsSectionsEdit}
use Rattle.fast_save.specs.declared.ledgers.Counts.{Counts}
use Rattle.fast_save.specs.declared.parts.SessionParts.{SessionParts}
use Rattle.fast_save.specs.Ledgers.{AreCountsOf, longest_modifier, is_formatting, modifier_growth}
use Rattle.fast_save.specs.Ledgers.{after_edit}
use Rattle.cfb_sectors.specs.Header.{sector_count}
use Rattle.fast_save.specs.Session.{IsSessionCounted, bin_length}
use Rattle.fast_save.specs.Edited.{HasEditRoom}
use Rattle.fast_save.proofs.OpenLemmas.{flat_modifiers}
use Rattle.fast_save.proofs.AddedBytes.{bytes_of}
use Rattle.fast_save.proofs.CommandLemmas.{sections_few, growth_few, others_act_on_none, few_reckoned, few_sections}

-- ---- at the start

abbrev printed_at : TextPiece → ℕ
printed_at piece = length (printed_modifier piece.modifier)

-- the greatest is no less than what it began with
from_greatest : (a : ℕ) (xs : List ℕ) → a ≤ fold max a xs
from_greatest a [] = omega arith
from_greatest a (x ∷ xs) = omega (arith, from_greatest (max a x) xs)

each_printed : (a : ℕ) (pieces : List TextPiece) →
    All (λ (piece : TextPiece). printed_at piece ≤ fold max a (map printed_at pieces)) pieces
each_printed a [] = All-nil (λ (piece : TextPiece). printed_at piece ≤ a)
each_printed a (piece ∷ pieces) =
    let most : ℕ = fold max (max a (printed_at piece)) (map printed_at pieces) in
    All-cons (λ (other : TextPiece). printed_at other ≤ most) piece pieces
    (omega (arith, from_greatest (max a (printed_at piece)) (map printed_at pieces)))
    (each_printed (max a (printed_at piece)) pieces)

pub no_pages : page_bound [] ≡ 0
unfolding stretches pages_begun
no_pages = refl

pub counted_at_start : (file : List ℕ) (parts : SessionParts) (counts : Counts) → HasRightLength file →
    AreCountsOf parts.text.pieces.pieces (sector_count file) (bin_length parts.fib) counts →
    parts.text.added.items ≡ [] → unwritten_count parts.text.sections.items ≡ 0 → IsSessionCounted file parts counts
counted_at_start file parts counts whole is fresh written =
    let pieces = parts.text.pieces.pieces in
    record {
      pieces = omega (arith, is.pieces_are);
      modified = λ none. flat_modifiers (λ (m : Modifier). m ≡ no_modifier) pieces (is.modified.0 none);
      printed =
          flat_modifiers (λ (m : Modifier). length (printed_modifier m) ≤ counts.printed) pieces
          (subst (λ (most : ℕ). All (λ (piece : TextPiece). printed_at piece ≤ most) pieces) (sym is.printed)
          (each_printed 0 pieces));
      sectors = omega (arith, is.sectors_are);
      few = omega (arith, is.sectors_are, whole.most);
      bins = omega (arith, is.bin_bytes_are);
      added = omega (arith, ap length fresh);
      pages = omega (arith, ap page_bound fresh, no_pages);
      text = omega (arith, ap length fresh, ap page_bound fresh, no_pages);
      unwritten = omega (arith, written);
    }

-- one piece more
pub record HasModifierAt (pieces : List TextPiece) (i : ℕ) (modifier : Modifier) : Type 0 where
  pub piece : TextPiece
  pub there : slice_get pieces i ≡ Some piece
  pub is : piece.modifier ≡ modifier

found_modifier : (found : Option TextPiece) (modifier : Modifier) →
    option_map (λ (piece : TextPiece). piece.modifier) found ≡ Some modifier →
    (piece : TextPiece) × ((found ≡ Some piece) × (piece.modifier ≡ modifier))
found_modifier None modifier has = absurd (none-some modifier has)
found_modifier (Some piece) modifier has = (piece, (refl, same_Some piece.modifier modifier has))

pub modifier_at : (pieces : List TextPiece) (i : ℕ) (modifier : Modifier) →
    option_map (λ (piece : TextPiece). piece.modifier) (slice_get pieces i) ≡ Some modifier →
    HasModifierAt pieces i modifier
modifier_at pieces i modifier has =
    let found = found_modifier (slice_get pieces i) modifier has in
    record { piece = found.0; there = found.1.0; is = found.1.1 }

pub printed_step : (pieces : List TextPiece) (i : ℕ) (piece : TextPiece) → slice_get pieces i ≡ Some piece →
    longest_modifier (take (i + 1) pieces) ≡ max (longest_modifier (take i pieces)) (printed_at piece)
printed_step pieces i piece there =
    let lens : List ℕ = map printed_at pieces in
    let within = slice_get_within pieces i piece there in
    let len = length-map pieces printed_at in
    let got = get_or_from_slice_get lens i (printed_at piece) 0 (get-map printed_at pieces i piece there) in
    let step = fold_more max 0 lens i 0 (omega (arith, within, len)) in
    let first : longest_modifier (take (i + 1) pieces) ≡ fold max 0 (take (i + 1) lens) =
    λ j. fold max 0 (sym (take-map printed_at (i + 1) pieces) j) in
    let last : max (fold max 0 (take i lens)) (get_or lens i 0) ≡ max (longest_modifier (take i pieces))
    (printed_at piece) =
    λ j. max (fold max 0 (take-map printed_at i pieces j)) (got j) in
    first ∙ (step ∙ last)

-- ---- pieces are no more than their CPs

pieces_within : (pieces : List TextPiece) → All IsTextPiece pieces → length pieces ≤ total_length pieces
pieces_within [] all = omega arith
pieces_within (piece ∷ pieces) all =
    let some = (All-head IsTextPiece piece pieces all).units.some in
    let more = pieces_within pieces (All-tail IsTextPiece piece pieces all) in
    omega (arith, some, more, sum_by-cons (λ (p : TextPiece). p.len) piece pieces)

pub few_pieces : (pieces : List TextPiece) → ArePieces pieces → length pieces ≤ 500001
few_pieces pieces are =
    let within = pieces_within pieces are.each in
    let total = are.total in
    omega (arith, within, total)

-- ---- after an edit

-- a modifier that fits a page is printed in few bytes
fit_printed : (most : ℕ) (pieces : List TextPiece) → HaveFitModifiers pieces → HaveModifiersWithin most pieces →
    HaveModifiersWithin (min most (2 ^ 64 - 1)) pieces
fit_printed most pieces fit within = λ k d below.
    let few = printed_short _ (fit k d below) in
    let low = within k d below in
    omega (arith, few, low)

within_more : (less more : ℕ) (pieces : List TextPiece) → less ≤ more → HaveModifiersWithin less pieces →
    HaveModifiersWithin more pieces
within_more less more pieces upto within = λ k d below. let low = within k d below in omega (arith, low, upto)

module _ (file : List ℕ) (document : Document) (command : Command) (old new : SessionParts) (counts : Counts)
    (is : IsSessionCounted file old counts) (room : HasEditRoom counts) (right : HasValidCodes command)
    (text : IsTextEdit document (changes_of document command) old.text new.text)
    (sections : IsSectionsEdit document (changes_of document command) old.text.sections.items new.text.sections.items)
  where
    abbrev after : ℕ → Counts
    after units = after_edit command units counts

    printed_after : HaveFitModifiers new.text.pieces.pieces → (units : ℕ) →
        HaveModifiersWithin (after units).printed new.text.pieces.pieces
    printed_after fit units =
        fit_printed (counts.printed + modifier_growth command) new.text.pieces.pieces fit
        (within_more (counts.printed + sum_by growth_of (changes_of document command))
        (counts.printed + modifier_growth command) new.text.pieces.pieces
        (let few = growth_few document command in omega (arith, few))
        (text.printed counts.printed is.printed))

    modified_after : (units : ℕ) → (after units).modified ≡ false → HaveNoModifiers new.text.pieces.pieces
    modified_after units none =
        let both = neither counts.modified (is_formatting command) none in
        text.modified (others_act_on_none document command both.1) (is.modified both.0)

    pub counted_after : HaveFitModifiers new.text.pieces.pieces → length new.text.pieces.pieces ≤ 500001 →
        sum_by pieces_added (changes_of document command) ≤ 4 → new.fib ≡ old.fib →
        (units : ℕ) → units < 2 ^ 32 →
        length new.text.added.items ≤ length old.text.added.items + units + reckoned_runs command →
        page_bound new.text.added.items ≤ page_bound old.text.added.items + reckoned_runs command →
        bytes_of new.text.added.items ≤ bytes_of old.text.added.items + 2 * units + 512 * reckoned_runs command →
        IsSessionCounted file new (after units)
    counted_after fit few_pieces added fib units low grown more bytes =
        let pieces = text.pieces in
        let runs = few_reckoned command right in
        let one = few_sections command in
        let put = sections_few document command in
        let unwritten = sections.unwritten in
        record {
          pieces = omega (arith, is.pieces, pieces, few_pieces, added);
          modified = modified_after units;
          printed = printed_after fit units;
          sectors = is.sectors;
          few = is.few;
          bins = omega (arith, is.bins, ap bin_length fib);
          added = omega (arith, is.added, grown, room, low, runs);
          pages = omega (arith, is.pages, more, room, runs);
          text = omega (arith, is.text, bytes, room, low, runs);
          unwritten = omega (arith, is.unwritten, unwritten, put, one, room);
        }
