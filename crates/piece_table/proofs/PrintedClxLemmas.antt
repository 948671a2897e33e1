-- The rules on a Clx that was printed, and its pieces.
use Rattle.std.proofs.Common.{◌≡◌, ℕ, ◌+◌, ◌<◌, ◌≤◌, List, [], ◌++◌, length, map, flat_map, take, All, get_or, true}
use Rattle.std.proofs.Common.{refl, inl, inr, sym, ap, subst, ◌∙◌, arith}
use Rattle.std.specs.List.{sum, range_with_len}
use Rattle.std.proofs.Math.ListN.{get_or-map, length-map}
use Rattle.std.proofs.lemmas.List.{append-nil, ext_get_or}
use Rattle.std.proofs.lemmas.List.Sums.{sum-map}
use Rattle.std.proofs.lemmas.List.FromFn.{length-map-range_with_len, get_or-map-range_with_len}
use Rattle.std.proofs.lemmas.Option.{slice_get-get_or}
use Rattle.doc_bits.specs.Rules.{Nowhere, Hold}
use Rattle.doc_bits.specs.Plc.{plc_cp}
use Rattle.doc_bits.proofs.Public.{none_among}
use Rattle.prop_map.specs.Modifiers.{no_modifier, printed_modifier}
use Rattle.piece_table.specs.declared.pieces.TextBounds.{TextBounds}
use Rattle.piece_table.specs.Piece.{TextPiece, bare_piece, ArePieces, total_length, flat_pieces}
use Rattle.piece_table.specs.Clx.{SpellsClx, IsClx, prc_bytes, pcdt_bytes, clx_piece, clx_pieces, plc_place}
use Rattle.piece_table.specs.PrmLists.{IsPrmModifier}
use Rattle.piece_table.specs.ClxRules.{clx_rules, FitsPages, StaysInStream, IsReadPrm, IsNoCpAscent, IsOutside}
use Rattle.piece_table.specs.ClxRules.{IsUnread, IsLongPrc}
use Rattle.piece_table.specs.Printing.{IsPrintable, IsPrintedClx, ClxIsReadBack}
use Rattle.piece_table.proofs.ClxLemmas.{spells_no_wrong}
use Rattle.piece_table.proofs.ClxRuleLemmas.{Starts, no_wrong_cp, nowhere_from}
use Rattle.piece_table.proofs.PrcLemmas.{all_accepted}
use Rattle.piece_table.proofs.UniqueLemmas.{prm_modifier_one, clx_pieces_one}
use Rattle.piece_table.proofs.PlcPrintLemmas.{sum_all}
use Rattle.piece_table.proofs.PlcBackLemmas.{printed_part, plc_table, cp_back}
use Rattle.piece_table.proofs.ReadBackLemmas.{lens, parts_of, sized, Back, piece_back, prc_fits, prc_at, modifier_at}
use Rattle.piece_table.proofs.ReadBackLemmas.{prc_sizes, prcs_accepted, joined_prcs, prc_does, names_does, names_read}

printed_spelt : (pieces : List TextPiece) (bytes : List ℕ) (printed : IsPrintedClx pieces bytes) →
    IsPrintable pieces → 1 ≤ length pieces → SpellsClx bytes (parts_of pieces printed.prcs printed.pcds)
printed_spelt pieces bytes printed printable some =
    let pcdt = pcdt_bytes (printed_part (lens pieces) printed.pcds).bytes in
    let count = printed.count in
    let few = printable.few in
    let long = length-map pieces (λ (p : TextPiece). p.len) in
    record {
      more = [];
      sizes = prc_sizes pieces printed.prcs printable printed.each;
      table = plc_table (lens pieces) printed.pcds (omega arith) (omega arith) (omega arith) (sized pieces bytes
          printed);
      spelt = printed.spelt ∙ (ap (λ l. l ++ pcdt) (joined_prcs printed.prcs) ∙ ap (λ l. flat_map prc_bytes
          (map printed_modifier printed.prcs) ++ l) (sym (append-nil pcdt)));
    }

abbrev none : TextPiece
none = record { at = 0; wide = true; len = 0; modifier = no_modifier }

-- what is read of the piece at a place
at_piece : (pieces : List TextPiece) (bytes : List ℕ) (printed : IsPrintedClx pieces bytes) (k : ℕ) →
    ArePieces pieces → IsPrintable pieces → k < length pieces → Back pieces printed.prcs printed.pcds k (get_or pieces
    k none)
at_piece pieces bytes printed k are printable low = piece_back pieces bytes printed k (get_or pieces k none) are
    printable (slice_get-get_or pieces k none low)

printed_is : (pieces : List TextPiece) (bytes : List ℕ) (printed : IsPrintedClx pieces bytes) → ArePieces pieces →
    IsPrintable pieces → 1 ≤ length pieces → IsClx bytes pieces
unfolding clx_pieces
printed_is pieces bytes printed are printable some =
    let parts = parts_of pieces printed.prcs printed.pcds in
    let long = length-map pieces (λ (p : TextPiece). p.len) in
    let bare = length-map pieces bare_piece in
    let count = length-map-range_with_len (clx_piece parts.plc) 0 parts.plc.count in
    record {
      parts = parts;
      spelt = printed_spelt pieces bytes printed printable some;
      pieces_are = ext_get_or (bare_piece none) (map bare_piece pieces) (map (clx_piece parts.plc) (range_with_len 0
          parts.plc.count)) (omega arith) (λ k low.
          let back = at_piece pieces bytes printed k are printable (omega arith) in
          get_or-map bare_piece pieces k none ∙ (sym back.bare ∙ sym (get_or-map-range_with_len (clx_piece parts.plc)
          0 parts.plc.count k k (bare_piece none) (omega arith) (omega arith))));
      modifiers = λ k piece there.
          let back = piece_back pieces bytes printed k piece are printable there in
          subst (λ p. IsPrmModifier parts.prcs p piece.modifier) (sym back.word) (names_does pieces printed.prcs
          back.prm piece.modifier printed.each back.names);
    }

printed_holds : (pieces : List TextPiece) (bytes : List ℕ) (at : ℕ) (bounds : TextBounds) (printed : IsPrintedClx
    pieces bytes) → ArePieces pieces → IsPrintable pieces → 1 ≤ length pieces → All (λ piece. StaysInStream bounds
    (bare_piece piece)) pieces → Hold (clx_rules bytes at bounds (total_length pieces))
printed_holds pieces bytes at bounds printed are printable some stays =
    let parts = parts_of pieces printed.prcs printed.pcds in
    let ls = lens pieces in
    let spelt = printed_spelt pieces bytes printed printable some in
    let base = at + plc_place parts in
    let long = length-map pieces (λ (p : TextPiece). p.len) in
    let count = printed.count in
    let few = printable.few in
    let most = are.total in
    let total = sum-map (λ (p : TextPiece). p.len) pieces in
    let each = sized pieces bytes printed in
    let cp : (k : ℕ) → k ≤ length ls → plc_cp parts.plc.bytes k ≡ sum (take k ls) = λ k low. cp_back ls printed.pcds k
    (omega arith) (omega arith) (omega arith) each low in
    let rises : (k : ℕ) → k < parts.plc.count → Nowhere (IsNoCpAscent parts.plc base k) = λ k low p fall.
    let back = at_piece pieces bytes printed k are printable (omega arith) in
    let up = back.ascends in
    let positive = (are.each k none (omega arith)).units.some in
    let no_rise = fall.1 in
    omega arith in
    let starts : Starts parts.plc = (omega arith, cp 0 (omega arith)) in
    let ends : plc_cp parts.plc.bytes parts.plc.count ≡ total_length pieces = cp (length ls) (omega arith) ∙
    (sum_all ls (length ls) refl ∙ total) in
    let within : (k : ℕ) → k < parts.plc.count → Nowhere (IsOutside parts.plc base bounds k) = λ k low p out.
    let back = at_piece pieces bytes printed k are printable (omega arith) in
    let stay = subst (StaysInStream bounds) (sym back.bare) (stays k none (omega arith)) in
    let left = stay.0 in
    let right = stay.1 in
    elim out.1 [ inl low_at ↦ omega arith | inr over ↦ omega arith ] in
    let read : (k : ℕ) → k < parts.plc.count → Nowhere (IsUnread parts.plc base (length parts.prcs) k) = λ k low p
    unread.
    let back = at_piece pieces bytes printed k are printable (omega arith) in
    unread.1 (subst (IsReadPrm (length parts.prcs)) (sym back.word) (names_read printed.prcs back.prm _ back.names)) in
    let short : (k : ℕ) → k < length parts.prcs → Nowhere (IsLongPrc parts at k) = λ k low p too_long.
    let found = modifier_at printed.prcs k (get_or parts.prcs k []) (slice_get-get_or parts.prcs k [] low) in
    let prc = prc_at pieces printed.prcs k found.0 printed.each found.1.0 in
    let one = prm_modifier_one parts.prcs _ found.0 too_long.modifier (prc_does pieces printed.prcs k found.0 prc
    found.1.0) too_long.does in
    too_long.long (subst FitsPages one (prc_fits pieces found.0 printable prc)) in (
      nowhere_from _ at (spells_no_wrong bytes parts spelt),
      (
        parts,
        (
          spelt,
          (
            (
              no_wrong_cp parts.plc base (total_length pieces) starts (none_among (IsNoCpAscent parts.plc base)
                  parts.plc.count rises) ends,
              (
                none_among (IsOutside parts.plc base bounds) parts.plc.count within,
                none_among (IsUnread parts.plc
                    base (length parts.prcs)) parts.plc.count read,
              ),
            ),
            (
              all_accepted parts at (length parts.prcs) refl (prcs_accepted pieces printed.prcs printed.pcds
                  printed.each),
              none_among (IsLongPrc parts at) (length parts.prcs) short,
            ),
          ),
        ),
      ),
    )

pub read_back : ClxIsReadBack
read_back pieces bytes at bounds are printable some stays printed =
    let is = printed_is pieces bytes printed are printable some in
    record {
      holds = printed_holds pieces bytes at bounds printed are printable some stays;
      is = is;
      flat = λ read read_is. ap flat_pieces (clx_pieces_one bytes read pieces read_is is);
    }
