-- The Clx that is printed of entries is that of the pieces as they are seen.
use Rattle.std.proofs.Common.{◌≡◌, ℕ, ◌^◌, ◌<◌, List, [], ◌++◌, length, map, All, get_or, slice_index, slice_index_or}
use Rattle.std.proofs.Common.{inl, inr, sym, ap, subst, ◌∙◌, arith}
use Rattle.std.proofs.Math.ListN.{get_or-map, length-map}
use Rattle.std.proofs.lemmas.Option.{slice_get_within, get_or_from_slice_get}
use Rattle.doc_bits.proofs.Public.{map-map}
use Rattle.prop_map.specs.declared.modifiers.Modifier.{Modifier}
use Rattle.prop_map.specs.Modifiers.{no_modifier}
use Rattle.piece_table.specs.declared.pieces.Entry.{Entry}
use Rattle.piece_table.specs.Piece.{TextPiece, IsTextPiece, ArePieces, bare_piece}
use Rattle.piece_table.specs.Clx.{pcdt_bytes}
use Rattle.std.proofs.lemmas.List.{get_or_default}
use Rattle.piece_table.specs.ClxRules.{FitsPages}
use Rattle.piece_table.specs.Numbering.{text_piece, AreNumbered}
use Rattle.piece_table.specs.Printing.{IsPrintable, IsPrintedClx, NamesModifier, printed_prcs, plc_bytes, pcd_bytes}
use Rattle.piece_table.specs.PrintSteps.{PrcTable, HasPrintable, ArePrinted, lens_of, pcds_of}
use Rattle.piece_table.proofs.PieceLemmas.{All-seen}
use Rattle.piece_table.proofs.PrcPrintLemmas.{printed_once}
use Rattle.piece_table.proofs.NumberingLemmas.{seen_piece, same_or_apart}

pub entries_printable : (modifiers : List Modifier) (entries : List Entry) → AreNumbered modifiers entries →
    ArePieces (map (text_piece modifiers) entries) → IsPrintable (map (text_piece modifiers) entries) →
    All (HasPrintable modifiers) entries
entries_printable modifiers entries numbered are printable =
    let formed = All-seen (text_piece modifiers) IsTextPiece entries are.each in
    let fit = All-seen (text_piece modifiers) (λ (piece : TextPiece). FitsPages piece.modifier) entries printable.fit in
    λ k d low. record { within = numbered.named k d low; formed = (formed k d low).formed; fits = fit k d low }

pub entries_placed : (modifiers : List Modifier) (entries : List Entry) → IsPrintable (map (text_piece modifiers)
    entries) → All (λ (entry : Entry). entry.piece.at < 2 ^ 29) entries
entries_placed modifiers entries printable = All-seen (text_piece modifiers) (λ (piece : TextPiece). piece.at < 2 ^
    29) entries printable.places

pub lens_seen : (modifiers : List Modifier) (entries : List Entry) → map (λ (piece : TextPiece). piece.len)
    (map (text_piece modifiers) entries) ≡ lens_of entries
lens_seen modifiers entries = map-map (λ (piece : TextPiece). piece.len) (text_piece modifiers) entries

-- the whole Clx
pub printed_clx : (modifiers : List Modifier) (entries : List Entry) (table : PrcTable) (bytes : List ℕ) →
    ArePrinted modifiers entries (length entries) table → bytes ≡ table.bytes ++ pcdt_bytes
    (plc_bytes (lens_of entries) (pcds_of entries table.prms)) → IsPrintedClx (map (text_piece modifiers) entries) bytes
printed_clx modifiers entries table bytes printed is =
    let prms = table.prms in
    let view = text_piece modifiers in
    let pcd : Entry → List ℕ = λ entry. pcd_bytes entry.piece (slice_index prms entry.modifier) in
    let seen = length-map entries view in
    record {
      prcs = printed.prcs;
      pcds = pcds_of entries prms;
      few = let few = printed.few in let count_is = printed.count_is in omega arith;
      each = printed.each;
      once = printed_once modifiers entries (length entries) table printed;
      count = length-map entries pcd ∙ sym seen;
      pcd = λ k piece there.
          let found = seen_piece modifiers entries k piece there in
          let entry = found.0 in
          let low = slice_get_within entries k entry found.1.0 in
          let prm = slice_index prms entry.modifier in
          let here : get_or (pcds_of entries prms) k [] ≡ pcd entry =
          get_or_default (pcds_of entries prms) k [] (pcd entry) (omega (arith, length-map entries pcd)) ∙
          (get_or-map pcd entries k entry ∙ ap pcd (get_or_from_slice_get entries k entry entry found.1.0)) in
          let m = slice_index_or modifiers entry.modifier no_modifier in
          let names : NamesModifier printed.prcs prm m = elim (same_or_apart prm 0) [
            | inl zero_prm ↦ inl (zero_prm, printed.none k entry low found.1.0 zero_prm)
            | inr some ↦ let prc = printed.names entry.modifier some in inr (prc.number, (prc.prm_is, prc.there))
          ] in
          record {
            prm = prm;
            names = subst (λ p. NamesModifier printed.prcs prm p.modifier) (sym found.1.1) names;
            spelt = here ∙ ap (λ p. pcd_bytes (bare_piece p) prm) (sym found.1.1);
          };
      spelt = is ∙ (ap (λ l. l ++ pcdt_bytes (plc_bytes (lens_of entries) (pcds_of entries prms))) printed.spelt
          ∙ ap (λ lens. printed_prcs printed.prcs ++ pcdt_bytes (plc_bytes lens (pcds_of entries prms)))
          (sym (lens_seen modifiers entries)));
    }
