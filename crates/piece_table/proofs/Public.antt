-- What other crates may cite of these proofs.

-- The parts of a Clx are the only ones, and the walk over its Prcs finds them.
pub use Rattle.piece_table.proofs.ClxLemmas.{front_of_prc, parts_unique, pcdt_no_prc, prc_of_front, prcs_more}
pub use Rattle.piece_table.proofs.ClxLemmas.{prcs_unique}
-- The rules on the Clx have one first broken one.
pub use Rattle.piece_table.proofs.ClxRuleLemmas.{ascends_of, clx_rules-Ascends, clx_rules-IsSingle, stays_of}
-- The modifiers of the pieces of a Clx that breaks no rule fit the pages.
pub use Rattle.piece_table.proofs.FitLemmas.{none_fits, one_printable, pieces_fit}
-- Entries as they are seen, one a CP: joined, cut, and modified.
pub use Rattle.piece_table.proofs.FlatLemmas.{flat_pieces-append, flat_pieces-cons, flat_pieces-nil}
-- Pieces: the entries that they cover, and their sums.
pub use Rattle.piece_table.proofs.PieceLemmas.{All-seen, flat_pieces-push, get_or-unit_places, length-flat_pieces}
pub use Rattle.piece_table.proofs.PieceLemmas.{length-unit_places, one_sound, total_of_pieces}
-- The CPs and Pcds that are printed.
pub use Rattle.piece_table.proofs.PlcPrintLemmas.{length-pcd_bytes, length-plc_bytes}
-- The Prcs that are printed for the modifiers of entries.
pub use Rattle.piece_table.proofs.PrcPrintLemmas.{printed_short}
-- The rules on a Clx that was printed, and its pieces.
pub use Rattle.piece_table.proofs.PrintedClxLemmas.{read_back}
-- Pieces at new places, and the entries that they are kept as.
pub use Rattle.piece_table.proofs.RenewalLemmas.{length-renewed, modifiers_there, others_together, renewed_pieces-push}
-- A range of entries in whose place others are.
pub use Rattle.piece_table.proofs.SpliceLemmas.{length-fresh_places}
-- A Prm has one modifier, and a Clx one list of pieces.
pub use Rattle.piece_table.proofs.UniqueLemmas.{clx_pieces_one}
