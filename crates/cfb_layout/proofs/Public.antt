-- What other crates may cite of these proofs.

-- Bytes of sectors, parts, tables and fields, by their offsets.
pub use Rattle.cfb_layout.proofs.BytesLemmas.{entry_at, filled_at, length-filled, length-padded, length-table}
-- The counts of sectors, part by part.
pub use Rattle.cfb_layout.proofs.CountLemmas.{counts_stream, length-lengths_of, length-sector_counts, sectors-needed}
-- The canonical container by its parts.
pub use Rattle.cfb_layout.proofs.FileLemmas.{length-compound_file}
-- What the streams of an accepted file hold: sectors and mini sectors, none of them in two streams.
pub use Rattle.cfb_layout.proofs.HeldLemmas.{IsAccepted, accepted, entries_apart, owners_apart, sum_counts}
-- The chains of an image: the parts that have a sector, by the FAT, and the streams in the mini stream.
pub use Rattle.cfb_layout.proofs.ImageChains.{run_sector}
-- The canonical container is an image.
pub use Rattle.cfb_layout.proofs.MadeLemmas.{file_contents, file_holds}
-- The large and the small part of a stream, and the mini stream.
pub use Rattle.cfb_layout.proofs.PartLemmas.{large_is, large_none, small_is, small_none}
-- Distinct sectors of several owners, gathered.
pub use Rattle.cfb_layout.proofs.RunLemmas.{IsRun, has_either, run_join}
-- Chains of sectors that are in a row.
pub use Rattle.cfb_layout.proofs.SectorLemmas.{chain_last, chain_next, chains_at, chains_below, chains_chain}
pub use Rattle.cfb_layout.proofs.SectorLemmas.{start_room}
-- No accepted file has fewer sectors than the canonical container of its streams: its parts have no sector in common.
pub use Rattle.cfb_layout.proofs.ShorterLemmas.{no_file_shorter}
-- Lists that are written piece by piece.
pub use Rattle.cfb_layout.proofs.WritingLemmas.{bytes_are, flat_step, range_more, row_step}
