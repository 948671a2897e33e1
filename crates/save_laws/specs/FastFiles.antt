-- The bounds of a fast save of a file: it fits where its counts say so, however the file was laid out.
use Rattle.std.specs.Prelude.{ℕ, ◌≤◌, List}
use Rattle.cfb_sectors.specs.Header.{sector_count}
use Rattle.cfb_streams.specs.Contents.{NamedBytes, Contents, AreStreams}
use Rattle.cfb_layout.specs.Counts.{sectors_needed, most_sectors, Fits}
use Rattle.cfb_layout.specs.Layout.{lengths_of, compound_file}
use Rattle.cfb_layout.specs.Laws.{AreLayoutStreams}
use Rattle.save_laws.specs.Saves.{IsFileOfContents}
use Rattle.save_laws.specs.SectorCounts.{TwoLengths, AreRenewed, AreAnew, lengths_of_two}
use Rattle.save_laws.specs.FastSizes.{SaveCounts, WrittenLengths, AreWithinCounts, AreAppended, reckoned_sectors}

-- streams of these lengths need no more sectors than are reckoned, and so they fit where these are in a file
pub record FitCounts (counts : SaveCounts) (lengths : List ℕ) : Type 0 where
  pub few : sectors_needed lengths ≤ reckoned_sectors counts
  pub fit : reckoned_sectors counts ≤ most_sectors → Fits lengths

-- where two of the streams are longer by what is counted, and the old ones need no more sectors than are counted
abbrev pub FastSavesFit : Type 0
FastSavesFit =
    (counts : SaveCounts) (written : WrittenLengths) (before after : TwoLengths) (old new : List ℕ) →
    AreWithinCounts counts written → AreAppended counts written before after → AreRenewed old new before after →
    sectors_needed old ≤ counts.sectors → FitCounts counts new

-- the streams are those of a file that breaks no rule of a container, with two of them longer by what is counted; the
-- file has no more sectors than are counted
pub record AreFastStreams (file : List ℕ) (contents : Contents) (counts : SaveCounts) (streams : List NamedBytes) :
    Type 0 where
  pub written : WrittenLengths
  pub file_of : IsFileOfContents file contents
  pub anew : AreAnew contents.streams streams
  pub few : sector_count file ≤ counts.sectors
  pub counted : AreWithinCounts counts written
  pub appended : AreAppended counts written (lengths_of_two anew.before) (lengths_of_two anew.after)

-- they fit where their counts say so, and their file has no more sectors than are reckoned
pub record FitTheirFile (counts : SaveCounts) (streams : List NamedBytes) : Type 0 where
  pub fit : reckoned_sectors counts ≤ most_sectors → Fits (lengths_of streams)
  pub few :
      (clsid : List ℕ) → AreStreams streams → AreLayoutStreams streams clsid →
      sector_count (compound_file streams clsid) ≤ reckoned_sectors counts

abbrev pub FastStreamsFit : Type 0
FastStreamsFit =
    (file : List ℕ) (contents : Contents) (counts : SaveCounts) (streams : List NamedBytes) →
    AreFastStreams file contents counts streams → FitTheirFile counts streams
