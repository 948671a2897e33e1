-- What the code finds by the FAT: the directory, the mini FAT and the mini stream.
use Rattle.std.specs.Prelude.{ℕ, ◌*◌, min, List, length}
use Rattle.doc_bits.specs.Rules.{Rules, rule, ◌then◌, given}
use Rattle.cfb_sectors.specs.declared.chain.Chain.{Chain}
use Rattle.cfb_sectors.specs.Judged.{IsFoundBy}
use Rattle.cfb_directory.specs.Directory.{entry_stream_size}
use Rattle.cfb_directory.specs.Reach.{entry_place, IsDirectory, BreaksDirectory}
use Rattle.cfb_directory.specs.Entries.{tree_rules}
use Rattle.cfb_streams.specs.StreamRules.{IsMiniFat, BreaksMiniFat, IsMiniStream, BreaksMiniStream}
use Rattle.cfb_sectors.specs.Tables.{TablePlace}
use Rattle.cfb_sectors.specs.Header.{mini_sectors_in}

-- where the mini FAT is
abbrev pub mini_place : List ℕ → List ℕ → List ℕ → TablePlace
mini_place file directory mini_fat = record {
  file = file;
  sectors = mini_fat;
  valid = min (128 * length mini_fat) (mini_sectors_in (entry_stream_size file (entry_place directory 0)));
}

-- the directory's sectors, or where rule 6 is broken
abbrev pub IsFoundDirectory : List ℕ → Chain → Type 0
IsFoundDirectory file = IsFoundBy (IsDirectory file) (BreaksDirectory file)

-- the mini FAT's sectors, or where rule 11 is broken
abbrev pub IsFoundMiniFat : List ℕ → Chain → Type 0
IsFoundMiniFat file = IsFoundBy (IsMiniFat file) (BreaksMiniFat file)

-- the mini stream's sectors, or where rule 12 is broken
abbrev pub IsFoundMiniStream : List ℕ → List ℕ → Chain → Type 0
IsFoundMiniStream file directory = IsFoundBy (IsMiniStream file directory) (BreaksMiniStream file directory)

-- the rules 6 to 9
abbrev pub found_rules : List ℕ → Rules ℕ
found_rules file = rule 6 (BreaksDirectory file) then given (IsDirectory file) (tree_rules file)
