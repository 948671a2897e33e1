-- The table stream of a file in which the codes in the Prcs that are not read are skipped, where the Clx is apart
-- from all else that is read.
use Rattle.std.specs.Prelude.{◌≡◌, ◌≢◌, ◌⊎◌, ℕ, ◌+◌, ◌<◌, ◌≤◌, List, length}
use Rattle.doc_bits.specs.Rules.{Hold}
use Rattle.fib_form.specs.Fib.{kept_pairs}
use Rattle.fib_form.specs.FibFields.{listed_pair}
use Rattle.fib_form.specs.TableParts.{pair_number}
use Rattle.fib_form.specs.declared.table_parts.TablePart.TheVariants.{Clx, PlfLst}
use Rattle.doc_parts.specs.Levels.{level_rules, level_start, level_count, list_part}
use Rattle.part_skips.specs.Prcs.{PutsPrcs}
use Rattle.cfb_streams.specs.Contents.{Contents, HasNamed}
use Rattle.cfb_streams.specs.Names.{wd_name}
use Rattle.fib_versions.specs.Early.{early_pairs}
use Rattle.file_rules.specs.FileRules.{table_stream_name}

-- where the Clx begins and ends, by the pairs of a FIB
abbrev pub clx_from : List (ℕ × ℕ) → ℕ
clx_from pairs = (listed_pair pairs (pair_number Clx)).0

abbrev pub clx_to : List (ℕ × ℕ) → ℕ
clx_to pairs = clx_from pairs + (listed_pair pairs (pair_number Clx)).1

-- a part has no bytes, or ends before a range, or begins behind it
abbrev pub StandsApart : ℕ → ℕ → ℕ × ℕ → Type 0
StandsApart from to pair = (pair.1 ≡ 0) ⊎ ((pair.0 + pair.1 ≤ from) ⊎ (to ≤ pair.0))

-- so does part n, if it is not the Clx
abbrev pub IsPartApart : ℕ → ℕ → List (ℕ × ℕ) → ℕ → Type 0
IsPartApart from to pairs n = n ≢ pair_number Clx → StandsApart from to (listed_pair pairs n)

-- [MS-DOC] LVL: the levels behind a PlfLst are whole, and end before a place
pub record EndBefore (table : List ℕ) (pair : ℕ × ℕ) (place : ℕ) : Type 0 where
  pub within : pair.0 + pair.1 ≤ length table
  pub whole : Hold (level_rules table pair.0 pair.1)
  pub before : level_start table (pair.0 + pair.1) (level_count (list_part table pair.0 pair.1)) ≤ place

-- PlfLst has no bytes, or begins behind a range, or its levels end before it
abbrev pub LevelsStandApart : ℕ → ℕ → List ℕ → ℕ × ℕ → Type 0
LevelsStandApart from to table pair = (pair.1 ≡ 0) ⊎ ((to ≤ pair.0) ⊎ EndBefore table pair from)

-- the Clx is in the table stream, and each other part and the levels are apart from it
pub record IsClxApart (pairs : List (ℕ × ℕ)) (table : List ℕ) : Type 0 where
  pub within : clx_to pairs ≤ length table
  pub parts : (n : ℕ) → n < kept_pairs → IsPartApart (clx_from pairs) (clx_to pairs) pairs n
  pub levels : LevelsStandApart (clx_from pairs) (clx_to pairs) table (listed_pair pairs (pair_number PlfLst))

-- the Prcs of such a Clx are skipped, and the rest of the table stream stays
pub record SkipsClx (pairs : List (ℕ × ℕ)) (old new : List ℕ) : Type 0 where
  pub apart : IsClxApart pairs old
  pub puts : PutsPrcs (clx_from pairs) (clx_to pairs) old new

abbrev pub ReadsClx : List (ℕ × ℕ) → List ℕ → List ℕ → Type 0
ReadsClx pairs old new = SkipsClx pairs old new ⊎ ((¬ IsClxApart pairs old) × (new ≡ old))

-- a table stream that is read in place of that of a WordDocument
pub record IsReadTable (contents : Contents) (wd table : List ℕ) : Type 0 where
  pub has_wd : HasNamed contents.streams wd_name wd
  pub own : List ℕ
  pub has_table : HasNamed contents.streams (table_stream_name wd) own
  pub clx : ReadsClx (early_pairs wd) own table
