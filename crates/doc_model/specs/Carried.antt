-- What a document carries along unread: which parts and streams it may carry.
use Rattle.std.specs.Prelude.{◌≡◌, ℕ, ◌+◌, ◌*◌, ◌^◌, ◌<◌, ◌≤◌, List, [], length, Some, IsTrue, nat_lt, slice_get}
use Rattle.std.specs.Prelude.{slice_set, slice_index_or}
use Rattle.std.specs.List.{list_all, sum_by}
use Rattle.doc_bits.specs.Number.{u16_at}
use Rattle.doc_parts.specs.Levels.{level_count, AreLevelsFrom}
use Rattle.cfb_streams.specs.Contents.{NamedBytes}
use Rattle.cfb_directory.specs.Directory.{AreSameNames}
use Rattle.cfb_streams.specs.Names.{wd_name, first_table_name, second_table_name}

-- each part has fewer than 2^40 bytes
abbrev pub ArePartsShort : List (List ℕ) → Type 0
ArePartsShort parts = IsTrue (list_all (λ part. nat_lt (length part) (2 ^ 40)) parts)

-- [MS-DOC] PlfLst and the levels after it: the part is empty or has as many LSTFs of 28 bytes as its count says, and
-- the levels are exactly those that it names
pub record AreListsWithLevels (lst levels : List ℕ) : Type 0 where
  pub counted : 0 < length lst → 2 + 28 * u16_at lst 0 ≤ length lst
  pub whole : AreLevelsFrom levels 0 (level_count lst) (length levels)

-- a stream that no save makes
pub record IsCarriedName (name : List ℕ) : Type 0 where
  pub no_wd : ¬ AreSameNames name wd_name
  pub no_first_table : ¬ AreSameNames name first_table_name
  pub no_second_table : ¬ AreSameNames name second_table_name

-- at most 1,021 streams of fewer than 2^40 bytes in all, none of which a save makes
pub record AreCarriedStreams (streams : List NamedBytes) : Type 0 where
  pub few : length streams ≤ 1021
  pub total : sum_by (λ stream. length stream.bytes) streams < 2 ^ 40
  pub names : (i : ℕ) (stream : NamedBytes) → slice_get streams i ≡ Some stream → IsCarriedName stream.name

-- the streams, of which that at a place has other bytes and the same name
abbrev pub with_bytes : List NamedBytes → ℕ → List ℕ → List NamedBytes
with_bytes streams i bytes =
    let old = slice_index_or streams i (record { name = []; bytes = [] }) in
    slice_set streams i (record { name = old.name; bytes = bytes })
