-- What a document carries along unread, as its file has it.
use Rattle.std.specs.Prelude.{◌≡◌, ℕ, ◌+◌, ◌<◌, ◌≤◌, Bool, ◌&&◌, not, List, length, map, filter, slice_get, Some}
use Rattle.cfb_streams.specs.Contents.{Stream, Contents, NamedBytes}
use Rattle.cfb_directory.specs.Directory.{IsNameBefore}
use Rattle.cfb_streams.specs.Names.{wd_name, first_table_name, second_table_name, is_same_name}
use Rattle.fib_form.specs.FibFields.{fib_fields}
use Rattle.doc_model.specs.declared.carried.Carried.{Carried}
use Rattle.fib_form.specs.declared.table_parts.TablePart.TheVariants.{SttbfFfn, Dop, SttbfAssoc, PlfLst, PlfLfo}
use Rattle.file_rules.specs.Source.{DocSource, table_part_bytes}

-- a stream that no save makes
abbrev pub is_carried : List ℕ → Bool
is_carried name =
    not (is_same_name name wd_name)
    && (not (is_same_name name first_table_name) && not (is_same_name name second_table_name))

-- the other streams, in their order
abbrev pub carried_streams : List Stream → List NamedBytes
carried_streams streams =
    map (λ stream. record { name = stream.name; bytes = stream.bytes })
    (filter (λ stream. is_carried stream.name) streams)

-- each stream is no longer than the longest file
abbrev pub AreShortStreams : List NamedBytes → Type 0
AreShortStreams streams =
    (i : ℕ) (stream : NamedBytes) → slice_get streams i ≡ Some stream → length stream.bytes ≤ 7143936

-- streams that a container may have: their names ascend, have 1 to 31 units, and are fewer than the entries of a
-- directory; each is no longer than the longest file
pub record AreWithinBounds (contents : Contents) : Type 0 where
  pub few : length contents.streams ≤ 1023
  pub short : (i : ℕ) (stream : Stream) → slice_get contents.streams i ≡ Some stream → length stream.bytes ≤ 7143936
  pub some : (i : ℕ) (stream : Stream) → slice_get contents.streams i ≡ Some stream → 1 ≤ length stream.name
  pub fit : (i : ℕ) (stream : Stream) → slice_get contents.streams i ≡ Some stream → length stream.name ≤ 31
  pub order :
      (i j : ℕ) (stream later : Stream) → i < j → slice_get contents.streams i ≡ Some stream →
      slice_get contents.streams j ≡ Some later → IsNameBefore stream.name later.name

-- two streams at least are not carried, and the table stream is no longer than the longest file
pub record LeavesRoom (contents : Contents) (table : List ℕ) : Type 0 where
  pub few : length (carried_streams contents.streams) + 2 ≤ length contents.streams
  pub short : length table ≤ 7143936

-- the parts of the table stream, the fields of the FIB, the CLSID and the streams
pub record HoldsCarried (contents : Contents) (source : DocSource) (levels : List ℕ) (carried : Carried) : Type 0 where
  pub fonts : carried.fonts ≡ table_part_bytes source SttbfFfn
  pub dop : carried.dop ≡ table_part_bytes source Dop
  pub assoc : carried.assoc ≡ table_part_bytes source SttbfAssoc
  pub lst : carried.lst ≡ table_part_bytes source PlfLst
  pub levels_are : carried.levels ≡ levels
  pub lfo : carried.lfo ≡ table_part_bytes source PlfLfo
  pub clsid : carried.clsid ≡ contents.clsid
  pub lid : carried.lid ≡ (fib_fields source.wd).kept.lid
  pub lid_fe : carried.lid_fe ≡ (fib_fields source.wd).kept.lid_fe
  pub flags : carried.flags ≡ (fib_fields source.wd).kept.flags
  pub streams : carried.streams ≡ carried_streams contents.streams
