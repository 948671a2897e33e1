-- How many sectors a container needs of which two streams have grown.
use Rattle.std.specs.Prelude.{◌≡◌, ◌≢◌, ℕ, ◌+◌, ◌≤◌, List, length, map, Some, slice_get}
use Rattle.doc_bits.specs.Together.{AreTogether}
use Rattle.cfb_streams.specs.Contents.{Stream, NamedBytes, Contents, HasNamed}
use Rattle.cfb_streams.specs.Container.{HasContents}
use Rattle.cfb_directory.specs.Directory.{AreSameNames}
use Rattle.cfb_streams.specs.Names.{wd_name, table_name}
use Rattle.cfb_layout.specs.Sectors.{units_for}
use Rattle.cfb_layout.specs.Counts.{sectors_needed}
use Rattle.cfb_layout.specs.Layout.{lengths_of}

-- the lengths of WordDocument and of the table stream
pub record TwoLengths : Type 0 where
  pub wd : ℕ
  pub table : ℕ

-- the two are at these places among lengths
pub record StandAt (lengths : List ℕ) (wd_at table_at : ℕ) (two : TwoLengths) : Type 0 where
  pub wd_is : slice_get lengths wd_at ≡ Some two.wd
  pub table_is : slice_get lengths table_at ≡ Some two.table

-- lengths in a row: two of them, at different places, are others now, and the rest stay
pub record AreRenewed (old new : List ℕ) (before after : TwoLengths) : Type 0 where
  pub len : length new ≡ length old
  pub wd_at : ℕ
  pub table_at : ℕ
  pub apart : wd_at ≢ table_at
  pub old_two : StandAt old wd_at table_at before
  pub new_two : StandAt new wd_at table_at after
  pub others : (k : ℕ) → k ≢ wd_at → k ≢ table_at → slice_get new k ≡ slice_get old k

-- the two have no more than so many bytes more together
abbrev pub GrowBy : ℕ → TwoLengths → TwoLengths → Type 0
GrowBy added before after = after.wd + after.table ≤ before.wd + before.table + added

-- then no more than so many sectors more are needed, also where a stream leaves the mini stream or comes into it
abbrev pub LongerStreamsFit : Type 0
LongerStreamsFit =
    (old new : List ℕ) (before after : TwoLengths) (added : ℕ) → AreRenewed old new before after →
    GrowBy added before after → sectors_needed new ≤ sectors_needed old + units_for 500 added + 8

-- the bytes of WordDocument and of the table stream
pub record TwoStreams : Type 0 where
  pub wd : List ℕ
  pub table : List ℕ

abbrev pub lengths_of_two : TwoStreams → TwoLengths
lengths_of_two streams = record { wd = length streams.wd; table = length streams.table }

-- the streams of a container have the two, the second one under one of its two names
pub record HaveTwo (streams : List Stream) (which : ℕ) (two : TwoStreams) : Type 0 where
  pub has_wd : HasNamed streams wd_name two.wd
  pub has_table : HasNamed streams (table_name which) two.table

-- a stream has new bytes where it is one of the two, and else its own
pub record HasBytesAnew (which : ℕ) (two : TwoStreams) (old : Stream) (new : NamedBytes) : Type 0 where
  pub wd_is : AreSameNames old.name wd_name → new.bytes ≡ two.wd
  pub table_is : AreSameNames old.name (table_name which) → new.bytes ≡ two.table
  pub own :
      ¬ AreSameNames old.name wd_name → ¬ AreSameNames old.name (table_name which) →
      new.bytes ≡ old.bytes

-- streams of a container again, in their order, of which two have new bytes
pub record AreAnew (old : List Stream) (new : List NamedBytes) : Type 0 where
  pub which : ℕ
  pub before : TwoStreams
  pub after : TwoStreams
  pub have : HaveTwo old which before
  pub bytes : AreTogether (HasBytesAnew which after) old new

-- the lengths of all streams of a file
abbrev pub lengths_in : Contents → List ℕ
lengths_in contents = map (λ stream. length stream.bytes) contents.streams

-- of the streams of a file two are renewed so
abbrev pub NamedStreamsAreRenewed : Type 0
NamedStreamsAreRenewed =
    (file : List ℕ) (contents : Contents) (streams : List NamedBytes) → HasContents file contents →
    (anew : AreAnew contents.streams streams) →
    AreRenewed (lengths_in contents) (lengths_of streams) (lengths_of_two anew.before) (lengths_of_two anew.after)
