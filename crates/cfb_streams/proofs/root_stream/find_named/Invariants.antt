use Rattle.std.proofs.Common.{◌≡◌, ℕ, ◌<◌, Some, slice_get}
use Rattle.cfb_streams.specs.Contents.{Stream}
use Rattle.cfb_directory.specs.Directory.{AreSameNames}
use Rattle.cfb_streams.proofs.root_stream.find_named.Given as goal

abbrev pub invariant-loop-stream : goal.invariant-loop-stream
invariant-loop-stream l = (i : ℕ) (s : Stream) → i < l.stream-index → slice_get l.streams i ≡ Some s → ¬ AreSameNames
    s.name l.name
