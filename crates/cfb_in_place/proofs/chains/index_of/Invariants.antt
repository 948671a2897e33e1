use Rattle.std.proofs.Common.{◌≡◌, ◌<◌, ℕ, Some, slice_get}
use Rattle.cfb_directory.specs.Directory.{AreSameNames}
use Rattle.cfb_streams.specs.Contents.{Stream}
use Rattle.cfb_in_place.proofs.chains.index_of.Given as goal

abbrev pub invariant-loop-i : goal.invariant-loop-i
invariant-loop-i l = (j : ℕ) (s : Stream) → j < l.i → slice_get l.container.streams j ≡ Some s → ¬ AreSameNames s.name
    l.name
