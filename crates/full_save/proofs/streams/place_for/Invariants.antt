use Rattle.std.proofs.Common.{◌≡◌, ◌<◌, ℕ, true}
use Rattle.std.specs.Prelude.{Some, slice_get}
use Rattle.cfb_streams.specs.Contents.{NamedBytes}
use Rattle.full_save.specs.Streams.{is_name_before}
use Rattle.full_save.proofs.streams.place_for.Given as goal

abbrev pub invariant-loop-i : goal.invariant-loop-i
invariant-loop-i l = (k : ℕ) (stream : NamedBytes) → k < l.i → slice_get l.streams k ≡ Some stream →
    is_name_before stream.name l.name ≡ true
