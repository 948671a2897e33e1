use Rattle.std.proofs.Common.{◌≡◌, ◌<◌, ℕ, slice_get, Some}
use Rattle.cfb_streams.specs.Contents.{Stream}
use Rattle.file_mends.specs.SheetPlaces.{SheetPlace, IsSheetOf}
use Rattle.file_mends.proofs.sheet_places.sheet_for.Given as goal

-- none of the streams so far
abbrev pub invariant-loop-i : goal.invariant-loop-i
invariant-loop-i l =
    (k : ℕ) (stream : Stream) (sheet : SheetPlace) → k < l.i → slice_get l.container.streams k ≡ Some stream →
    ¬ IsSheetOf stream l.wd sheet
