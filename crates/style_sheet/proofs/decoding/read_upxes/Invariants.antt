use Rattle.std.proofs.Common.{◌≡◌, ℕ, ◌<◌, List, length, slice_index_or}
use Rattle.style_sheet.specs.StyleDefinition.{upx_place, upx}
use Rattle.style_sheet.proofs.decoding.read_upxes.Given as goal

-- the upxes so far
abbrev pub invariant-loop-upx : goal.invariant-loop-upx
invariant-loop-upx l = record {
  place : l.at ≡ upx_place l.std l.base l._upx;
  count : length l.upxes ≡ l._upx;
  each : (k : ℕ) (d : List ℕ) → k < l._upx → slice_index_or l.upxes k d ≡ upx l.std l.base k;
}
