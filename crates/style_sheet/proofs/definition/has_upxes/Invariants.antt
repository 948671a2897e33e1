use Rattle.std.proofs.Common.{◌≡◌, ℕ, ◌<◌}
use Rattle.style_sheet.specs.Counted.{IsCountedPart}
use Rattle.style_sheet.specs.StyleDefinition.{upx_place}
use Rattle.style_sheet.proofs.definition.has_upxes.Given as goal

-- the upxes so far are within the STD
abbrev pub invariant-loop-upx : goal.invariant-loop-upx
invariant-loop-upx l = record {
  place : l.at ≡ upx_place l.std l.base l._upx;
  within : (k : ℕ) → k < l._upx → IsCountedPart l.std (upx_place l.std l.base k);
}
