use Rattle.std.proofs.Common.{◌≡◌, take}
use Rattle.style_sheet.proofs.upxes.UpxList.copy.Given as goal

abbrev pub invariant-loop-upx : goal.invariant-loop-upx
invariant-loop-upx l = l.items.items ≡ take l.upx-index l.upx-items
