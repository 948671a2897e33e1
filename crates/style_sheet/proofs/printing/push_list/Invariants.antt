use Rattle.std.proofs.Common.{◌≡◌, ◌++◌, take}
use Rattle.std.specs.List.{flat_map}
use Rattle.style_sheet.specs.Counted.{written_counted}
use Rattle.style_sheet.proofs.printing.push_list.Given as goal

abbrev pub invariant-loop-upx : goal.invariant-loop-upx
invariant-loop-upx l = l.bytes ≡ l.fn.bytes ++ flat_map (λ upx. written_counted upx) (take l.upx-index l.upxes)
