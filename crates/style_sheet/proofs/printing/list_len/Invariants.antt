use Rattle.std.proofs.Common.{◌≡◌, ◌-◌, ◌^◌, min, length, take}
use Rattle.std.specs.List.{flat_map}
use Rattle.style_sheet.specs.Counted.{written_counted}
use Rattle.style_sheet.proofs.printing.list_len.Given as goal

abbrev pub invariant-loop-upx : goal.invariant-loop-upx
invariant-loop-upx l = l.len ≡ min (length (flat_map (λ upx. written_counted upx) (take l.upx-index l.upxes)))
    (2 ^ 64 - 1)
