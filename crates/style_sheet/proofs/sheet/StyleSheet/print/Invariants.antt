use Rattle.std.proofs.Common.{◌≡◌, ◌++◌, take}
use Rattle.std.specs.List.{flat_map}
use Rattle.style_sheet.specs.Counted.{written_counted}
use Rattle.style_sheet.specs.Written.{written_slots, written_front}
use Rattle.style_sheet.proofs.sheet.StyleSheet.print.Given as goal

-- the slots so far are written
abbrev pub invariant-loop-istd : goal.invariant-loop-istd
invariant-loop-istd l = l.bytes ≡ written_front l.self ++ flat_map written_counted (take l.istd (written_slots 0
    l.self.styles))
