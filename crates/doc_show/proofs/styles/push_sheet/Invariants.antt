use Rattle.std.proofs.Common.{◌≡◌, ◌++◌, take}
use Rattle.std.specs.List.{flat_map, enumerate_from}
use Rattle.doc_show.specs.Listing.{slot_lines}
use Rattle.doc_show.proofs.styles.push_sheet.Given as goal

abbrev pub invariant-loop-istd : goal.invariant-loop-istd
invariant-loop-istd l = l.text ≡ l.initial.text ++ flat_map slot_lines (take l.istd (enumerate_from 0 l.sheet.styles))
