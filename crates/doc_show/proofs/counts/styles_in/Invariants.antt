use Rattle.std.proofs.Common.{◌≡◌, ◌≤◌, take}
use Rattle.std.specs.Prelude.{is_some}
use Rattle.std.specs.List.{count_by}
use Rattle.doc_show.proofs.counts.styles_in.Given as goal

-- as many of the slots so far
abbrev pub invariant-loop-istd : goal.invariant-loop-istd
invariant-loop-istd l = record {
  count : l.count ≡ count_by is_some (take l.istd l.sheet.styles);
  few : l.count ≤ l.istd;
}
