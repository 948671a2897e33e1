use Rattle.std.proofs.Common.{◌<◌}
use Rattle.std.specs.Prelude.{All}
use Rattle.style_sheet.specs.Chain.{style_kind_at}
use Rattle.doc_mends.specs.Bases.{AreEndless}
use Rattle.doc_mends.proofs.bases.endless_bases.Given as goal

-- those among the styles so far
abbrev pub invariant-loop-istd : goal.invariant-loop-istd
invariant-loop-istd l = record {
  are : AreEndless l.sheet l.istd l.istds.items;
  kinds : All (λ istd. 0 < style_kind_at l.sheet istd) l.istds.items;
}
