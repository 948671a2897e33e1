use Rattle.std.proofs.Common.{◌≡◌, ◌<◌, filter}
use Rattle.std.specs.Prelude.{All}
use Rattle.doc_parts.specs.Tabulated.{tabulate}
use Rattle.style_sheet.specs.Chain.{style_kind_at}
use Rattle.doc_mends.specs.Bases.{has_other_base}
use Rattle.doc_mends.proofs.bases.other_bases.Given as goal

-- those among the styles so far
abbrev pub invariant-loop-istd : goal.invariant-loop-istd
invariant-loop-istd l = record {
  list : l.istds.items ≡ filter (has_other_base l.sheet) (tabulate (λ istd. istd) l.istd);
  kinds : All (λ istd. 0 < style_kind_at l.sheet istd) l.istds.items;
}
