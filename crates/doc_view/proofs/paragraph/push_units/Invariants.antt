use Rattle.std.proofs.Common.{◌≡◌, drop}
use Rattle.doc_view.proofs.LabelLemmas.{LabelAt}
use Rattle.doc_view.proofs.paragraph.push_units.Given as goal

-- the units so far were put
abbrev pub invariant-loop-unit : goal.invariant-loop-unit
invariant-loop-unit g l = record {
  table : l.saying.in_table ≡ l.in_table;
  label : LabelAt g.K.Sink l.fn.out l.fn.page l.out l.page l.in_table l.saying.half l.units (drop l.unit-index l.units);
}
