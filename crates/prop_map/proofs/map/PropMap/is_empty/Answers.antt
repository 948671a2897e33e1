use Rattle.std.proofs.Common.{length, sym, ap, ◌∙◌, eq-eqb}
use Rattle.std.proofs.lemmas.Bool.{eqb-true}
use Rattle.std.specs.FinMap.{entries, empty_of_len, len-entries}
use Rattle.prop_map.proofs.EntriesLemmas.{entries-empty}
use Rattle.prop_map.proofs.map.PropMap.is_empty.Goals as goal

pub returns : goal.returns
returns c = (
  λ t. empty_of_len c.args.self.now (len-entries c.args.self.now ∙ (ap length (sym c.entries.ensures) ∙ eqb-true
      (length c.entries.result) 0 (sym c.is_empty.ensures ∙ t))),
  λ e. c.is_empty.ensures ∙ eq-eqb (length c.entries.result) 0 (ap length (c.entries.ensures ∙ (ap entries e ∙
      entries-empty))),
)
