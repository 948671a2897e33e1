use Rattle.std.proofs.Common.{IsTrue, sym, ap, ◌∙◌, subst}
use Rattle.std.specs.Ordering.{nat_cmp}
use Rattle.std.specs.FinMap.{from_sorted, insert, is_sorted, entries_sorted}
use Rattle.prop_map.proofs.EntriesLemmas.{true_of, from_sorted-entries}
use Rattle.prop_map.proofs.map.PropMap.set.Goals as goal

pub with_entry-requires : goal.with_entry-requires
with_entry-requires c = subst (λ es. IsTrue (is_sorted nat_cmp es)) (sym c.entries.ensures) (true_of _ (entries_sorted
    c.args.self.now))

pub returns-clause-ok : goal.returns-clause-ok
returns-clause-ok c =
    c.in_ok-new.ensures.ok ∙ (c.in_ok-block.ensures ∙ ap (λ m. insert m c.args.code.0 c.args.value.now)
    (ap from_sorted c.entries.ensures ∙ from_sorted-entries c.args.self.now))
