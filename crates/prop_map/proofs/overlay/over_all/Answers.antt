use Rattle.std.proofs.Common.{IsTrue, refl, sym, ap, ◌∙◌, subst}
use Rattle.std.specs.Ordering.{nat_cmp}
use Rattle.std.specs.Option.{option_or}
use Rattle.std.specs.FinMap.{get, get-entries, entries, find, entries_sorted, is_sorted}
use Rattle.prop_map.proofs.EntriesLemmas.{true_of}
use Rattle.prop_map.proofs.OverlayLemmas.{nothing_over}
use Rattle.prop_map.proofs.overlay.over_all.Goals as goal

pub merge-requires-clause-base : goal.merge-requires-clause-base
merge-requires-clause-base c = subst (λ es. IsTrue (is_sorted nat_cmp es)) (sym c.entries.ensures) (true_of _
    (entries_sorted c.args.base.now))

pub merge-requires-clause-top : goal.merge-requires-clause-top
merge-requires-clause-top c = subst (λ es. IsTrue (is_sorted nat_cmp es)) (sym c.entries-2.ensures) (true_of _
    (entries_sorted c.args.top.now))

pub returns-then-is_empty : goal.returns-then-is_empty
returns-then-is_empty c = λ code. ap (λ m. get m code) c.in_ok-copy.ensures ∙ nothing_over code c.args.top.now
    c.args.base.now (c.if-is_empty.ensures.0 refl)

pub returns : goal.returns
returns c = λ code.
    let top = c.args.top.now in
    let base = c.args.base.now in
    ap (λ m. get m code) c.in_ok-made.ensures
    ∙ (c.in_ok-block.ensures code
    ∙ (ap (λ es. option_or (find nat_cmp code c.entries-2.result) (find nat_cmp code es)) c.entries.ensures
    ∙ (ap (λ es. option_or (find nat_cmp code es) (find nat_cmp code (entries base))) c.entries-2.ensures
    ∙ (ap (λ o. option_or o (find nat_cmp code (entries base))) (sym (get-entries top code))
    ∙ ap (option_or (get top code)) (sym (get-entries base code))))))
