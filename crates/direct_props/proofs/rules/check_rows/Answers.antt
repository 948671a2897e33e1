use Rattle.std.proofs.Common.{ℕ, List, subst, ◌∙◌}
use Rattle.doc_bits.specs.Rules.{Hold, IsFirstOffset}
use Rattle.direct_props.specs.PageRules.{page_rules}
use Rattle.direct_props.proofs.RightLemmas.{right_where_hold, right_places_hold}
use Rattle.direct_props.proofs.rules.check_rows.Goals as goal

pub returns-then-branch-clause-judged : goal.returns-then-branch-clause-judged
returns-then-branch-clause-judged c =
    right_places_hold c.args.kind c.args.wd.now c.args.bin.now c.args.places.now
    (c.in_ok-are_valid_rows.ensures c.if-branch.true)

pub returns-in-Ok-clause-judged : goal.returns-in-Ok-clause-judged
returns-in-Ok-clause-judged c =
    subst (λ (places : List ℕ). Hold (page_rules c.args.kind c.args.wd.now c.args.bin.now places))
    (c.deref.ensures.value ∙ c.in_ok-list.ensures) c.in-Ok.ensures

pub returns-in-Ok-clause-right : goal.returns-in-Ok-clause-right
returns-in-Ok-clause-right c =
    right_where_hold c.args.kind c.args.wd.now c.args.bin.now c.args.places.now
    (subst (λ (places : List ℕ). Hold (page_rules c.args.kind c.args.wd.now c.args.bin.now places))
    (c.deref.ensures.value ∙ c.in_ok-list.ensures) c.in-Ok.ensures)

pub returns-clause-judged : goal.returns-clause-judged
returns-clause-judged c =
    let fault = c.in-Err.fault in
    subst
    (λ (places : List ℕ). IsFirstOffset (page_rules c.args.kind c.args.wd.now c.args.bin.now places) fault.rule
    fault.offset)
    (c.deref.ensures.value ∙ c.in_ok-list.ensures) c.in-Err.ensures
