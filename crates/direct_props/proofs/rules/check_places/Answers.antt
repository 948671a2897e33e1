use Rattle.direct_props.proofs.RightLemmas.{right_where_hold, right_places_hold}
use Rattle.direct_props.proofs.rules.check_places.Goals as goal

pub returns-then-branch-clause-judged : goal.returns-then-branch-clause-judged
returns-then-branch-clause-judged c = right_places_hold c.args.kind c.args.wd.now c.args.bin.now c.args.places.now
    (c.in_ok-are_valid.ensures c.if-branch.true)

pub returns-in-Ok-clause-right : goal.returns-in-Ok-clause-right
returns-in-Ok-clause-right c = right_where_hold c.args.kind c.args.wd.now c.args.bin.now c.args.places.now
    c.in-Ok.ensures
