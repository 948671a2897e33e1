use Rattle.direct_props.proofs.StretchLemmas.{right_stretch}
use Rattle.direct_props.proofs.rules.valid_run_at.Goals as goal

pub returns-clause-right : goal.returns-clause-right
returns-clause-right c =
    let both = right_stretch c.args.kind c.args.wd.now c.args.bin.now c.args.fc c.in-Some.around c.requires.table
    c.in-Some.ensures (c.in_ok-is_valid.ensures.right c.if-not-branch.false) in
    (both.0, record { right = both.1; next = c.in-Some.ensures.next })
