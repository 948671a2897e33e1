use Rattle.std.proofs.Common.{◌≤◌, sym, subst, arith}
use Rattle.cfb_sectors.specs.SectorChain.{end_of_chain}
use Rattle.cfb_sectors.specs.Tables.{table_at}
use Rattle.cfb_sectors.specs.Claims.{IsClosedClaim, TakesWalked}
use Rattle.cfb_sectors.proofs.ClaimLemmas.{walks_take}
use Rattle.cfb_sectors.proofs.claims.Claims.claim_chain.Goals as goal

pub returns-clause-takes : goal.returns-clause-takes
returns-clause-takes c = λ chain is.
    let range : c.args.table.now.valid ≤ end_of_chain = omega (arith, c.in_ok-walked.ensures.range) in
    let closed = subst (IsClosedClaim (table_at c.args.table.now)) (sym c.self.view_is) c.requires.closed in
    subst (λ k. TakesWalked chain c.args.table.now.valid k
    (record { taken = c.walk_on.new.marks; shared = c.walk_on-2.new.marks }) c.in_ok-walked.walked) c.self.view_is
    (walks_take (table_at c.args.table.now).entry c.args.table.now.valid c.args.start chain
    (record { taken = c.self.inside.taken; shared = c.self.inside.shared })
    (record { taken = c.walk_on.new.marks; shared = c.walk_on-2.new.marks })
    c.in_ok-walked.walked c.in_ok-walk_on.field-0 range closed.taken closed.shared
    c.in_ok-walked.ensures.walk c.in_ok-walked.ensures.met c.in_ok-walked.ensures.stops
    c.in_ok-walk_on.ensures.walk c.in_ok-walk_on.ensures.met c.in_ok-walk_on.ensures.stops is)
