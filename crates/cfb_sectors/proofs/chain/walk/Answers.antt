use Rattle.std.proofs.Common.{length, slice_index, subst, arith}
use Rattle.cfb_sectors.specs.SectorChain.{IsFullPath}
use Rattle.cfb_sectors.proofs.ChainLemmas.{length_below}
use Rattle.cfb_sectors.proofs.ClaimLemmas.{fresh_full}
use Rattle.cfb_sectors.proofs.chain.walk.Goals as goal

pub returns-clause-path : goal.returns-clause-path
returns-clause-path c =
    subst (λ n. IsFullPath (λ s. slice_index c.args.entries.now s) n c.args.start c.in_ok-walked.walked.path.items)
    c.begin.ensures.len
    (fresh_full (λ s. slice_index c.args.entries.now s) (length c.begin.new.self) c.args.start
    c.in_ok-walked.walked.next c.in_ok-walked.walked.path.items c.begin.new.self c.walk_on.new.marks
    (omega (arith, c.begin.ensures.len, c.requires.starts)) c.begin.ensures.none c.in_ok-walked.ensures.walk
    c.in_ok-walked.ensures.met c.in_ok-walked.ensures.stops)

pub returns-clause-short : goal.returns-clause-short
returns-clause-short c =
    let w = c.in_ok-walked.ensures.walk in
    let short = length_below c.in_ok-walked.walked.path.items _ w.within w.distinct in
    omega (arith, c.begin.ensures.len)
