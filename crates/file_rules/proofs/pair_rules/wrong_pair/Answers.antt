use Rattle.std.proofs.Common.{◌≡◌, subst, arith}
use Rattle.doc_bits.specs.Rules.{LeastOrNone, Among}
use Rattle.doc_bits.proofs.Public.{least_none, least_step}
use Rattle.file_rules.specs.PairRules.{HasWrongPart}
use Rattle.file_rules.proofs.pair_rules.wrong_pair.Goals as goal

pub loop-k-init : goal.loop-k-init
loop-k-init c = λ wd fields. least_none (HasWrongPart wd c.args.table_len)

pub loop-k-preserved : goal.loop-k-preserved
loop-k-preserved c = λ wd fields.
    rw c.lesser-least.ensures
    (least_step (HasWrongPart wd c.args.table_len) c.loop-k.k _ _ (c.loop-k.invariant wd fields)
    (c.wrong_read_pair.ensures wd fields))

pub returns : goal.returns
returns c = λ wd fields.
    let all : c.loop-k.k ≡ 16 = omega arith in
    subst (λ n. LeastOrNone (Among n (HasWrongPart wd c.args.table_len)) c.loop-k.least) all (c.loop-k.invariant wd
    fields)
