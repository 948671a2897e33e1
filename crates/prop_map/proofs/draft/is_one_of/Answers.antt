use Rattle.std.proofs.Common.{◌<◌, length, sym, arith}
use Rattle.prop_map.proofs.CodeLemmas.{among_at, among_more}
use Rattle.prop_map.proofs.draft.is_one_of.Goals as goal

pub returns-then-other-code : goal.returns-then-other-code
returns-then-other-code c =
    let within : c.loop-other.other-index < length c.args.codes.now = omega arith in
    sym (among_at c.args.code c.args.codes.now c.loop-other.other-index _ within c.if-other-code.true)

pub loop-other-preserved : goal.loop-other-preserved
loop-other-preserved c =
    let within : c.loop-other.other-index < length c.args.codes.now = omega arith in
    among_more c.args.code c.args.codes.now c.loop-other.other-index _ within c.if-other-code.false
    c.loop-other.invariant
