use Rattle.std.proofs.Common.{arith}
use Rattle.session_text.proofs.TextChangeLemmas.{range_within}
use Rattle.session_text.proofs.text_changes.range_of.Goals as goal

pub begin_of_text-begin-requires-clause-within : goal.begin_of_text-begin-requires-clause-within
begin_of_text-begin-requires-clause-within c =
    omega (arith, (range_within c.args.texts.now c.args.number c.args.range.0 c.args.range.1 c.requires.text).0)

pub overflow_add-result : goal.overflow_add-result
overflow_add-result c =
    let within = range_within c.args.texts.now c.args.number c.args.range.0 c.args.range.1 c.requires.text in
    omega (arith, within.1.0, within.1.1, c.begin_of_text-begin.ensures.begin, c.requires.few)

pub overflow_add-result-2 : goal.overflow_add-result-2
overflow_add-result-2 c =
    let within = range_within c.args.texts.now c.args.number c.args.range.0 c.args.range.1 c.requires.text in
    omega (arith, within.1.1, c.begin_of_text-begin.ensures.begin, c.requires.few)

pub returns-clause-within : goal.returns-clause-within
returns-clause-within c =
    let within = range_within c.args.texts.now c.args.number c.args.range.0 c.args.range.1 c.requires.text in
    omega (arith, within.1.1, c.begin_of_text-begin.ensures.begin)
