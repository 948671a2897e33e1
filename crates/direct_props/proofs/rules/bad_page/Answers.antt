use Rattle.std.proofs.Common.{refl}
use Rattle.direct_props.proofs.AnswerLemmas.{bad_here, not_bad}
use Rattle.direct_props.proofs.rules.bad_page.Goals as goal

pub returns-then-is_bad : goal.returns-then-is_bad
returns-then-is_bad c = λ kind bin fc table has. bad_here kind c.args.wd.now bin fc c.args.found.number
    c.args.found.answer c.run_answer_is_one.ensures table has (c.if-is_bad.ensures.0 refl)

pub returns-else-is_bad : goal.returns-else-is_bad
returns-else-is_bad c = λ kind bin fc table has.
    not_bad kind c.args.wd.now bin fc c.args.found.number c.args.found.answer c.run_answer_is_one.ensures table has
    (λ bad. let e = c.if-is_bad.ensures.1 bad in absurd (cc))
