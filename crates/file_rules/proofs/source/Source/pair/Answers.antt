use Rattle.std.proofs.Common.{◌∙◌, ◌<◌, ap}
use Rattle.fib_form.specs.Fib.{fib_pair}
use Rattle.fib_form.specs.FibFields.{listed_pair}
use Rattle.fib_form.specs.TableParts.{pair_number}
use Rattle.file_rules.specs.Source.{DocSource}
use Rattle.file_rules.proofs.PartLemmas.{pair-read}
use Rattle.file_rules.proofs.source.Source.pair.Goals as goal

pub returns-clause-pair : goal.returns-clause-pair
returns-clause-pair c =
    let inside = c.self.inside in
    let n = pair_number c.args.part in
    let below : n < 93 = rw (c.pair.ensures.number) at c.pair.ensures.below in
    c.pair-2.ensures
    ∙ (ap (listed_pair inside.fib.now.pairs) c.pair.ensures.number
    ∙ (pair-read inside.wd.now inside.fib.now n below c.self.invariant.fields ∙ ap (λ (s : DocSource). fib_pair s.wd
    n) c.self.view_is))
