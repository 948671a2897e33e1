use Rattle.fib_form.proofs.FibLemmas.{read_back}
use Rattle.fib_form.proofs.laws.fib_is_read_back.Goals as goal

pub returns : goal.returns
returns c = read_back
