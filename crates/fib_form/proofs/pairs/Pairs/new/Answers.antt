use Rattle.std.proofs.Common.{ℕ, refl, lit<}
use Rattle.std.proofs.lemmas.List.{length-replicate}
use Rattle.std.proofs.lemmas.List.Elements.{All-replicate}
use Rattle.fib_form.specs.FibFields.{IsWidePair, empty_pairs}
use Rattle.fib_form.proofs.pairs.Pairs.new.Goals as goal

pub invariant_of-result : goal.invariant_of-result
invariant_of-result c = (
  length-replicate {A = ℕ × ℕ} 93 (0, 0),
  All-replicate {X = ℕ × ℕ} IsWidePair 93 (
    0,
    0,
  ) (lit< tt, lit< tt),
)

pub returns : goal.returns
unfolding empty_pairs
returns c = refl
