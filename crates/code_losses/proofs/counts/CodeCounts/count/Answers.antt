use Rattle.std.proofs.Common.{refl, inl, inr, sym, [], ◌∷◌}
use Rattle.std.proofs.lemmas.Option.{none-some}
use Rattle.code_losses.specs.Counted.{IsFoundPrlList}
use Rattle.code_losses.proofs.JoinLemmas.{part_none}
use Rattle.code_losses.proofs.counts.CodeCounts.count.Goals as goal

pub returns-in-Some-clause-counted : goal.returns-in-Some-clause-counted
returns-in-Some-clause-counted c = λ lists counted.
    part_none (IsFoundPrlList c.args.list.now) lists c.args.self.now
    (inr ((λ accepted. none-some _ (sym (c.in-Some.ensures.accepted.1 accepted))), refl)) counted

pub returns-in-None-clause-counted : goal.returns-in-None-clause-counted
returns-in-None-clause-counted c = λ lists counted.
    let accepted = c.in-None.ensures.accepted.0 refl in
    record {
      found = accepted.list ∷ [];
      is_found = inl (accepted.list, (accepted.spelt, refl));
      counted = c.count_spelt.ensures.counted lists accepted.list counted accepted.spelt;
    }
