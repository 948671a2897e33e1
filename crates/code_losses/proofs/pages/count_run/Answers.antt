use Rattle.std.specs.Prelude.{slice_range}
use Rattle.std.proofs.Common.{refl, inl, inr, subst, ◌+◌, arith}
use Rattle.code_losses.specs.Counted.{IsFoundPrlList}
use Rattle.code_losses.specs.Pages.{IsFoundInRun}
use Rattle.code_losses.proofs.JoinLemmas.{part_none}
use Rattle.code_losses.proofs.RunLemmas.{no_list}
use Rattle.code_losses.proofs.pages.count_run.Goals as goal

pub returns-in-Found-clause-counted : goal.returns-in-Found-clause-counted
returns-in-Found-clause-counted c = λ lists counted.
    let part = c.count.ensures.counted lists counted in
    record {
      found = part.found;
      is_found = inl (record {
        from = c.in-Found.from;
        to = c.in-Found.to;
        list = c.in-Found.ensures;
        found_is = subst (λ n. IsFoundPrlList (slice_range c.args.page.now (c.in-Found.from + n) c.in-Found.to)
            part.found)
            c.least_list.ensures part.is_found;
      });
      counted = part.counted;
    }

pub returns-in_default : goal.returns-in_default
returns-in_default c = record {
  codes = c.requires.codes;
  seen = omega arith;
  counted = λ lists counted.
      part_none (IsFoundInRun c.args.kind c.args.page.now c.args.run) lists c.args.counts.now
      (inr (record {
        none = no_list c.args.kind c.args.page.now c.args.run c.answer_of.result c.answer_of.ensures
            c.in_default.not-Found;
        nothing = refl;
      })) counted;
}
