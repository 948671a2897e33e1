use Rattle.std.proofs.Common.{length, drop, take, ◌-◌, refl, arith, ap, length-drop, ◌∙◌}
use Rattle.std.proofs.lemmas.List.{take_rest}
use Rattle.prl_skips.proofs.WalkLemmas.{front_none, front_more, front_same, first_there, all_there}
use Rattle.prl_skips.proofs.skips.skip_refused.Goals as goal
use Rattle.doc_bits.proofs.Public.{neither}

pub loop-code-init : goal.loop-code-init
loop-code-init c = record
    { within = omega arith; len = refl; front = front_none c.args.list.now c.requires; same = λ e. refl }

pub loop-code-preserved : goal.loop-code-preserved
loop-code-preserved c =
    let now = c.loop-code.list in
    let at = c.loop-code.at in
    let front = c.loop-code.invariant.front in
    let part = take_rest now at in
    let first = first_there _ now at front (take (length now - at) (drop at now)) c.in-Some.code.0 c.in-Some.len part
    c.in-Some.ensures.first in
    record {
      within = omega (arith, c.in-Some.ensures.within.1, length-drop at now, ap length part);
      len = omega (arith, c.loop-code.invariant.len);
      front = front_more _ now c.skip_at-any.new.list at c.in-Some.code.0 c.in-Some.len front first
          c.skip_at-any.ensures.put;
      same = λ e.
          let both = neither c.loop-code.any c.skip_at-any.result e in
          front_same _ now c.skip_at-any.new.list at c.in-Some.code.0 c.in-Some.len front first
          c.skip_at-any.ensures.put
          (c.skip_at-any.ensures.same both.1)
          ∙ c.loop-code.invariant.same both.0;
    }

pub returns-clause-skips : goal.returns-clause-skips
returns-clause-skips c =
    let now = c.loop-code.list in
    let at = c.loop-code.at in
    all_there c.args.list.now now at c.loop-code.invariant.front (take (length now - at) (drop at now))
    (take_rest now at) c.in_default.ensures.first
