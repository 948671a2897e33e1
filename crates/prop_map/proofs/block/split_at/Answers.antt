use Rattle.std.proofs.Common.{◌≡◌, ◌∙◌, [], refl, sym, subst}
use Rattle.prop_map.specs.Block.{IsPutBetween}
use Rattle.prop_map.proofs.BlockLemmas.{HasPassedBelow, AreBytesBefore, none_passed, below_from, below_more}
use Rattle.prop_map.proofs.BlockLemmas.{put_before, put_at, put_last}
use Rattle.prop_map.proofs.block.split_at.Goals as goal

pub loop-other-init : goal.loop-other-init
loop-other-init c = record {
  same = c.same-rest.ensures;
  passed = none_passed c.args.entries.now c.same-left.result c.args.code.0 (sym c.same-left.ensures);
}

pub loop-other-preserved : goal.loop-other-preserved
loop-other-preserved c =
    let passed = subst (HasPassedBelow c.args.entries.now c.args.code.0) c.in-Some.ensures
    c.loop-other.invariant.passed in
    let apart : c.args.code.0 ≡ c.in-Some.other.0 → ⊥ = λ e. let t = c.if-same_code.ensures.1 e in absurd (cc) in
    record {
      same = c.same-rest-in-Some.ensures;
      passed = below_more c.args.entries.now c.next.new.self c.args.code.0 c.in-Some.other.0 c.in-Some.field-0-1.now
          passed (below_from c.args.code.0 c.in-Some.other.0 c.if-code-other.false apart);
    }

pub returns-then-code-other : goal.returns-then-code-other
returns-then-code-other c =
    let entries = c.args.entries.now in
    let bytes = c.before-then-code-other.result.now in
    let passed = subst (HasPassedBelow entries c.args.code.0) c.in-Some.ensures c.loop-other.invariant.passed in
    let here = c.loop-other.invariant.same ∙ c.in-Some.ensures in
    subst (IsPutBetween entries c.args.code.0 [] bytes) (sym here)
    (put_before entries c.next.new.self c.args.code.0 c.in-Some.other.0 c.in-Some.field-0-1.now bytes passed
    (subst (λ l. AreBytesBefore entries l bytes) here c.before-then-code-other.ensures) c.if-code-other.true)

pub returns-then-same_code : goal.returns-then-same_code
returns-then-same_code c =
    let entries = c.args.entries.now in
    let bytes = c.before-then-same_code.result.now in
    let passed = subst (HasPassedBelow entries c.args.code.0) c.in-Some.ensures c.loop-other.invariant.passed in
    let here = c.loop-other.invariant.same ∙ c.in-Some.ensures in
    put_at entries c.next.new.self c.args.code.0 c.in-Some.other.0 c.in-Some.field-0-1.now bytes passed
    (subst (λ l. AreBytesBefore entries l bytes) here c.before-then-same_code.ensures) (c.if-same_code.ensures.0 refl)

pub returns : goal.returns
returns c =
    let entries = c.args.entries.now in
    let bytes = c.before-2.result.now in
    let left = c.in_default.ensures.0 in
    let passed = subst (HasPassedBelow entries c.args.code.0) left c.loop-other.invariant.passed in
    let here = c.loop-other.invariant.same ∙ left in
    subst (IsPutBetween entries c.args.code.0 [] bytes) (sym here)
    (put_last entries c.args.code.0 bytes passed (subst (λ l. AreBytesBefore entries l bytes) here c.before-2.ensures))
