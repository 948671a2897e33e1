use Rattle.std.proofs.Common.{◌≡◌, refl, ap, ◌∙◌}
use Rattle.std.specs.Ordering.{nat_cmp}
use Rattle.std.specs.FinMap.{find, get-entries}
use Rattle.prop_map.proofs.BlockLemmas.{found_first, not_first}
use Rattle.prop_map.proofs.map.PropMap.get.Goals as goal

pub returns-then-same_code : goal.returns-then-same_code
returns-then-same_code c =
    get-entries c.args.self.now c.args.code.0
    ∙ (c.loop-other.invariant ∙ (ap (find nat_cmp c.args.code.0) c.in-Some.ensures ∙ found_first c.args.code.0
    c.in-Some.other.0 c.in-Some.value.now c.next.new.self (c.if-same_code.ensures.0 refl)))

pub loop-other-preserved : goal.loop-other-preserved
loop-other-preserved c =
    let apart : c.args.code.0 ≡ c.in-Some.other.0 → ⊥ = λ e. let t = c.if-same_code.ensures.1 e in absurd (cc) in
    c.loop-other.invariant ∙ (ap (find nat_cmp c.args.code.0) c.in-Some.ensures ∙ not_first c.args.code.0
    c.in-Some.other.0 c.in-Some.value.now c.next.new.self apart)

pub returns : goal.returns
returns c = get-entries c.args.self.now c.args.code.0 ∙ (c.loop-other.invariant ∙ ap (find nat_cmp c.args.code.0)
    c.in_default.ensures.0)
