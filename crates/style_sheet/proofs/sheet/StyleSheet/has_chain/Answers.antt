use Rattle.std.proofs.Common.{refl, sym, ◌∙◌, subst, arith, add-one}
use Rattle.style_sheet.proofs.ChainLemmas.{ups, IsClimbed, climbed_more, climbed_chain}
use Rattle.style_sheet.proofs.OneChainLemmas.{climbed_below, next_kind, chain_short}
use Rattle.style_sheet.proofs.sheet.StyleSheet.has_chain.Goals as goal

-- the bases end
pub returns-in-None : goal.returns-in-None
returns-in-None c =
    let sheet = c.args.self.now in
    let n = c.loop-turn._turn in (
      λ _. (
        ups sheet c.args.istd n,
        climbed_chain sheet c.args.istd n c.loop-turn.at c.loop-turn.invariant.climbed
            (sym c.in-None.ensures),
      ),
      λ _. refl,
    )

-- a base is of another kind
pub returns-then-kind_number-kind : goal.returns-then-kind_number-kind
returns-then-kind_number-kind c = (
  λ t. absurd (cc),
  λ w.
      let same = next_kind c.args.self.now c.args.istd c.loop-turn._turn c.loop-turn.at c.in-Some.base w.0
      c.loop-turn.invariant.climbed (sym c.in-Some.ensures) w.1 in
      absurd (c.if-kind_number-kind.true (c.kind_number.ensures ∙ (same ∙ sym c.loop-turn.invariant.kind))),
)

pub loop-turn-preserved : goal.loop-turn-preserved
loop-turn-preserved c =
    let kind = c.loop-turn.invariant.kind in
    let n = c.loop-turn._turn in
    let more = climbed_more c.args.self.now c.args.istd n c.loop-turn.at c.in-Some.base c.loop-turn.invariant.climbed
    (sym c.in-Some.ensures) (sym c.kind_number.ensures ∙ (c.if-kind_number-kind.false ∙ kind)) in
    record {
      climbed = subst (λ k. IsClimbed c.args.self.now c.args.istd k c.in-Some.base) (sym (add-one n)) more;
      kind = kind;
    }

-- more bases than slots
pub returns : goal.returns
returns c = (
  λ t. absurd (cc),
  λ w.
      let short = chain_short c.args.self.now c.args.istd w.0 w.1 in
      let below = climbed_below c.args.self.now c.args.istd c.loop-turn._turn c.loop-turn.at w.0
      c.loop-turn.invariant.climbed w.1 in
      let count = c.slots-turn-end.ensures.count in
      absurd (omega arith),
)
