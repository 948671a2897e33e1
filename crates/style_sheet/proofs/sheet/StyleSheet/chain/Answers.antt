use Rattle.std.proofs.Common.{◌≡◌, ◌+◌, [], ◌∷◌, ◌++◌, None, suc, length, reverse, sym, ap, ◌∙◌, subst, arith}
use Rattle.std.proofs.Common.{length-append}
use Rattle.std.proofs.lemmas.List.{reverse-reverse, length-reverse}
use Rattle.style_sheet.specs.Chain.{base_at, IsBaseChain}
use Rattle.style_sheet.proofs.ChainLemmas.{ups, ups_more, up_more, climbed_none, climbed_more, climbed_chain}
use Rattle.style_sheet.proofs.ChainLemmas.{length-ups}
use Rattle.style_sheet.proofs.OneChainLemmas.{climbed_next, next_kind, chain_short}
use Rattle.style_sheet.proofs.sheet.StyleSheet.chain.Goals as goal

pub loop-base-init : goal.loop-base-init
loop-base-init c = record {
  n = 0;
  climbed = climbed_none c.args.self.now c.args.istd c.requires.properties;
  items = c.in_ok-push.ensures.items ∙ ap (λ l. l ++ c.args.istd ∷ []) c.new-items.ensures.items;
}

pub loop-base-smaller : goal.loop-base-smaller
loop-base-smaller c =
    let sheet = c.args.self.now in
    let found = c.requires.sound.chains c.args.istd c.requires.properties in
    let n = c.loop-base.invariant.n in
    let next = climbed_next sheet c.args.istd n c.loop-base.at c.in-Some.base found.0 c.loop-base.invariant.climbed
    (sym c.in-Some.ensures) found.1 in
    let short = chain_short sheet c.args.istd found.0 found.1 in
    let old : length c.loop-base.items.items ≡ suc n =
    ap length c.loop-base.invariant.items ∙ (length-reverse (ups sheet c.args.istd n) ∙ length-ups sheet c.args.istd
    n) in
    let new : length c.push-in-Some.new.self.items ≡ length c.loop-base.items.items + 1 =
    ap length c.in_ok-push-2.ensures.items ∙ length-append c.loop-base.items.items (c.in-Some.base ∷ []) in
    omega arith

pub loop-base-preserved : goal.loop-base-preserved
loop-base-preserved c =
    let sheet = c.args.self.now in
    let found = c.requires.sound.chains c.args.istd c.requires.properties in
    let n = c.loop-base.invariant.n in
    let climbed = c.loop-base.invariant.climbed in
    let base = sym c.in-Some.ensures in
    let kind = next_kind sheet c.args.istd n c.loop-base.at c.in-Some.base found.0 climbed base found.1 in
    record {
      n = suc n;
      climbed = climbed_more sheet c.args.istd n c.loop-base.at c.in-Some.base climbed base kind;
      items = c.in_ok-push-2.ensures.items ∙ ups_more sheet c.args.istd n c.in-Some.base c.loop-base.items.items
          (up_more sheet c.args.istd n c.loop-base.at c.in-Some.base climbed.here base) c.loop-base.invariant.items;
    }

pub returns : goal.returns
returns c =
    let sheet = c.args.self.now in
    let n = c.loop-base.invariant.n in
    let root : base_at sheet c.loop-base.at ≡ None = sym c.in_default.ensures in
    let items = c.from_vec.ensures ∙ (c.reverse.ensures.items ∙ (ap reverse c.loop-base.invariant.items ∙
    reverse-reverse (ups sheet c.args.istd n))) in
    subst (IsBaseChain sheet c.args.istd) (sym items) (climbed_chain sheet c.args.istd n c.loop-base.at
    c.loop-base.invariant.climbed root)
