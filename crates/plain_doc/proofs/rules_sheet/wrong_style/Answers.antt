use Rattle.std.proofs.Common.{refl, below_more, arith}
use Rattle.std.proofs.lemmas.Bool.{false≢true}
use Rattle.plain_doc.specs.StyleRules.{IsWrongStyle}
use Rattle.doc_bits.proofs.Public.{first_number}
use Rattle.plain_doc.proofs.StyleLemmas.{none_wrong}
use Rattle.plain_doc.proofs.rules_sheet.wrong_style.Goals as goal

pub returns-then-not-is_valid_style : goal.returns-then-not-is_valid_style
returns-then-not-is_valid_style c =
    first_number (IsWrongStyle c.args.rule c.args.sheet.now) c.loop-istd.istd c.loop-istd.invariant
    (λ right. false≢true (c.if-not-is_valid_style.ensures.1 right))

pub loop-istd-preserved : goal.loop-istd-preserved
loop-istd-preserved c =
    below_more (λ k. IsWrongStyle c.args.rule c.args.sheet.now k → ⊥) c.loop-istd.istd c.loop-istd.invariant
    (λ wrong. wrong (c.if-not-is_valid_style.ensures.0 refl))

pub returns : goal.returns
returns c =
    none_wrong c.args.rule c.args.sheet.now c.loop-istd.istd
    (omega (arith, c.slots-istd-end.ensures.count)) c.loop-istd.invariant
