use Rattle.std.proofs.Common.{below_more, subst, arith}
use Rattle.doc_bits.specs.Rules.{Nowhere}
use Rattle.doc_bits.specs.declared.places.Where.{Where}
use Rattle.plain_doc.specs.declared.rules_counts.Counts.{Counts}
use Rattle.plain_doc.specs.TextRules.{BreaksText}
use Rattle.plain_doc.specs.TextWalk.{KeepsTextRules, HasTextCounts}
use Rattle.plain_doc.proofs.Public.{HoldsInText, holds_here, list_holds}
use Rattle.doc_columns.proofs.RightLemmas.{taken}
use Rattle.doc_columns.proofs.judge.are_valid_texts.Goals as goal

pub loop-k-preserved : goal.loop-k-preserved
loop-k-preserved c rule =
    let sheet = c.args.sheet.now in
    let text = c.get.result.now in
    let breaks = BreaksText rule sheet in
    let right =
    taken (λ (counts : Counts). KeepsTextRules sheet c.part.result text × HasTextCounts text counts) _ c.in-Some.field-0
    c.in-Some.is c.in_ok-right_counts.ensures in
    below_more (HoldsInText c.args.side c.args.texts.now breaks) c.loop-k.k (c.loop-k.invariant rule)
    (holds_here c.args.side c.args.texts.now breaks c.loop-k.k text c.get.ensures
    (subst (λ (part : Where). Nowhere (breaks part text)) c.part.ensures (right.0 rule)))

pub returns : goal.returns
returns c =
    λ _ rule. list_holds c.args.side c.args.texts.now (BreaksText rule c.args.sheet.now) c.loop-k.k
    (omega (arith, c.len-k-end.ensures.len)) (c.loop-k.invariant rule)
