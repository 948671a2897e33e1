use Rattle.std.proofs.Common.{length, arith}
use Rattle.std.proofs.lemmas.Bool.{false≢true}
use Rattle.plain_doc.specs.RulesOfItems.{IsWrongItem}
use Rattle.plain_doc.specs.TextRules.{IsValidItem}
use Rattle.doc_bits.proofs.Public.{first_number}
use Rattle.plain_doc.proofs.ItemLemmas.{wrong_there}
use Rattle.plain_doc.proofs.rules_texts.wrong_item.Goals as goal

pub returns-then-not-is_valid : goal.returns-then-not-is_valid
returns-then-not-is_valid c =
    let text = c.args.text.now in
    let i = c.loop-i.i in
    let right = IsValidItem c.args.rule c.args.sheet.now c.args.part (length text) in
    first_number (IsWrongItem right text) i c.loop-i.invariant
    (wrong_there right text i c.index-text-i.result (omega arith) c.index-text-i.is
    (λ good. false≢true (c.if-not-is_valid.ensures.1 good)))
