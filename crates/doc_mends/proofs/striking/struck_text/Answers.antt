use Rattle.std.proofs.Common.{◌∙◌, ap, sym, subst, List, Option}
use Rattle.std.specs.Prelude.{MatchOption, ⊤}
use Rattle.doc_model.specs.declared.item.Item.{Item}
use Rattle.doc_patch.proofs.Public.{items_are}
use Rattle.doc_mends.specs.Striking.{text_struck}
use Rattle.doc_mends.proofs.BatchLemmas.{batch_ranges}
use Rattle.doc_mends.proofs.striking.struck_text.Goals as goal

pub returns-in-None : goal.returns-in-None
returns-in-None c =
    absurd (subst (λ (o : Option (List Item)). MatchOption o ⊥ (λ _. ⊤)) c.in-None.ensures c.requires.there)

pub strike_text-requires-clause-ranges : goal.strike_text-requires-clause-ranges
strike_text-requires-clause-ranges c =
    batch_ranges c.args.document.now c.args.batch.now.story 0 c.args.batch.now.ranges.now c.in-Some.text.now
    c.in-Some.ensures c.requires.ranges c.requires.ascend

pub returns-in_ok-strike_text-in-Some : goal.returns-in_ok-strike_text-in-Some
returns-in_ok-strike_text-in-Some c =
    c.in_ok-strike_text-in-Some.ensures
    ∙ ap (text_struck c.args.batch.now.ranges.now)
    (sym (items_are c.args.document.now c.args.batch.now.story c.in-Some.text.now c.in-Some.ensures))
