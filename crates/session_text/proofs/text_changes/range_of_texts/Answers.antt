use Rattle.session_text.proofs.TextChangeLemmas.{texts_range}
use Rattle.session_text.proofs.text_changes.range_of_texts.Goals as goal

pub returns-clause-order : goal.returns-clause-order
returns-clause-order c =
    (texts_range c.args.texts.now c.args.from c.args.to _ _ c.begin_of_text.ensures.begin
    c.begin_of_text-2.ensures.begin
    c.requires.order c.requires.within).0
