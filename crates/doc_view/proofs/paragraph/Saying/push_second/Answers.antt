use Rattle.doc_view.proofs.PrintLemmas.{second_put}
use Rattle.doc_view.proofs.paragraph.Saying.push_second.Goals as goal

pub returns-in-None-clause-said : goal.returns-in-None-clause-said
returns-in-None-clause-said g c =
    second_put g.K.Sink c.args.out.now c.push_char-in-None.new.out c.push_first.new.out c.args.page.now
    c.push_char-in-None.new.self c.push_first.new.page c.args.first c.args.unit c.in-None.ensures
    c.push_char-in-None.ensures c.push_first.ensures.said
