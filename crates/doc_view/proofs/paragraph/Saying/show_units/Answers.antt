use Rattle.page_out.proofs.Public.{put_then}
use Rattle.doc_view.specs.Lines.{begun_front}
use Rattle.doc_view.proofs.paragraph.Saying.show_units.Goals as goal

pub returns-clause-said : goal.returns-clause-said
returns-clause-said g c =
    put_then g.K.Sink c.args.out.now c.begin.new.out c.push_units.new.out c.args.page.now c.begin.new.page
    c.push_units.new.self (begun_front c.args.self.now) c.args.units.now c.begin.ensures.said c.push_units.ensures
