use Rattle.markdown_page.proofs.RunLemmas.{plain_put}
use Rattle.markdown_page.proofs.pen.Pen.put_plain.Goals as goal

pub returns : goal.returns
returns g c =
    plain_put g.K.Sink c.args.out.now c.push_units.new.out c.args.self.now c.push_units.new.self c.args.units.now
    c.requires.within c.requires.plain c.push_units.ensures
