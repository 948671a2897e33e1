use Rattle.std.specs.Prelude.{codes}
use Rattle.std.specs.Fmt.{decimal}
use Rattle.page_out.proofs.Public.{three_put}
use Rattle.doc_view.proofs.line.push_section.Goals as goal

pub returns : goal.returns
returns g c =
    three_put g.K.Sink c.args.out.now c.push_ascii.new.out c.push_number.new.out c.push_ascii-2.new.out c.args.page.now
    c.push_ascii.new.self c.push_number.new.self c.push_ascii-2.new.self (codes " of section ") (decimal c.args.section)
    (codes "]\n") c.push_ascii.ensures c.push_number.ensures c.push_ascii-2.ensures
