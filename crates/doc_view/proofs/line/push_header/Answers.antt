use Rattle.std.proofs.Common.{◌++◌, ◌/◌, ◌%◌}
use Rattle.std.specs.Prelude.{codes}
use Rattle.std.specs.Fmt.{decimal}
use Rattle.page_out.proofs.Public.{three_put}
use Rattle.doc_view.specs.Headers.{header_kind}
use Rattle.doc_view.proofs.line.push_header.Goals as goal

pub returns : goal.returns
returns g c =
    let number = c.args.number in
    three_put g.K.Sink c.args.out.now c.push_ascii.new.out c.push_kind.new.out c.push_section.new.out c.args.page.now
    c.push_ascii.new.self c.push_kind.new.page c.push_section.new.page (codes "[") (header_kind (number % 6))
    (codes " of section " ++ (decimal (number / 6) ++ codes "]\n")) c.push_ascii.ensures c.push_kind.ensures
    c.push_section.ensures
