use Rattle.std.proofs.Common.{◌∷◌, []}
use Rattle.std.specs.Fmt.{decimal}
use Rattle.page_out.proofs.Public.{three_put}
use Rattle.doc_view.proofs.line.push_numbered.Goals as goal

pub returns : goal.returns
returns g c =
    three_put g.K.Sink c.args.out.now c.push_ascii.new.out c.push_number.new.out c.push_ascii-2.new.out c.args.page.now
    c.push_ascii.new.self c.push_number.new.self c.push_ascii-2.new.self (91 ∷ []) (decimal c.args.number) (93 ∷ 32 ∷ [])
    c.push_ascii.ensures c.push_number.ensures c.push_ascii-2.ensures
