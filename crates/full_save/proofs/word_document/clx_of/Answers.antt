use Rattle.std.proofs.Common.{sym, subst}
use Rattle.piece_table.specs.Printing.{IsPrintable, IsPrintedClx}
use Rattle.full_save.proofs.ClxLemmas.{one_clx, one_printable}
use Rattle.full_save.proofs.word_document.clx_of.Goals as goal

pub print_clx-requires : goal.print_clx-requires
print_clx-requires c = subst IsPrintable (sym c.in_ok-piece.ensures) (one_printable c.args.len)

pub returns : goal.returns
returns c =
    one_clx c.args.len c.in_ok-clx.clx
    (subst (λ pieces. IsPrintedClx pieces c.in_ok-clx.clx) c.in_ok-piece.ensures c.in_ok-clx.ensures)
