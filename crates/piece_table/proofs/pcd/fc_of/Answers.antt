use Rattle.std.proofs.Common.{◌∙◌, ap, arith}
use Rattle.doc_bits.specs.Number.{number_at}
use Rattle.piece_table.specs.Clx.{fc_compressed}
use Rattle.piece_table.proofs.PieceLemmas.{pcd_number}
use Rattle.piece_table.proofs.pcd.fc_of.Goals as goal

pub returns : goal.returns
returns c = c.read.ensures ∙ ap fc_compressed (c.get32.ensures ∙ (ap (λ l. number_at l 2 4) c.entry.ensures ∙
    pcd_number c.args.plc.now c.args.k 2 4 c.requires.table (omega arith)))
