use Rattle.std.proofs.Common.{◌∙◌, ap, arith}
use Rattle.doc_bits.specs.Number.{number_at}
use Rattle.piece_table.proofs.PieceLemmas.{pcd_number}
use Rattle.piece_table.proofs.pcd.prm_word.Goals as goal

pub returns : goal.returns
returns c = c.get16.ensures ∙ (ap (λ l. number_at l 6 2) c.entry.ensures ∙ pcd_number c.args.plc.now c.args.k 6 2
    c.requires.table (omega arith))
