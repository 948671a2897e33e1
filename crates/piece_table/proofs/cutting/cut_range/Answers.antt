use Rattle.std.proofs.Common.{◌∙◌, sym}
use Rattle.piece_table.proofs.CutLemmas.{cut_twice}
use Rattle.piece_table.proofs.cutting.cut_range.Goals as goal

pub cut-last-requires-clause-total : goal.cut-last-requires-clause-total
cut-last-requires-clause-total c = c.requires.total ∙ sym c.cut-first.ensures.cut.keeps.units

pub cut-last-requires-clause-sound : goal.cut-last-requires-clause-sound
cut-last-requires-clause-sound c = c.cut-first.ensures.cut.keeps.pieces c.requires.sound

pub returns-clause-cut : goal.returns-clause-cut
returns-clause-cut c = cut_twice c.args.entries.now.items c.cut-first.new.entries.items c.cut-last.new.entries.items
    c.args.from c.args.to c.cut-first.result c.cut-last.result c.requires.order c.cut-first.ensures.cut
    c.cut-last.ensures.cut
