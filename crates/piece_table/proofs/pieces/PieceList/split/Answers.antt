use Rattle.std.proofs.Common.{◌∙◌, arith}
use Rattle.piece_table.proofs.BlockLemmas.{are_few}
use Rattle.piece_table.proofs.CutLemmas.{entries_sound}
use Rattle.piece_table.proofs.FlatLemmas.{total_length-seen}
use Rattle.piece_table.proofs.SpliceLemmas.{seam_begins, kept_numbered, kept_pieces, kept_total}
use Rattle.piece_table.proofs.pieces.PieceList.split.Goals as goal

pub cut-requires-clause-total : goal.cut-requires-clause-total
cut-requires-clause-total c =
    c.self.invariant.1.1 ∙ total_length-seen c.self.inside.modifiers.items c.self.inside.entries.items

pub cut-requires-clause-sound : goal.cut-requires-clause-sound
cut-requires-clause-sound c = entries_sound c.self.inside.modifiers.items c.self.inside.entries.items
    c.self.invariant.1.0

pub cut-requires-clause-few : goal.cut-requires-clause-few
cut-requires-clause-few c =
    let few = (are_few c.self.inside.modifiers.items c.self.inside.entries.items c.self.invariant.1.0).count in
    omega arith

pub invariant_of-self : goal.invariant_of-self
invariant_of-self c =
    let modifiers = c.self.inside.modifiers.items in
    let old = c.self.inside.entries.items in
    let new = c.cut.new.entries.items in
    let keeps = c.cut.ensures.cut.keeps in (
      kept_numbered modifiers old new keeps c.self.invariant.0,
      (
        kept_pieces modifiers old new keeps
            c.self.invariant.1.0,
        c.self.invariant.1.1 ∙ kept_total modifiers old new keeps,
      ),
    )

pub returns-clause-begins : goal.returns-clause-begins
returns-clause-begins c = seam_begins c.self.inside.modifiers.items c.cut.new.entries.items c.args.cp c.cut.result
    c.cut.ensures.cut.seam
