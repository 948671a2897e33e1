use Rattle.std.proofs.Common.{◌≡◌, ◌+◌, ◌-◌, ◌∙◌, ◌++◌, [], map, length, take, drop, sym, ap, arith}
use Rattle.std.specs.List.{splice}
use Rattle.piece_table.specs.Piece.{flat_pieces, total_length}
use Rattle.piece_table.specs.Numbering.{text_piece}
use Rattle.piece_table.specs.Changes.{fresh_places}
use Rattle.piece_table.specs.Cuts.{entry_units, flat_entries, fresh_entries}
use Rattle.piece_table.proofs.BlockLemmas.{are_few}
use Rattle.piece_table.proofs.CutLemmas.{entries_sound}
use Rattle.piece_table.proofs.FlatLemmas.{total_length-seen}
use Rattle.piece_table.proofs.SpliceLemmas.{drained_put, spliced, length-splice, splice_units}
use Rattle.piece_table.proofs.pieces.PieceList.splice.Goals as goal

pub cut_range-first-requires-clause-total : goal.cut_range-first-requires-clause-total
cut_range-first-requires-clause-total c =
    c.self.invariant.1.1 ∙ total_length-seen c.self.inside.modifiers.items c.self.inside.entries.items

pub cut_range-first-requires-clause-few : goal.cut_range-first-requires-clause-few
cut_range-first-requires-clause-few c =
    let few = (are_few c.self.inside.modifiers.items c.self.inside.entries.items c.self.invariant.1.0).count in
    omega arith

pub remove-requires-clause-order : goal.remove-requires-clause-order
remove-requires-clause-order c = c.cut_range-first.ensures.cut.order

pub remove-requires-clause-within : goal.remove-requires-clause-within
remove-requires-clause-within c = c.cut_range-first.ensures.cut.ends.within

pub put-requires-clause-within : goal.put-requires-clause-within
put-requires-clause-within c =
    let cut = c.cut_range-first.new.entries.items in
    let first = c.cut_range-first.result.0 in
    let last = c.cut_range-first.result.1 in
    let twice = c.cut_range-first.ensures.cut in
    let order = twice.order in
    let within = twice.ends.within in
    omega (arith, ap length c.remove.ensures.items, length-splice cut [] first last order within)

pub put-requires-clause-few : goal.put-requires-clause-few
put-requires-clause-few c =
    let old = c.self.inside.entries.items in
    let modifiers = c.self.inside.modifiers.items in
    let cut = c.cut_range-first.new.entries.items in
    let first = c.cut_range-first.result.0 in
    let last = c.cut_range-first.result.1 in
    let twice = c.cut_range-first.ensures.cut in
    let count = twice.count in
    let few = (are_few modifiers old c.self.invariant.1.0).count in
    omega (
      arith,
      ap length c.remove.ensures.items,
      length-splice cut [] first last twice.order twice.ends.within,
    )

pub put-requires-clause-units : goal.put-requires-clause-units
put-requires-clause-units c =
    let old = c.self.inside.entries.items in
    let modifiers = c.self.inside.modifiers.items in
    let cut = c.cut_range-first.new.entries.items in
    let first = c.cut_range-first.result.0 in
    let last = c.cut_range-first.result.1 in
    let twice = c.cut_range-first.ensures.cut in
    let kept = twice.keeps.units in
    omega (
      arith,
      ap entry_units c.remove.ensures.items,
      splice_units cut [] c.args.from c.args.to first last twice.begins twice.ends,
      ap (λ table. total_length table.pieces) c.self.view_is,
      total_length-seen modifiers old,
      c.requires.total,
    )

pub cut_range-first-requires-clause-sound : goal.cut_range-first-requires-clause-sound
cut_range-first-requires-clause-sound c = entries_sound c.self.inside.modifiers.items c.self.inside.entries.items
    c.self.invariant.1.0

pub invariant_of-self : goal.invariant_of-self
invariant_of-self c =
    let modifiers = c.self.inside.modifiers.items in
    let old = c.self.inside.entries.items in
    let cut = c.cut_range-first.new.entries.items in
    let first = c.cut_range-first.result.0 in
    let last = c.cut_range-first.result.1 in
    let twice = c.cut_range-first.ensures.cut in
    let fresh = c.args.fresh in
    let total_old : total_length (map (text_piece modifiers) old) ≡ total_length c.args.self.now.pieces = ap
    (λ table. total_length table.pieces) c.self.view_is in
    let drained : c.remove.new.self.items ≡ take first cut ++ drop last cut = c.remove.ensures.items in
    let new : c.put.new.entries.items ≡ splice cut first last (fresh_entries fresh) =
    c.put.ensures.items ∙ (ap (λ l. take first l ++ (fresh_entries fresh ++ drop first l)) drained ∙ drained_put cut
    (fresh_entries fresh) first last twice.order twice.ends.within) in
    let is = spliced modifiers old cut c.args.from c.args.to first last fresh c.self.invariant.0 c.self.invariant.1.0
    twice c.requires.order c.requires.fresh (omega (
      arith,
      total_old,
      total_length-seen modifiers old,
      c.requires.total,
    )) in
    let sum = is.total in
    let whole = c.self.invariant.1.1 in
    let within = c.requires.within in
    let order = c.requires.order in
    let total : (c.self.inside.total - (c.args.to - c.args.from)) + c.units_of.result ≡ entry_units (splice cut first
    last (fresh_entries fresh)) = omega (arith, c.units_of.ensures, total_old, total_length-seen modifiers old) in
    rw new (
      is.named,
      (
        is.pieces,
        total ∙ sym (total_length-seen modifiers (splice cut first last (fresh_entries
            fresh))),
      ),
    )

pub returns-clause-text : goal.returns-clause-text
returns-clause-text c =
    let modifiers = c.self.inside.modifiers.items in
    let old = c.self.inside.entries.items in
    let cut = c.cut_range-first.new.entries.items in
    let first = c.cut_range-first.result.0 in
    let last = c.cut_range-first.result.1 in
    let twice = c.cut_range-first.ensures.cut in
    let fresh = c.args.fresh in
    let total_old : total_length (map (text_piece modifiers) old) ≡ total_length c.args.self.now.pieces = ap
    (λ table. total_length table.pieces) c.self.view_is in
    let drained : c.remove.new.self.items ≡ take first cut ++ drop last cut = c.remove.ensures.items in
    let new : c.put.new.entries.items ≡ splice cut first last (fresh_entries fresh) =
    c.put.ensures.items ∙ (ap (λ l. take first l ++ (fresh_entries fresh ++ drop first l)) drained ∙ drained_put cut
    (fresh_entries fresh) first last twice.order twice.ends.within) in
    let is = spliced modifiers old cut c.args.from c.args.to first last fresh c.self.invariant.0 c.self.invariant.1.0
    twice c.requires.order c.requires.fresh (omega (
      arith,
      total_old,
      total_length-seen modifiers old,
      c.requires.total,
    )) in
    ap (flat_entries modifiers) new ∙ (is.flat ∙ ap (λ table. splice (flat_pieces table.pieces) c.args.from c.args.to
    (fresh_places fresh)) c.self.view_is)

pub returns-clause-memory : goal.returns-clause-memory
returns-clause-memory c =
    let cut = c.cut_range-first.ensures in
    let taken = c.remove.ensures.memory in
    let put = c.put.ensures in
    record {
      blocks = omega (arith, ap (λ table. table.blocks) c.self.view_is, cut.blocks, taken.blocks, put.blocks);
      room = omega (arith, ap (λ table. table.room) c.self.view_is, cut.room, taken.room, put.room);
    }
