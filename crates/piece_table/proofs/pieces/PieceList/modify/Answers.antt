-- Modifiers are composed first, which may fail; then entries are cut and get new numbers, which takes no memory.
use Rattle.std.proofs.Common.{◌≡◌, ◌<◌, ◌∙◌, List, length, map, sym, ap, subst, arith}
use Rattle.std.specs.Prelude.{slice_range}
use Rattle.std.specs.List.{splice}
use Rattle.std.proofs.lemmas.Result.{err_from_is_err_and}
use Rattle.piece_table.specs.declared.pieces.Entry.{Entry}
use Rattle.piece_table.specs.Piece.{TextPiece, flat_pieces, total_length}
use Rattle.piece_table.specs.Numbering.{text_piece}
use Rattle.piece_table.specs.Changes.{AreModified}
use Rattle.piece_table.specs.Cuts.{flat_entries, renumbered_entry}
use Rattle.piece_table.proofs.BlockLemmas.{are_few}
use Rattle.piece_table.proofs.CutLemmas.{entries_sound}
use Rattle.piece_table.proofs.FlatLemmas.{seen-extended, total_length-seen}
use Rattle.piece_table.proofs.RangeLemmas.{renewed_met}
use Rattle.piece_table.proofs.RenumberLemmas.{range_all, extended_numbered}
use Rattle.piece_table.proofs.pieces.PieceList.modify.Goals as goal

pub entries_in-requires-clause-within : goal.entries_in-requires-clause-within
entries_in-requires-clause-within c =
    omega (
      arith,
      ap (λ table. total_length table.pieces) c.self.view_is,
      total_length-seen c.self.inside.modifiers.items c.self.inside.entries.items,
      c.requires.within,
    )

pub entries_in-requires-clause-few : goal.entries_in-requires-clause-few
entries_in-requires-clause-few c =
    let few = (are_few c.self.inside.modifiers.items c.self.inside.entries.items c.self.invariant.1.0).count in
    omega arith

pub compose_all-requires-clause-named : goal.compose_all-requires-clause-named
compose_all-requires-clause-named c =
    let modifiers = c.self.inside.modifiers.items in
    let are = c.in_ok-range.ensures in
    let N : Entry → Type 0 = λ entry. entry.modifier < length modifiers in
    rw (c.deref.ensures.value, are.range) (range_all N c.self.inside.entries.items are.first are.last
    c.self.invariant.0.named)

-- where memory is wanting, further modifiers may be kept, which no piece names
pub invariant_of-self : goal.invariant_of-self
invariant_of-self c =
    let old_modifiers = c.self.inside.modifiers.items in
    let modifiers = c.compose_all.new.modifiers.items in
    let items = c.self.inside.entries.items in
    let more = c.compose_all.ensures.extends in
    let seen = seen-extended old_modifiers modifiers items more c.self.invariant.0.named in
    rw seen (extended_numbered old_modifiers modifiers items more c.self.invariant.0, c.self.invariant.1)

pub returns-in_err-numbers-clause-err : goal.returns-in_err-numbers-clause-err
returns-in_err-numbers-clause-err c =
    let old_modifiers = c.self.inside.modifiers.items in
    let modifiers = c.compose_all.new.modifiers.items in
    let items = c.self.inside.entries.items in
    let seen = seen-extended old_modifiers modifiers items c.compose_all.ensures.extends c.self.invariant.0.named in
    let p = err_from_is_err_and c.from_residual-in_err-numbers.result c.from_residual-in_err-numbers.ensures.1 in
    rw p.1 (ap (λ (l : List TextPiece). record {
      pieces = l;
      spare = c.self.inside.entries.spare;
      blocks = c.self.inside.entries.blocks;
      room = c.self.inside.entries.room;
    }) seen
    ∙ c.self.view_is)

pub cut_range-first-requires-clause-total : goal.cut_range-first-requires-clause-total
cut_range-first-requires-clause-total c =
    c.self.invariant.1.1 ∙ total_length-seen c.self.inside.modifiers.items c.self.inside.entries.items

pub cut_range-first-requires-clause-sound : goal.cut_range-first-requires-clause-sound
cut_range-first-requires-clause-sound c = entries_sound c.self.inside.modifiers.items c.self.inside.entries.items
    c.self.invariant.1.0

pub cut_range-first-requires-clause-few : goal.cut_range-first-requires-clause-few
cut_range-first-requires-clause-few c =
    let few = (are_few c.self.inside.modifiers.items c.self.inside.entries.items c.self.invariant.1.0).count in
    omega arith

pub change-requires-clause-order : goal.change-requires-clause-order
change-requires-clause-order c = c.cut_range-first.ensures.cut.order

pub change-requires-clause-within : goal.change-requires-clause-within
change-requires-clause-within c = c.cut_range-first.ensures.cut.ends.within

pub invariant_of-self-2 : goal.invariant_of-self-2
invariant_of-self-2 c =
    let old_modifiers = c.self.inside.modifiers.items in
    let modifiers = c.compose_all.new.modifiers.items in
    let old = c.self.inside.entries.items in
    let cut = c.cut_range-first.new.entries.items in
    let first = c.cut_range-first.result.0 in
    let last = c.cut_range-first.result.1 in
    let numbers = c.in_ok-numbers.numbers.items in
    let twice = c.cut_range-first.ensures.cut in
    let all = rw c.deref.ensures.value at c.in_ok-numbers.ensures.all in
    let new = c.change.ensures.items in
    let is = renewed_met old_modifiers modifiers c.args.by.now numbers old cut c.in_ok-range.range.items c.args.from
    c.args.to first last c.self.invariant.0 c.self.invariant.1.0 twice c.requires.order c.compose_all.ensures.extends
    c.requires.formed c.in_ok-numbers.ensures.composed c.in_ok-range.ensures all in
    let total = is.total in
    rw new (
      is.named,
      (
        is.pieces,
        c.self.invariant.1.1 ∙ (total_length-seen old_modifiers old ∙ (sym total ∙ sym
            (total_length-seen modifiers (splice cut first last (map (renumbered_entry numbers) (slice_range cut first
            last)))))),
      ),
    )

pub returns-clause-text : goal.returns-clause-text
returns-clause-text c =
    let old_modifiers = c.self.inside.modifiers.items in
    let modifiers = c.compose_all.new.modifiers.items in
    let old = c.self.inside.entries.items in
    let cut = c.cut_range-first.new.entries.items in
    let first = c.cut_range-first.result.0 in
    let last = c.cut_range-first.result.1 in
    let numbers = c.in_ok-numbers.numbers.items in
    let twice = c.cut_range-first.ensures.cut in
    let all = rw c.deref.ensures.value at c.in_ok-numbers.ensures.all in
    let new = c.change.ensures.items in
    let is = renewed_met old_modifiers modifiers c.args.by.now numbers old cut c.in_ok-range.range.items c.args.from
    c.args.to first last c.self.invariant.0 c.self.invariant.1.0 twice c.requires.order c.compose_all.ensures.extends
    c.requires.formed c.in_ok-numbers.ensures.composed c.in_ok-range.ensures all in
    let made = splice cut first last (map (renumbered_entry numbers) (slice_range cut first last)) in
    let seen : c.lighten.new.self.pieces ≡ map (text_piece modifiers) made =
    ap (λ table. table.pieces) c.lighten.ensures ∙ ap (map (text_piece modifiers)) new in
    rw seen (subst (λ table. AreModified c.args.by.now c.args.from c.args.to (flat_pieces table.pieces)
    (flat_entries modifiers made)) c.self.view_is is.flat)

pub returns-clause-begins : goal.returns-clause-begins
returns-clause-begins c =
    let old_modifiers = c.self.inside.modifiers.items in
    let modifiers = c.compose_all.new.modifiers.items in
    let old = c.self.inside.entries.items in
    let cut = c.cut_range-first.new.entries.items in
    let first = c.cut_range-first.result.0 in
    let last = c.cut_range-first.result.1 in
    let numbers = c.in_ok-numbers.numbers.items in
    let twice = c.cut_range-first.ensures.cut in
    let all = rw c.deref.ensures.value at c.in_ok-numbers.ensures.all in
    let new = c.change.ensures.items in
    let is = renewed_met old_modifiers modifiers c.args.by.now numbers old cut c.in_ok-range.range.items c.args.from
    c.args.to first last c.self.invariant.0 c.self.invariant.1.0 twice c.requires.order c.compose_all.ensures.extends
    c.requires.formed c.in_ok-numbers.ensures.composed c.in_ok-range.ensures all in
    rw (ap (λ table. table.pieces) c.lighten.ensures ∙ ap (map (text_piece modifiers)) new) is.begins

pub returns-clause-ends : goal.returns-clause-ends
returns-clause-ends c =
    let old_modifiers = c.self.inside.modifiers.items in
    let modifiers = c.compose_all.new.modifiers.items in
    let old = c.self.inside.entries.items in
    let cut = c.cut_range-first.new.entries.items in
    let first = c.cut_range-first.result.0 in
    let last = c.cut_range-first.result.1 in
    let numbers = c.in_ok-numbers.numbers.items in
    let twice = c.cut_range-first.ensures.cut in
    let all = rw c.deref.ensures.value at c.in_ok-numbers.ensures.all in
    let new = c.change.ensures.items in
    let is = renewed_met old_modifiers modifiers c.args.by.now numbers old cut c.in_ok-range.range.items c.args.from
    c.args.to first last c.self.invariant.0 c.self.invariant.1.0 twice c.requires.order c.compose_all.ensures.extends
    c.requires.formed c.in_ok-numbers.ensures.composed c.in_ok-range.ensures all in
    rw (ap (λ table. table.pieces) c.lighten.ensures ∙ ap (map (text_piece modifiers)) new) is.ends
