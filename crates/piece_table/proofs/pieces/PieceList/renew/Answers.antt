use Rattle.std.proofs.Common.{◌≡◌, ◌∙◌, length, map, ap, sym, subst, arith}
use Rattle.std.proofs.lemmas.Option.{slice_get_within}
use Rattle.prop_map.specs.Modifiers.{no_modifier}
use Rattle.piece_table.specs.Piece.{PieceTable, total_length}
use Rattle.piece_table.specs.Numbering.{text_piece}
use Rattle.piece_table.specs.Renewals.{AreNewPlaces, renewed_pieces, moved_entries}
use Rattle.piece_table.proofs.RenewalLemmas.{moved_named, renewed_sound, renewed_list, total_length-renewed}
use Rattle.piece_table.proofs.pieces.PieceList.renew.Goals as goal

pub copy_all-requires-clause-named : goal.copy_all-requires-clause-named
copy_all-requires-clause-named c =
    let modifiers = c.self.inside.modifiers.items in
    let items = c.self.inside.entries.items in
    let moved : c.in_ok-items.items.items ≡ moved_entries c.args.places.now items = rw (
      c.deref.ensures.value,
      c.in_ok-entries.ensures,
    ) at c.in_ok-items.ensures in
    let some = slice_get_within modifiers 0 no_modifier c.self.invariant.0.first in
    rw (c.deref-2.ensures.value, c.deref-3.ensures.value, moved) (moved_named (length modifiers) c.args.places.now
    items some c.self.invariant.0.named)

pub of-requires-clause-numbered : goal.of-requires-clause-numbered
of-requires-clause-numbered c =
    let moved = rw (c.deref.ensures.value, c.in_ok-entries.ensures) at c.in_ok-items.ensures in
    let have = rw c.deref-3.ensures.value at c.in_ok-modifiers.ensures.copied in
    let all = rw c.deref-2.ensures.value at c.in_ok-modifiers.ensures.all in
    let made = rw c.deref-4.ensures.value at c.renumber.ensures.items in
    let is =
    renewed_list c.self.inside.modifiers.items c.in_ok-modifiers.field-0.modifiers.items
    c.in_ok-modifiers.field-0.numbers.items c.args.places.now c.self.inside.entries.items c.in_ok-items.items.items
    c.renumber.new.entries.items c.len-count.result c.self.invariant.0.first have all moved
    (omega (arith, c.len-count.ensures)) made in
    rw c.deref-5.ensures.value is.numbered

pub of-requires-clause-pieces : goal.of-requires-clause-pieces
of-requires-clause-pieces c =
    let moved = rw (c.deref.ensures.value, c.in_ok-entries.ensures) at c.in_ok-items.ensures in
    let have = rw c.deref-3.ensures.value at c.in_ok-modifiers.ensures.copied in
    let all = rw c.deref-2.ensures.value at c.in_ok-modifiers.ensures.all in
    let made = rw c.deref-4.ensures.value at c.renumber.ensures.items in
    let is =
    renewed_list c.self.inside.modifiers.items c.in_ok-modifiers.field-0.modifiers.items
    c.in_ok-modifiers.field-0.numbers.items c.args.places.now c.self.inside.entries.items c.in_ok-items.items.items
    c.renumber.new.entries.items c.len-count.result c.self.invariant.0.first have all moved
    (omega (arith, c.len-count.ensures)) made in
    let places = c.args.places.now in
    let seen = map (text_piece c.self.inside.modifiers.items) c.self.inside.entries.items in
    let room : AreNewPlaces places seen =
    subst (λ (table : PieceTable). AreNewPlaces places table.pieces) (sym c.self.view_is) c.requires.places in
    rw (c.deref-5.ensures.value, is.seen) (renewed_sound places seen room c.self.invariant.1.0)

pub of-requires-clause-total : goal.of-requires-clause-total
of-requires-clause-total c =
    let moved = rw (c.deref.ensures.value, c.in_ok-entries.ensures) at c.in_ok-items.ensures in
    let have = rw c.deref-3.ensures.value at c.in_ok-modifiers.ensures.copied in
    let all = rw c.deref-2.ensures.value at c.in_ok-modifiers.ensures.all in
    let made = rw c.deref-4.ensures.value at c.renumber.ensures.items in
    let is =
    renewed_list c.self.inside.modifiers.items c.in_ok-modifiers.field-0.modifiers.items
    c.in_ok-modifiers.field-0.numbers.items c.args.places.now c.self.inside.entries.items c.in_ok-items.items.items
    c.renumber.new.entries.items c.len-count.result c.self.invariant.0.first have all moved
    (omega (arith, c.len-count.ensures)) made in
    let seen = map (text_piece c.self.inside.modifiers.items) c.self.inside.entries.items in
    rw c.deref-5.ensures.value (c.self.invariant.1.1 ∙ (sym (total_length-renewed c.args.places.now seen)
    ∙ ap total_length (sym is.seen)))

pub returns : goal.returns
returns c =
    let moved = rw (c.deref.ensures.value, c.in_ok-entries.ensures) at c.in_ok-items.ensures in
    let have = rw c.deref-3.ensures.value at c.in_ok-modifiers.ensures.copied in
    let all = rw c.deref-2.ensures.value at c.in_ok-modifiers.ensures.all in
    let made = rw c.deref-4.ensures.value at c.renumber.ensures.items in
    let is =
    renewed_list c.self.inside.modifiers.items c.in_ok-modifiers.field-0.modifiers.items
    c.in_ok-modifiers.field-0.numbers.items c.args.places.now c.self.inside.entries.items c.in_ok-items.items.items
    c.renumber.new.entries.items c.len-count.result c.self.invariant.0.first have all moved
    (omega (arith, c.len-count.ensures)) made in
    c.in_ok-list.ensures
    ∙ (ap (map (text_piece c.in_ok-modifiers.field-0.modifiers.items)) c.deref-5.ensures.value
    ∙ is.seen
    ∙ ap (λ (table : PieceTable). renewed_pieces c.args.places.now table.pieces) c.self.view_is)
