use Rattle.std.proofs.Common.{◌≡◌, ◌≢◌, ◌∙◌, All, List, map, length, ap, arith, slice_index}
use Rattle.piece_table.specs.declared.pieces.Entry.{Entry}
use Rattle.piece_table.specs.Piece.{TextPiece}
use Rattle.piece_table.specs.Cuts.{renumbered_entry}
use Rattle.piece_table.specs.Numbering.{text_piece}
use Rattle.piece_table.specs.Renumbering.{HaveCopied}
use Rattle.piece_table.proofs.RenumberLemmas.{seen-copied, copied_named, whole_range}
use Rattle.piece_table.proofs.pieces.PieceList.drop_unused_modifiers.Goals as goal

pub copy_all-requires-clause-named : goal.copy_all-requires-clause-named
copy_all-requires-clause-named c =
    rw (c.deref.ensures.value, c.deref-2.ensures.value, c.in_ok-entries.ensures) c.self.invariant.0.named

pub change-requires-clause-within : goal.change-requires-clause-within
change-requires-clause-within c = omega (arith, c.len.ensures, ap length c.in_ok-entries.ensures)

pub invariant_of-self : goal.invariant_of-self
invariant_of-self c =
    let old = c.self.inside.modifiers.items in
    let items = c.self.inside.entries.items in
    let made = c.in_ok-modifiers.field-0.modifiers.items in
    let numbers = c.in_ok-modifiers.field-0.numbers.items in
    let have : HaveCopied old made numbers = rw c.deref-2.ensures.value at c.in_ok-modifiers.ensures.copied in
    let all : All (λ (entry : Entry). entry.modifier ≢ 0 → slice_index numbers entry.modifier ≢ 0) items =
    rw (c.deref.ensures.value, c.in_ok-entries.ensures) at c.in_ok-modifiers.ensures.all in
    let new : c.change.new.self.items ≡ map (renumbered_entry numbers) items =
    c.change.ensures.items ∙ whole_range (renumbered_entry numbers) items
    c.len.result (omega (arith, c.len.ensures, ap length c.in_ok-entries.ensures)) in
    let seen = seen-copied old made numbers items c.self.invariant.0.first have all in
    rw new (copied_named old made numbers items have, rw seen c.self.invariant.1)

pub returns : goal.returns
returns c =
    let old = c.self.inside.modifiers.items in
    let items = c.self.inside.entries.items in
    let made = c.in_ok-modifiers.field-0.modifiers.items in
    let numbers = c.in_ok-modifiers.field-0.numbers.items in
    let have : HaveCopied old made numbers = rw c.deref-2.ensures.value at c.in_ok-modifiers.ensures.copied in
    let all : All (λ (entry : Entry). entry.modifier ≢ 0 → slice_index numbers entry.modifier ≢ 0) items =
    rw (c.deref.ensures.value, c.in_ok-entries.ensures) at c.in_ok-modifiers.ensures.all in
    let new : c.change.new.self.items ≡ map (renumbered_entry numbers) items =
    c.change.ensures.items ∙ whole_range (renumbered_entry numbers) items
    c.len.result (omega (arith, c.len.ensures, ap length c.in_ok-entries.ensures)) in
    let seen = ap (map (text_piece made)) new ∙ seen-copied old made numbers items c.self.invariant.0.first have all in
    let changed = c.change.new.self in
    ap (λ (l : List TextPiece). record {
      pieces = l;
      spare = changed.spare;
      blocks = changed.blocks;
      room = changed.room;
    }) seen
    ∙ rw (c.change.ensures.spare, c.change.ensures.blocks, c.change.ensures.room) c.self.view_is
