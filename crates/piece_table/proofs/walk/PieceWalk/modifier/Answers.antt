-- The invariant is about the pieces as they are seen.
use Rattle.std.proofs.Common.{◌≡◌, ◌<◌, ◌∙◌, length, map, get_or, slice_index_or, ap, arith, subst}
use Rattle.std.proofs.Math.ListN.{get_or-map, length-map}
use Rattle.std.proofs.lemmas.List.{get_or_default}
use Rattle.std.proofs.lemmas.Option.{get_or_from_slice_get}
use Rattle.prop_map.specs.Modifiers.{no_modifier, IsFormedModifier}
use Rattle.piece_table.specs.declared.pieces.Entry.{Entry}
use Rattle.piece_table.specs.Piece.{IsTextPiece}
use Rattle.piece_table.specs.Numbering.{text_piece}
use Rattle.piece_table.proofs.walk.PieceWalk.modifier.Goals as goal

pub returns-clause-formed : goal.returns-clause-formed
returns-clause-formed c =
    let items = c.self.inside.entries in
    let modifiers = c.self.inside.modifiers.now in
    let view = text_piece modifiers in
    let entry = c.get.result in
    let made = c.index-self-get.result in
    let read = get_or_from_slice_get items c.args.i entry entry c.get.ensures.value in
    let seen : get_or (map view items) c.args.i (view entry) ≡ view entry = get_or-map view items c.args.i entry ∙ ap
    view read in
    let count : length (map view items) ≡ length c.args.self.now = ap length c.self.view_is in
    let low : c.args.i < length (map view items) = omega (arith, count, c.requires) in
    let formed = (subst (λ p. IsTextPiece p) seen (c.self.invariant.1.each c.args.i (view entry) low)).formed in
    let named : entry.modifier < length modifiers = subst (λ (e : Entry). e.modifier < length modifiers)
    read (c.self.invariant.0.named c.args.i entry (omega (arith, length-map items view))) in
    let is : slice_index_or modifiers entry.modifier no_modifier ≡ slice_index_or modifiers entry.modifier made =
    get_or_default modifiers entry.modifier no_modifier made named in
    subst IsFormedModifier is formed
