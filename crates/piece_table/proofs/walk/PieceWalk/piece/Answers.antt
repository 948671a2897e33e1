-- The invariant is about the pieces as they are seen.
use Rattle.std.proofs.Common.{◌≡◌, ◌<◌, ◌∙◌, length, map, get_or, ap, arith, subst}
use Rattle.std.proofs.Math.ListN.{get_or-map}
use Rattle.std.proofs.lemmas.Option.{get_or_from_slice_get}
use Rattle.piece_table.specs.Piece.{IsTextPiece}
use Rattle.piece_table.specs.Numbering.{text_piece}
use Rattle.piece_table.proofs.walk.PieceWalk.piece.Goals as goal

pub returns-clause-sound : goal.returns-clause-sound
returns-clause-sound c =
    let items = c.self.inside.entries in
    let view = text_piece c.self.inside.modifiers.now in
    let entry = c.get.result in
    let seen : get_or (map view items) c.args.i (view entry) ≡ view entry = get_or-map view items c.args.i entry ∙ ap
    view (get_or_from_slice_get items c.args.i entry entry c.get.ensures.value) in
    let count : length (map view items) ≡ length c.args.self.now = ap length c.self.view_is in
    let low : c.args.i < length (map view items) = omega (arith, count, c.requires) in
    (subst (λ p. IsTextPiece p) seen (c.self.invariant.1.each c.args.i (view entry) low)).units
