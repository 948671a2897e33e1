use Rattle.std.proofs.Common.{◌≡◌, map, length, ap, arith, subst}
use Rattle.std.proofs.lemmas.List.{length-map}
use Rattle.piece_table.specs.Piece.{total_length}
use Rattle.piece_table.specs.Numbering.{text_piece}
use Rattle.piece_table.specs.Changes.{IsSpot}
use Rattle.piece_table.proofs.BlockLemmas.{units-entries, spot_told}
use Rattle.piece_table.proofs.CutLemmas.{spot_seen}
use Rattle.piece_table.proofs.FlatLemmas.{total_length-seen}
use Rattle.piece_table.proofs.pieces.PieceList.locate.Goals as goal

pub locate-spot-requires : goal.locate-spot-requires
locate-spot-requires g c =
    let entries = c.self.inside.entries.items in
    let modifiers = c.self.inside.modifiers.items in
    let total : total_length (map (text_piece modifiers) entries) ≡ total_length c.args.self.now.pieces = ap
    (λ table. total_length table.pieces) c.self.view_is in
    omega (arith, total, total_length-seen modifiers entries, units-entries entries, c.requires)

pub returns-clause-spot : goal.returns-clause-spot
returns-clause-spot g c =
    let entries = c.self.inside.entries.items in
    let modifiers = c.self.inside.modifiers.items in
    let spot = c.locate-spot.result in
    let total : total_length (map (text_piece modifiers) entries) ≡ total_length c.args.self.now.pieces = ap
    (λ table. total_length table.pieces) c.self.view_is in
    subst (λ table. IsSpot table.pieces c.args.cp (record { piece = spot.item; within = spot.within })) c.self.view_is
    (spot_seen modifiers entries c.args.cp (record { piece = spot.item; within = spot.within })
    (spot_told entries c.args.cp spot c.locate-spot.ensures.spot)
    (omega (arith, total, total_length-seen modifiers entries, c.requires)))

pub returns-clause-steps : goal.returns-clause-steps
returns-clause-steps g c =
    let entries = c.self.inside.entries.items in
    let modifiers = c.self.inside.modifiers.items in
    omega (
      arith,
      ap (λ table. length table.pieces) c.self.view_is,
      length-map entries (text_piece modifiers),
      c.locate-spot.ensures.steps,
    )
