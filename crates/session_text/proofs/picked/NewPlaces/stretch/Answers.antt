use Rattle.std.proofs.Common.{◌≡◌, refl, subst, List, Some}
use Rattle.std.specs.Prelude.{slice_get}
use Rattle.std.specs.Option.{option_map}
use Rattle.piece_table.specs.Piece.{TextPiece, bare_piece}
use Rattle.session_text.proofs.PickLemmas.{next_stretch}
use Rattle.session_text.proofs.picked.NewPlaces.stretch.Goals as goal

pub returns-clause-stretch : goal.returns-clause-stretch
returns-clause-stretch c =
    let piece =
    subst (λ (pieces : List TextPiece). option_map bare_piece (slice_get pieces c.args.number) ≡ Some c.piece.result)
    c.requires.walk c.piece.ensures.value in
    next_stretch c.args.self.now.places.now c.args.self.now.pieces.now.pieces c.args.number c.args.from c.piece.result _
    _ piece c.requires.places refl refl c.is_some.ensures
