use Rattle.std.proofs.Common.{◌∙◌, ◌≤◌, ap, length, arith}
use Rattle.std.specs.Prelude.{slice_index}
use Rattle.std.proofs.lemmas.List.{length-drop}
use Rattle.doc_read.specs.Reading.{TextRest}
use Rattle.doc_read.proofs.PlaceLemmas.{part_at}
use Rattle.doc_read.proofs.part.TextPart.place.Goals as goal

pub get-requires : goal.get-requires
get-requires c =
    let inside = c.self.inside in
    let left = ap length c.self.invariant.places_are ∙ length-drop inside.from inside.text.now.places in
    omega (
      arith,
      left,
      c.self.invariant.readable.same,
      ap (λ (p : TextRest). length p.view.units) c.self.view_is,
      ap (λ (p : TextRest). p.from) c.self.view_is,
      c.requires.from,
      c.requires.within,
    )

pub returns : goal.returns
returns c =
    let inside = c.self.inside in
    let cp = c.args.cp in
    let from : inside.from ≤ cp = omega (arith, ap (λ (p : TextRest). p.from) c.self.view_is, c.requires.from) in
    c.get.ensures
    ∙ part_at inside.text.now.places inside.places inside.from cp from c.self.invariant.places_are
    ∙ ap (λ (p : TextRest). slice_index p.view.places cp) c.self.view_is
