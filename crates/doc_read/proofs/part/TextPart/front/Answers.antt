use Rattle.std.proofs.Common.{◌≡◌, ◌∙◌, ◌+◌, ◌-◌, ap, subst, length, take, drop, arith}
use Rattle.std.specs.Prelude.{slice_range}
use Rattle.std.proofs.lemmas.List.{length-drop}
use Rattle.doc_read.specs.Reading.{IsReadable, TextRest}
use Rattle.doc_read.proofs.part.TextPart.front.Goals as goal

pub front-requires : goal.front-requires
front-requires c =
    let inside = c.self.inside in
    let left = ap length c.self.invariant.places_are ∙ length-drop inside.from inside.text.now.places in
    omega (
      arith,
      left,
      c.self.invariant.readable.same,
      ap (λ (p : TextRest). length p.view.units) c.self.view_is,
      ap (λ (p : TextRest). p.from) c.self.view_is,
      c.requires,
    )

pub returns-clause-within : goal.returns-clause-within
returns-clause-within c =
    let readable = subst (λ (p : TextRest). IsReadable p.view) c.self.view_is c.self.invariant.readable in
    omega (arith, readable.same, c.requires)

pub returns-clause-few : goal.returns-clause-few
returns-clause-few c =
    let readable = subst (λ (p : TextRest). IsReadable p.view) c.self.view_is c.self.invariant.readable in
    omega (arith, readable.few, c.requires)

pub returns-clause-places : goal.returns-clause-places
returns-clause-places c =
    let inside = c.self.inside in
    let count = c.args.count in
    let all = inside.text.now.places in
    let behind : count ≡ inside.from + count - inside.from = omega arith in
    c.front.ensures
    ∙ ap (take count) c.self.invariant.places_are
    ∙ ap (λ n. take n (drop inside.from all)) behind
    ∙ ap (λ (p : TextRest). slice_range p.view.places p.from (p.from + count)) c.self.view_is
