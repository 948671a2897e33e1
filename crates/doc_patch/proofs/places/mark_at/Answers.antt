-- What is beside the unit there.
use Rattle.std.proofs.Common.{rules, ◌≡◌, ◌∙◌, ℕ, Option, Some, None, ap, sym, subst}
use Rattle.std.specs.Prelude.{slice_get, MatchOption}
use Rattle.std.specs.Option.{option_and_then}
use Rattle.doc_model.specs.declared.item.Mark.{Mark}
use Rattle.doc_columns.specs.declared.attached.Attached.{Attached}
use Rattle.doc_patch.specs.Places.{paragraph_mark_at}
use Rattle.doc_patch.proofs.PlaceLemmas.{part_there, part_past}
use Rattle.doc_patch.proofs.places.mark_at.Goals as goal

pub returns-in-None : goal.returns-in-None
returns-in-None c =
    let text = c.args.text.now in
    ap (λ (n : ℕ). option_and_then (λ item. item.mark) (slice_get text n)) (sym c.mark_place.ensures.place)
    ∙ part_past (λ (b : Attached). b.mark) text c.mark_place.result c.in-None.ensures

pub returns-in-Some : goal.returns-in-Some
returns-in-Some c =
    let text = c.args.text.now in
    let attached = c.in-Some.attached.now in
    let there : paragraph_mark_at text c.args.at ≡ attached.mark =
    ap (λ (n : ℕ). option_and_then (λ item. item.mark) (slice_get text n)) (sym c.mark_place.ensures.place)
    ∙ part_there (λ (b : Attached). b.mark) text c.mark_place.result attached c.in-Some.ensures in
    subst (λ (o : Option Mark). MatchOption c.as_ref.result (o ≡ None) (λ mark. o ≡ Some mark.now)) (sym there)
    (search (rules))
