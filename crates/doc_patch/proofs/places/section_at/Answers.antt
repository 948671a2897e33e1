-- What is beside the unit there.
use Rattle.std.proofs.Common.{rules, ◌≡◌, ◌∙◌, ℕ, Option, Some, None, ap, sym, subst}
use Rattle.std.specs.Prelude.{slice_get, MatchOption}
use Rattle.std.specs.Option.{option_and_then}
use Rattle.prop_map.specs.Settings.{Properties}
use Rattle.doc_columns.specs.declared.attached.Attached.{Attached}
use Rattle.doc_patch.specs.Places.{section_around}
use Rattle.doc_patch.proofs.PlaceLemmas.{part_there, part_past}
use Rattle.doc_patch.proofs.places.section_at.Goals as goal

pub returns-in-None : goal.returns-in-None
returns-in-None c =
    let text = c.args.main.now in
    ap (λ (n : ℕ). option_and_then (λ item. item.sect) (slice_get text n)) (sym c.section_place.ensures.place)
    ∙ part_past (λ (b : Attached). b.sect) text c.section_place.result c.in-None.ensures

pub returns-in-Some : goal.returns-in-Some
returns-in-Some c =
    let text = c.args.main.now in
    let attached = c.in-Some.attached.now in
    let there : section_around text c.args.at ≡ attached.sect =
    ap (λ (n : ℕ). option_and_then (λ item. item.sect) (slice_get text n)) (sym c.section_place.ensures.place)
    ∙ part_there (λ (b : Attached). b.sect) text c.section_place.result attached c.in-Some.ensures in
    subst (λ (o : Option Properties). MatchOption c.as_ref.result (o ≡ None) (λ map. o ≡ Some map.now)) (sym there)
    (search (rules))
