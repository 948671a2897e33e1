use Rattle.std.proofs.Common.{◌≡◌, ◌∙◌, ◌≤◌, ap, sym, refl, arith, length, take, ℕ, List, [], ◌∷◌, ◌++◌, Option, get_or}
use Rattle.std.proofs.lemmas.List.{take_all}
use Rattle.std.proofs.lemmas.Option.{slice_get-get_or}
use Rattle.doc_bits.proofs.Public.{take_step}
use Rattle.doc_model.specs.declared.item.NoteKind.{NoteKind}
use Rattle.further_notes.specs.Sources.{note_kind_at}
use Rattle.further_notes.specs.Splices.{unit_with, with_kinds}
use Rattle.further_notes.proofs.KindLemmas.{changed_at_place, length-with_kinds}
use Rattle.further_notes.proofs.main_text.units_noted.Goals as goal

pub loop-at-preserved : goal.loop-at-preserved
loop-at-preserved c =
    let story = c.args.story in
    let kinds : List (Option NoteKind) = c.args.kinds.now in
    let units : List ℕ = c.args.units.now in
    let at = c.loop-at.at in
    let unit : ℕ = get_or units at 0 in
    let list : List ℕ = with_kinds (unit_with story) kinds units in
    let value : c.unit_with.result ≡ unit_with story (note_kind_at kinds at) unit =
    c.unit_with.ensures ∙ ap (λ (k : Option NoteKind). unit_with story k unit) c.kind_at.ensures in
    let next = changed_at_place (unit_with story) kinds units at unit (λ y. refl)
    (slice_get-get_or units at 0 c.loop-at-test.true) in
    c.in_ok-push.ensures.items
    ∙ (ap (λ (l : List ℕ). l ++ c.unit_with.result ∷ []) c.loop-at.invariant
    ∙ (ap (λ (u : ℕ). take at list ++ u ∷ []) value
    ∙ sym (take_step list at (unit_with story (note_kind_at kinds at) unit) next)))

pub returns : goal.returns
returns c =
    let units : List ℕ = c.args.units.now in
    let list : List ℕ = with_kinds (unit_with c.args.story) c.args.kinds.now units in
    c.loop-at.invariant
    ∙ take_all c.loop-at.at list (omega (
      arith,
      length-with_kinds (unit_with c.args.story) c.args.kinds.now units,
      c.loop-at-test.false,
    ))
