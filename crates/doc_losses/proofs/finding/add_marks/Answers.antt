use Rattle.std.proofs.Common.{◌≡◌, ◌∙◌, ap, sym, rules, ◌++◌, ℕ, [], ◌∷◌, List, append_assoc, Option, None, slice_get, get_or}
use Rattle.std.specs.Option.{unwrap_or}
use Rattle.std.specs.List.{filter_map}
use Rattle.std.proofs.lemmas.Option.{unwrap_or-slice_get}
use Rattle.fib_versions.specs.declared.further.Further.{Further}
use Rattle.text_losses.specs.declared.features.Reference.{Reference}
use Rattle.doc_parts.specs.Tabulated.{tabulate}
use Rattle.doc_losses.specs.References.{reference_at}
use Rattle.doc_losses.proofs.ListingLemmas.{listed_more}
use Rattle.doc_losses.proofs.finding.add_marks.Goals as goal

pub loop-at-init : goal.loop-at-init
unfolding tabulate
loop-at-init c = search rules

pub loop-at-preserved : goal.loop-at-preserved
loop-at-preserved c =
    let marks : List (Option Further) = c.args.marks.now in
    let at = c.loop-at.at in
    let story = c.args.story in
    let front : List Reference = c.args.list.now.items in
    let mark : Option Further = get_or marks at None in
    let pick : List (Option Reference) → List Reference = filter_map (λ (o : Option Reference). o) in
    let f : ℕ → Option Reference = λ n. reference_at story n (unwrap_or (slice_get marks n) None) in
    let here : reference_at story at mark ≡ f at =
    ap (reference_at story at) (sym (unwrap_or-slice_get marks at None)) in
    c.in_ok-add_mark.ensures
    ∙ (ap (λ (l : List Reference). l ++ pick (reference_at story at mark ∷ [])) c.loop-at.invariant
    ∙ (append_assoc front (pick (tabulate f at)) (pick (reference_at story at mark ∷ []))
    ∙ (ap (λ (o : Option Reference). front ++ (pick (tabulate f at) ++ pick (o ∷ []))) here
    ∙ ap (λ (l : List Reference). front ++ l) (sym (listed_more f at)))))
