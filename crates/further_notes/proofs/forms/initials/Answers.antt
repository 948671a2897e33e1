use Rattle.std.proofs.Common.{◌≡◌, ◌∙◌, ap, sym, rules, ℕ, ◌+◌, ◌*◌, List, [], ◌∷◌, ◌++◌}
use Rattle.doc_bits.specs.Number.{u16_at}
use Rattle.doc_parts.specs.Tabulated.{tabulate}
use Rattle.doc_parts.proofs.Public.{tabulate-next}
use Rattle.further_notes.proofs.forms.initials.Goals as goal

pub loop-k-init : goal.loop-k-init
unfolding tabulate
loop-k-init c = search rules

pub loop-k-preserved : goal.loop-k-preserved
loop-k-preserved c =
    let unit_at : ℕ → ℕ = λ k. u16_at c.args.entry.now (2 + 2 * k) in
    let next = tabulate-next unit_at c.loop-k.k in
    c.in_ok-push.ensures.items
    ∙ (ap (λ (l : List ℕ). l ++ c.get16-unit.result ∷ []) c.loop-k.invariant
    ∙ (ap (λ (u : ℕ). tabulate unit_at c.loop-k.k ++ u ∷ []) c.get16-unit.ensures ∙ sym next))
