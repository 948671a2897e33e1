use Rattle.std.proofs.Common.{◌∙◌, ap, sym, not, filter, take, ℕ, List, [], ◌∷◌, ◌++◌}
use Rattle.std.proofs.lemmas.List.Elements.{filter-append}
use Rattle.doc_bits.proofs.Public.{take_step}
use Rattle.doc_fit.specs.Noted.{is_note_line}
use Rattle.doc_fit.proofs.noting.other_lines.Goals as goal

pub loop-k-preserved : goal.loop-k-preserved
loop-k-preserved c =
    let lines : List (List ℕ) = c.args.lines.now in
    let k = c.loop-k.k in
    let line : List ℕ = c.line.result.now in
    let stays = λ (l : List ℕ). not (is_note_line c.args.stories l) in
    c.in_ok-add_other.ensures
    ∙ (ap (λ (l : List (List ℕ)). l ++ filter stays (line ∷ [])) c.loop-k.invariant
    ∙ (sym (filter-append stays (take k lines) (line ∷ []))
    ∙ ap (filter stays) (sym (take_step lines k line c.line.ensures))))
