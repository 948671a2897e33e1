use Rattle.std.proofs.Common.{◌∙◌, ◌++◌, ap}
use Rattle.session_text.proofs.session_text.SessionText.renewed_at.Goals as goal

pub returns-clause-sections : goal.returns-clause-sections
returns-clause-sections c =
    c.in_ok-extend_from_slice.ensures.items
    ∙ (ap (λ l. l ++ c.deref.result.now) c.new-sections.ensures.items ∙ c.deref.ensures.value)
