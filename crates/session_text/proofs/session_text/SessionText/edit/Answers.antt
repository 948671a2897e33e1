use Rattle.std.proofs.Common.{refl}
use Rattle.session_text.proofs.EditLemmas.{beside_sections}
use Rattle.session_text.proofs.session_text.SessionText.edit.Goals as goal

pub returns-clause-text : goal.returns-clause-text
returns-clause-text c =
    beside_sections c.args.document.now c.args.changes.now c.args.self.now _ _ refl refl refl
    c.in_ok-make_changes.ensures.text
