use Rattle.std.proofs.Common.{sym, subst}
use Rattle.std.specs.Prelude.{OnOk}
use Rattle.session_text.specs.TextEdits.{IsTextEdit}
use Rattle.session_text.proofs.EditLemmas.{not_lone, lone_acts}
use Rattle.session_text.proofs.session_text.SessionText.make_changes.Goals as goal

pub act-requires-clause-acts : goal.act-requires-clause-acts
act-requires-clause-acts c =
    lone_acts c.args.document.now _ _ _ _ c.args.changes.now c.in-Some.ensures c.requires.steps

pub put_changes-requires-clause-steps : goal.put_changes-requires-clause-steps
put_changes-requires-clause-steps c =
    not_lone c.args.document.now c.args.changes.now c.in-None.ensures c.requires.steps

pub returns-in-Some-clause-text : goal.returns-in-Some-clause-text
returns-in-Some-clause-text c =
    subst (λ l. OnOk c.act.result (IsTextEdit c.args.document.now l c.args.self.now c.act.new.self))
    (sym c.in-Some.ensures) c.act.ensures.text
