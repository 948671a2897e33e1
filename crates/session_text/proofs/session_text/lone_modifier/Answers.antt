use Rattle.std.proofs.Common.{◌∙◌, ap, Some, arith}
use Rattle.session_text.proofs.PutLemmas.{one_entry}
use Rattle.session_text.proofs.session_text.lone_modifier.Goals as goal

pub returns-in-ModifyItems : goal.returns-in-ModifyItems
returns-in-ModifyItems c =
    one_entry c.args.changes.now _ (omega (arith, c.len.ensures)) (c.get.ensures ∙ ap Some c.in-ModifyItems.is)
