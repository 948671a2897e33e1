use Rattle.std.proofs.Common.{inl}
use Rattle.std.specs.Prelude.{codes}
use Rattle.std.proofs.lemmas.Result.{IfOk-weaker}
use Rattle.document_commands.specs.declared.reply.Reply.{Reply}
use Rattle.document_commands.specs.Imports.{Imports}
use Rattle.document_commands.specs.Saves.{Saves}
use Rattle.document_commands.proofs.import.import_reply.Goals as goal

pub returns-in-Ok : goal.returns-in-Ok
returns-in-Ok c =
    IfOk-weaker c.save_reply-reply.result (Saves (codes "import") c.in-Ok.document) (Imports c.args.file.now)
    (λ (r : Reply) saves. inl (record { document = c.in-Ok.document; read = c.in-Ok.ensures; saves = saves }))
    c.save_reply-reply.ensures
