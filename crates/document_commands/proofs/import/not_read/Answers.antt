use Rattle.std.proofs.Common.{◌≡◌, List, ℕ, subst}
use Rattle.std.specs.Prelude.{codes}
use Rattle.std.proofs.lemmas.Result.{IfOk-weaker}
use Rattle.json_doc.specs.declared.fault.JsonFault.{JsonFault}
use Rattle.json_doc.specs.Reading.{IsJsonFault}
use Rattle.document_commands.specs.declared.reply.Reply.{Reply}
use Rattle.document_commands.specs.declared.reply.Reply.TheVariants.{Refused}
use Rattle.document_commands.specs.declared.reply.Refusal.TheVariants.{Unsound}
use Rattle.document_commands.specs.Imports.{Imports}
use Rattle.run_stages.specs.Lines.{rule_line}
use Rattle.document_commands.proofs.ImportLemmas.{unsound_said}
use Rattle.document_commands.proofs.import.not_read.Goals as goal

pub returns-in-Unsound : goal.returns-in-Unsound
returns-in-Unsound c =
    let arm = c.in-Unsound in
    IfOk-weaker c.unsound.result
    (λ (r : Reply). r ≡ Refused Unsound (rule_line (codes "import") arm.rule (arm.place, arm.at)))
    (λ (r : Reply). (bytes : List ℕ) → IsJsonFault bytes c.args.fault → Imports bytes r)
    (λ r said bytes is.
    unsound_said bytes arm.rule arm.place arm.at r (subst (λ (f : JsonFault). IsJsonFault bytes f) arm.is is) said)
    c.unsound.ensures
