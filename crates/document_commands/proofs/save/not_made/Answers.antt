use Rattle.std.proofs.Common.{◌≡◌}
use Rattle.std.proofs.lemmas.Result.{IfOk-weaker}
use Rattle.doc_model.specs.declared.document.Document.{Document}
use Rattle.full_save.specs.Layout.{IsTooLarge}
use Rattle.document_commands.specs.declared.reply.Reply.TheVariants.{Refused}
use Rattle.document_commands.specs.declared.reply.Refusal.TheVariants.{Save}
use Rattle.document_commands.specs.Lines.{needs_sectors_line}
use Rattle.document_commands.specs.Saves.{Saves}
use Rattle.document_commands.proofs.SaveLemmas.{saves_too_large}
use Rattle.document_commands.proofs.save.not_made.Goals as goal

pub returns-in-TooLarge : goal.returns-in-TooLarge
returns-in-TooLarge c =
    let word = c.args.word.now in
    let sectors = c.in-TooLarge.sectors in
    IfOk-weaker c.too_large.result (λ r. r ≡ Refused Save (needs_sectors_line word sectors))
    (λ r. (document : Document) → IsTooLarge document c.args.fault → Saves word document r)
    (λ r h document large. saves_too_large word document c.args.fault sectors r large c.in-TooLarge.is h)
    c.too_large.ensures
