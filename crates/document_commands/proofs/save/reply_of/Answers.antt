use Rattle.std.specs.Prelude.{MatchResult, Result}
use Rattle.std.proofs.Common.{◌≡◌, ◌∙◌, ap, inl, length, List, ℕ, subst, Ok}
use Rattle.std.proofs.lemmas.Result.{IfOk-weaker}
use Rattle.doc_model.specs.declared.document.Document.{Document}
use Rattle.full_save.specs.declared.fault.SaveFault.{SaveFault}
use Rattle.full_save.specs.Layout.{full_save_image, FitsCompoundFile, IsTooLarge}
use Rattle.document_commands.specs.declared.reply.Reply.{Reply}
use Rattle.document_commands.specs.declared.reply.Reply.TheVariants.{Made}
use Rattle.document_commands.specs.Lines.{bytes_line}
use Rattle.document_commands.specs.Saves.{Saves}
use Rattle.document_commands.proofs.save.reply_of.Goals as goal

-- what a full save of a document comes to
abbrev Comes : Result (List ℕ) SaveFault → Document → Type 0
Comes file document =
    MatchResult file (λ bytes. (bytes ≡ full_save_image document) × FitsCompoundFile document) (IsTooLarge document)

abbrev RepliesTo : Result (List ℕ) SaveFault → List ℕ → Reply → Type 0
RepliesTo file word reply = (document : Document) → Comes file document → Saves word document reply

pub returns-in-Ok : goal.returns-in-Ok
returns-in-Ok c =
    let word = c.args.word.now in
    let bytes = c.in-Ok.bytes in
    IfOk-weaker c.reply_of_bytes.result (λ r. r ≡ Made (bytes_line word (length bytes)) bytes) (RepliesTo c.args.file
    word)
    (λ r h document comes.
    let has : Comes (Ok bytes) document =
    subst (λ (file : Result (List ℕ) SaveFault). Comes file document) c.in-Ok.is comes in
    inl (record {
      fits = has.1;
      is = h ∙ ap (λ b. Made (bytes_line word (length b)) b) has.0;
    })) c.reply_of_bytes.ensures

pub returns-in-Err : goal.returns-in-Err
returns-in-Err c =
    let word = c.args.word.now in
    let fault = c.in-Err.fault in
    IfOk-weaker c.not_made.result (λ r. (document : Document) → IsTooLarge document fault → Saves word document r)
    (RepliesTo c.args.file word)
    (λ r h document comes. h document (subst (λ (file : Result (List ℕ) SaveFault). Comes file document) c.in-Err.is
    comes)) c.not_made.ensures
