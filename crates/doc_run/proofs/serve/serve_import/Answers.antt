use Rattle.std.proofs.Common.{◌≡◌, ◌∙◌, Some}
use Rattle.document_commands.specs.Imports.{Imports}
use Rattle.document_commands.specs.Replies.{EndsByReply}
use Rattle.document_commands.proofs.Public.{ends_inside}
use Rattle.doc_run.specs.Imports.{IsOverlongJson}
use Rattle.run_stages.proofs.Public.{taken_weaker, follows_reads, follows_caused}
use Rattle.doc_run.proofs.serve.serve_import.Goals as goal

pub returns-clause-ends : goal.returns-clause-ends
returns-clause-ends g c =
    let out = c.args.out.now in
    follows_reads c.args.file.now (g.S.Shelf.held c.args.shelf.now) c.in_ok-taken.taken IsOverlongJson
    (λ bytes. EndsByReply (Some out) (Imports bytes)) c.import_taken.result (taken_weaker c.args.file.now
    (g.S.Shelf.held c.args.shelf.now) (λ o. o ≡ c.in_ok-overlong.overlong) IsOverlongJson c.in_ok-taken.taken (λ o e. e
    ∙ c.in_ok-overlong.ensures) c.in_ok-taken.ensures.is)
    c.import_taken.ensures

pub returns-clause-cause : goal.returns-clause-cause
returns-clause-cause g c =
    let out = c.args.out.now in
    follows_caused g.S.Shelf c.args.shelf.now c.take_whole.new.shelf c.in_ok-taken.taken
    (λ bytes. EndsByReply (Some out) (Imports bytes)) c.import_taken.result
    (λ bytes o x. ends_inside (Some out) (Imports bytes) o x) c.in_ok-taken.ensures.cause c.import_taken.ensures
