use Rattle.std.proofs.Common.{◌∙◌, subst, map}
use Rattle.std.specs.String.{string_bytes}
use Rattle.fast_save.proofs.Public.{equal_files_have_one_save}
use Rattle.doc_run.specs.Endings.{IsEnding}
use Rattle.doc_run.proofs.OneLemmas.{ending_one}
use Rattle.doc_run.proofs.CompleteLemmas.{complete}
use Rattle.doc_run.proofs.run.run_telling.Goals as goal

pub returns-in_default-clause-only : goal.returns-in_default-clause-only
returns-in_default-clause-only g c = ending_one

pub returns-in-Ok-write_all-clause-only : goal.returns-in-Ok-write_all-clause-only
returns-in-Ok-write_all-clause-only g c = ending_one

pub returns-clause-only : goal.returns-clause-only
returns-clause-only g c = ending_one

pub returns-in_default-clause-equal_saves : goal.returns-in_default-clause-equal_saves
returns-in_default-clause-equal_saves g c = equal_files_have_one_save

pub returns-in-Ok-write_all-clause-equal_saves : goal.returns-in-Ok-write_all-clause-equal_saves
returns-in-Ok-write_all-clause-equal_saves g c = equal_files_have_one_save

pub returns-clause-equal_saves : goal.returns-clause-equal_saves
returns-clause-equal_saves g c = equal_files_have_one_save

pub returns-in-Ok-write_all-clause-complete : goal.returns-in-Ok-write_all-clause-complete
returns-in-Ok-write_all-clause-complete g c command files asked told can no_fault no_sink_fault memory =
    let policies = map (λ b. (goal.Guard-dyn g (b.vtable, b.value)).policy b.value) c.args.guards.items in
    let words = map string_bytes c.args.words.now in
    let ending = c.in-Ok.ending in
    let under = subst (λ guards. IsEnding (map (λ b. (goal.Guard-dyn g (b.vtable, b.value)).policy b.value) guards)
    words (g.S.Shelf.held c.args.shelf.now) ending) c.deref_mut.ensures.value c.in-Ok.ensures.ending in
    let is = subst (λ held. IsEnding policies words held ending) told under in
    c.status.ensures ∙ complete policies words command files ending asked can is
    (λ e. no_fault (c.in-Ok.ensures.cause.shelf_fault e))
