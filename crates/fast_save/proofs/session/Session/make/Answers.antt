use Rattle.std.proofs.Common.{◌≡◌, ◌∙◌, refl, sym, ap, subst, List, ℕ, arith}
use Rattle.std.proofs.lemmas.Result.{err_from_is_err_and}
use Rattle.doc_model.specs.declared.document.Document.{Document}
use Rattle.edit_guards.specs.declared.facts.Facts.{Facts}
use Rattle.doc_patch.specs.declared.changes.Change.{Change}
use Rattle.edit_ops.specs.Edits.{changes_of}
use Rattle.edit_ops.specs.EditFacts.{edit_facts}
use Rattle.session_text.specs.EditSteps.{AreEditSteps}
use Rattle.session_text.specs.SessionText.{IsSameText}
use Rattle.session_text.specs.TextEdits.{IsTextEdit, IsSectionsEdit}
use Rattle.session_text.proofs.Public.{commands_are_steps, pieces_are_few, text_counted}
use Rattle.fast_save.specs.declared.parts.SessionParts.{SessionParts}
use Rattle.fast_save.specs.Ledgers.{after_edit}
use Rattle.fast_save.specs.Session.{SessionView, IsSession, IsSessionCounted, saved_stream}
use Rattle.fast_save.specs.Edited.{HasEditRoom, IsPlannedEdit, session_after}
use Rattle.fast_save.proofs.EditLemmas.{has_room, session_stays, counted_stays, session_edited}
use Rattle.fast_save.proofs.CountLemmas.{counted_after}
use Rattle.fast_save.proofs.AddedBytes.{runs_after, bytes_after}
use Rattle.fast_save.proofs.GrownLemmas.{grown_within}
use Rattle.fast_save.proofs.RoomLemmas.{few_units}
use Rattle.fast_save.proofs.session.Session.make.Goals as goal

pub edit-made-requires-clause-steps : goal.edit-made-requires-clause-steps
edit-made-requires-clause-steps c =
    let document = c.self.inside.document in
    let command = c.args.command.now in
    let planned : IsPlannedEdit document command c.args.edit =
    subst (λ (document : Document). IsPlannedEdit document command c.args.edit)
    (sym (ap (λ (view : SessionView). view.document) c.self.view_is)) c.requires.planned in
    subst (AreEditSteps document) (sym planned.1.0)
    (commands_are_steps document command c.self.invariant.0.sound planned.0)

pub edit-made-requires-clause-count : goal.edit-made-requires-clause-count
edit-made-requires-clause-count c =
    let is = c.self.invariant.0 in
    text_counted (saved_stream is.held) c.self.inside.document c.self.inside.parts.text is.text

pub edit-made-requires-clause-room : goal.edit-made-requires-clause-room
edit-made-requires-clause-room c =
    let inside = c.self.inside in
    let room : HasEditRoom inside.counts =
    subst HasEditRoom (sym (ap (λ (view : SessionView). view.counts) c.self.view_is)) c.requires.room in
    has_room inside.file inside.document inside.parts inside.counts c.self.invariant.0 c.self.invariant.1 room

pub returns-in_err-document-clause-err : goal.returns-in_err-document-clause-err
returns-in_err-document-clause-err c =
    let p = err_from_is_err_and c.from_residual.result c.from_residual.ensures.1 in
    rw p.1 c.self.view_is

pub returns-in_err-document-clause-ok : goal.returns-in_err-document-clause-ok
returns-in_err-document-clause-ok c =
    let p = err_from_is_err_and c.from_residual.result c.from_residual.ensures.1 in
    rw p.1 tt

pub invariant_of-self : goal.invariant_of-self
invariant_of-self c =
    let inside = c.self.inside in
    let new : SessionParts =
    record { text = c.edit-made.new.self; fib = inside.parts.fib; container = inside.parts.container } in
    let same : IsSameText inside.parts.text c.edit-made.new.self =
    rw c.in_err-document.ensures at c.edit-made.ensures.err in (
      session_stays inside.file inside.document inside.parts new same refl refl c.self.invariant.0,
      counted_stays inside.file inside.document inside.parts new same refl refl inside.counts c.self.invariant.1,
    )

pub invariant_of-self-2 : goal.invariant_of-self-2
invariant_of-self-2 c =
    let inside = c.self.inside in
    let document = inside.document in
    let command = c.args.command.now in
    let new : SessionParts =
    record { text = c.edit-made.new.self; fib = inside.parts.fib; container = inside.parts.container } in
    let is = c.self.invariant.0 in
    let made : IsPlannedEdit document command c.args.edit =
    subst (λ (document : Document). IsPlannedEdit document command c.args.edit)
    (sym (ap (λ (view : SessionView). view.document) c.self.view_is)) c.requires.planned in
    let changes : c.args.edit.changes ≡ changes_of document command = made.1.0 in
    let both = c.in_ok-document.ensures in
    let text_made = rw both.1 at c.edit-made.ensures.text in
    let sections_made = rw both.1 at c.edit-made.ensures.sections in
    let text : IsTextEdit document (changes_of document command) inside.parts.text c.edit-made.new.self =
    subst (λ (list : List Change). IsTextEdit document list inside.parts.text c.edit-made.new.self) changes
    text_made in
    let sections : IsSectionsEdit document (changes_of document command) inside.parts.text.sections.items
    c.edit-made.new.self.sections.items =
    subst
    (λ (list : List Change).
    IsSectionsEdit document list inside.parts.text.sections.items c.edit-made.new.self.sections.items)
    changes sections_made in
    let room : HasEditRoom inside.counts =
    subst HasEditRoom (sym (ap (λ (view : SessionView). view.counts) c.self.view_is)) c.requires.room in
    let units : ℕ = (edit_facts document command).units_in in
    let few = few_units document command made.0 in
    let session : IsSession inside.file c.in_ok-document.document new =
    subst (λ (after : Document). IsSession inside.file after new) (sym (both.0 ∙ made.1.1.0))
    (session_edited inside.file document command inside.parts new is made.0 text sections refl refl) in
    let counted : IsSessionCounted inside.file new (after_edit command units inside.counts) =
    counted_after inside.file document command inside.parts new inside.counts c.self.invariant.1 room made.0.tried.codes
    text sections (text.fit (saved_stream is.held) is.text is.fit) c.pieces_are_few.ensures (pieces_are_few document
    command)
    refl units (omega (arith, few))
    (grown_within document command inside.parts.text.added.items c.edit-made.new.self.added.items text.added)
    (runs_after document command inside.parts.text.added.items c.edit-made.new.self.added.items made.0.tried.range
    text.added)
    (bytes_after document command inside.parts.text.added.items c.edit-made.new.self.added.items made.0.tried.range
    text.added) in
    let counts : c.after_edit-self-inside.result ≡ after_edit command units inside.counts =
    c.after_edit-self-inside.ensures
    ∙ ap (λ (facts : Facts). after_edit command facts.units_in inside.counts) made.1.1.1 in
    (session, subst (IsSessionCounted inside.file new) (sym counts) counted)

pub returns-clause-ok : goal.returns-clause-ok
returns-clause-ok c =
    let inside = c.self.inside in
    let document = inside.document in
    let command = c.args.command.now in
    let made : IsPlannedEdit document command c.args.edit =
    subst (λ (document : Document). IsPlannedEdit document command c.args.edit)
    (sym (ap (λ (view : SessionView). view.document) c.self.view_is)) c.requires.planned in
    let counts : c.after_edit-self-inside.result
    ≡ after_edit command (edit_facts document command).units_in inside.counts =
    c.after_edit-self-inside.ensures
    ∙ ap (λ (facts : Facts). after_edit command facts.units_in inside.counts) made.1.1.1 in
    let before : SessionView = record {
      bytes = inside.file;
      document = document;
      counts = inside.counts;
      quick_saves = inside.parts.fib.quick_saves;
    } in
    let new : SessionView = record {
      bytes = inside.file;
      document = c.in_ok-document.document;
      counts = c.after_edit-self-inside.result;
      quick_saves = inside.parts.fib.quick_saves;
    } in
    let after : new ≡ session_after command before = λ i. record {
      bytes = inside.file;
      document = (c.in_ok-document.ensures.0 ∙ made.1.1.0) i;
      counts = counts i;
      quick_saves = inside.parts.fib.quick_saves;
    } in
    subst (λ (view : SessionView). new ≡ session_after command view) c.self.view_is after
