-- One command that is made on a session, whatever has been so far.
use Rattle.std.proofs.Common.{◌≡◌, ◌∙◌, refl, sym, ap, subst, ℕ, ◌+◌, ◌*◌, ◌^◌, ◌-◌, ◌≤◌, List, Bool, true, false}
use Rattle.std.proofs.Common.{Option, Some, None, arith}
use Rattle.std.specs.Prelude.{Result, IfErr}
use Rattle.std.proofs.Math.Nat.{min-le_left}
use Rattle.std.proofs.lemmas.Result.{IfErr-weaker}
use Rattle.edit_guards.specs.declared.facts.Facts.{Facts}
use Rattle.edit_guards.specs.Policies.{Policy, AllGrant, IsFirstRefuser, policies_after}
use Rattle.doc_model.specs.declared.document.Document.{Document}
use Rattle.full_save.specs.Layout.{full_save_image, FitsCompoundFile}
use Rattle.doc_read.specs.Holds.{HoldsDocument}
use Rattle.edit_script.specs.declared.commands.Command.{Command}
use Rattle.edit_ops.specs.Edits.{document_after}
use Rattle.edit_ops.specs.EditFacts.{edit_facts}
use Rattle.edit_ops.specs.Causes.{IsAcceptedEdit}
use Rattle.edit_ops.specs.Runs.{reckoned_runs}
use Rattle.fast_save.specs.declared.ledgers.Counts.{Counts}
use Rattle.fast_save.specs.Ledgers.{after_edit, sections_set}
use Rattle.fast_save.specs.Session.{SessionView}
use Rattle.fast_save.specs.Edited.{session_after, bytes_added, most_added}
use Rattle.fast_save.proofs.Public.{edits_add_little}
use Rattle.script_run.specs.declared.faults.RunFault.{RunFault}
use Rattle.script_run.specs.declared.faults.RunFault.TheVariants.{Stopped, Memory}
use Rattle.script_run.specs.declared.faults.Stop.TheVariants.{Guarded}
use Rattle.script_run.specs.States.{RunState, counts_in_full, session_in_full, edited, saved_in_full, state_by}
use Rattle.script_run.specs.Saves.{save_mode}
use Rattle.script_run.specs.Files.{IsFileOfState}
use Rattle.script_run.specs.Ends.{StopsBy, Stops, StopsEdit, StopsFullSave, PassesBy, HaltsBy}
use Rattle.script_run.specs.Steps.{IsAtState, Makes, Halts, HaltsFull, IsFullSave}

-- ---- an edit

-- the counts rise by no more than what the command adds
added_more : (command : Command) (units : ℕ) (counts : Counts) → bytes_added (after_edit command units counts) ≤
    bytes_added counts + (2 * units + 512 * reckoned_runs command + 512 * sections_set command)
added_more command units counts =
    let a = min-le_left (counts.units + units) (2 ^ 64 - 1) in
    let b = min-le_left (counts.runs + reckoned_runs command) (2 ^ 64 - 1) in
    let c = min-le_left (counts.sections + sections_set command) (2 ^ 64 - 1) in
    omega (arith, a, b, c)

-- the file stays
file_edited : (state : RunState) (command : Command) (bytes : List ℕ) → IsFileOfState state bytes →
    IsFileOfState (edited state command) bytes
file_edited state command bytes file =
    let within = file.within in
    let more = added_more command (edit_facts state.document command).units_in state.counts in
    record { most = file.most; within = omega (arith, within, more); grown = file.grown }

edited_at : (state : RunState) (command : Command) (session : SessionView) (policies told : List Policy)
    (facts : Facts) → IsAtState state session policies → facts ≡ edit_facts session.document command →
    told ≡ policies_after policies facts → IsAtState (edited state command) (session_after command session) told
edited_at state command session policies told facts at same noted =
    let documents = at.document in
    let counts = at.counts in
    let policies_were = at.policies_are in
    let facts_are : facts ≡ edit_facts state.document command = same ∙ ap (λ d. edit_facts d command) documents in
    record {
      document = ap (λ d. document_after d command) documents;
      counts = λ j. after_edit command (edit_facts (documents j) command).units_in (counts j);
      quick_saves = at.quick_saves;
      policies_are = noted ∙ (λ j. policies_after (policies_were j) (facts_are j));
      holds = at.holds;
      file = file_edited state command session.bytes at.file;
    }

pub edit_made : (command : Command) (session made : SessionView) (policies told : List Policy) (facts : Facts) →
    save_mode command ≡ None → IsAcceptedEdit session.document command → facts ≡ edit_facts session.document command →
    AllGrant policies facts → made ≡ session_after command session → told ≡ policies_after policies facts →
    Makes command session policies made told
edit_made command session made policies told facts mode accepted same granted after noted state at =
    let facts_are : facts ≡ edit_facts state.document command = same ∙ ap (λ d. edit_facts d command) at.document in
    record {
      passes = subst (λ m. PassesBy m state command) (sym mode) (record {
        accepted = subst (λ d. IsAcceptedEdit d command) at.document accepted;
        granted = subst (λ p. AllGrant p (edit_facts state.document command)) at.policies_are
            (subst (λ f. AllGrant policies f) facts_are granted);
      });
      leaves = subst (λ m. IsAtState (state_by m state command) made told) (sym mode)
          (subst (λ s. IsAtState (edited state command) s told) (sym after) (edited_at state command session policies
          told
          facts at same noted));
    }

-- an edit that stops stops by its mode
by_edit : (command : Command) (state : RunState) (index : ℕ) (fault : RunFault) → save_mode command ≡ None →
    HaltsBy index (StopsEdit state command) fault → HaltsBy index (Stops state command) fault
by_edit command state index Memory mode halts = tt
by_edit command state index (Stopped at stop) mode halts =
    (halts.0, subst (λ m. StopsBy m state command stop) (sym mode) halts.1)

pub edit_refused : (command : Command) (session : SessionView) (policies : List Policy) (index : ℕ)
    (fault : RunFault) → save_mode command ≡ None → ((state : RunState) → state.document ≡ session.document →
    HaltsBy index (StopsEdit state command) fault) → Halts command session policies index fault
edit_refused command session policies index fault mode halts state at =
    by_edit command state index fault mode (halts state (sym at.document))

pub edit_guarded : (command : Command) (session : SessionView) (policies : List Policy) (facts : Facts) (guard index :
    ℕ) → save_mode command ≡ None → IsAcceptedEdit session.document command → facts ≡ edit_facts session.document
    command → IsFirstRefuser policies facts guard → Halts command session policies index (Stopped index (Guarded guard))
edit_guarded command session policies facts guard index mode accepted same refuser state at =
    let facts_are : facts ≡ edit_facts state.document command = same ∙ ap (λ d. edit_facts d command) at.document in (
      refl,
      subst (λ m. StopsBy m state command (Guarded guard)) (sym mode) (record {
        accepted = subst (λ d. IsAcceptedEdit d command) at.document accepted;
        refuser = subst (λ p. IsFirstRefuser p (edit_facts state.document command) guard) at.policies_are
            (subst (λ f. IsFirstRefuser policies f guard) facts_are refuser);
      }),
    )

-- ---- a full save

nothing_added : (document : Document) → bytes_added (counts_in_full document) ≡ 0
unfolding counts_in_full
nothing_added document = refl

full_at : (state : RunState) (session : SessionView) (policies : List Policy) → IsAtState state session policies →
    HoldsDocument (full_save_image session.document) session.document → IsAtState (saved_in_full state) (session_in_full
    session.document) policies
full_at state session policies at held =
    let none = nothing_added state.document in
    record {
      document = at.document;
      counts = ap counts_in_full at.document;
      quick_saves = refl;
      policies_are = at.policies_are;
      holds = subst (λ d. HoldsDocument (full_save_image session.document) d) at.document held;
      file = record { most = 0; within = omega (arith, none); grown = ap full_save_image at.document };
    }

pub full_made : (command : Command) (session made : SessionView) (policies : List Policy) → save_mode command ≡ Some
    true → IsFullSave session made → Makes command session policies made policies
full_made command session made policies mode save state at = record {
  passes = subst (λ m. PassesBy m state command) (sym mode) (subst FitsCompoundFile at.document save.fits);
  leaves = subst (λ m. IsAtState (state_by m state command) made policies) (sym mode)
      (subst (λ s. IsAtState (saved_in_full state) s policies) (sym save.is) (full_at state session policies at
      save.held.holds));
}

by_full : (command : Command) (state : RunState) (index : ℕ) (fault : RunFault) → save_mode command ≡ Some true →
    HaltsBy index (StopsFullSave state) fault → HaltsBy index (Stops state command) fault
by_full command state index Memory mode halts = tt
by_full command state index (Stopped at stop) mode halts =
    (halts.0, subst (λ m. StopsBy m state command stop) (sym mode) halts.1)

full_refused : (command : Command) (session : SessionView) (policies : List Policy) (index : ℕ) (fault : RunFault) →
    save_mode command ≡ Some true → HaltsFull session index fault → Halts command session policies index fault
full_refused command session policies index fault mode halts state at =
    by_full command state index fault mode (halts state (sym at.document))

pub full_halts : {T : Type 0} (command : Command) (session : SessionView) (policies : List Policy) (index : ℕ)
    (result : Result T RunFault) → save_mode command ≡ Some true → IfErr result (HaltsFull session index) →
    IfErr result (Halts command session policies index)
full_halts command session policies index result mode halts =
    IfErr-weaker result (HaltsFull session index) (Halts command session policies index)
    (λ fault. full_refused command session policies index fault mode) halts

-- ---- how much is added

pub added_by : (mode : Option Bool) (state : RunState) (command : Command) → PassesBy mode state command →
    bytes_added (state_by mode state command).counts ≤ bytes_added state.counts + most_added
added_by None state command passes = edits_add_little state.document command state.counts passes.accepted
added_by (Some true) state command passes = let none = nothing_added state.document in omega (arith, none)
added_by (Some false) state command passes = omega arith
