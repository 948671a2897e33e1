-- What a run of the generator leaves: the bytes of its last save; from 0 there is none.
use Rattle.std.proofs.Common.{◌≡◌, ◌∙◌, sym, ap, subst, ℕ, zero, suc, ◌≤◌, Bool, true, false}
use Rattle.std.proofs.Common.{List, [], map, arith}
use Rattle.std.proofs.lemmas.Option.{none-some}
use Rattle.edit_guards.specs.Policies.{Policy}
use Rattle.doc_model.specs.declared.document.Document.{Document}
use Rattle.doc_model.specs.Blank.{blank_document}
use Rattle.plain_doc.specs.RulesOfSheet.{item_count}
use Rattle.full_save.specs.Layout.{full_save_image}
use Rattle.doc_read.specs.Holds.{HoldsDocument, IsAccepted}
use Rattle.edit_script.specs.declared.commands.Command.TheVariants.{Save}
use Rattle.fast_save.specs.Session.{SessionView}
use Rattle.script_run.specs.Commands.{state_before}
use Rattle.script_run.specs.Generated.{generated}
use Rattle.script_run.specs.declared.faults.Stop.{Stop}
use Rattle.script_run.specs.declared.faults.RunFault.{RunFault}
use Rattle.script_run.specs.declared.faults.RunFault.TheVariants.{Stopped}
use Rattle.script_run.specs.declared.generating.Generated.{Generated}
use Rattle.script_run.specs.Saves.{save_count}
use Rattle.script_run.specs.States.{starting_state, session_in_full}
use Rattle.script_run.specs.Ends.{StopsAt, IsRunFault, EndsInMode, IsLastSave}
use Rattle.script_run.specs.Steps.{IsRunTo}
use Rattle.script_run.specs.GeneratedRuns.{most_seed, generator_start, commands_run, mark_count}
use Rattle.script_run.specs.GeneratedRuns.{IsGeneratedRun, IsGeneratedBy}
use Rattle.script_run.proofs.RunLemmas.{last_saved}
use Rattle.script_run.proofs.EndLemmas.{ends_once}
use Rattle.script_run.proofs.GeneratedRunLemmas.{last_mode, ends_with_save, generator_accepted}

abbrev RunsTo : ℕ → SessionView → List Policy → Type 0
RunsTo seed session policies = IsRunTo generator_start (generated seed) (generated seed).count session policies

no_mode : (full : Bool) → EndsInMode full generator_start (generated 0) → ⊥
no_mode full at = none-some (Save full) at

pub generated_image : (seed : ℕ) → seed ≤ 4000 → (session : SessionView) (policies : List Policy) →
    RunsTo seed session policies → (image : List ℕ) → image ≡ session.bytes → IsAccepted session.bytes →
    IsLastSave generator_start (generated seed) image
unfolding state_before
generated_image zero few session policies run image same accepted = record {
  accepted = subst IsAccepted (sym same) accepted;
  holds = subst (λ bytes. HoldsDocument bytes blank_document) (sym same) run.at.holds;
  full = λ at. absurd (no_mode _ at);
  fast = λ at. absurd (no_mode _ at);
}
generated_image (suc seed) few session policies run image same accepted =
    last_saved generator_start (generated (suc seed)) session policies (omega arith) run
    (last_mode (suc seed) few (omega arith)) (ends_with_save (suc seed) few (omega arith)) image same accepted

pub blank_image : (seed : ℕ) (session : SessionView) (policies : List Policy) → RunsTo seed session policies →
    (image : List ℕ) → image ≡ session.bytes → seed ≡ 0 → image ≡ full_save_image blank_document
unfolding state_before
blank_image zero session policies run image same none = same ∙ run.at.file.grown
blank_image (suc seed) session policies run image same none = absurd (omega (arith, none))

-- ---- the run

pub none_mapped : {A B : Type 0} (f : A → B) (xs : List A) → xs ≡ [] → map f xs ≡ []
none_mapped f xs none = ap (map f) none

-- no command stops it
pub never_stopped : (seed index : ℕ) (stop : Stop) (session : SessionView) (policies : List Policy) (fault : RunFault) →
    seed ≤ most_seed → session ≡ session_in_full blank_document → policies ≡ [] →
    IsRunFault (starting_state session policies) (generated seed) fault → fault ≡ Stopped index stop → ⊥
never_stopped seed index stop session policies fault few is none stops same =
    let named = subst (λ f. IsRunFault (starting_state session policies) (generated seed) f) same stops in
    let begun = subst (λ s. StopsAt (starting_state s policies) (generated seed) index stop) is named in
    let at = subst (λ p. StopsAt (starting_state (session_in_full blank_document) p) (generated seed) index stop) none
    begun
    in
    ends_once.none generator_start (generated seed) index stop (generator_accepted seed few) at

-- all of them are made
pub run_of : (seed : ℕ) (session : SessionView) (policies : List Policy) (now : SessionView) (told : List Policy) →
    session ≡ session_in_full blank_document → policies ≡ [] →
    IsRunTo (starting_state session policies) (generated seed) (generated seed).count now told → IsGeneratedRun seed now
run_of seed session policies now told is none run =
    let begun = subst (λ s. IsRunTo (starting_state s policies) (generated seed) (generated seed).count now told) is run
    in (
      told,
      subst
          (λ p. IsRunTo (starting_state (session_in_full blank_document) p) (generated seed) (generated seed).count now
          told)
          none begun,
    )

-- what they leave
pub generated_by : (seed : ℕ) (now : SessionView) (made : Generated) →
    seed ≤ most_seed → IsGeneratedRun seed now → made.image ≡ now.bytes →
    IsAccepted now.bytes → made.units ≡ item_count now.document → made.paragraphs ≡ mark_count now.document.main →
    made.saves.fast ≡ save_count false (commands_run generator_start (generated seed)) →
    made.saves.full ≡ save_count true (commands_run generator_start (generated seed)) → IsGeneratedBy seed made
generated_by seed now made few run image accepted units paragraphs fast full =
    let document = run.1.at.document in
    record {
      accepted = generator_accepted seed few;
      image = generated_image seed few now run.0 run.1 made.image image accepted;
      blank = blank_image seed now run.0 run.1 made.image image;
      units = units ∙ ap item_count document;
      paragraphs = paragraphs ∙ ap (λ (d : Document). mark_count d.main) document;
      fast = fast;
      full = full;
    }
