-- The session that the generator begins on, and the commands that it is given.
use Rattle.std.proofs.Common.{◌≡◌, ◌∙◌, refl, sym, ap, subst, ℕ, ◌<◌, List, length, Some, arith}
use Rattle.std.proofs.lemmas.Bool.{lt-ltb}
use Rattle.edit_guards.specs.Policies.{Policy}
use Rattle.doc_bits.specs.declared.places.Where.{Where}
use Rattle.doc_bits.specs.Places.{Upto, IsFirstPlace}
use Rattle.doc_bits.proofs.Public.{hold_or_first}
use Rattle.cfb_layout.specs.Counts.{most_sectors}
use Rattle.doc_model.specs.declared.document.Document.{Document}
use Rattle.doc_model.specs.Blank.{blank_document}
use Rattle.plain_doc.specs.Sound.{IsSound}
use Rattle.full_save.specs.declared.fault.SaveFault.{SaveFault}
use Rattle.full_save.specs.declared.fault.SaveFault.TheVariants.{TooLarge}
use Rattle.full_save.specs.Layout.{full_save_image, full_save_sectors, IsTooLarge}
use Rattle.file_rules.specs.declared.fault.ReadFault.{ReadFault}
use Rattle.file_rules.specs.declared.fault.ReadFault.TheVariants.{Refused}
use Rattle.file_rules.specs.Faults.{IsReadFault}
use Rattle.doc_read.specs.Holds.{HoldsDocument, all_rules}
use Rattle.doc_read.proofs.Public.{document_one, all_single}
use Rattle.edit_script.specs.declared.commands.Command.{Command}
use Rattle.fast_save.specs.Laws.{IsSavable, IsHeldInFull}
use Rattle.fast_save.specs.Session.{SessionView}
use Rattle.fast_save.specs.Started.{IsStarted, session_after_full}
use Rattle.fast_save.proofs.Public.{full_saves_hold}
use Rattle.script_run.specs.States.{RunState, counts_in_full, session_in_full}
use Rattle.script_run.specs.Commands.{command_at}
use Rattle.edit_generator.specs.Generated.{generated_count, generated_command}
use Rattle.script_run.specs.Generated.{generated}
use Rattle.script_run.specs.Ends.{IsUnchanged}
use Rattle.script_run.specs.Steps.{IsAtState}
use Rattle.edit_generator.proofs.Public.{document_sound, blank_generated}
use Rattle.script_run.proofs.GeneratedFileLemmas.{document_savable}

-- ---- the blank document

pub blank_sound : IsSound blank_document
blank_sound = document_sound 0 blank_document (omega arith) blank_generated

blank_savable : IsSavable blank_document
blank_savable = document_savable 0 blank_document (omega arith) blank_generated

blank_held : IsHeldInFull blank_document
blank_held = full_saves_hold blank_document blank_savable

pub blank_fits : most_sectors < full_save_sectors blank_document → ⊥
blank_fits over = let fits = blank_savable.fits in absurd (omega (arith, fits, over))

-- its full save breaks no rule
pub blank_accepted : (rule : ℕ) (part : Where) (at : ℕ) →
    IsFirstPlace (all_rules (full_save_image blank_document)) rule (part, at) → ⊥
blank_accepted rule part at first =
    let file = full_save_image blank_document in
    hold_or_first Upto (all_rules file) rule (part, at) (all_single file) blank_held.accepted first

-- neither saving it nor reading that is refused
pub never_large : (document : Document) (fault : SaveFault) (sectors : ℕ) → document ≡ blank_document →
    IsTooLarge document fault → fault ≡ TooLarge sectors → ⊥
never_large document fault sectors is large same =
    let named = subst (λ f. IsTooLarge document f) same large in
    let over = subst (λ d. IsTooLarge d (TooLarge sectors)) is named in
    blank_fits over.0

pub never_refused : (file : List ℕ) (fault : ReadFault) (rule : ℕ) (part : Where) (at : ℕ) →
    file ≡ full_save_image blank_document → IsReadFault (all_rules file) fault → fault ≡ Refused rule part at → ⊥
never_refused file fault rule part at is reads same =
    let named = subst (λ f. IsReadFault (all_rules file) f) same reads in
    blank_accepted rule part at (subst (λ f. IsReadFault (all_rules f) (Refused rule part at)) is named)

-- the file of that save
pub file_is : (document : Document) (file : List ℕ) → document ≡ blank_document → file ≡ full_save_image document →
    file ≡ full_save_image blank_document
file_is document file is made = made ∙ ap full_save_image is

-- its document is the blank one
pub started_blank : (file : List ℕ) (session : SessionView) → file ≡ full_save_image blank_document →
    IsStarted file session → session.document ≡ blank_document
started_blank file session is started =
    document_one file session.document blank_document started.holds
    (subst (λ f. HoldsDocument f blank_document) (sym is) blank_held.holds)

-- ---- the session

pub start_unchanged : IsUnchanged (session_in_full blank_document)
unfolding counts_in_full
start_unchanged = record { holds = blank_held.holds; none = refl }

-- a session on that full save which is saved in full
pub again_in_full : (session made : SessionView) → IsStarted (full_save_image blank_document) session →
    made ≡ session_after_full session → made ≡ session_in_full blank_document
unfolding counts_in_full
again_in_full session made started is =
    let one : session.document ≡ blank_document = document_one (full_save_image blank_document) session.document
    blank_document started.holds blank_held.holds in
    is ∙ ap session_in_full one

-- ---- its commands

pub generated_there : (seed index main quick : ℕ) (command : Command) (session : SessionView)
    (policies : List Policy) → index < generated_count seed → main ≡ length session.document.main →
    quick ≡ session.quick_saves → command ≡ generated_command seed index main quick → (state : RunState) →
    IsAtState state session policies → command_at (generated seed) index state ≡ Some command
generated_there seed index main quick command session policies within is_main is_quick made state at =
    let len : main ≡ length state.document.main = is_main ∙ ap (λ (d : Document). length d.main) at.document in
    let saves : quick ≡ state.quick_saves = is_quick ∙ at.quick_saves in
    let there : command_at (generated seed) index state ≡ Some
    (generated_command seed index (length state.document.main) state.quick_saves) = rw
    (lt-ltb index (generated_count seed) within) refl in
    there ∙ ap Some (sym (made ∙ (λ i. generated_command seed index (len i) (saves i))))
