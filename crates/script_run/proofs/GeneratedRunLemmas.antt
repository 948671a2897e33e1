-- A run of the generator, command by command: each is made, and how many save.
use Rattle.std.proofs.Common.{◌≡◌, ◌∙◌, refl, sym, ap, subst, ℕ, zero, suc, ◌+◌, ◌-◌, ◌/◌, ◌%◌, ◌<◌, ◌≤◌}
use Rattle.std.proofs.Common.{Bool, true, false, cond, List, [], ◌∷◌, ◌++◌, length, map, Option, Some, None, arith}
use Rattle.std.specs.Prelude.{if◌then◌else◌, ◌==◌, ◌||◌}
use Rattle.std.specs.List.{filter_map, range_with_len}
use Rattle.std.proofs.lemmas.Bool.{eqb-true, eqb-false, lt-ltb, eq-eqb}
use Rattle.std.proofs.lemmas.List.Elements.{All-nil, filter_map-append}
use Rattle.std.proofs.lemmas.List.FromFn.{map-range_with_len_more}
use Rattle.std.proofs.lemmas.List.Sums.{sum_by-append}
use Rattle.edit_guards.specs.declared.facts.Facts.{Facts}
use Rattle.edit_guards.specs.Policies.{Policy, Grants, AllGrant, policies_after}
use Rattle.doc_model.specs.Blank.{blank_document}
use Rattle.edit_script.specs.declared.commands.Command.{Command}
use Rattle.edit_script.specs.declared.commands.Command.TheVariants.{Save}
use Rattle.edit_ops.specs.Causes.{IsAcceptedEdit}
use Rattle.edit_ops.specs.Edits.{document_after}
use Rattle.edit_ops.specs.EditFacts.{edit_facts}
use Rattle.script_run.specs.Saves.{save_mode, has_mode, save_count}
use Rattle.script_run.specs.States.{RunState, edited, state_after}
use Rattle.script_run.specs.Commands.{command_at, state_before}
use Rattle.edit_generator.specs.Generated.{edit_number, edit_of_rest, generated_edit, generated_count}
use Rattle.edit_generator.specs.Generated.{is_generated_save}
use Rattle.edit_generator.specs.Generated.{generated_command}
use Rattle.script_run.specs.Generated.{generated}
use Rattle.script_run.specs.Ends.{Passes, EndsInMode}
use Rattle.edit_generator.specs.GeneratedDocuments.{IsGeneratedDocument}
use Rattle.script_run.specs.GeneratedRuns.{generator_start, commands_run, GeneratorIsAccepted}
use Rattle.script_run.proofs.EndLemmas.{state_goes_on}
use Rattle.edit_generator.proofs.Public.{edit_generated, edit_accepted, blank_generated}
use Rattle.script_run.proofs.GeneratedFileLemmas.{document_file}
use Rattle.script_run.proofs.GeneratedLemmas.{IsGrown, edit_goes_on, full_grown, save_goes_on, save_passes, save_behind}
use Rattle.script_run.proofs.GeneratedLemmas.{no_save}

-- ---- one command more

-- before the command of a number: the document, the ledgers, and no guard
record IsGeneratedState (i : ℕ) (state : RunState) : Type 0 where
  document : IsGeneratedDocument (i - i / 51) state.document
  grown : IsGrown (i / 51 % 8) (i % 51) state
  policies : state.policies ≡ []

-- a save leaves the document, and no guard
saved_document : (full : Bool) (state : RunState) → (state_after state (Save full)).document ≡ state.document
saved_document true state = refl
saved_document false state = refl

saved_policies : (full : Bool) (state : RunState) → (state_after state (Save full)).policies ≡ state.policies
saved_policies true state = refl
saved_policies false state = refl

-- an edit of the generator is no save
edited_state : (rest edit number main : ℕ) (state : RunState) →
    state_after state (edit_of_rest rest edit number main) ≡ edited state (edit_of_rest rest edit number main)
edited_state zero edit number main state = refl
edited_state (suc zero) edit number main state = refl
edited_state (suc (suc zero)) edit number main state = refl
edited_state (suc (suc (suc zero))) edit number main state = refl
edited_state (suc (suc (suc (suc more)))) edit number main state = refl

edit_passes : (rest edit number main : ℕ) (state : RunState) →
    IsAcceptedEdit state.document (edit_of_rest rest edit number main) →
    AllGrant state.policies (edit_facts state.document (edit_of_rest rest edit number main)) →
    Passes state (edit_of_rest rest edit number main)
edit_passes zero edit number main state accepted granted = record { accepted = accepted; granted = granted }
edit_passes (suc zero) edit number main state accepted granted = record { accepted = accepted; granted = granted }
edit_passes (suc (suc zero)) edit number main state accepted granted = record { accepted = accepted; granted = granted }
edit_passes (suc (suc (suc zero))) edit number main state accepted granted =
    record { accepted = accepted; granted = granted }
edit_passes (suc (suc (suc (suc more)))) edit number main state accepted granted =
    record { accepted = accepted; granted = granted }

edit_mode : (rest edit number main : ℕ) → save_mode (edit_of_rest rest edit number main) ≡ None
edit_mode zero edit number main = refl
edit_mode (suc zero) edit number main = refl
edit_mode (suc (suc zero)) edit number main = refl
edit_mode (suc (suc (suc zero))) edit number main = refl
edit_mode (suc (suc (suc (suc more)))) edit number main = refl

none_told : (policies : List Policy) (facts : Facts) → policies ≡ [] → policies_after policies facts ≡ []
none_told policies facts none = ap (λ p. policies_after p facts) none

none_ask : (policies : List Policy) (facts : Facts) → policies ≡ [] → AllGrant policies facts
none_ask policies facts none =
    subst (λ p. AllGrant p facts) (sym none) (All-nil (λ (policy : Policy). Grants policy facts))

-- the command of this number, where it is a save or not
abbrev command_by : ℕ → Bool → ℕ → RunState → Command
command_by seed saves i state =
    if saves then Save (state.quick_saves == 7) else generated_edit seed (i - i / 51 + 1) (length state.document.main)

module _ (seed : ℕ) (few : seed ≤ 4000) where
  count_few : generated_count seed ≤ 4080
  count_few = omega (arith, few)

  at_number : (i : ℕ) (state : RunState) → i < generated_count seed →
      command_at (generated seed) i state ≡ Some
      (generated_command seed i (length state.document.main) state.quick_saves)
  at_number i state within = rw (lt-ltb i (generated_count seed) within) refl

  -- behind a command that is not the last one
  goes_by : (saves : Bool) (i : ℕ) (state : RunState) → i + 1 < generated_count seed →
      is_generated_save seed i ≡ saves → IsGeneratedState i state →
      IsGeneratedState (i + 1) (state_after state (command_by seed saves i state))
  goes_by true i state more is at =
      let all = count_few in
      let small = document_file (i - i / 51) state.document (omega (arith, more, all)) at.document in
      let full = state.quick_saves == 7 in
      let fifty = eqb-true (i % 51) 50
      (save_behind (i + 1 == generated_count seed) i (generated_count seed) more refl (i % 51 == 50) is) in
      let fast : (i / 51 % 8 + 1) % 8 ≡ (i + 1) / 51 % 8 = omega (arith, fifty) in
      let edits : 0 ≡ (i + 1) % 51 = omega (arith, fifty) in
      let made : i - i / 51 ≡ i + 1 - (i + 1) / 51 = omega (arith, fifty) in
      let seventh = ap (λ n. n == 7) at.grown.quick in
      let next = save_goes_on full (i / 51 % 8) (i % 51) state seventh (omega arith) small (omega arith) at.grown in
      record {
        document =
            subst (IsGeneratedDocument (i + 1 - (i + 1) / 51)) (sym (saved_document full state))
            (subst (λ n. IsGeneratedDocument n state.document) made at.document);
        grown =
            subst (λ n. IsGrown ((i + 1) / 51 % 8) n (state_after state (Save full))) edits
            (subst (λ n. IsGrown n 0 (state_after state (Save full))) fast next);
        policies = saved_policies full state ∙ at.policies;
      }
  goes_by false i state more is at =
      let all = count_few in
      let main = length state.document.main in
      let edit = i - i / 51 + 1 in
      let number = edit_number seed edit in
      let command = edit_of_rest (edit % 5) edit number main in
      let differs = eqb-false (i % 51) 50 (no_save (i % 51 == 50) (i + 1 == generated_count seed) is) in
      let fast : i / 51 % 8 ≡ (i + 1) / 51 % 8 = omega (arith, differs) in
      let edits : i % 51 + 1 ≡ (i + 1) % 51 = omega (arith, differs) in
      let made : i - i / 51 + 1 ≡ i + 1 - (i + 1) / 51 = omega (arith, differs) in
      let is_edited = edited_state (edit % 5) edit number main state in
      let next = edit_goes_on (edit % 5) (i / 51 % 8) (i % 51) edit number main state (omega (arith, more, all))
      at.grown in
      let document = edit_generated (edit % 5) (i - i / 51) number state.document refl (omega (arith, more, all))
      at.document in
      record {
        document =
            subst (λ (s : RunState). IsGeneratedDocument (i + 1 - (i + 1) / 51) s.document) (sym is_edited)
            (subst (λ n. IsGeneratedDocument n (document_after state.document command)) made document);
        grown =
            subst (λ n. IsGrown ((i + 1) / 51 % 8) n (state_after state command)) edits
            (subst (λ n. IsGrown n (i % 51 + 1) (state_after state command)) fast next);
        policies =
            ap (λ (s : RunState). s.policies) is_edited
            ∙ none_told state.policies (edit_facts state.document command) at.policies;
      }

  -- what has been before each command
  state_at : (i : ℕ) → i < generated_count seed → IsGeneratedState i (state_before generator_start (generated seed) i)
  unfolding state_before
  state_at zero within = record {
    document = blank_generated;
    grown = record {
      counts = full_grown blank_document
          (document_file 0 blank_document (omega arith) blank_generated);
      quick = refl;
    };
    policies = refl;
  }
  state_at (suc i) within =
      let state = state_before generator_start (generated seed) i in
      let below : i < generated_count seed = omega (arith, within) in
      let next = goes_by (is_generated_save seed i) i state (omega (arith, within)) refl (state_at i below) in
      let made = state_goes_on generator_start (generated seed) i
      (generated_command seed i (length state.document.main) state.quick_saves) (at_number i state below) in
      let number : i + 1 ≡ suc i = omega arith in
      subst (λ n. IsGeneratedState n (state_before generator_start (generated seed) n)) number
      (subst (IsGeneratedState (i + 1)) (sym made) next)

  -- ---- each command is made

  -- a command that does not save is not the last one
  not_last : (fifty last : Bool) (i : ℕ) → last ≡ (i + 1 == generated_count seed) → fifty || last ≡ false →
      i < generated_count seed → i + 1 < generated_count seed
  not_last true last i is neither within = absurd (cc (neither))
  not_last false true i is neither within = absurd (cc (neither))
  not_last false false i is neither within =
      let differs = eqb-false (i + 1) (generated_count seed) (sym is) in omega (arith, differs, within)

  passes_by : (saves : Bool) (i : ℕ) (state : RunState) → i < generated_count seed →
      is_generated_save seed i ≡ saves → IsGeneratedState i state → Passes state (command_by seed saves i state)
  passes_by true i state within is at =
      let all = count_few in
      let small = document_file (i - i / 51) state.document (omega (arith, within, all)) at.document in
      let seventh = ap (λ n. n == 7) at.grown.quick in
      save_passes (state.quick_saves == 7) (i / 51 % 8) (i % 51) state seventh (omega arith) small (omega arith)
      at.grown
  passes_by false i state within is at =
      let all = count_few in
      let more = not_last (i % 51 == 50) (i + 1 == generated_count seed) i refl is within in
      let edit = i - i / 51 + 1 in
      let number = edit_number seed edit in
      let main = length state.document.main in
      edit_passes (edit % 5) edit number main state
      (edit_accepted (edit % 5) (i - i / 51) number state.document refl (omega (arith, more, all)) at.document)
      (none_ask state.policies (edit_facts state.document (edit_of_rest (edit % 5) edit number main)) at.policies)

pub generator_accepted : GeneratorIsAccepted
generator_accepted seed few k below =
    let state = state_before generator_start (generated seed) k in
    record {
      command = generated_command seed k (length state.document.main) state.quick_saves;
      there = at_number seed few k state below;
      passes = passes_by seed few (is_generated_save seed k) k state below refl (state_at seed few k below);
    }

-- ---- how many save

-- of so many saves each eighth is full
abbrev pub saves_of : Bool → ℕ → ℕ
saves_of true saves = saves / 8
saves_of false saves = saves - saves / 8

-- one save more
turn : (full now : Bool) (saves : ℕ) → (saves % 8 == 7) ≡ now →
    saves_of full saves + cond (has_mode full (Some now)) 1 0 ≡ saves_of full (saves + 1)
turn true true saves is = let seventh = eqb-true (saves % 8) 7 is in omega (arith, seventh)
turn true false saves is = let other = eqb-false (saves % 8) 7 is in omega (arith, other)
turn false true saves is = let seventh = eqb-true (saves % 8) 7 is in omega (arith, seventh)
turn false false saves is = let other = eqb-false (saves % 8) 7 is in omega (arith, other)

none_yet : (full : Bool) → 0 ≡ saves_of full 0
none_yet true = refl
none_yet false = refl

-- the commands so far
abbrev run_so_far : ℕ → ℕ → List Command
run_so_far seed n =
    filter_map (λ (command : Option Command). command)
    (map (λ i. command_at (generated seed) i (state_before generator_start (generated seed) i)) (range_with_len 0 n))

one_more : (full : Bool) (seed n : ℕ) (command : Command) →
    command_at (generated seed) n (state_before generator_start (generated seed) n) ≡ Some command →
    save_count full (run_so_far seed (n + 1)) ≡ save_count full (run_so_far seed n) + cond
    (has_mode full (save_mode command)) 1 0
one_more full seed n command at =
    let f : ℕ → Option Command = λ i. command_at (generated seed) i (state_before generator_start (generated seed) i) in
    let same : Option Command → Option Command = λ o. o in
    let front = map f (range_with_len 0 n) in
    let longer = map-range_with_len_more f 0 n n (omega arith) in
    let both = ap (filter_map same) longer ∙ filter_map-append same front (f n ∷ []) in
    let last : filter_map same (f n ∷ []) ≡ command ∷ [] = ap (λ (o : Option Command). filter_map same (o ∷ [])) at in
    let all = ap (save_count full) (both ∙ ap (λ xs. filter_map same front ++ xs) last) in
    let more = sum_by-append (λ (c : Command). cond (has_mode full (save_mode c)) 1 0) (filter_map same front)
    (command ∷ []) in
    omega (arith, all, more)

either_true : (b : Bool) → b || true ≡ true
either_true true = refl
either_true false = refl

module _ (seed : ℕ) (few : seed ≤ 4000) where
  step_counts : (full saves : Bool) (i : ℕ) (state : RunState) → is_generated_save seed i ≡ saves →
      IsGeneratedState i state →
      saves_of full (i / 51) + cond (has_mode full (save_mode (command_by seed saves i state))) 1
      0 ≡ (if saves then saves_of full (i / 51 + 1) else saves_of full ((i + 1) / 51))
  step_counts full true i state is at =
      turn full (state.quick_saves == 7) (i / 51) (ap (λ n. n == 7) (sym at.grown.quick))
  step_counts full false i state is at =
      let edit = i - i / 51 + 1 in
      let mode = edit_mode (edit % 5) edit (edit_number seed edit) (length state.document.main) in
      let none = ap {B = ℕ} (λ m. cond (has_mode full m) 1 0) mode in
      let differs = eqb-false (i % 51) 50 (no_save (i % 51 == 50) (i + 1 == generated_count seed) is) in
      let same : i / 51 ≡ (i + 1) / 51 = omega (arith, differs) in
      let kept = ap (saves_of full) same in
      omega (arith, none, kept)

  step_on : (full saves : Bool) (i : ℕ) → i + 1 < generated_count seed → is_generated_save seed i ≡ saves →
      (if saves then saves_of full (i / 51 + 1) else saves_of full ((i + 1) / 51)) ≡ saves_of full ((i + 1) / 51)
  step_on full true i more is =
      let fifty = eqb-true (i % 51) 50
      (save_behind (i + 1 == generated_count seed) i (generated_count seed) more refl (i % 51 == 50) is) in
      let next : i / 51 + 1 ≡ (i + 1) / 51 = omega (arith, fifty) in
      ap (saves_of full) next
  step_on full false i more is = refl

  counted_at : (full : Bool) (i : ℕ) → i < generated_count seed →
      save_count full (run_so_far seed i) ≡ saves_of full (i / 51)
  counted_at full zero within = none_yet full
  counted_at full (suc i) within =
      let state = state_before generator_start (generated seed) i in
      let below : i < generated_count seed = omega (arith, within) in
      let more : i + 1 < generated_count seed = omega (arith, within) in
      let saves = is_generated_save seed i in
      let command = generated_command seed i (length state.document.main) state.quick_saves in
      let was = counted_at full i below in
      let one = one_more full seed i command (at_number seed few i state below) in
      let counts = step_counts full saves i state refl (state_at seed few i below) in
      let next = step_on full saves i more refl in
      let number : i + 1 ≡ suc i = omega arith in
      subst (λ n. save_count full (run_so_far seed n) ≡ saves_of full (n / 51)) number
      (omega (arith, was, one, counts, next))

  module _ (some : 0 < seed) where
    saves_last : is_generated_save seed (generated_count seed - 1) ≡ true
    saves_last =
        let end : generated_count seed - 1 + 1 ≡ generated_count seed = omega (arith, some) in
        ap (λ b. ((generated_count seed - 1) % 51 == 50) || b)
        (eq-eqb (generated_count seed - 1 + 1) (generated_count seed) end)
        ∙ either_true ((generated_count seed - 1) % 51 == 50)

    -- the mode of the last save
    pub last_mode : Bool
    last_mode = (state_before generator_start (generated seed) (generated_count seed - 1)).quick_saves == 7

    pub ends_with_save : EndsInMode last_mode generator_start (generated seed)
    unfolding last_mode
    ends_with_save =
        let i = generated_count seed - 1 in
        let state = state_before generator_start (generated seed) i in
        at_number seed few i state (omega (arith, some))
        ∙ ap (λ saves. Some (command_by seed saves i state)) saves_last

    pub counted_all : (full : Bool) →
        save_count full (commands_run generator_start (generated seed)) ≡ saves_of full (generated_count seed - seed)
    counted_all full =
        let i = generated_count seed - 1 in
        let state = state_before generator_start (generated seed) i in
        let below : i < generated_count seed = omega (arith, some) in
        let was = counted_at full i below in
        let command = command_by seed true i state in
        let there = at_number seed few i state below ∙ ap (λ saves. Some (command_by seed saves i state)) saves_last in
        let one = one_more full seed i command there in
        let counts = turn full (state.quick_saves == 7) (i / 51)
        (ap (λ n. n == 7) (sym (state_at seed few i below).grown.quick)) in
        let number : i + 1 ≡ generated_count seed = omega (arith, some) in
        let saves : i / 51 + 1 ≡ generated_count seed - seed = omega (arith, some) in
        let all = ap (λ n. save_count full (run_so_far seed n)) number in
        let same = ap (saves_of full) saves in
        omega (arith, was, one, counts, all, same)

-- the saves of each mode, by their number
pub counted_saves : (full : Bool) (seed : ℕ) → seed ≤ 4000 →
    save_count full (commands_run generator_start (generated seed)) ≡ saves_of full (generated_count seed - seed)
counted_saves full zero few = none_yet full
counted_saves full (suc seed) few = counted_all (suc seed) few (omega arith) full
