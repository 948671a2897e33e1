-- A run as it goes on.
use Rattle.std.proofs.Common.{◌≡◌, ◌∙◌, refl, sym, ap, subst, ℕ, ◌+◌, ◌-◌, ◌<◌, ◌≤◌, List, length, Bool, true, false}
use Rattle.std.proofs.Common.{Some, arith}
use Rattle.std.specs.Prelude.{Result, IfErr}
use Rattle.std.proofs.lemmas.Result.{IfErr-weaker}
use Rattle.std.proofs.lemmas.Option.{slice_get_within}
use Rattle.edit_guards.specs.Policies.{Policy}
use Rattle.full_save.specs.Layout.{full_save_image}
use Rattle.doc_read.specs.Holds.{HoldsDocument, IsAccepted}
use Rattle.edit_script.specs.declared.commands.Command.{Command}
use Rattle.edit_script.specs.declared.commands.Command.TheVariants.{Save}
use Rattle.edit_script.specs.Scripts.{EndsWithSave}
use Rattle.fast_save.specs.Session.{SessionView}
use Rattle.fast_save.specs.Edited.{bytes_added, HasEditRoom}
use Rattle.script_run.specs.declared.faults.RunFault.{RunFault}
use Rattle.script_run.specs.declared.faults.RunFault.TheVariants.{Stopped, Memory}
use Rattle.script_run.specs.States.{RunState, starting_state, saved_fast, state_after, most_grown}
use Rattle.script_run.specs.Commands.{Commands, listed, command_at, state_before}
use Rattle.script_run.specs.Saves.{save_mode}
use Rattle.script_run.specs.Files.{HasGrownFrom, IsFileOfState}
use Rattle.script_run.specs.Ends.{Stops, StopsAt, IsRunFault, AreToldUpTo, HaltsBy, EndsInMode, IsLastSave, IsUnchanged}
use Rattle.script_run.specs.Ends.{end_state}
use Rattle.script_run.specs.Steps.{IsAtState, Makes, Halts, MakesNumber, HaltsNumber, StopsCommand, IsRunTo}
use Rattle.script_run.proofs.EndLemmas.{state_goes_on, passing_goes_on}
use Rattle.script_run.proofs.GrownLemmas.{grown_more, some_fast}
use Rattle.script_run.proofs.StepLemmas.{added_by}

-- before the first command
pub run_starts : (session : SessionView) (policies : List Policy) (commands : Commands) → IsUnchanged session →
    IsRunTo (starting_state session policies) commands 0 session policies
unfolding state_before
run_starts session policies commands unchanged =
    let none = unchanged.none in
    record {
      at = record {
        document = refl;
        counts = refl;
        quick_saves = refl;
        policies_are = refl;
        holds = unchanged.holds;
        file = record { most = 0; within = omega (arith, none); grown = refl };
      };
      passed = λ k below. absurd (omega (arith, below));
      room = omega (arith, none);
    }

-- 4,096 commands leave room for one more
pub has_room : (start : RunState) (commands : Commands) (i : ℕ) (session : SessionView) (policies : List Policy) →
    IsRunTo start commands i session policies → i ≤ 4096 → HasEditRoom session.counts
has_room start commands i session policies run few = let room = run.room in omega (arith, room, few)

-- all commands are made
pub run_ends : (start : RunState) (commands : Commands) (i : ℕ) (session : SessionView) (policies : List Policy) →
    IsRunTo start commands i session policies → i ≡ commands.count → IsRunTo start commands commands.count session
    policies
run_ends start commands i session policies run same = subst (λ n. IsRunTo start commands n session policies) same run

module _ (start : RunState) (commands : Commands) (i : ℕ) (session : SessionView) (policies : List Policy)
    (run : IsRunTo start commands i session policies) where
  -- one command more
  pub run_on : (made : SessionView) (told : List Policy) → MakesNumber commands i session policies made told →
      IsRunTo start commands (i + 1) made told
  run_on made told makes =
      let state = state_before start commands i in
      let m = makes state run.at in
      let more = added_by (save_mode m.command) state m.command m.makes.passes in
      let was = ap bytes_added run.at.counts in
      let is = ap bytes_added m.makes.leaves.counts in
      let room = run.room in
      record {
        at = subst (λ s. IsAtState s made told) (sym (state_goes_on start commands i m.command m.there)) m.makes.leaves;
        passed = passing_goes_on start commands i run.passed (record {
          command = m.command;
          there = m.there;
          passes = m.makes.passes;
        });
        room = omega (arith, more, was, is, room);
      }

  -- the run stops at this command
  pub stopped_there : (fault : RunFault) → i < commands.count → HaltsNumber commands i session policies fault →
      IsRunFault start commands fault
  stopped_there Memory within halts = tt
  stopped_there (Stopped j stop) within halts =
      let h = halts (state_before start commands i) run.at in
      let s = h.1 in
      subst (λ k. StopsAt start commands k stop) (sym h.0) (record {
        within = within;
        command = s.command;
        there = s.there;
        before = run.passed;
        stops = s.stops;
      })

  -- the guards were told of the edits so far
  pub told_there : (fault : RunFault) (told : List Policy) → i ≤ commands.count → told ≡ policies →
      HaltsNumber commands i session policies fault → AreToldUpTo start commands fault told
  told_there Memory told within same halts =
      record { index = i; within = within; passed = run.passed; told = same ∙ run.at.policies_are }
  told_there (Stopped j stop) told within same halts =
      let h = halts (state_before start commands i) run.at in
      subst (λ k. told ≡ (state_before start commands k).policies) (sym h.0) (same ∙ run.at.policies_are)

-- ---- the last save

fast_file : (state : RunState) (bytes : List ℕ) → IsFileOfState (saved_fast state) bytes → HasGrownFrom state.file
    (most_grown (saved_fast state).since) (state.quick_saves + 1) bytes
fast_file state bytes file =
    let within = file.within in
    grown_more state.file file.most (most_grown (saved_fast state).since) (state.quick_saves + 1) bytes (omega (
      arith,
      within,
    ))
    (some_fast (state.since.fast_saves + 1) state.file file.most (state.quick_saves + 1) bytes (omega arith) file.grown)

saved_document : (full : Bool) (state : RunState) → (state_after state (Save full)).held ≡ (state_after state
    (Save full)).document
saved_document true state = refl
saved_document false state = refl

module _ (start : RunState) (commands : Commands) (session : SessionView) (policies : List Policy)
    (some : 0 < commands.count) (run : IsRunTo start commands commands.count session policies) where
  before_last : RunState
  before_last = state_before start commands (commands.count - 1)

  -- the last save leads to the end
  last_is : (full : Bool) → EndsInMode full start commands → end_state start commands ≡ state_after before_last
      (Save full)
  unfolding before_last
  last_is full at =
      let all : commands.count ≡ commands.count - 1 + 1 = omega (arith, some) in
      ap (state_before start commands) all ∙ state_goes_on start commands (commands.count - 1) (Save full) at

  held_is : (full : Bool) → EndsInMode full start commands → (end_state start commands).held ≡ (end_state start
      commands).document
  held_is full at =
      subst (λ (s : RunState). s.held ≡ s.document) (sym (last_is full at)) (saved_document full before_last)

  last_bytes : (full : Bool) → EndsInMode full start commands → IsAccepted session.bytes → IsLastSave start commands
      session.bytes
  last_bytes mode ends accepted = record {
    accepted = accepted;
    holds = subst (λ d. HoldsDocument session.bytes d) (held_is mode ends) run.at.holds;
    full = λ at. subst (λ (s : RunState). IsFileOfState s session.bytes → session.bytes ≡ full_save_image s.document)
        (sym (last_is true at)) (λ f. f.grown) run.at.file;
    fast = λ at. subst (λ (s : RunState). IsFileOfState s session.bytes → HasGrownFrom s.file (most_grown s.since)
        s.quick_saves session.bytes)
        (sym (last_is false at)) (fast_file before_last session.bytes) run.at.file;
  }

  pub last_saved : (full : Bool) → EndsInMode full start commands → (image : List ℕ) → image ≡ session.bytes →
      IsAccepted session.bytes → IsLastSave start commands image
  last_saved mode ends image same accepted =
      subst (λ bytes. IsLastSave start commands bytes) (sym same) (last_bytes mode ends accepted)

-- a script has a last save
pub script_saved : (start : RunState) (script : List Command) (session : SessionView) (policies : List Policy) →
    EndsWithSave script → IsRunTo start (listed script) (length script) session policies → (image : List ℕ) →
    image ≡ session.bytes → IsAccepted session.bytes → IsLastSave start (listed script) image
script_saved start script session policies ends run image same accepted =
    let below = slice_get_within script (length script - 1) (Save ends.full) ends.last in
    last_saved start (listed script) session policies (omega (arith, below)) run ends.full ends.last image same accepted

-- all commands are made, and memory is refused then
pub told_at_end : (start : RunState) (commands : Commands) (session : SessionView) (policies : List Policy) →
    IsRunTo start commands commands.count session policies → AreToldUpTo start commands Memory policies
told_at_end start commands session policies run =
    record { index = commands.count; within = omega arith; passed = run.passed; told = run.at.policies_are }

-- ---- a command that a source makes

pub makes_number : (commands : Commands) (i : ℕ) (command : Command) (session made : SessionView) (policies told :
    List Policy) → ((state : RunState) → IsAtState state session policies → command_at commands i state ≡ Some command)
    →
    Makes command session policies made told → MakesNumber commands i session policies made told
makes_number commands i command session made policies told there makes state at =
    record { command = command; there = there state at; makes = makes state at }

halts_too : (commands : Commands) (i : ℕ) (state : RunState) (command : Command) (fault : RunFault) →
    command_at commands i state ≡ Some command → HaltsBy i (Stops state command) fault →
    HaltsBy i (StopsCommand commands i state) fault
halts_too commands i state command Memory at halts = tt
halts_too commands i state command (Stopped j stop) at halts =
    (halts.0, record { command = command; there = at; stops = halts.1 })

pub halts_number : {T : Type 0} (commands : Commands) (i : ℕ) (command : Command) (session : SessionView)
    (policies : List Policy) (result : Result T RunFault) → ((state : RunState) → IsAtState state session policies →
    command_at commands i state ≡ Some command) → IfErr result (Halts command session policies i) →
    IfErr result (HaltsNumber commands i session policies)
halts_number commands i command session policies result there stops =
    IfErr-weaker result (Halts command session policies i) (HaltsNumber commands i session policies)
    (λ fault halts state at. halts_too commands i state command fault (there state at) (halts state at)) stops
