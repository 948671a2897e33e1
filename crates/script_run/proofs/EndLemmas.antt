-- One command more, and where runs end.
use Rattle.std.proofs.Common.{◌≡◌, ◌∙◌, ◌⊎◌, inl, inr, refl, sym, ap, subst, ℕ, suc, ◌+◌, ◌<◌, Bool, true, false}
use Rattle.std.proofs.Common.{Option, Some, None, arith}
use Rattle.std.proofs.lemmas.Bool.{cases_order}
use Rattle.edit_script.specs.declared.commands.Command.{Command}
use Rattle.edit_ops.specs.EditFacts.{edit_facts}
use Rattle.edit_ops.proofs.Public.{one_outcome}
use Rattle.script_run.specs.declared.faults.Stop.{Stop}
use Rattle.script_run.specs.declared.faults.Stop.TheVariants.{Refused, Guarded, Sixteenth, TooManyPieces, TooLarge}
use Rattle.script_run.specs.States.{RunState, state_after}
use Rattle.script_run.specs.Saves.{save_mode}
use Rattle.script_run.specs.Commands.{Commands, command_at, state_on, state_before}
use Rattle.script_run.specs.Ends.{StopsEdit, StopsFullSave, StopsFastSave, StopsBy, PassesBy, Passes, Stops, PassesAt}
use Rattle.script_run.specs.Ends.{PassesUpTo, StopsAt, IsAcceptedRun}
use Rattle.script_run.specs.Laws.{ScriptEndsOnce}
use Rattle.script_run.proofs.RefuserLemmas.{one_refuser, no_refuser}

-- ---- one command more

before_next : (start : RunState) (commands : Commands) (i : ℕ) → state_before start commands (suc i) ≡ state_on
    (state_before start commands i) (command_at commands i (state_before start commands i))
unfolding state_before
before_next start commands i = refl

pub state_goes_on : (start : RunState) (commands : Commands) (i : ℕ) (command : Command) → command_at commands i
    (state_before start commands i) ≡ Some command → state_before start commands (i + 1) ≡ state_after (state_before
    start commands i) command
state_goes_on start commands i command at =
    let next : i + 1 ≡ suc i = omega arith in
    ap (state_before start commands) next
    ∙ (before_next start commands i ∙ ap (state_on (state_before start commands i)) at)

pub some_one : (one other : Command) → ◌≡◌ {A = Option Command} (Some one) (Some other) → one ≡ other
some_one one other e = cc (e)

passes_at : (start : RunState) (commands : Commands) (i k : ℕ) → k < i + 1 → PassesUpTo start commands i →
    PassesAt start commands i → (i ≡ k) ⊎ ((i < k) ⊎ (k < i)) → PassesAt start commands k
passes_at start commands i k below up passes (inl same) = subst (λ n. PassesAt start commands n) same passes
passes_at start commands i k below up passes (inr (inl above)) = absurd (omega (arith, below, above))
passes_at start commands i k below up passes (inr (inr before)) = up k before

pub passing_goes_on : (start : RunState) (commands : Commands) (i : ℕ) → PassesUpTo start commands i →
    PassesAt start commands i → PassesUpTo start commands (i + 1)
passing_goes_on start commands i up passes k below = passes_at start commands i k below up passes (cases_order i k)

-- ---- a run ends once

never_both : (mode : Option Bool) (state : RunState) (command : Command) (stop : Stop) → PassesBy mode state command →
    StopsBy mode state command stop → ⊥
never_both None state command (Refused fault) passes stops =
    one_outcome.none state.document command fault stops.0 passes.accepted stops.1
never_both None state command (Guarded guard) passes stops =
    no_refuser state.policies (edit_facts state.document command) guard passes.granted stops.refuser
never_both None state command (Sixteenth count) passes stops = stops
never_both None state command (TooManyPieces pieces) passes stops = stops
never_both None state command (TooLarge sectors) passes stops = stops
never_both (Some true) state command (Refused fault) passes stops = stops
never_both (Some true) state command (Guarded guard) passes stops = stops
never_both (Some true) state command (Sixteenth count) passes stops = stops
never_both (Some true) state command (TooManyPieces pieces) passes stops = stops
never_both (Some true) state command (TooLarge sectors) passes stops = let above = stops.0 in
    omega (arith, passes, above)
never_both (Some false) state command (Refused fault) passes stops = stops
never_both (Some false) state command (Guarded guard) passes stops = stops
never_both (Some false) state command (Sixteenth count) passes stops = passes.room.few stops.0
never_both (Some false) state command (TooManyPieces pieces) passes stops =
    let room = passes.room.pieces in let many = stops.1.0 in omega (arith, room, many)
never_both (Some false) state command (TooLarge sectors) passes stops =
    let fits = passes.fits in let above = stops.1.0 in omega (arith, fits, above)

one_edit_stop : (state : RunState) (command : Command) (stop other : Stop) → StopsEdit state command stop →
    StopsEdit state command other → stop ≡ other
one_edit_stop state command (Refused fault) (Refused again) s t =
    ap Refused (one_outcome.one state.document command fault again s.0 t.0 s.1 t.1)
one_edit_stop state command (Refused fault) (Guarded guard) s t =
    absurd (one_outcome.none state.document command fault s.0 t.accepted s.1)
one_edit_stop state command (Refused fault) other s t = absurd t
one_edit_stop state command (Guarded guard) (Guarded again) s t =
    ap Guarded (one_refuser state.policies (edit_facts state.document command) guard again s.refuser t.refuser)
one_edit_stop state command (Guarded guard) (Refused fault) s t =
    absurd (one_outcome.none state.document command fault t.0 s.accepted t.1)
one_edit_stop state command (Guarded guard) other s t = absurd t
one_edit_stop state command stop other s t = absurd s

one_full_stop : (state : RunState) (stop other : Stop) → StopsFullSave state stop → StopsFullSave state other →
    stop ≡ other
one_full_stop state (TooLarge sectors) (TooLarge again) s t = ap TooLarge (s.1 ∙ sym t.1)
one_full_stop state (TooLarge sectors) other s t = absurd t
one_full_stop state stop other s t = absurd s

one_fast_stop : (state : RunState) (stop other : Stop) → StopsFastSave state stop → StopsFastSave state other →
    stop ≡ other
one_fast_stop state (Sixteenth count) (Sixteenth again) s t = ap Sixteenth (s.1 ∙ sym t.1)
one_fast_stop state (Sixteenth count) (TooManyPieces pieces) s t = absurd (t.0 s.0)
one_fast_stop state (Sixteenth count) (TooLarge sectors) s t = absurd (t.0.few s.0)
one_fast_stop state (Sixteenth count) other s t = absurd t
one_fast_stop state (TooManyPieces pieces) (Sixteenth count) s t = absurd (s.0 t.0)
one_fast_stop state (TooManyPieces pieces) (TooManyPieces again) s t = ap TooManyPieces (s.1.1 ∙ sym t.1.1)
one_fast_stop state (TooManyPieces pieces) (TooLarge sectors) s t =
    let many = s.1.0 in let room = t.0.pieces in absurd (omega (arith, many, room))
one_fast_stop state (TooManyPieces pieces) other s t = absurd t
one_fast_stop state (TooLarge sectors) (Sixteenth count) s t = absurd (s.0.few t.0)
one_fast_stop state (TooLarge sectors) (TooManyPieces pieces) s t =
    let many = t.1.0 in let room = s.0.pieces in absurd (omega (arith, many, room))
one_fast_stop state (TooLarge sectors) (TooLarge again) s t = ap TooLarge (s.1.1 ∙ sym t.1.1)
one_fast_stop state (TooLarge sectors) other s t = absurd t
one_fast_stop state stop other s t = absurd s

one_stop : (mode : Option Bool) (state : RunState) (command : Command) (stop other : Stop) → StopsBy mode state
    command stop → StopsBy mode state command other → stop ≡ other
one_stop None state command stop other s t = one_edit_stop state command stop other s t
one_stop (Some true) state command stop other s t = one_full_stop state stop other s t
one_stop (Some false) state command stop other s t = one_fast_stop state stop other s t

-- a command that passes is no end
not_passed : (start : RunState) (commands : Commands) (i count : ℕ) (stop : Stop) → i < count → PassesUpTo start
    commands count → StopsAt start commands i stop → ⊥
not_passed start commands i count stop below up s =
    let state = state_before start commands i in
    let p = up i below in
    let e : p.command ≡ s.command = some_one p.command s.command (sym p.there ∙ s.there) in
    never_both (save_mode s.command) state s.command stop (subst (λ c. Passes state c) e p.passes) s.stops

none_accepted : (start : RunState) (commands : Commands) (i : ℕ) (stop : Stop) → IsAcceptedRun start commands →
    ¬ (StopsAt start commands i stop)
none_accepted start commands i stop accepted s = not_passed start commands i commands.count stop s.within accepted s

one_place : (start : RunState) (commands : Commands) (i j : ℕ) (stop other : Stop) → StopsAt start commands i stop →
    StopsAt start commands j other → (i ≡ j) ⊎ ((i < j) ⊎ (j < i)) → i ≡ j
one_place start commands i j stop other s t (inl same) = same
one_place start commands i j stop other s t (inr (inl below)) = absurd (not_passed start commands i j stop below
    t.before s)
one_place start commands i j stop other s t (inr (inr below)) = absurd (not_passed start commands j i other below
    s.before t)

one_index : (start : RunState) (commands : Commands) (i j : ℕ) (stop other : Stop) → StopsAt start commands i stop →
    StopsAt start commands j other → i ≡ j
one_index start commands i j stop other s t = one_place start commands i j stop other s t (cases_order i j)

same_place : (start : RunState) (commands : Commands) (i : ℕ) (stop other : Stop) → StopsAt start commands i stop →
    StopsAt start commands i other → stop ≡ other
same_place start commands i stop other s t =
    let state = state_before start commands i in
    let e : t.command ≡ s.command = some_one t.command s.command (sym t.there ∙ s.there) in
    one_stop (save_mode s.command) state s.command stop other s.stops (subst (λ c. Stops state c other) e t.stops)

one_cause : (start : RunState) (commands : Commands) (i j : ℕ) (stop other : Stop) → StopsAt start commands i stop →
    StopsAt start commands j other → stop ≡ other
one_cause start commands i j stop other s t =
    same_place start commands i stop other s (subst (λ k. StopsAt start commands k other)
    (sym (one_index start commands i j stop other s t)) t)

pub ends_once : ScriptEndsOnce
ends_once = record { index = one_index; cause = one_cause; none = none_accepted }
