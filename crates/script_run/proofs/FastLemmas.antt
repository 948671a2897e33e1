-- A fast save that is made on a session, whatever has been so far, and one that is refused.
use Rattle.std.proofs.Common.{◌≡◌, ◌≢◌, ◌∙◌, refl, sym, ap, subst, ℕ, suc, ◌+◌, ◌<◌, ◌≤◌, List, length, false, Some}
use Rattle.std.proofs.Common.{arith}
use Rattle.std.specs.Prelude.{Result, IfErr}
use Rattle.std.proofs.lemmas.Result.{IfErr-weaker}
use Rattle.cfb_layout.specs.Counts.{most_sectors}
use Rattle.edit_guards.specs.Policies.{Policy}
use Rattle.doc_model.specs.declared.document.Document.{Document}
use Rattle.full_save.specs.WordDocument.{table_stream}
use Rattle.doc_read.specs.Holds.{HoldsDocument}
use Rattle.edit_script.specs.declared.commands.Command.{Command}
use Rattle.fast_save.specs.declared.ledgers.Counts.{Counts}
use Rattle.fast_save.specs.Ledgers.{after_fast, sector_bound}
use Rattle.fast_save.specs.Session.{SessionView}
use Rattle.fast_save.specs.Edited.{bytes_added}
use Rattle.fast_save.specs.declared.fast.FastFault.{FastFault}
use Rattle.fast_save.specs.declared.fast.FastFault.TheVariants.{Sixteenth as FastSixteenth}
use Rattle.fast_save.specs.declared.fast.FastFault.TheVariants.{TooManyPieces as FastPieces, TooLarge as FastLarge}
use Rattle.fast_save.specs.Fast.{IsFastFault, IsSavedFast}
use Rattle.script_run.specs.declared.faults.RunFault.{RunFault}
use Rattle.script_run.specs.declared.faults.RunFault.TheVariants.{Stopped, Memory}
use Rattle.script_run.specs.declared.faults.Stop.TheVariants.{Sixteenth, TooManyPieces, TooLarge}
use Rattle.script_run.specs.States.{RunState, fast_sectors, saved_fast, state_by}
use Rattle.script_run.specs.Saves.{save_mode}
use Rattle.script_run.specs.Files.{HasGrownFrom, HasGrownBySaves, IsFileOfState}
use Rattle.script_run.specs.Ends.{StopsBy, Stops, StopsFastSave, PassesBy, HaltsBy}
use Rattle.script_run.specs.Steps.{IsAtState, Makes, Halts, HaltsFast, IsCountedAs}
use Rattle.script_run.proofs.GrownLemmas.{next_grown}

-- the sectors that are reckoned, by the session
abbrev sectors_in : Counts → Document → ℕ
sectors_in counts document = sector_bound counts (length (table_stream document))

sectors_at : (state : RunState) (session : SessionView) (policies : List Policy) → IsAtState state session policies →
    sectors_in session.counts session.document ≡ fast_sectors state
unfolding fast_sectors
sectors_at state session policies at =
    let documents = at.document in
    let counts = at.counts in
    λ j. sectors_in (counts j) (documents j)

-- the file has grown from the one before
step_grown : (session made : SessionView) → IsSavedFast session made → HasGrownFrom session.bytes (2048 + bytes_added
    session.counts) made.quick_saves made.bytes
step_grown session made save =
    let grown = save.behind.grown in
    record {
      old = save.before.text.wd;
      was = record { parts = save.before; has = save.has_before; is = refl };
      new = save.holds.parts.text.wd;
      is = record { parts = save.holds.parts; has = save.holds.has_parts; is = refl };
      kept = save.behind.keeps;
      grown = omega (arith, grown);
      count = save.count ∙ sym save.quick_saves;
      complex = save.behind.complex;
      in_place = save.in_place;
    }

file_saved : (state : RunState) (session made : SessionView) (policies : List Policy) → IsAtState state session policies
    →
    IsSavedFast session made → IsFileOfState (saved_fast state) made.bytes
file_saved state session made policies at save =
    let file = at.file in
    let within = file.within in
    let was = ap bytes_added at.counts in
    let count : made.quick_saves ≡ state.quick_saves + 1 = save.quick_saves ∙ ap (λ n. n + 1) at.quick_saves in
    let fast : suc state.since.fast_saves ≡ state.since.fast_saves + 1 = omega arith in
    let most = file.most + (2048 + bytes_added session.counts) in
    let grown : HasGrownBySaves (suc state.since.fast_saves) state.file most made.quick_saves made.bytes =
    next_grown state.since.fast_saves state.file session.bytes made.bytes file.most (2048 + bytes_added session.counts)
    state.quick_saves made.quick_saves file.grown (step_grown session made save) in
    record {
      most = most;
      within = omega (arith, within, was);
      grown = subst (λ n. HasGrownBySaves n state.file most (state.quick_saves + 1) made.bytes) fast
          (subst (λ q. HasGrownBySaves (suc state.since.fast_saves) state.file most q made.bytes) count grown);
    }

fast_at : (state : RunState) (session made : SessionView) (policies : List Policy) → IsAtState state session policies →
    IsSavedFast session made → IsAtState (saved_fast state) made policies
fast_at state session made policies at save =
    let sectors = sectors_at state session policies at in
    let counts = at.counts in
    record {
      document = save.document ∙ at.document;
      counts = save.counts ∙ (λ j. after_fast (sectors j) (counts j));
      quick_saves = save.quick_saves ∙ ap (λ n. n + 1) at.quick_saves;
      policies_are = at.policies_are;
      holds = subst (λ d. HoldsDocument made.bytes d) at.document save.holds;
      file = file_saved state session made policies at save;
    }

pub fast_made : (command : Command) (session made : SessionView) (policies : List Policy) → save_mode command ≡ Some
    false → IsSavedFast session made → Makes command session policies made policies
fast_made command session made policies mode save state at =
    let judged = save.judged in
    let saves = judged.saves in
    let quick = at.quick_saves in
    let pieces = judged.pieces in
    let pieces_are = ap (λ (c : Counts). c.pieces) at.counts in
    record {
      passes = subst (λ m. PassesBy m state command) (sym mode) (record {
        room = record { few = λ same. omega (arith, same, saves, quick); pieces = omega (arith, pieces, pieces_are) };
        fits = subst (λ n. n ≤ most_sectors) (sectors_at state session policies at) judged.sectors;
      });
      leaves = subst (λ m. IsAtState (state_by m state command) made policies) (sym mode) (fast_at state session made
          policies at save);
    }

by_fast : (command : Command) (state : RunState) (index : ℕ) (fault : RunFault) → save_mode command ≡ Some false →
    HaltsBy index (StopsFastSave state) fault → HaltsBy index (Stops state command) fault
by_fast command state index Memory mode halts = tt
by_fast command state index (Stopped at stop) mode halts =
    (halts.0, subst (λ m. StopsBy m state command stop) (sym mode) halts.1)

fast_refused : (command : Command) (session : SessionView) (policies : List Policy) (index : ℕ) (fault : RunFault) →
    save_mode command ≡ Some false → HaltsFast session index fault → Halts command session policies index fault
fast_refused command session policies index fault mode halts state at =
    by_fast command state index fault mode
    (halts state (record {
      quick_saves = sym at.quick_saves;
      counts = sym at.counts;
      sectors = sym (sectors_at state session policies at);
    }))

pub fast_halts : {T : Type 0} (command : Command) (session : SessionView) (policies : List Policy) (index : ℕ)
    (result : Result T RunFault) → save_mode command ≡ Some false → IfErr result (HaltsFast session index) →
    IfErr result (Halts command session policies index)
fast_halts command session policies index result mode halts =
    IfErr-weaker result (HaltsFast session index) (Halts command session policies index)
    (λ fault. fast_refused command session policies index fault mode) halts

-- ---- how it is refused

-- a fault of the session refuses it
abbrev pub RefusesFast : SessionView → FastFault → Type 0
RefusesFast session fault = IsFastFault session.quick_saves session.counts (length (table_stream session.document))
    fault

pub sixteenth_stops : (session : SessionView) (index count : ℕ) → RefusesFast session (FastSixteenth count) →
    (state : RunState) → IsCountedAs session state → HaltsBy index (StopsFastSave state) (Stopped index
    (Sixteenth count))
sixteenth_stops session index count refuses state is =
    let fifteen : state.quick_saves ≡ 15 = is.quick_saves ∙ refuses.0 in
    (refl, (fifteen, refuses.1 ∙ sym fifteen))

-- fewer fast saves in a row
not_fifteen : (session : SessionView) (state : RunState) → IsCountedAs session state → session.quick_saves < 15 →
    state.quick_saves ≢ 15
not_fifteen session state is few same = let count = is.quick_saves in omega (arith, count, few, same)

pub pieces_stop : (session : SessionView) (index pieces : ℕ) → RefusesFast session (FastPieces pieces) →
    (state : RunState) → IsCountedAs session state → HaltsBy index (StopsFastSave state) (Stopped index (TooManyPieces
    pieces))
pieces_stop session index pieces refuses state is =
    let count = ap (λ (c : Counts). c.pieces) is.counts in
    let many = refuses.many in
    let number = refuses.number in
    (refl, (not_fifteen session state is refuses.saves, (omega (arith, count, many), omega (arith, number, count))))

pub sectors_stop : (session : SessionView) (index sectors : ℕ) → RefusesFast session (FastLarge sectors) →
    (state : RunState) → IsCountedAs session state → HaltsBy index (StopsFastSave state) (Stopped index
    (TooLarge sectors))
sectors_stop session index sectors refuses state is =
    let count = ap (λ (c : Counts). c.pieces) is.counts in
    let few = refuses.few in
    let number : sectors ≡ fast_sectors state = refuses.number ∙ sym is.sectors in (
      refl,
      (
        record { few = not_fifteen session state is refuses.saves; pieces = omega (arith, count, few) },
        (subst (λ n. most_sectors < n) number refuses.many, number),
      ),
    )
