-- The commands of the generator: how the ledgers grow by each, and that its saves are made.
use Rattle.std.proofs.Common.{◌≡◌, refl, sym, ap, subst, ℕ, zero, suc, ◌+◌, ◌%◌, ◌^◌, ◌<◌}
use Rattle.std.proofs.Common.{◌≤◌, Bool, true, false, [], length}
use Rattle.std.proofs.Common.{arith}
use Rattle.std.specs.Prelude.{◌==◌, ◌||◌}
use Rattle.std.proofs.lemmas.Bool.{eqb-true, eqb-false}
use Rattle.doc_model.specs.declared.document.Document.{Document}
use Rattle.full_save.specs.WordDocument.{table_stream}
use Rattle.edit_script.specs.declared.commands.Command.TheVariants.{Save}
use Rattle.edit_ops.specs.EditFacts.{edit_facts}
use Rattle.script_run.specs.States.{RunState, counts_in_full, fast_sectors, state_after}
use Rattle.edit_generator.specs.Generated.{line_text, edit_of_rest}
use Rattle.script_run.specs.Ends.{Passes}
use Rattle.script_run.specs.GeneratedSaves.{sectors_within, HasGrown, IsSmallEdit}
use Rattle.edit_generator.proofs.Public.{line_short}
use Rattle.script_run.proofs.GeneratedFileLemmas.{HasSmallFile}
use Rattle.script_run.proofs.LedgerLemmas.{edit_grows, fast_grows, fast_fits}
use Rattle.edit_ops.proofs.Public.{length-inserted}

-- ---- the edits are small

insert_small : (document : Document) (edit number main : ℕ) → edit < 10 ^ 4 →
    IsSmallEdit (edit_of_rest 1 edit number main) (edit_facts document (edit_of_rest 1 edit number main)).units_in
insert_small document edit number main few =
    let put = length-inserted document.main (number % main) (line_text edit) in
    let text = line_short edit few in
    record { units = omega (arith, put, text); sections = omega arith; runs = omega arith }

edit_small : (rest : ℕ) (document : Document) (edit number main : ℕ) → edit < 10 ^ 4 →
    IsSmallEdit (edit_of_rest rest edit number main)
    (edit_facts document (edit_of_rest rest edit number main)).units_in
edit_small zero document edit number main few =
    record { units = omega arith; sections = omega arith; runs = omega arith }
edit_small (suc zero) document edit number main few = insert_small document edit number main few
edit_small (suc (suc zero)) document edit number main few = insert_small document edit number main few
edit_small (suc (suc (suc zero))) document edit number main few =
    record { units = omega arith; sections = omega arith; runs = omega arith }
edit_small (suc (suc (suc (suc more)))) document edit number main few =
    record { units = omega arith; sections = omega arith; runs = omega arith }

-- ---- the ledgers after a command

-- the ledgers and the fast saves in a row
pub record IsGrown (fast edits : ℕ) (state : RunState) : Type 0 where
  pub counts : HasGrown fast edits state.counts
  pub quick : state.quick_saves ≡ fast

pub edit_goes_on : (rest fast edits edit number main : ℕ) (state : RunState) → edit < 10 ^ 4 →
    IsGrown fast edits state → IsGrown fast (edits + 1) (state_after state (edit_of_rest rest edit number main))
edit_goes_on zero fast edits edit number main state few grown = record {
  counts = edit_grows fast edits _ state.counts (edit_of_rest 0 edit number main) grown.counts
      (edit_small 0 state.document edit number main few);
  quick = grown.quick;
}
edit_goes_on (suc zero) fast edits edit number main state few grown = record {
  counts = edit_grows fast edits _ state.counts (edit_of_rest 1 edit number main) grown.counts
      (edit_small 1 state.document edit number main few);
  quick = grown.quick;
}
edit_goes_on (suc (suc zero)) fast edits edit number main state few grown = record {
  counts = edit_grows fast edits _ state.counts (edit_of_rest 2 edit number main) grown.counts
      (edit_small 2 state.document edit number main few);
  quick = grown.quick;
}
edit_goes_on (suc (suc (suc zero))) fast edits edit number main state few grown = record {
  counts = edit_grows fast edits _ state.counts (edit_of_rest 3 edit number main) grown.counts
      (edit_small 3 state.document edit number main few);
  quick = grown.quick;
}
edit_goes_on (suc (suc (suc (suc more)))) fast edits edit number main state few grown = record {
  counts = edit_grows fast edits _ state.counts (edit_of_rest (suc (suc (suc (suc more)))) edit number main)
      grown.counts (edit_small (suc (suc (suc (suc more)))) state.document edit number main few);
  quick = grown.quick;
}

pub full_grown : (document : Document) → HasSmallFile document → HasGrown 0 0 (counts_in_full document)
unfolding counts_in_full sectors_within
full_grown document small =
    let file = small.file in
    let bins = small.bins in
    record {
      pieces = omega arith;
      sectors = omega (arith, file);
      bins = omega (arith, bins);
      units = omega arith;
      sections = omega arith;
      runs = omega arith;
    }

full_goes_on : (state : RunState) → HasSmallFile state.document → IsGrown 0 0 (state_after state (Save true))
full_goes_on state small = record { counts = full_grown state.document small; quick = refl }

fast_goes_on : (fast edits : ℕ) (state : RunState) → HasSmallFile state.document → edits ≤ 50 →
    IsGrown fast edits state → IsGrown (fast + 1) 0 (state_after state (Save false))
unfolding fast_sectors
fast_goes_on fast edits state small fifty grown = record {
  counts = fast_grows fast edits (length (table_stream state.document)) state.counts grown.counts fifty small.table;
  quick = ap (λ n. n + 1) grown.quick;
}

-- a save of the generator
pub save_goes_on : (full : Bool) (fast edits : ℕ) (state : RunState) → full ≡ (fast == 7) → fast ≤ 7 →
    HasSmallFile state.document → edits ≤ 50 → IsGrown fast edits state →
    IsGrown ((fast + 1) % 8) 0 (state_after state (Save full))
save_goes_on true fast edits state seventh few small fifty grown =
    let e = eqb-true fast 7 (sym seventh) in
    subst (λ n. IsGrown n 0 (state_after state (Save true))) (omega (arith, e)) (full_goes_on state small)
save_goes_on false fast edits state seventh few small fifty grown =
    let differs = eqb-false fast 7 (sym seventh) in
    subst (λ n. IsGrown n 0 (state_after state (Save false))) (omega (arith, differs, few))
    (fast_goes_on fast edits state small fifty grown)

pub save_passes : (full : Bool) (fast edits : ℕ) (state : RunState) → full ≡ (fast == 7) → fast ≤ 7 →
    HasSmallFile state.document → edits ≤ 50 → IsGrown fast edits state → Passes state (Save full)
unfolding fast_sectors
save_passes true fast edits state seventh few small fifty grown = let sectors = small.sectors in omega (arith, sectors)
save_passes false fast edits state seventh few small fifty grown =
    let differs = eqb-false fast 7 (sym seventh) in
    let fits = fast_fits fast edits (length (table_stream state.document)) state.counts grown.counts fifty
    small.table (omega (arith, differs, few)) in
    let quick = grown.quick in
    record {
      room = record { few = λ e. omega (arith, e, quick, few); pieces = fits.pieces };
      fits = fits.sectors;
    }

-- ---- the commands by their numbers

-- a save is behind fifty edits, but for the last one
pub save_behind : (last : Bool) (i count : ℕ) → i + 1 < count → last ≡ (i + 1 == count) → (fifty : Bool) →
    fifty || last ≡ true → fifty ≡ true
save_behind last i count more is true either = refl
save_behind true i count more is false either = let e = eqb-true (i + 1) count (sym is) in absurd
    (omega (arith, more, e))
save_behind false i count more is false either = absurd (cc (either))

pub no_save : (fifty last : Bool) → fifty || last ≡ false → fifty ≡ false
no_save true last neither = absurd (cc (neither))
no_save false last neither = refl
