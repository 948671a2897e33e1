-- The item is that of the columns.
use Rattle.std.proofs.Common.{◌≡◌, ◌∙◌, ◌<◌, ℕ, List, Some, get_or, sym, ap, arith}
use Rattle.std.specs.Prelude.{slice_get}
use Rattle.std.proofs.lemmas.Option.{slice_get-get_or}
use Rattle.prop_map.specs.Settings.{Properties}
use Rattle.run_lists.specs.Spread.{expanded}
use Rattle.doc_model.specs.declared.item.Item.{Item}
use Rattle.doc_columns.specs.declared.attached.Attached.{Attached}
use Rattle.doc_columns.specs.Columns.{item_of}
use Rattle.doc_columns.proofs.JudgeLemmas.{units_long, chps_long, made_there}
use Rattle.doc_columns.proofs.judge.made_item.Goals as goal

pub seek-requires-clause-within : goal.seek-requires-clause-within
seek-requires-clause-within c =
    omega (arith, c.requires.until, c.requires.run.within, chps_long c.args.judged.now c.requires.judged)

pub returns-clause-item : goal.returns-clause-item
returns-clause-item c =
    let judged = c.args.judged.now in
    let units : List ℕ = judged.units.now in
    let at : ℕ = c.args.at in
    let unit : ℕ = get_or units at 0 in
    let chp : Properties = c.in_ok-chp.chp in
    let long = units_long judged c.requires.judged in
    let unit_there : slice_get units at ≡ Some unit =
    slice_get-get_or units at 0 (omega (arith, c.requires.until, c.requires.run.within, long)) in
    let chp_there : slice_get (expanded judged.chps.now) at ≡ Some chp =
    c.seek.ensures.value ∙ ap (λ (x : Properties). Some x) (sym c.in_ok-chp.ensures) in
    let there = made_there judged c.args.place at c.args.run.now unit chp c.requires.judged c.requires.run
    c.requires.from c.requires.until unit_there chp_there in
    let is : c.item_with.result ≡ item_of unit chp c.args.run.now.value =
    c.item_with.ensures ∙ ap (λ (b : Attached). item_of unit chp b) c.in_ok-attached.ensures in
    there ∙ ap (λ (x : Item). Some x) (sym is)
