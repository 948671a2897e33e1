use Rattle.std.proofs.Common.{◌≡◌, ◌<◌, ◌∙◌, length, get_or, Some, refl, sym, subst, below_more, arith}
use Rattle.std.specs.Prelude.{slice_get}
use Rattle.std.proofs.lemmas.List.{get_or_default}
use Rattle.std.proofs.lemmas.Option.{slice_get_within, slice_get_read, get_or_from_slice_get}
use Rattle.prop_map.specs.Settings.{Properties}
use Rattle.prop_map.specs.Formed.{IsPropertyMap, character_groups}
use Rattle.run_lists.specs.declared.runs.Run.{Run}
use Rattle.run_lists.proofs.Public.{All-runs, All-spread}
use Rattle.plain_doc.specs.RulesOfItems.{IsShortChp}
use Rattle.doc_columns.proofs.judge.are_short.Goals as goal

pub is_short_run-requires : goal.is_short_run-requires
is_short_run-requires c = λ some.
    let chps = c.args.chps.now in
    let run = c.run-item.result in
    let is : slice_get chps c.loop-run.run-index ≡ Some run =
    slice_get_read chps (length chps) c.loop-run.run-index run refl (omega arith) c.run-item.is in
    All-runs (IsPropertyMap character_groups) chps c.requires c.loop-run.run-index run is some

pub loop-run-preserved : goal.loop-run-preserved
loop-run-preserved c d =
    let chps = c.args.chps.now in
    below_more (λ k. 0 < (get_or chps k d).count → IsShortChp (get_or chps k d).value) c.loop-run.run-index
    (c.loop-run.invariant d)
    (subst (λ (run : Run Properties). 0 < run.count → IsShortChp run.value)
    (c.run-item.is ∙ get_or_default chps c.loop-run.run-index c.run-item.result d (omega arith))
    (c.if-not-is_short_run.ensures refl))

pub returns : goal.returns
returns c = λ _.
    let chps = c.args.chps.now in
    All-spread IsShortChp chps (λ k run is some.
    let here : get_or chps k run ≡ run = get_or_from_slice_get chps k run run is in
    let within : k < length chps = slice_get_within chps k run is in
    subst (λ (one : Run Properties). IsShortChp one.value) here
    (c.loop-run.invariant run k (omega (arith, within))
    (subst (λ (one : Run Properties). 0 < one.count) (sym here) some)))
