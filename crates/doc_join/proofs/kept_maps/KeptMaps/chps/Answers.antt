use Rattle.std.proofs.Common.{◌∙◌, ◌≡◌, ◌++◌, length, map, take, sym, ap, refl, arith, List}
use Rattle.std.specs.Prelude.{slice_get, Some, replicate}
use Rattle.std.proofs.lemmas.List.{take_all}
use Rattle.std.proofs.lemmas.Option.{slice_get_read}
use Rattle.prop_map.specs.Formed.{IsPropertyMap, character_groups}
use Rattle.prop_map.specs.Settings.{Properties}
use Rattle.run_lists.specs.Spread.{expanded}
use Rattle.run_lists.proofs.Public.{All-runs, spread-nil}
use Rattle.doc_join.specs.declared.renumbering.Renumbering.{Renumbering}
use Rattle.doc_join.specs.Settings.{renumbered_chp}
use Rattle.doc_join.proofs.ColumnLemmas.{runs_more, run_fits}
use Rattle.doc_join.proofs.kept_maps.KeptMaps.chps.Goals as goal

pub loop-run-init : goal.loop-run-init
loop-run-init c = record {
  made = c.new-made.ensures ∙ ap (map (renumbered_chp c.args.self.now.numbers)) (sym (spread-nil Properties));
  numbers = refl;
}

pub add_chps-requires-clause-few : goal.add_chps-requires-clause-few
add_chps-requires-clause-few c =
    let runs = c.args.runs.now in
    run_fits (renumbered_chp c.args.self.now.numbers) runs c.loop-run.run-index c.run-item.result c.loop-run.made
    (omega arith) c.run-item.is c.requires.few c.loop-run.invariant.made

pub add_chps-requires-clause-map : goal.add_chps-requires-clause-map
add_chps-requires-clause-map c = λ some.
    let runs = c.args.runs.now in
    let run = c.run-item.result in
    let is : slice_get runs c.loop-run.run-index ≡ Some run =
    slice_get_read runs (length runs) c.loop-run.run-index run refl (omega arith) c.run-item.is in
    All-runs (IsPropertyMap character_groups) runs c.requires.maps c.loop-run.run-index run is some

pub loop-run-preserved : goal.loop-run-preserved
loop-run-preserved c =
    let runs = c.args.runs.now in
    let run = c.run-item.result in
    let numbers = c.args.self.now.numbers in
    let same = c.loop-run.invariant.numbers in
    record {
      made =
          c.in_ok-add_chps.ensures.made
          ∙ (ap (λ (front : List Properties). front ++ replicate run.count (renumbered_chp c.loop-run.self.numbers
          run.value))
          c.loop-run.invariant.made
          ∙ (ap (λ (n : Renumbering).
          map (renumbered_chp numbers) (expanded (take c.loop-run.run-index runs)) ++ replicate run.count
          (renumbered_chp n run.value))
          same
          ∙ runs_more (renumbered_chp numbers) runs c.loop-run.run-index run (omega arith) c.run-item.is));
      numbers = c.in_ok-add_chps.ensures.numbers ∙ same;
    }

pub returns-clause-made : goal.returns-clause-made
returns-clause-made c =
    let runs = c.args.runs.now in
    c.loop-run.invariant.made
    ∙ ap (λ front. map (renumbered_chp c.args.self.now.numbers) (expanded front))
    (take_all c.loop-run.run-index runs (omega arith))
