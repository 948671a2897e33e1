-- An item is put for each place of the run.
use Rattle.std.proofs.Common.{◌≡◌, ◌∙◌, ◌+◌, ◌<◌, ◌≤◌, ℕ, List, [], ◌∷◌, Some, length, get_or, sym, ap, subst, arith}
use Rattle.std.proofs.Common.{length-append}
use Rattle.std.specs.Prelude.{slice_get}
use Rattle.std.proofs.lemmas.Option.{slice_get-get_or}
use Rattle.prop_map.specs.Settings.{Properties}
use Rattle.run_lists.specs.Spread.{expanded}
use Rattle.run_lists.proofs.Public.{length-spread}
use Rattle.doc_model.specs.Document.{HasPropertyMaps}
use Rattle.doc_columns.specs.declared.attached.Attached.{Attached}
use Rattle.doc_columns.specs.Columns.{item_of}
use Rattle.doc_columns.proofs.CollectLemmas.{one_put}
use Rattle.doc_columns.proofs.collect.push_run.Goals as goal

pub add-requires-clause-maps : goal.add-requires-clause-maps
add-requires-clause-maps c =
    let units : List ℕ = c.args.parts.now.units.now in
    let at : ℕ = c.loop-at.at in
    let unit : ℕ = get_or units at 0 in
    let chp : Properties = c.in_ok-chp.chp in
    let from : c.args.place ≤ at = c.loop-at.auto.at in
    let until : at < c.args.place + c.args.run.now.count = c.loop-at-test.true in
    let unit_there : slice_get units at ≡ Some unit =
    slice_get-get_or units at 0 (omega (arith, until, c.requires.within)) in
    let chp_there : slice_get (expanded c.args.parts.now.chps.now) at ≡ Some chp =
    c.seek.ensures.value ∙ ap (λ (x : Properties). Some x) (sym c.in_ok-chp.ensures) in
    subst HasPropertyMaps
    (sym (c.item_with.ensures ∙ ap (λ (b : Attached). item_of unit chp b) c.in_ok-attached.ensures))
    (c.requires.maps at unit chp from until unit_there chp_there)

pub loop-at-preserved : goal.loop-at-preserved
loop-at-preserved c =
    let units : List ℕ = c.args.parts.now.units.now in
    let chps : List Properties = expanded c.args.parts.now.chps.now in
    let at : ℕ = c.loop-at.at in
    let unit : ℕ = get_or units at 0 in
    let chp : Properties = c.in_ok-chp.chp in
    let from : c.args.place ≤ at = c.loop-at.auto.at in
    let until : at < c.args.place + c.args.run.now.count = c.loop-at-test.true in
    let unit_there : slice_get units at ≡ Some unit =
    slice_get-get_or units at 0 (omega (arith, until, c.requires.within)) in
    let chp_there : slice_get chps at ≡ Some chp =
    c.seek.ensures.value ∙ ap (λ (x : Properties). Some x) (sym c.in_ok-chp.ensures) in
    record {
      at = c.seek.ensures.at;
      ahead = omega (arith, c.seek.ensures.ahead);
      items =
          one_put units chps c.args.place at unit chp c.args.run.now.value c.args.items.now c.loop-at.items
          c.add.new.self
          c.item_with.result from (length-spread c.args.parts.now.chps.now ∙ c.requires.long) unit_there chp_there
          c.loop-at.invariant.items c.in_ok-add.ensures.ok
          (c.item_with.ensures ∙ ap (λ (b : Attached). item_of unit chp b) c.in_ok-attached.ensures);
      long =
          omega (
            arith,
            ap length c.in_ok-add.ensures.ok,
            length-append c.loop-at.items (c.item_with.result ∷ []),
            c.loop-at.invariant.long,
            from,
          );
    }
