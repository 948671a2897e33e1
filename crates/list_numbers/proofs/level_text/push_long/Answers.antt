use Rattle.std.proofs.Common.{◌≡◌, ◌++◌, ◌-◌, ℕ, List, length, take, drop, subst}
use Rattle.std.specs.List.{flat_map}
use Rattle.std.proofs.lemmas.List.{take_rest}
use Rattle.doc_bits.proofs.Public.{part_within}
use Rattle.list_numbers.proofs.PlacedLemmas.{placed_more}
use Rattle.list_numbers.proofs.level_text.push_long.Goals as goal

pub loop-done-preserved : goal.loop-done-preserved
loop-done-preserved c =
    let text = c.args.text.now in
    let done = c.loop-done.done in
    let count : ℕ = c.in_ok-done.field-0 in
    let old = c.loop-done.units in
    let new = c.push_front.new.units in
    record {
      within = part_within text done count c.loop-done.invariant.within c.in_ok-done.ensures.within;
      units = λ represented is own.
          placed_more represented text c.args.units.now old new done count
          (c.loop-done.invariant.units represented is own)
          (subst (λ (rest : List ℕ). new ≡ old ++ flat_map represented (take count rest)) (take_rest text done)
          (c.in_ok-done.ensures.units represented is own));
    }
