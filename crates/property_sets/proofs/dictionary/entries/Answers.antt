use Rattle.std.proofs.Common.{◌≡◌, ◌∙◌, suc, ◌-◌, sym, arith}
use Rattle.property_sets.specs.Names.{names_at}
use Rattle.property_sets.proofs.WalkLemmas.{names_cut, names_end, names_step}
use Rattle.property_sets.proofs.dictionary.entries.Goals.{then-loop-left-test+else-has_entry, else-loop-left-test}
use Rattle.property_sets.proofs.dictionary.entries.Goals as goal

pub loop-left-preserved : goal.loop-left-preserved
loop-left-preserved c =
    let set = c.args.set.now in
    let wide = c.args.wide in
    let left = c.loop-left.left in
    let fewer : left ≡ suc (left - 1) = omega (arith, c.loop-left-test.true) in
    rw (c.in_ok-keep.ensures)
    (names_step (names_at set wide c.args.count c.args.from) c.loop-left.found.items set wide left (left - 1)
    c.loop-left.at c.next_entry-at.result c.in_ok-name.name fewer
    (sym c.has_entry.ensures ∙ c.if-has_entry.true) c.in_ok-name.ensures c.next_entry-at.ensures
    c.loop-left.invariant)

pub returns : goal.returns
returns c =
    let set = c.args.set.now in
    let wide = c.args.wide in
    let all = names_at set wide c.args.count c.args.from in
    elim c.loop-left-test.branch [
      | then-loop-left-test+else-has_entry w ↦
          names_cut all c.loop-left.found.items set wide c.loop-left.left c.loop-left.at
          (sym w.has_entry.ensures ∙ w.if-has_entry.false) c.loop-left.invariant
      | else-loop-left-test w ↦
          names_end all c.loop-left.found.items set wide c.loop-left.left c.loop-left.at
          (omega (arith, w.loop-left-test.false)) c.loop-left.invariant
    ]
