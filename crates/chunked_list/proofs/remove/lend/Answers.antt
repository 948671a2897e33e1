-- An item more is lent.
use Rattle.std.proofs.Common.{◌≡◌, ◌+◌, ◌<◌, ◌++◌, ℕ, ◌∙◌, length, take, ap, sym, arith, Some}
use Rattle.std.specs.Prelude.{slice_get}
use Rattle.std.proofs.lemmas.Option.{slice_get_within, get_or_from_slice_get}
use Rattle.chunked_list.specs.Blocks.{total_units, block_at}
use Rattle.chunked_list.proofs.UnitLemmas.{units-append, units_at, units-take-le}
use Rattle.chunked_list.proofs.RemoveLemmas.{units_of_two}
use Rattle.chunked_list.proofs.FillLemmas.{lent_here, lent_next, lent_more}
use Rattle.chunked_list.proofs.remove.lend.Goals as goal

pub put-requires-clause-units : goal.put-requires-clause-units
put-requires-clause-units g c =
    let units = g.T.Measured.units in
    let b = c.args.block in
    let i = c.loop-i.i in
    let old = c.args.row.now.blocks in
    let now = c.loop-i.row.blocks in
    let next = block_at old (b + 1) in
    let grown = block_at old b ++ take i next in
    let there : b + 1 < length old = omega (arith, c.requires.next, c.requires.there) in
    let is : slice_get next i ≡ Some c.get-item.result =
    ap (λ t. slice_get t i) (sym (lent_next old now b grown c.loop-i.invariant.blocks))
    ∙ ap (λ (n : ℕ). slice_get (block_at now n) i) (sym c.requires.next)
    ∙ c.get-item.ensures in
    omega (
      arith,
      ap (total_units units) (lent_here old now b grown there c.loop-i.invariant.blocks),
      units-append units (block_at old b) (take i next),
      units_at units next i c.get-item.result is,
      units-take-le units next (i + 1),
      units_of_two units old b there,
      c.requires.units,
    )

pub loop-i-preserved : goal.loop-i-preserved
loop-i-preserved g c =
    let b = c.args.block in
    let i = c.loop-i.i in
    let old = c.args.row.now.blocks in
    let now = c.loop-i.row.blocks in
    let next = block_at old (b + 1) in
    let grown = block_at old b ++ take i next in
    let item = c.get-item.result in
    let there : b + 1 < length old = omega (arith, c.requires.next, c.requires.there) in
    let is : slice_get next i ≡ Some item =
    ap (λ t. slice_get t i) (sym (lent_next old now b grown c.loop-i.invariant.blocks))
    ∙ ap (λ (n : ℕ). slice_get (block_at now n) i) (sym c.requires.next)
    ∙ c.get-item.ensures in
    record {
      blocks = lent_more old now c.put.new.self.blocks b i c.len-end.result item there c.loop-i.invariant.blocks
          c.len-end.ensures.value (get_or_from_slice_get next i item item is) (slice_get_within next i item is)
          c.put.ensures.blocks;
      spare = c.put.ensures.spare ∙ c.loop-i.invariant.spare;
    }
