-- Items go, and what became short is filled.
use Rattle.std.proofs.Common.{◌≡◌, ◌+◌, ◌-◌, ◌≤◌, ℕ, ◌∙◌, [], length, ap, subst, arith}
use Rattle.std.specs.List.{splice}
use Rattle.chunked_list.specs.Blocks.{joined, total_units, number_of, MeasuredList, AreSizedBut}
use Rattle.chunked_list.proofs.JoinLemmas.{some_blocks}
use Rattle.chunked_list.proofs.SizeLemmas.{sized_fewer}
use Rattle.chunked_list.proofs.ShortLemmas.{sized_but, but_none}
use Rattle.chunked_list.proofs.RemoveLemmas.{units-cut-le, cut_in_blocks}
use Rattle.chunked_list.proofs.list.BlockList.remove.Goals as goal

pub place-place-requires-clause-some : goal.place-place-requires-clause-some
place-place-requires-clause-some g c =
    let all = ap (λ (l : MeasuredList g.row.T.Denot). length l.items) c.self.view_is in
    some_blocks c.self.inside.row.blocks (omega (
      arith,
      all,
      c.requires.order,
      c.requires.within,
      c.if-first-last.false,
    ))

pub mend-requires : goal.mend-requires
mend-requires g c =
    let units = g.T.Measured.units in
    let blocks = c.self.inside.row.blocks in
    let n = number_of blocks c.place-place.result in
    let count = c.args.last - c.args.first in
    omega (
      arith,
      ap (total_units units) c.erase.ensures.items,
      units-cut-le units (joined blocks) n (n + count) (omega arith),
      c.self.invariant.total,
    )

pub mend-requires-2 : goal.mend-requires-2
mend-requires-2 g c =
    let units = g.T.Measured.units in
    let blocks = c.self.inside.row.blocks in
    let n = number_of blocks c.place-place.result in
    let count = c.args.last - c.args.first in
    omega (
      arith,
      ap (total_units units) c.mend.ensures.same,
      ap (total_units units) c.erase.ensures.items,
      units-cut-le units (joined blocks) n (n + count) (omega arith),
      c.self.invariant.total,
    )

pub invariant_of-self : goal.invariant_of-self
invariant_of-self g c =
    let units = g.T.Measured.units in
    let row = c.self.inside.row in
    let blocks = row.blocks in
    let full = c.self.inside.full in
    let fewer = c.min-self-inside.result in
    let b = c.place-place.result.block in
    let first = c.args.first in
    let last = c.args.last in
    let is = c.place-place.ensures.place in
    let low : fewer ≤ full = omega (arith, c.min-self-inside.ensures) in
    let before : fewer ≤ b = omega (arith, c.min-self-inside.ensures) in
    let inside : b ≤ length blocks = omega (arith, is.in_block.there) in
    let two : b + 2 ≡ b + 1 + 1 = omega arith in
    let next : b ≤ b + 1 = omega arith in
    let same : b ≤ b = omega arith in
    let start = sized_but blocks fewer b (sized_fewer blocks full fewer c.self.invariant.sized low) before inside in
    let short : AreSizedBut c.erase.new.row.blocks fewer b (b + 1 + 1) =
    subst (λ (n : ℕ). AreSizedBut c.erase.new.row.blocks fewer b n) two (c.erase.ensures.sized fewer start) in
    let mended = c.mend.ensures.sized fewer b next short in
    let sized = but_none c.mend-2.new.row.blocks fewer b (c.mend-2.ensures.sized fewer b same mended) in
    let end : first + (last - first) ≡ last = omega (arith, c.requires.order) in
    let items : joined c.mend-2.new.row.blocks ≡ splice (joined blocks) first last [] =
    c.mend-2.ensures.same
    ∙ c.mend.ensures.same
    ∙ c.erase.ensures.items
    ∙ ap (λ (n : ℕ). splice (joined blocks) n (n + (last - first)) []) is.here
    ∙ ap (λ (n : ℕ). splice (joined blocks) first n []) end in
    let within : last ≤ length (joined blocks) =
    omega (arith, ap (λ (l : MeasuredList g.row.T.Denot). length l.items) c.self.view_is, c.requires.within) in
    cut_in_blocks units row c.mend-2.new.row c.self.inside.ready.items c.self.inside.count full fewer first last
    c.self.invariant sized items c.requires.order within
    (c.mend-2.ensures.spare ∙ c.mend.ensures.spare ∙ c.erase.ensures.spare)
