use Rattle.std.proofs.Common.{◌≡◌, ◌+◌, slice_index, ap, ◌∙◌, arith}
use Rattle.cfb_sectors.proofs.MarkLemmas.{no_mark, replicate_zero}
use Rattle.cfb_sectors.proofs.marks.Marks.begin.Goals as goal
use Rattle.cfb_sectors.proofs.marks.Marks.begin.Goals.{then-self, else-self}

pub returns-clause-none : goal.returns-clause-none
returns-clause-none c =
    no_mark c.if-self.self-inside.stamps.items (c.if-self.self-inside.stamp + 1)
    (elim c.if-self.branch [
      | then-self w ↦ λ s.
          let cleared : slice_index w.fill.new.self.items s ≡ 0 = ap (λ xs. slice_index xs s)
          (w.fill.ensures.items (λ y e. e)) ∙ replicate_zero _ s in
          rw w.self-inside-is (omega arith)
      | else-self w ↦ λ s. let low = c.self.invariant s in rw w.self-inside-is (omega arith)
    ])
