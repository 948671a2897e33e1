-- Runs of paragraphs, some items with the same mark further.
use Rattle.std.proofs.Common.{◌≡◌, subst, ℕ, zero, suc, ◌+◌, ◌*◌, ◌<◌, ◌≤◌, List, [], ◌∷◌, ◌++◌, length}
use Rattle.std.proofs.Common.{take, Option, Some, None, arith, length-append}
use Rattle.std.proofs.lemmas.List.{length-take}
use Rattle.doc_bits.proofs.Public.{there_is}
use Rattle.doc_model.specs.declared.item.Mark.{Mark}
use Rattle.doc_model.specs.declared.item.Item.{Item}
use Rattle.full_save.specs.Alike.{HaveAlike}
use Rattle.full_save.proofs.Public.{alike_fewer, text_next}
use Rattle.fast_save_layout.specs.declared.runs.ParagraphRuns.{ParagraphRuns}
use Rattle.fast_save_layout.specs.RunsSoFar.{AreMarksSoFar, MarkEnds, MarksGoOn}
use Rattle.fast_save_layout.proofs.MarkSteps.{one_more}

-- items without a mark
pub marks_more : (at : ℕ) (done text : List Item) (place count : ℕ) (runs : ParagraphRuns) →
    HaveAlike (λ (item : Item). item.mark) None text place count →
    AreMarksSoFar at (done ++ take place text) runs → AreMarksSoFar at (done ++ take (place + count) text) runs
marks_more at done text place zero runs are so =
    let e : place ≡ place + 0 = omega arith in
    subst (λ (n : ℕ). AreMarksSoFar at (done ++ take n text) runs) e so
marks_more at done text place (suc count) runs are so =
    let within = are.within in
    let j : ℕ = place + count in
    let there = there_is text j (omega (arith, within)) in
    let mark : Item → Option Mark = λ item. item.mark in
    let before = marks_more at done text place count runs (alike_fewer mark None text place count are) so in
    let unmarked : there.0.mark ≡ None = are.each j there.0 (omega arith) (omega arith) there.1 in
    let after = one_more at (done ++ take j text) there.0 runs unmarked before in
    let e : j + 1 ≡ place + suc count = omega arith in
    subst (λ (n : ℕ). AreMarksSoFar at (done ++ take n text) runs) e
    (subst (λ (xs : List Item). AreMarksSoFar at xs runs) (text_next done text j there.0 there.1) after)

-- ---- items with a mark each

pub record AreMarkedUpTo (mark : Mark) (count begin i : ℕ) (old new : ParagraphRuns) : Type 0 where
  pub most : i ≤ count
  pub goes :
      (at : ℕ) (done text : List Item) (place : ℕ) → begin ≡ at + 2 * (length done + place) →
      HaveAlike (λ (item : Item). item.mark) (Some mark) text place count →
      AreMarksSoFar at (done ++ take place text) old → AreMarksSoFar at (done ++ take (place + i) text) new

pub none_marked : (mark : Mark) (count begin : ℕ) (old : ParagraphRuns) → AreMarkedUpTo mark count begin 0 old old
none_marked mark count begin old = record {
  most = omega arith;
  goes = λ at done text place here are so.
      let e : place ≡ place + 0 = omega arith in
      subst (λ (n : ℕ). AreMarksSoFar at (done ++ take n text) old) e so;
}

pub one_marked : (mark : Mark) (count begin i : ℕ) (old mid new : ParagraphRuns) → i < count →
    MarkEnds mark (begin + 2 * (i + 1)) mid new → AreMarkedUpTo mark count begin i old mid →
    AreMarkedUpTo mark count begin (i + 1) old new
one_marked mark count begin i old mid new below ends marked = record {
  most = omega (arith, below);
  goes = λ at done text place here are so.
      let within = are.within in
      let j : ℕ = place + i in
      let there = there_is text j (omega (arith, within, below)) in
      let has : there.0.mark ≡ Some mark = are.each j there.0 (omega arith) (omega (arith, below)) there.1 in
      let front : List Item = done ++ take j text in
      let end : begin + 2 * (i + 1) ≡ at + 2 * length (front ++ there.0 ∷ []) =
      omega (
        arith,
        here,
        within,
        below,
        length-append front (there.0 ∷ []),
        length-append done (take j text),
        length-take j text,
      ) in
      let after = ends at front there.0 end has (marked.goes at done text place here are so) in
      let e : j + 1 ≡ place + (i + 1) = omega arith in
      subst (λ (n : ℕ). AreMarksSoFar at (done ++ take n text) new) e
      (subst (λ (xs : List Item). AreMarksSoFar at xs new) (text_next done text j there.0 there.1) after);
}

pub all_marked : (mark : Mark) (count begin i : ℕ) (old new : ParagraphRuns) → count ≤ i →
    AreMarkedUpTo mark count begin i old new → MarksGoOn (Some mark) count begin old new
all_marked mark count begin i old new all marked = λ at done text place here are so.
    let most = marked.most in
    let e : place + i ≡ place + count = omega (arith, all, most) in
    subst (λ (n : ℕ). AreMarksSoFar at (done ++ take n text) new) e (marked.goes at done text place here are so)
