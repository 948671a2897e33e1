use Rattle.std.proofs.Common.{inl, inr, ◌≤◌, None, length, refl, ap, arith}
use Rattle.std.proofs.lemmas.Bool.{cases_lt}
use Rattle.std.proofs.lemmas.List.{get_or_past}
use borrow.Author.Count.{below_more}
use Rattle.style_sheet.specs.Sheet.{style_at}
use Rattle.style_sheet.specs.Written.{written_slot}
use Rattle.style_sheet.proofs.sheet.StyleSheet.is_writable.Goals as goal

pub loop-istd-preserved : goal.loop-istd-preserved
loop-istd-preserved c =
    let len = c.std_len.ensures in
    below_more (λ k. length (written_slot k (style_at c.args.self.now k)) ≤ 32767) c.loop-istd.istd
    c.loop-istd.invariant (omega arith)

pub returns : goal.returns
returns c = (
  λ t k. elim (cases_lt k (length c.args.self.now.styles)) [
    | inl low ↦ let count = c.slots-istd-end.ensures.count in c.loop-istd.invariant k (omega arith)
    | inr high ↦
        let none = ap (λ slot. length (written_slot k slot)) (get_or_past c.args.self.now.styles k None high) in
        omega arith
  ],
  λ w. refl,
)
