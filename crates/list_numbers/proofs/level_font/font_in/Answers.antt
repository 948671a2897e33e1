-- The properties, one by one.
use Rattle.std.proofs.Common.{◌≡◌, ◌∙◌, ◌-◌, ◌+◌, refl, sym, ap, length, arith, ◌≤◌, None}
use Rattle.list_numbers.specs.LevelFonts.{font_from, prl_end}
use Rattle.list_numbers.proofs.FontLemmas.{cut_code, cut_operand, next_font, nothing_left}
use Rattle.list_numbers.proofs.level_font.font_in.Goals as goal

pub loop-count-init : goal.loop-count-init
loop-count-init c =
    let list = c.args.list.now in
    let all : length list ≡ length list - 0 = omega arith in
    record { within = omega arith; same = ap (λ n. font_from n list 0 None) all }

pub returns-then-list-at : goal.returns-then-list-at
returns-then-list-at c =
    let list = c.args.list.now in
    let old = c.loop-count in
    cut_code list (length list - old._count) old.at old.font (omega (arith, c.loop-count-test.true))
    (omega (arith, c.if-list-at.true)) ∙ sym old.invariant.same

pub returns-then-rest-len : goal.returns-then-rest-len
returns-then-rest-len c =
    let list = c.args.list.now in
    let old = c.loop-count in
    cut_operand list (length list - old._count) old.at old.font (omega (arith, c.loop-count-test.true))
    (omega (arith, c.if-rest-len.true, c.if-list-at.false, c.len_at-len.ensures)) ∙ sym old.invariant.same

pub loop-count-preserved : goal.loop-count-preserved
loop-count-preserved c =
    let list = c.args.list.now in
    let old = c.loop-count in
    let end = old.at + 2 + c.len_at-len.result in
    let is : end ≡ prl_end list old.at = omega (arith, c.len_at-len.ensures) in
    let whole : end ≤ length list = omega (arith, c.if-rest-len.false, c.if-list-at.false) in
    let left : length list - old._count - 1 ≡ length list - (old._count + 1) = omega (arith, c.loop-count-test.true) in
    record {
      within = whole;
      same =
          old.invariant.same
          ∙ next_font list (length list - old._count) old.at end old.font
          (omega (arith, c.loop-count-test.true)) (omega (arith, c.if-list-at.false)) is whole
          ∙ (λ i. font_from (left i) list end (sym c.font_by-font.ensures i));
    }

pub returns : goal.returns
returns c =
    let list = c.args.list.now in
    let old = c.loop-count in
    nothing_left list (length list - old._count) old.at old.font (omega (arith, c.loop-count-test.false))
    ∙ sym old.invariant.same
