use Rattle.std.specs.Prelude.{slice_index}
use Rattle.std.proofs.Common.{◌≡◌, ◌∙◌, arith, []}
use Rattle.std.proofs.lemmas.Grind.{get_or_default_zero}
use Rattle.code_losses.specs.Pages.{IsFoundInPage}
use Rattle.code_losses.proofs.JoinLemmas.{counts_more}
use Rattle.code_losses.proofs.pages.count_pages.Goals as goal

pub loop-number-preserved : goal.loop-number-preserved
loop-number-preserved c =
    let inv = c.loop-number.invariant in
    let marks = c.in_ok-marks.marks.items in
    let number = c.loop-number.number in
    let zero = get_or_default_zero marks number c.index.result.now
    (omega (arith, c.loop-number-test.true, c.in_ok-marks.ensures.len)) in
    let mark : c.index.result.now ≡ slice_index marks number = omega (arith, c.index.ensures, zero) in
    record {
      codes = c.count_numbered.ensures.codes;
      seen = omega (arith, c.count_numbered.ensures.seen, inv.seen);
      counted = counts_more (IsFoundInPage c.args.kind c.args.wd.now c.args.bin.now) c.loop-number.number []
          c.loop-number.counts c.count_numbered.new.counts inv.counted
          (λ lists counted. c.count_numbered.ensures.counted c.args.bin.now lists
          (mark ∙ c.in_ok-marks.ensures.marks c.loop-number.number (omega (arith, c.loop-number-test.true))) counted);
    }
