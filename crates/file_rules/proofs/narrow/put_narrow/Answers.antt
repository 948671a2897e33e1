use Rattle.std.proofs.Common.{◌≡◌, ◌+◌, ◌∙◌, ◌++◌, append_assoc, ap, sym, ℕ, map, take, slice_index, arith}
use Rattle.std.specs.List.{range_with_len}
use Rattle.text_codes.specs.Compressed.{compressed_unit}
use Rattle.file_rules.specs.Units.{narrow_unit}
use Rattle.file_rules.proofs.UnitLemmas.{run-join}
use Rattle.file_rules.proofs.narrow.put_narrow.Goals as goal

pub loop-done-preserved : goal.loop-done-preserved
loop-done-preserved c =
    let wd = c.args.wd.now in
    let cp = c.args.cp in
    let at = c.args.at in
    let done = c.loop-done.done in
    let part = c.min-part.result in
    let so_far = c.loop-done.invariant in
    let first = narrow_unit wd at in
    let next = narrow_unit wd (at + done) in
    let same : (j : ℕ) → next j ≡ first (done + j) = λ j. ap (λ place. compressed_unit (slice_index wd place)) (omega
    arith) in
    let joined = run-join first next done part same in
    let before = take cp c.args.units.now in
    let begun = map first (range_with_len 0 done) in
    record {
      within = omega (arith, c.min-part.ensures, c.loop-done-test.true);
      len = c.put_part.ensures.len ∙ so_far.len;
      put =
          ap (λ n. take n c.put_part.new.units) (omega arith) ∙ (c.put_part.ensures.put ∙ (ap (λ xs. xs ++ map next
          (range_with_len 0 part)) so_far.put
          ∙ (append_assoc before begun (map next (range_with_len 0 part)) ∙ ap (λ xs. before ++ xs) (sym joined))));
    }
