use Rattle.std.proofs.Common.{◌≡◌, ◌+◌, false, refl, arith}
use Rattle.std.specs.Prelude.{slice_index}
use Rattle.text_codes.specs.Paragraph.{is_paragraph_end}
use Rattle.text_codes.specs.declared.paragraph.TheConstants.{PART_LEN}
use Rattle.text_codes.proofs.ParagraphLemmas.{first_ones-more}
use Rattle.text_codes.proofs.paragraph.above_len.Goals as goal

pub loop-done-preserved : goal.loop-done-preserved
loop-done-preserved c =
    let units = c.args.units.now in
    let done = c.loop-done.done in
    record {
      within = omega (arith, c.loop-done-test.true, c.loop-done.invariant.within);
      bare =
          first_ones-more (λ k. is_paragraph_end (slice_index units k) false ≡ false) done (done + PART_LEN)
          c.loop-done.invariant.bare (c.if-not-is_above.ensures refl);
    }
