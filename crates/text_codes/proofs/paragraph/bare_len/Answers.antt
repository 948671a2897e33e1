use Rattle.std.proofs.Common.{◌≡◌, false}
use Rattle.std.specs.Prelude.{slice_index}
use Rattle.text_codes.specs.Paragraph.{is_paragraph_end}
use Rattle.text_codes.proofs.ParagraphLemmas.{first_ones-more}
use Rattle.text_codes.proofs.paragraph.bare_len.Goals as goal

pub returns-clause-bare : goal.returns-clause-bare
returns-clause-bare c =
    first_ones-more (λ k. is_paragraph_end (slice_index c.args.units.now k) false ≡ false)
    c.above_len-above.result c.first_end.result c.above_len-above.ensures.bare c.first_end.ensures.bare
