use Rattle.std.proofs.Common.{refl}
use Rattle.plain_doc.proofs.rules_sheet.is_valid_sheet.Goals as goal

pub returns : goal.returns
returns c = λ right. record {
  bases = c.if-not-has_valid_bases.ensures refl;
  short = c.if-not-are_valid_styles.ensures refl;
  writable = c.are_valid_styles-2.ensures right;
}
