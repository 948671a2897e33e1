use Rattle.std.proofs.Common.{refl}
use Rattle.style_sheet.specs.declared.styles.Kind.TheVariants.{Para}
use Rattle.style_sheet.proofs.ChangeLemmas.{para_paragraphs}
use Rattle.style_sheet.proofs.changes.paragraphs_over.Goals as goal

pub returns : goal.returns
returns c =
    para_paragraphs (Para c.args.pap.now c.args.chp.now) c.args.pap.now c.args.chp.now c.args.set.now c.in_ok-chp.chp
    c.in_ok-pap.pap refl c.in_ok-chp.ensures c.in_ok-pap.ensures
