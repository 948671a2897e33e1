use Rattle.std.proofs.Common.{refl}
use Rattle.style_sheet.specs.declared.styles.Kind.TheVariants.{Para}
use Rattle.style_sheet.proofs.ChangeLemmas.{para_characters}
use Rattle.style_sheet.proofs.changes.characters_over.Goals as goal

pub returns : goal.returns
returns c =
    para_characters (Para c.args.pap.now c.args.chp.now) c.args.pap.now c.args.chp.now c.args.set.now c.in_ok-pap.pap
    c.in_ok-chp.chp refl c.in_ok-pap.ensures c.in_ok-chp.ensures
