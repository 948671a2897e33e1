use Rattle.style_sheet.specs.declared.styles.Kind.TheVariants.{Para}
use Rattle.doc_join.proofs.kept_maps.KeptMaps.paragraph_kind.Goals as goal

pub returns-clause-made : goal.returns-clause-made
returns-clause-made c = λ i. Para (c.in_ok-pap.ensures i) (c.in_ok-chp.ensures.map i)
