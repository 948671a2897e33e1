use Rattle.style_sheet.specs.declared.styles.Kind.TheVariants.{Char}
use Rattle.doc_join.proofs.kept_maps.KeptMaps.character_kind.Goals as goal

pub returns-clause-made : goal.returns-clause-made
returns-clause-made c = λ i. Char (c.in_ok-chp.ensures.map i)
