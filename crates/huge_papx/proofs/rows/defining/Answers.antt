use Rattle.std.proofs.Common.{◌∙◌, sym, ap, subst, arith}
use Rattle.prop_map.specs.Modifiers.{IsFormedModifier}
use Rattle.doc_patch.specs.Modifiers.{property_paragraphs}
use Rattle.huge_papx.proofs.DefinedLemmas.{defining_formed}
use Rattle.huge_papx.proofs.rows.defining.Goals as goal

pub returns-clause-formed : goal.returns-clause-formed
returns-clause-formed c = λ short.
    subst IsFormedModifier (sym (c.in_ok-modifier.ensures ∙ ap property_paragraphs c.in_ok-set.ensures))
    (defining_formed c.args.cells.now (λ i. omega (arith, c.type_inv.cells i)) short)
