use Rattle.std.proofs.Common.{sym, ap, ◌∙◌, subst}
use Rattle.prop_map.specs.Modifiers.{IsFormedModifier}
use Rattle.doc_patch.specs.Modifiers.{property_characters}
use Rattle.doc_mends.proofs.MendLemmas.{striking_formed}
use Rattle.doc_mends.proofs.judging.striking.Goals as goal

pub returns-clause-formed : goal.returns-clause-formed
returns-clause-formed c =
    subst IsFormedModifier (sym (c.in_ok-modifier.ensures ∙ ap property_characters c.in_ok-set.ensures)) striking_formed
