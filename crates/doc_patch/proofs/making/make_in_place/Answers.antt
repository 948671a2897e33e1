-- The properties of a change that can be made may be where it puts them.
use Rattle.std.proofs.Common.{subst}
use Rattle.doc_patch.specs.Makes.{CanMake}
use Rattle.doc_patch.proofs.making.make_in_place.Goals as goal

pub set_section-requires-clause-set : goal.set_section-requires-clause-set
set_section-requires-clause-set c =
    (subst (λ change. CanMake c.args.document.now change) c.in-SetSection.is c.requires).1

pub set_characters-requires-clause-set : goal.set_characters-requires-clause-set
set_characters-requires-clause-set c =
    (subst (λ change. CanMake c.args.document.now change) c.in-SetStyleCharacters.is c.requires).1

pub set_paragraphs-requires-clause-set : goal.set_paragraphs-requires-clause-set
set_paragraphs-requires-clause-set c =
    (subst (λ change. CanMake c.args.document.now change) c.in-SetStyleParagraphs.is c.requires).1
