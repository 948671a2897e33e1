use Rattle.std.proofs.Common.{subst}
use Rattle.style_sheet.specs.Formed.{IsFormedKind}
use Rattle.style_sheet.proofs.styles.Kind.push_upxes.Goals as goal

pub push_paragraphs-requires-clause-formed : goal.push_paragraphs-requires-clause-formed
push_paragraphs-requires-clause-formed c = (0x22, (subst IsFormedKind c.in-Para.is c.requires.formed).0)

pub push_characters-requires-clause-formed : goal.push_characters-requires-clause-formed
push_characters-requires-clause-formed c = (0x04, (subst IsFormedKind c.in-Para.is c.requires.formed).1)

pub push_characters-requires-in-Char-clause-formed : goal.push_characters-requires-in-Char-clause-formed
push_characters-requires-in-Char-clause-formed c = (0x04, subst IsFormedKind c.in-Char.is c.requires.formed)
