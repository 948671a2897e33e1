use Rattle.std.proofs.Common.{◌≡◌, IfOk, sym, subst}
use Rattle.style_sheet.specs.declared.styles.Kind.{Kind}
use Rattle.style_sheet.specs.Formed.{IsFormedKind}
use Rattle.doc_join.specs.Styles.{renumbered_kind}
use Rattle.doc_join.proofs.kept_maps.KeptMaps.kind.Goals as goal

pub paragraph_kind-requires : goal.paragraph_kind-requires
paragraph_kind-requires c = (subst IsFormedKind c.in-Para.is c.requires).1

pub character_kind-requires : goal.character_kind-requires
character_kind-requires c = subst IsFormedKind c.in-Char.is c.requires

pub returns-in-Para-clause-made : goal.returns-in-Para-clause-made
returns-in-Para-clause-made c =
    subst (λ (k : Kind). IfOk c.paragraph_kind.result (λ made. made ≡ renumbered_kind c.args.self.now.numbers k))
    (sym c.in-Para.is) c.paragraph_kind.ensures.made

pub returns-in-Char-clause-made : goal.returns-in-Char-clause-made
returns-in-Char-clause-made c =
    subst (λ (k : Kind). IfOk c.character_kind.result (λ made. made ≡ renumbered_kind c.args.self.now.numbers k))
    (sym c.in-Char.is) c.character_kind.ensures.made

pub returns-in-Other-clause-made : goal.returns-in-Other-clause-made
returns-in-Other-clause-made c =
    subst (λ (k : Kind). IfOk c.copy_other_kind.result (λ made. made ≡ renumbered_kind c.args.self.now.numbers k))
    (sym c.in-Other.is) c.copy_other_kind.ensures
