use Rattle.std.proofs.Common.{ℕ, Option, MatchOption, sym, subst}
use Rattle.std.specs.Prelude.{IfSome}
use Rattle.prop_map.specs.Formed.{IsPropertyMap, paragraph_groups}
use Rattle.prop_map.specs.Modifiers.{IsFormedModifier}
use Rattle.fkp_pages.specs.declared.kind.PageKind.TheVariants.{Papx}
use Rattle.direct_props.specs.declared.marks.DirectMark.{DirectMark}
use Rattle.direct_props.specs.Direct.{IsDirectMark}
use Rattle.direct_props.specs.PageRules.{IsValidPlace}
use Rattle.direct_props.specs.GrpprlCache.{PlaceSource}
use Rattle.direct_props.proofs.marks.read_mark.Goals as goal

-- what a reader answers at a place
abbrev IsReadAt : PlaceSource → ℕ → Option DirectMark → Type 0
IsReadAt source fc mark =
    MatchOption mark (¬ (IsValidPlace Papx source.wd source.bin fc))
    (λ (m : DirectMark). IsValidPlace Papx source.wd source.bin fc
    × IsDirectMark source.wd source.bin fc source.modifier m.istd m.pap)

pub unreachable-requires : goal.unreachable-requires
unreachable-requires c =
    subst (IsReadAt c.in_ok-reader.reader c.args.fc) c.in-None.is c.in_ok-read_mark.ensures.mark
    (subst (λ (s : PlaceSource). IsValidPlace Papx s.wd s.bin c.args.fc) (sym c.in_ok-reader.ensures) c.requires.right)

pub returns-clause-mark : goal.returns-clause-mark
returns-clause-mark c =
    let read = subst (IsReadAt c.in_ok-reader.reader c.args.fc) c.in-Some.is c.in_ok-read_mark.ensures.mark in
    subst (λ (s : PlaceSource). IsDirectMark s.wd s.bin c.args.fc s.modifier c.in-Some.mark.istd c.in-Some.mark.pap)
    c.in_ok-reader.ensures read.1

pub returns-clause-formed : goal.returns-clause-formed
returns-clause-formed c = λ by.
    subst
    (λ (o : Option DirectMark). IfSome o (λ (m : DirectMark). IsFormedModifier c.in_ok-reader.reader.modifier
    → IsPropertyMap paragraph_groups m.pap)) c.in-Some.is c.in_ok-read_mark.ensures.formed
    (subst (λ (s : PlaceSource). IsFormedModifier s.modifier) (sym c.in_ok-reader.ensures) by)
