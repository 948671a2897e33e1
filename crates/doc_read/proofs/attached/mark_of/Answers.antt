-- The mark of the place.
use Rattle.std.proofs.Common.{ℕ, Option, MatchOption, sym, ap, subst}
use Rattle.std.specs.Prelude.{IfSome}
use Rattle.prop_map.specs.Formed.{IsPropertyMap, paragraph_groups}
use Rattle.prop_map.specs.Modifiers.{IsFormedModifier}
use Rattle.fkp_pages.specs.declared.kind.PageKind.TheVariants.{Papx}
use Rattle.direct_props.specs.declared.marks.DirectMark.{DirectMark}
use Rattle.direct_props.specs.Direct.{IsDirectMark}
use Rattle.direct_props.specs.PageRules.{IsValidPlace}
use Rattle.direct_props.specs.GrpprlCache.{PlaceSource}
use Rattle.doc_read.proofs.attached.mark_of.Goals as goal

-- what a reader answers at a place
abbrev IsReadAt : PlaceSource → ℕ → Option DirectMark → Type 0
IsReadAt source fc mark =
    MatchOption mark (¬ (IsValidPlace Papx source.wd source.bin fc))
    (λ (m : DirectMark). IsValidPlace Papx source.wd source.bin fc
    × IsDirectMark source.wd source.bin fc source.modifier m.istd m.pap)

pub read_mark-requires : goal.read_mark-requires
read_mark-requires c = record { kind = ap (λ (s : PlaceSource). s.kind) c.requires.reader.marks }

pub returns-in_default-clause-mark : goal.returns-in_default-clause-mark
returns-in_default-clause-mark c =
    let view = c.args.part.now.view in
    let fc = c.place-place.result in
    let none = subst (IsReadAt c.args.reader.now.marks fc) c.in_default.is c.in_ok-direct.ensures.mark in
    let here = subst (λ (s : PlaceSource). ¬ (IsValidPlace Papx s.wd s.bin fc)) c.requires.reader.marks none in
    subst (λ n. ¬ (IsValidPlace Papx view.wd view.paragraphs n)) c.place-place.ensures here

pub returns-clause-mark : goal.returns-clause-mark
returns-clause-mark c =
    let view = c.args.part.now.view in
    let modifier = c.args.reader.now.characters.modifier in
    let fc = c.place-place.result in
    let direct = c.in-Some.direct in
    let read = subst (IsReadAt c.args.reader.now.marks fc) c.in-Some.is c.in_ok-direct.ensures.mark in
    let here = subst
    (λ (s : PlaceSource). IsValidPlace Papx s.wd s.bin fc
    × IsDirectMark s.wd s.bin fc s.modifier direct.istd direct.pap)
    c.requires.reader.marks read in
    subst
    (λ n. IsValidPlace Papx view.wd view.paragraphs n
    × IsDirectMark view.wd view.paragraphs n modifier direct.istd direct.pap) c.place-place.ensures here

pub returns-clause-formed : goal.returns-clause-formed
returns-clause-formed c =
    let formed = subst
    (λ (o : Option DirectMark). IfSome o (λ (m : DirectMark). IsFormedModifier c.args.reader.now.marks.modifier →
    IsPropertyMap paragraph_groups m.pap)) c.in-Some.is c.in_ok-direct.ensures.formed in
    formed (subst (λ (s : PlaceSource). IsFormedModifier s.modifier) (sym c.requires.reader.marks)
    c.requires.reader.formed)
