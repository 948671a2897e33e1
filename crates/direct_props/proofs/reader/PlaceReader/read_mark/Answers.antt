use Rattle.std.proofs.Common.{ℕ, Option, MatchOption, sym, subst}
use Rattle.prop_map.specs.Formed.{IsPropertyMap, paragraph_groups}
use Rattle.prop_map.specs.Modifiers.{IsFormedModifier}
use Rattle.fkp_pages.specs.declared.kind.PageKind.{PageKind}
use Rattle.fkp_pages.specs.declared.kind.PageKind.TheVariants.{Papx}
use Rattle.direct_props.specs.declared.grpprl_cache.DecodedRun.{DecodedRun}
use Rattle.direct_props.specs.declared.marks.DirectMark.{DirectMark}
use Rattle.direct_props.specs.Direct.{IsDirectMark}
use Rattle.direct_props.specs.PageRules.{IsValidPlace}
use Rattle.direct_props.specs.GrpprlCache.{HasMadeAround, PlaceSource}
use Rattle.direct_props.proofs.KeptLemmas.{mark_of}
use Rattle.direct_props.proofs.reader.PlaceReader.read_mark.Goals as goal

-- what is known of the places around one
abbrev IsAround : PlaceSource → ℕ → Option DecodedRun → Type 0
IsAround source fc stretch =
    MatchOption stretch (¬ (IsValidPlace source.kind source.wd source.bin fc)) (HasMadeAround source fc)

pub returns-in-None-clause-mark : goal.returns-in-None-clause-mark
returns-in-None-clause-mark c =
    let self = c.args.self.now in
    subst (λ (k : PageKind). ¬ (IsValidPlace k self.wd self.bin c.args.fc)) c.requires.kind
    (subst (IsAround self c.args.fc) c.in-None.is c.in_ok-made_around.ensures.around)

pub returns-in-Some-clause-mark : goal.returns-in-Some-clause-mark
returns-in-Some-clause-mark c =
    let self = c.args.self.now in
    let fc = c.args.fc in
    let around = subst (IsAround self fc) c.in-Some.is c.in_ok-made_around.ensures.around in
    let here = around.each fc around.from around.to in
    let right = subst (λ (k : PageKind). IsValidPlace k self.wd self.bin fc) c.requires.kind here.right in
    subst
    (λ (mark : DirectMark). IsValidPlace Papx self.wd self.bin fc
    × IsDirectMark self.wd self.bin fc self.modifier mark.istd mark.pap)
    (sym c.direct_mark.ensures)
    (right, (mark_of self fc c.in-Some.stretch.made c.requires.kind here).0)

pub returns-in-Some-clause-formed : goal.returns-in-Some-clause-formed
returns-in-Some-clause-formed c =
    let self = c.args.self.now in
    let fc = c.args.fc in
    let around = subst (IsAround self fc) c.in-Some.is c.in_ok-made_around.ensures.around in
    let here = around.each fc around.from around.to in
    subst
    (λ (mark : DirectMark). IsFormedModifier self.modifier → IsPropertyMap paragraph_groups mark.pap)
    (sym c.direct_mark.ensures)
    (mark_of self fc c.in-Some.stretch.made c.requires.kind here).1
