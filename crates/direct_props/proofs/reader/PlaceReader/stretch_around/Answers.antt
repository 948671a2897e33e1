use Rattle.std.proofs.Common.{ℕ, Option, MatchOption, sym, subst}
use Rattle.fkp_pages.specs.declared.kind.PageKind.{PageKind}
use Rattle.direct_props.specs.declared.grpprl_cache.DecodedRun.{DecodedRun}
use Rattle.direct_props.specs.declared.reader.CharacterStretch.{CharacterStretch}
use Rattle.direct_props.specs.PageRules.{IsValidPlace}
use Rattle.direct_props.specs.Stretches.{HasPropertiesAround}
use Rattle.direct_props.specs.GrpprlCache.{HasMadeAround, PlaceSource}
use Rattle.direct_props.proofs.KeptLemmas.{characters_around}
use Rattle.direct_props.proofs.reader.PlaceReader.stretch_around.Goals as goal

-- what is known of the places around one
abbrev IsAround : PlaceSource → ℕ → Option DecodedRun → Type 0
IsAround source fc stretch =
    MatchOption stretch (¬ (IsValidPlace source.kind source.wd source.bin fc)) (HasMadeAround source fc)

pub returns-in-None-clause-around : goal.returns-in-None-clause-around
returns-in-None-clause-around c =
    let self = c.args.self.now in
    subst (λ (k : PageKind). ¬ (IsValidPlace k self.wd self.bin c.args.fc)) c.requires.kind
    (subst (IsAround self c.args.fc) c.in-None.is c.in_ok-made_around.ensures.around)

pub returns-in-Some-clause-around : goal.returns-in-Some-clause-around
returns-in-Some-clause-around c =
    let self = c.args.self.now in
    let fc = c.args.fc in
    subst
    (λ (s : CharacterStretch). HasPropertiesAround self.wd self.bin self.modifier fc s.first s.last s.map)
    (sym c.characters_of.ensures)
    (characters_around self fc c.in-Some.stretch c.requires.kind
    (subst (IsAround self fc) c.in-Some.is c.in_ok-made_around.ensures.around))
