use Rattle.std.proofs.Common.{◌≡◌, subst, List, ℕ}
use Rattle.huge_papx.specs.declared.lists.Sought.TheVariants.{Definition}
use Rattle.huge_papx.specs.Lists.{HasLastValue}
use Rattle.huge_papx.specs.Definitions.{HasCellPlaces, IsRowDefinition}
use Rattle.huge_papx.proofs.ListLemmas.{last_value_one}
use Rattle.huge_papx.proofs.DataLemmas.{prc_one}
use Rattle.huge_papx.proofs.definitions.definition_at.Goals as goal

pub returns-in_default-last_value : goal.returns-in_default-last_value
returns-in_default-last_value c = λ d is.
    let same = prc_one c.args.stream.now c.args.at is.list c.in-Some.list.now is.prc c.in-Some.ensures in
    c.in_default-last_value.ensures is.value
    (subst (λ (l : List ℕ). HasLastValue Definition l is.value) same is.has)

pub returns-then-not-has_cell_places : goal.returns-then-not-has_cell_places
returns-then-not-has_cell_places c = λ d is.
    let same = prc_one c.args.stream.now c.args.at is.list c.in-Some.list.now is.prc c.in-Some.ensures in
    let value = last_value_one Definition c.in-Some.list.now is.value c.in-Some-last_value.value.now
    (subst (λ (l : List ℕ). HasLastValue Definition l is.value) same is.has) c.in-Some-last_value.ensures in
    absurd (cc (c.if-not-has_cell_places.ensures.1 (subst HasCellPlaces value is.whole)))
