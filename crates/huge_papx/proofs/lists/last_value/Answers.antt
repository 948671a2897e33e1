use Rattle.std.specs.Prelude.{option_map}
use Rattle.std.proofs.Common.{sym, refl, List, ℕ}
use Rattle.std.proofs.lemmas.Option.{none-some}
use Rattle.prl_skips.proofs.Public.{spelt_accepted}
use Rattle.huge_papx.specs.Lists.{HasLastValue}
use Rattle.huge_papx.proofs.EachLemmas.{matched}
use Rattle.huge_papx.proofs.ListLemmas.{value_found}
use Rattle.huge_papx.proofs.lists.last_value.Goals as goal

pub returns-in-None : goal.returns-in-None
returns-in-None c =
    let list = c.args.list.now in
    let sought = c.args.sought in
    let accepted = c.in-None.ensures.accepted.0 refl in
    matched (λ value. value.now) c.value_of_last.result ((value : List ℕ) → ¬ HasLastValue sought list value)
    (HasLastValue sought list)
    (value_found sought list accepted.list accepted.spelt (option_map (λ value. value.now) c.value_of_last.result)
    (c.value_of_last.ensures accepted.list accepted.spelt))

pub returns-in-Some : goal.returns-in-Some
returns-in-Some c = λ value has.
    none-some _ (sym (c.in-Some.ensures.accepted.1 (spelt_accepted c.args.list.now has.prls has.spelt)))
