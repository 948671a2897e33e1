use Rattle.std.proofs.Common.{subst, List, ℕ, [], ◌∷◌}
use Rattle.huge_papx.specs.declared.lists.Sought.TheVariants.{RowEnd}
use Rattle.huge_papx.specs.Lists.{HasLastValue}
use Rattle.huge_papx.proofs.ListLemmas.{last_value_one}
use Rattle.huge_papx.proofs.definitions.ends_row.Goals as goal

pub returns-in-None : goal.returns-in-None
returns-in-None c = (λ t. absurd (cc t), λ has. absurd (c.in-None.ensures (1 ∷ []) has))

pub returns-in-Some : goal.returns-in-Some
returns-in-Some c =
    let list = c.args.list.now in (
      λ t. subst (HasLastValue RowEnd list) (c.is_one.ensures.0 t) c.in-Some.ensures,
      λ has. c.is_one.ensures.1 (last_value_one RowEnd list c.in-Some.value.now (1 ∷ []) c.in-Some.ensures has),
    )
