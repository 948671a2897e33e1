use Rattle.std.proofs.Common.{sym, subst}
use Rattle.prop_map.specs.Formed.{IsPropertyMap}
use Rattle.fkp_pages.specs.Fkp.{least_list}
use Rattle.fkp_pages.specs.Runs.{run_groups}
use Rattle.direct_props.proofs.CharacterLemmas.{sprms_of, makes_properties, stays_formed}
use Rattle.direct_props.proofs.characters.properties_of.Goals as goal
use Rattle.prop_map.proofs.Public.{IsPropertyMap-empty}

pub returns-clause-made : goal.returns-clause-made
returns-clause-made c =
    makes_properties _ _ c.groups_of_runs.result (run_groups c.args.kind) c.new-none.result c.in_ok-acted.acted
    (sprms_of c.args.list.now c.min-start.result c.style_len.result (least_list c.args.kind) c.style_len.ensures
    c.min-start.ensures)
    c.groups_of_runs.ensures c.new-none.ensures c.requires c.in_ok-acted.ensures.acted

pub returns-clause-formed : goal.returns-clause-formed
returns-clause-formed c = stays_formed c.groups_of_runs.result (run_groups c.args.kind) c.new-none.result
    c.in_ok-acted.acted.map c.groups_of_runs.ensures c.new-none.ensures c.in_ok-acted.ensures.formed

pub returns-then-start-list-clause-formed : goal.returns-then-start-list-clause-formed
returns-then-start-list-clause-formed c = subst (λ m. IsPropertyMap (run_groups c.args.kind) m)
    (sym c.new-none.ensures) (IsPropertyMap-empty (run_groups c.args.kind))
