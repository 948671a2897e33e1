use Rattle.std.proofs.Common.{ℕ, sym, ◌∙◌, subst}
use Rattle.std.specs.Ordering.{nat_cmp}
use Rattle.std.specs.FinMap.{empty, get-empty}
use Rattle.prop_map.specs.Formed.{IsPropertyMap}
use Rattle.prop_map.specs.Acting.{ArePropertiesAfter}
use Rattle.style_sheet.proofs.decoding.properties.Goals as goal

empty_formed : (groups : ℕ) → IsPropertyMap groups empty
empty_formed groups code value e = absurd (cc (sym (get-empty nat_cmp code) ∙ e))

pub returns-clause-map : goal.returns-clause-map
returns-clause-map c =
    let acted = c.in_ok-map.ensures.acted c.requires.list c.requires.spelt in
    record {
      list = c.requires.list;
      spelt = c.requires.spelt;
      acted = subst (λ old. ArePropertiesAfter c.requires.list c.args.groups old c.in_ok-map.field-0.map)
          c.new-none.ensures acted.map;
    }

pub returns-clause-formed : goal.returns-clause-formed
returns-clause-formed c = c.in_ok-map.ensures.formed (subst (IsPropertyMap c.args.groups) (sym c.new-none.ensures)
    (empty_formed c.args.groups))
