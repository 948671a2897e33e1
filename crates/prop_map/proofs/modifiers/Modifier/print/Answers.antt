use Rattle.std.proofs.Common.{List, sym, subst}
use Rattle.sprm_table.specs.Sprm.{Prl, SpellsSprmList, IsAcceptedList}
use Rattle.prop_map.specs.Formed.{prc_groups}
use Rattle.prop_map.specs.Modifiers.{IsModifierOf}
use Rattle.prop_map.proofs.ListedLemmas.{modifier_accepted, modifier_back}
use Rattle.prop_map.proofs.PrintedLemmas.{printed_steps}
use Rattle.prop_map.proofs.modifiers.Modifier.print.Goals as goal

pub returns-clause-bytes : goal.returns-clause-bytes
returns-clause-bytes c = printed_steps c.args.self.now _ _ _ _ _ c.new-bytes.ensures c.in_ok-push_style.ensures.bytes
    c.in_ok-print_to.ensures c.in_ok-push_clear.ensures c.in_ok-print_to-2.ensures

pub returns-clause-accepted : goal.returns-clause-accepted
returns-clause-accepted c = subst (λ b. IsAcceptedList b prc_groups) (sym (returns-clause-bytes c)) (modifier_accepted
    c.args.self.now c.requires)

pub returns-clause-back : goal.returns-clause-back
returns-clause-back c = subst (λ b. (prls : List Prl) → SpellsSprmList b prls → IsModifierOf prls c.args.self.now)
    (sym (returns-clause-bytes c)) (modifier_back c.args.self.now c.requires c.in_ok-push_style.ensures.word)
