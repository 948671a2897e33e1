use Rattle.std.proofs.Common.{ℕ, List, refl, sym, subst, arith}
use Rattle.doc_bits.specs.Number.{AreBytes}
use Rattle.sprm_table.specs.Sprm.{IsAcceptedList}
use Rattle.prop_map.specs.declared.acting.Acted.{Acted}
use Rattle.prop_map.specs.Settings.{Properties}
use Rattle.prop_map.specs.Formed.{StaysFormed}
use Rattle.prop_map.specs.Acting.{IsActedBy}
use Rattle.prop_map.proofs.ActingLemmas.{IsPropertyMap-after}
use Rattle.prop_map.proofs.ByteLemmas.{list_bytes}
use Rattle.prop_map.proofs.acting.act.Goals as goal

-- what a list makes of a map stays formed
stays_formed : (list : List ℕ) (groups : ℕ) (old : Properties) (acted : Acted) → IsAcceptedList list groups → AreBytes
    list → IsActedBy list groups old acted → StaysFormed groups old acted.map
stays_formed list groups old acted accepted bytes h =
    IsPropertyMap-after accepted.list groups old acted.map accepted.spelt.entries (list_bytes list accepted.list bytes
    accepted.spelt) (h accepted.list accepted.spelt).map

pub returns-then-is_empty-clause-acted : goal.returns-then-is_empty-clause-acted
returns-then-is_empty-clause-acted c = subst (λ m. IsActedBy c.args.list.now c.args.groups m c.in_ok-made.made) (sym
    (c.if-is_empty.ensures.0 refl)) c.in_ok-made.ensures

pub returns-then-is_empty-clause-formed : goal.returns-then-is_empty-clause-formed
returns-then-is_empty-clause-formed c = stays_formed c.args.list.now c.args.groups c.args.map.now _ c.requires
    (λ i. omega (arith, c.type_inv.list i)) (returns-then-is_empty-clause-acted c)

pub returns-clause-formed : goal.returns-clause-formed
returns-clause-formed c = stays_formed c.args.list.now c.args.groups c.args.map.now _ c.requires
    (λ i. omega (arith, c.type_inv.list i)) c.in_ok-acted.ensures
