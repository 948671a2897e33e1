-- What the check of a chain answers, and why a file is refused.
use Rattle.std.specs.Prelude.{◌≡◌, ℕ, ◌≤◌, Option, Some, None, MatchOption, List}
use Rattle.doc_bits.specs.Rules.{Rules, Hold, IsLeast, IsFirstOffset}
use Rattle.cfb_sectors.specs.declared.faults.BrokenRule.{BrokenRule}
use Rattle.cfb_sectors.specs.declared.faults.CfbFault.{CfbFault}
use Rattle.cfb_sectors.specs.declared.faults.CfbFault.TheVariants.{Rule}
use Rattle.cfb_sectors.specs.declared.chain.Chain.{Chain}
use Rattle.cfb_sectors.specs.declared.chain.Chain.TheVariants.{Found, Breaks}
use Rattle.cfb_sectors.specs.Chain.{Table, ChainHead, HoldsChain, BreaksChain}
use Rattle.cfb_sectors.specs.declared.faults.CfbFault.TheVariants.{Memory}

-- sectors that hold a rule, or the one place at which it is broken
abbrev pub IsFoundBy : (List ℕ → Type 0) → (ℕ → Type 0) → Chain → Type 0
IsFoundBy holds breaks (Found sectors) = holds sectors.items
IsFoundBy holds breaks (Breaks place) = IsLeast (λ a b. a ≤ b) breaks place

-- the chain of a head, or the one place at which it is broken
abbrev pub IsFoundChain : Table → ChainHead → Chain → Type 0
IsFoundChain table head = IsFoundBy (HoldsChain table head) (BreaksChain table head)

-- the place at which a chain is broken
abbrev pub broken_place : Chain → Option ℕ
broken_place (Found sectors) = None
broken_place (Breaks place) = Some place

-- the rule is broken at the place
abbrev pub IsRuleFault : ℕ → Option ℕ → CfbFault → Type 0
IsRuleFault number wrong fault = (place : ℕ) × ((wrong ≡ Some place) × (fault ≡ Rule number place))

-- what a function that checks rules answers: the first that is broken, at its least place, or nothing where all hold
abbrev pub FirstOrNone : Rules ℕ → Option BrokenRule → Type 0
FirstOrNone rules found = MatchOption found (Hold rules) (λ broken. IsFirstOffset rules broken.rule broken.offset)

-- the first broken rule, or want of memory, which is free
abbrev pub IsCfbFault : Rules ℕ → CfbFault → Type 0
IsCfbFault rules (Rule number offset) = IsFirstOffset rules number offset
IsCfbFault rules Memory = Unit {0}
