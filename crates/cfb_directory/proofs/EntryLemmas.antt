-- A fault of one of the rules on the entries is the first of them, where the rules before it hold.
use Rattle.std.proofs.Common.{inl, inr, ℕ, List}
use Rattle.doc_bits.specs.Rules.{rule, Nowhere}
use Rattle.cfb_sectors.specs.declared.faults.CfbFault.{CfbFault}
use Rattle.cfb_sectors.specs.declared.faults.CfbFault.TheVariants.{Rule, Memory}
use Rattle.cfb_directory.specs.Reach.{BreaksRoot, BreaksTree, BreaksName}
use Rattle.cfb_directory.specs.Entries.{tree_rules}
use Rattle.cfb_sectors.specs.Judged.{IsCfbFault}

pub tree_fault : (file directory : List ℕ) (e : CfbFault) → Nowhere (BreaksRoot file directory) →
    IsCfbFault (rule 8 (BreaksTree file directory)) e → IsCfbFault (tree_rules file directory) e
tree_fault file directory (Rule number place) root first = inr (root, inl first)
tree_fault file directory Memory root first = tt

pub names_fault : (file directory : List ℕ) (e : CfbFault) → Nowhere (BreaksRoot file directory) →
    Nowhere (BreaksTree file directory) → IsCfbFault (rule 9 (BreaksName file directory)) e →
    IsCfbFault (tree_rules file directory) e
names_fault file directory (Rule number place) root tree first = inr (root, inr (tree, first))
names_fault file directory Memory root tree first = tt
