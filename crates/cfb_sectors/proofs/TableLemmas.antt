-- Paths, walks and ends by the entries that are kept of a table, and rules that are refused.
use Rattle.std.proofs.Common.{◌≡◌, ℕ, Option, Some, None, List, slice_index, refl, arith}
use Rattle.doc_bits.specs.Rules.{LeastOrNone, Nowhere, rule}
use Rattle.cfb_sectors.specs.declared.faults.CfbFault.{CfbFault}
use Rattle.cfb_sectors.specs.declared.chain.Chain.{Chain}
use Rattle.cfb_sectors.specs.declared.chain.Chain.TheVariants.{Found, Breaks}
use Rattle.cfb_sectors.specs.declared.ends.End.{End}
use Rattle.cfb_sectors.specs.Ends.{IsEnd}
use Rattle.cfb_sectors.specs.SectorChain.{IsFullPath}
use Rattle.cfb_sectors.specs.Chain.{table_of}
use Rattle.cfb_sectors.specs.Judged.{IsFoundBy, IsRuleFault, broken_place}
use Rattle.cfb_sectors.specs.Tables.{IsKeptTable}
use Rattle.cfb_sectors.specs.Judged.{IsCfbFault}
use Rattle.cfb_sectors.proofs.JudgeLemmas.{full_same}
use Rattle.cfb_sectors.specs.Walk.{IsChainWalk}
use Rattle.cfb_sectors.proofs.ClaimLemmas.{walk_same}

-- a full path by the entries that are kept is one by the table
pub kept_path : (file sectors entries : List ℕ) (valid start : ℕ) (xs : List ℕ) → IsKeptTable file sectors entries valid
    →
    IsFullPath (λ s. slice_index entries s) valid start xs →
    IsFullPath (table_of file sectors valid).entry valid start xs
kept_path file sectors entries valid start xs is full =
    full_same (λ s. slice_index entries s) (table_of file sectors valid).entry valid start xs
    (λ s h. let room = is.room in is.is_table.each s (omega arith)) full

-- and so is a walk
pub kept_walk : (file sectors entries : List ℕ) (valid start at : ℕ) (xs : List ℕ) →
    IsKeptTable file sectors entries valid → IsChainWalk (λ s. slice_index entries s) valid start at xs →
    IsChainWalk (table_of file sectors valid).entry valid start at xs
kept_walk file sectors entries valid start at xs is walk =
    walk_same (λ s. slice_index entries s) (table_of file sectors valid).entry valid start at xs
    (λ s h. let room = is.room in is.is_table.each s (omega arith)) walk

-- a rule that is refused is broken there first
pub refused_first : (number : ℕ) (breaks : ℕ → Type 0) (wrong : Option ℕ) (fault : CfbFault) →
    LeastOrNone breaks wrong → IsRuleFault number wrong fault → IsCfbFault (rule number breaks) fault
refused_first number breaks wrong fault least refused =
    let broken = rw refused.1.0 at least in rw refused.1.1 (refl, broken)

-- one that is not refused holds
pub none_nowhere : (breaks : ℕ → Type 0) (wrong : Option ℕ) → LeastOrNone breaks wrong → wrong ≡ None → Nowhere breaks
none_nowhere breaks wrong least none = rw none at least

pub refused_chain : (number : ℕ) (holds : List ℕ → Type 0) (breaks : ℕ → Type 0) (chain : Chain) (fault : CfbFault) →
    IsFoundBy holds breaks chain → IsRuleFault number (broken_place chain) fault → IsCfbFault (rule number breaks) fault
refused_chain number holds breaks (Found sectors) fault found refused = let e : None ≡ Some refused.0 =
    refused.1.0 in absurd (cc e)
refused_chain number holds breaks (Breaks place) fault found refused = refused_first number breaks (Some place) fault
    found refused

-- an end by the entries that are kept is one by the table
pub kept_end : (file sectors entries : List ℕ) (valid start : ℕ) (end : End) → IsKeptTable file sectors entries valid →
    IsEnd (λ s. slice_index entries s) valid start end → IsEnd (table_of file sectors valid).entry valid start end
kept_end file sectors entries valid start end is e = record {
  sectors = e.sectors;
  full = kept_path file sectors entries valid start e.sectors is e.full;
  count = e.count;
  last = e.last;
}
