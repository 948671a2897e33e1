-- A chain is whole or broken at one place.
use Rattle.std.proofs.Common.{◌≡◌, ◌≢◌, ◌⊎◌, inl, inr, ℕ, ◌*◌, ◌<◌, ◌≤◌, List, length, refl, sym, ap, ◌∙◌, subst}
use Rattle.std.proofs.Common.{arith}
use Rattle.std.proofs.lemmas.Bool.{cases_lt, cases_eq}
use Rattle.doc_bits.specs.Rules.{Nowhere, IsLeast}
use Rattle.cfb_sectors.specs.SectorChain.{IsFullPath, last_of, end_of_chain}
use Rattle.cfb_sectors.specs.Chain.{Table, ChainHead, HoldsChain, BreaksChain, BreaksOnTheWay}
use Rattle.cfb_sectors.proofs.ChainLemmas.{path_same, last_within, full_unique, chain_full, chain_unique}

-- tables with the same entries have the same full paths
pub full_same : (entry other : ℕ → ℕ) (valid start : ℕ) (xs : List ℕ) → ((s : ℕ) → s < valid → entry s ≡ other s) →
    IsFullPath entry valid start xs → IsFullPath other valid start xs
full_same entry other valid start xs same f =
    let e : entry (last_of xs) ≡ other (last_of xs) = same (last_of xs) (last_within entry valid start xs f.path) in
    record {
      path = path_same entry other valid start xs same f.path;
      stops = elim f.stops [
        | inl out ↦ inl (subst (λ n. valid ≤ n) e out)
        | inr again ↦ inr (record { index = again.index; inside = again.inside; here = again.here ∙ e })
      ];
    }

-- a chain that breaks on the way breaks nowhere else
pub way_least : (table : Table) (head : ChainHead) (place : ℕ) → BreaksOnTheWay table head place →
    IsLeast (λ a b. a ≤ b) (BreaksChain table head) place
way_least table head place way = record {
  broken = inr way;
  least = λ p h. elim h [
    | inl start ↦
        let wrong = start.wrong in
        let some = way.full.path.some in
        let low = way.full.path.within 0 some in
        let first = way.full.path.first in absurd (omega arith)
    | inr other ↦
        let e = full_unique table.entry table.valid head.start way.sectors other.sectors way.full other.full in
        let same : place ≡ p = way.here ∙ (ap (λ xs. table.place (last_of xs)) e ∙ sym other.here) in omega arith
  ];
}

-- a full path that ends with ENDOFCHAIN and has enough sectors is the chain
pub full_holds : (table : Table) (head : ChainHead) (xs : List ℕ) → table.valid ≤ end_of_chain →
    IsFullPath table.entry table.valid head.start xs → table.entry (last_of xs) ≡ end_of_chain →
    head.size ≤ length xs * head.unit → HoldsChain table head xs
full_holds table head xs range full ends enough = record
    { range = range; chain = record { path = full.path; ends = ends }; enough = enough }

-- where no chain is broken a full path is the chain
pub full_whole : (table : Table) (head : ChainHead) (xs : List ℕ) → table.valid ≤ end_of_chain →
    IsFullPath table.entry table.valid head.start xs → Nowhere (BreaksChain table head) → HoldsChain table head xs
full_whole table head xs range full none =
    let broken = λ (wrong : (table.entry (last_of xs) ≢ end_of_chain) ⊎ (length xs * head.unit < head.size)).
    none (table.place (last_of xs)) (inr (record { sectors = xs; full = full; wrong = wrong; here = refl })) in
    full_holds table head xs range full
    (elim (cases_eq (table.entry (last_of xs)) end_of_chain) [ inl e ↦ e | inr ne ↦ absurd (broken (inl ne)) ])
    (elim (cases_lt (length xs * head.unit) head.size) [ inl lo ↦ absurd (broken (inr lo)) | inr hi ↦ hi ])

-- and its start is valid
pub whole_start : (table : Table) (head : ChainHead) → Nowhere (BreaksChain table head) → head.start < table.valid
whole_start table head none = elim (cases_lt head.start table.valid) [
  | inl lo ↦ lo
  | inr hi ↦ absurd (none head.field (inl (record { here = refl; wrong = hi })))
]

-- a whole chain breaks nowhere
pub holds_none : (table : Table) (head : ChainHead) (xs : List ℕ) → HoldsChain table head xs →
    Nowhere (BreaksChain table head)
holds_none table head xs h = λ p b. elim b [
  | inl start ↦
      let wrong = start.wrong in
      let some = h.chain.path.some in
      let low = h.chain.path.within 0 some in
      let first = h.chain.path.first in omega arith
  | inr way ↦
      let e = full_unique table.entry table.valid head.start xs way.sectors
      (chain_full table.entry table.valid head.start xs h.range h.chain) way.full in
      elim way.wrong [
        | inl other ↦ other (sym (ap (λ ys. table.entry (last_of ys)) e) ∙ h.chain.ends)
        | inr short ↦ let enough = h.enough in let len = ap length e in
            let same : length xs * head.unit ≡ length way.sectors * head.unit = ap (λ n. n * head.unit)
            len in omega arith
      ]
]

-- there is one chain
pub holds_unique : (table : Table) (head : ChainHead) (xs ys : List ℕ) → HoldsChain table head xs →
    HoldsChain table head ys → xs ≡ ys
holds_unique table head xs ys h k = chain_unique table.entry table.valid head.start xs ys h.range h.chain k.chain
