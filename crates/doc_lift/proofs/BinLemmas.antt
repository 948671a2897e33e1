-- The rules on the bin tables hold of a file of which the rules that are left hold.
use Rattle.std.proofs.Common.{◌≡◌, ◌∙◌, refl, sym, ap, subst, ℕ, List}
use Rattle.doc_bits.specs.declared.places.Where.TheVariants.{Table}
use Rattle.doc_bits.specs.Rules.{Hold, rule}
use Rattle.doc_bits.specs.Places.{rules_in}
use Rattle.fib_form.specs.Fib.{fib_pair, table_part}
use Rattle.fib_form.specs.FibFields.{fib_fields}
use Rattle.fib_form.specs.TableParts.{pair_number}
use Rattle.fib_form.specs.declared.table_parts.TablePart.{TablePart}
use Rattle.fib_form.specs.declared.table_parts.TablePart.TheVariants.{PlcfBteChpx, PlcfBtePapx}
use Rattle.fib_versions.specs.Early.{early_pairs, early_fields}
use Rattle.file_rules.specs.Source.{DocSource, part_place, table_part_bytes}
use Rattle.file_rules.specs.BinRules.{BreaksBinTable, rules_of_bins}
use Rattle.doc_meaning.specs.Lifted.{IsReadPart}
use Rattle.doc_meaning.specs.Apart.{ReadsClx}
use Rattle.doc_meaning.proofs.Public.{apart_part, read_of}
use Rattle.file_rules.specs.FileRules.{doc_source_of}
use Rattle.doc_lift.specs.LiftedRules.{IsLiftedSource, lifted_wd, lifted_table_rules}
use Rattle.doc_lift.proofs.SkipLemmas.{read_part}
use Rattle.doc_lift.proofs.FillLemmas.{read_layout}

-- the rule on a bin table reads its bytes and its place alone
same_bin : (number : ℕ) (bytes other : List ℕ) (place at : ℕ) → bytes ≡ other → place ≡ at →
    Hold (rules_in Table (rule number (BreaksBinTable bytes place))) →
    Hold (rules_in Table (rule number (BreaksBinTable other at)))
same_bin number bytes other place at same here hold =
    subst (λ p. Hold (rules_in Table (rule number (BreaksBinTable other p)))) here
    (subst (λ b. Hold (rules_in Table (rule number (BreaksBinTable b place)))) same hold)

-- where a part begins and which bytes it has in a source
record HasPartOf (wd table : List ℕ) (source : DocSource) (part : TablePart) : Type 0 where
  place : part_place source part ≡ (fib_pair wd (pair_number part)).0
  bytes : table_part_bytes source part ≡ table_part wd table (pair_number part)

source_part : (wd table read : List ℕ) (part : TablePart) (source : DocSource) → IsReadPart part →
    fib_fields (lifted_wd wd) ≡ early_fields wd (early_pairs wd) → ReadsClx (early_pairs wd) table read →
    (is : IsLiftedSource wd read source) → HasPartOf wd table (doc_source_of is.read) part
source_part wd table read part source reads fields clx is =
    let found = read_part wd read is.units is.text is.read part fields is.front is.read_is reads.no_sheet in
    record { place = found.place; bytes = found.bytes ∙ apart_part wd table read part clx reads.no_clx }

-- so they hold of every source of the two streams
pub lifted_bins : (wd table : List ℕ) (old : DocSource) → fib_fields (lifted_wd wd) ≡ early_fields wd (early_pairs wd) →
    old.wd ≡ wd → old.table ≡ table → Hold (lifted_table_rules wd table) → Hold (rules_of_bins old)
lifted_bins wd table old fields wd_is table_is hold =
    let read = hold.0 in
    let clx = hold.1.0 in
    let held = hold.1.1 in
    let is = held.1.1.0 in
    let source = doc_source_of is.read in
    let place : (part : TablePart) → part_place old part ≡ (fib_pair wd (pair_number part)).0 =
    λ part. ap (λ (w : List ℕ). (fib_pair w (pair_number part)).0) wd_is in
    let bytes : (part : TablePart) → table_part_bytes old part ≡ table_part wd table (pair_number part) =
    λ part. λ i. table_part (wd_is i) (table_is i) (pair_number part) in
    let chars = source_part wd table read PlcfBteChpx held.1.0 (read_of PlcfBteChpx refl) fields clx is in
    let pars = source_part wd table read PlcfBtePapx held.1.0 (read_of PlcfBtePapx refl) fields clx is in
    let bins = (read_layout wd read held.1.0 is held.1.1.1).1 in (
      same_bin 37 (table_part_bytes source PlcfBteChpx) (table_part_bytes old PlcfBteChpx) (part_place source
          PlcfBteChpx)
          (part_place old PlcfBteChpx) (chars.bytes ∙ sym (bytes PlcfBteChpx)) (chars.place ∙ sym (place PlcfBteChpx))
          bins.0,
      same_bin 38 (table_part_bytes source PlcfBtePapx) (table_part_bytes old PlcfBtePapx) (part_place source
          PlcfBtePapx)
          (part_place old PlcfBtePapx) (pars.bytes ∙ sym (bytes PlcfBtePapx)) (pars.place ∙ sym (place PlcfBtePapx))
          bins.1,
    )
