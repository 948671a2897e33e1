-- Bin tables: their ranges in order, and the table that is printed.
use Rattle.std.proofs.Common.{◌≡◌, inl, inr, ℕ, zero, suc, ◌+◌, ◌-◌, ◌≤◌, List, sym, ap, ◌∙◌, subst, arith, add-zero}
use Rattle.std.proofs.lemmas.Bool.{cases_lt}
use Rattle.doc_bits.specs.Plc.{plc_cp}
use Rattle.fkp_pages.specs.Bin.{bin_count, IsBinTable, IsBinRange, IsBinPage, page_number}

-- the fcs ascend
pub bin_ascends : (bin : List ℕ) (i n : ℕ) → IsBinTable bin → i + n ≤ bin_count bin → plc_cp bin i ≤ plc_cp bin (i + n)
bin_ascends bin i zero table h = rw (add-zero i) (omega arith)
bin_ascends bin i (suc n) table h =
    let before = bin_ascends bin i n table (omega arith) in
    let step = table.ascend (i + n) (omega arith) in
    let place : i + suc n ≡ i + n + 1 = omega arith in
    rw place (omega arith)

pub bin_fcs_ascend : (bin : List ℕ) (i j : ℕ) → IsBinTable bin → i ≤ j → j ≤ bin_count bin → plc_cp bin i ≤ plc_cp bin j
bin_fcs_ascend bin i j table h w =
    let place : i + (j - i) ≡ j = omega arith in
    subst (λ k. plc_cp bin i ≤ plc_cp bin k) place (bin_ascends bin i (j - i) table (omega arith))

-- one range holds a place
pub bin_range_is_one : (bin : List ℕ) (fc i j : ℕ) → IsBinTable bin → IsBinRange bin fc i → IsBinRange bin fc j → i ≡ j
bin_range_is_one bin fc i j table one other =
    elim (cases_lt i j) [
      | inl h ↦ (let apart = bin_fcs_ascend bin (i + 1) j table (omega arith) (omega (arith, other.below)) in
          absurd (omega (arith, one.to, other.from)))
      | inr h ↦ elim (cases_lt j i) [
        | inl g ↦ (let apart = bin_fcs_ascend bin (j + 1) i table (omega arith) (omega (arith, one.below)) in
            absurd (omega (arith, other.to, one.from)))
        | inr g ↦ omega arith
      ]
    ]

-- the table names one page at a place
pub bin_page_one : (bin : List ℕ) (fc one other : ℕ) → IsBinTable bin → IsBinPage bin fc one → IsBinPage bin fc
    other → one ≡ other
bin_page_one bin fc one other table a b =
    a.page ∙ ap (page_number bin) (bin_range_is_one bin fc a.entry b.entry table a.range b.range) ∙ sym b.page
