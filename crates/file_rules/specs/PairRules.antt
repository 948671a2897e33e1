-- Rule 26: the parts of the table stream that the pairs of the FIB name.
use Rattle.std.specs.Prelude.{◌≡◌, ◌≢◌, ◌⊎◌, ℕ, ◌+◌, ◌<◌, List, [], ◌∷◌, slice_index}
use Rattle.doc_bits.specs.Rules.{Among}
use Rattle.fib_form.specs.Fib.{fib_pair, fib_pair_place}

-- the numbers of the pairs that this rule checks: Stshf, PlcffndRef, PlcffndTxt, PlcfSed, PlcfHdd, PlcfBteChpx,
-- PlcfBtePapx, SttbfFfn, PlcfFldMom, PlcfFldHdr, PlcfFldFtn, Dop, SttbfAssoc, Clx, PlfLst, PlfLfo
abbrev pub read_pairs : List ℕ
read_pairs = 1 ∷ 2 ∷ 3 ∷ 6 ∷ 11 ∷ 12 ∷ 13 ∷ 15 ∷ 16 ∷ 17 ∷ 18 ∷ 31 ∷ 32 ∷ 33 ∷ 73 ∷ 74 ∷ []

-- the number is one of these. Those of the parts of bookmarks (21 to 23) are not
abbrev pub IsReadPair : ℕ → Type 0
IsReadPair n = (k : ℕ) × ((k < 16) × (slice_index read_pairs k ≡ n))

-- of these, those that no document goes without: Stshf, PlcfSed, PlcfBteChpx, PlcfBtePapx, Clx
abbrev pub IsNeeded : ℕ → Type 0
IsNeeded n = (n ≡ 1) ⊎ ((n ≡ 6) ⊎ ((n ≡ 12) ⊎ ((n ≡ 13) ⊎ (n ≡ 33))))

-- a part that is not empty is beyond the table stream, or one that is needed is empty
abbrev pub IsWrongPart : ℕ × ℕ → ℕ → ℕ → Type 0
IsWrongPart pair n table_len =
    ((pair.1 ≢ 0) × (table_len < pair.0 + pair.1)) ⊎ ((pair.1 ≡ 0) × IsNeeded n)

-- the k-th of the pairs that are read names a wrong part
abbrev pub HasWrongPart : List ℕ → ℕ → ℕ → ℕ → Type 0
HasWrongPart wd table_len k p =
    let n = slice_index read_pairs k in (p ≡ fib_pair_place n) × IsWrongPart (fib_pair wd n) n table_len

-- rule 26
abbrev pub BreaksPairs : List ℕ → ℕ → ℕ → Type 0
BreaksPairs wd table_len = Among 16 (HasWrongPart wd table_len)
