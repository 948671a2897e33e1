-- What a Prm names are entries.
use Rattle.std.proofs.Common.{◌≡◌, refl, sym, subst, ℕ, ◌<◌, ◌==◌, Bool, true, false, List, [], ◌∷◌, length, Some, lit<}
use Rattle.std.specs.List.{All}
use Rattle.std.proofs.lemmas.List.Elements.{All-nil, All-cons}
use Rattle.sprm_table.specs.declared.operands.OperandSize.TheVariants.{Fixed}
use Rattle.sprm_table.specs.Operands.{size_of, IsSizeOf}
use Rattle.sprm_table.specs.Prms.{prm_codes, code_beside, code_of_isprm}
use Rattle.sprm_table.specs.Sprm.{Prl, IsPrl}
use Rattle.piece_table.specs.declared.pcd.Prm.{Prm}
use Rattle.piece_table.specs.declared.pcd.Prm.TheVariants.{Nothing, Sprm, Prc}
use Rattle.piece_table.specs.PrmLists.{NamesSprms}

-- what holds of the code of each row holds of the code beside a number
AllRows : (ℕ → Type 0) → List (ℕ × ℕ) → Type 0
AllRows P [] = Unit {0}
AllRows P (row ∷ rows) = P row.1 × AllRows P rows

row_of : (P : ℕ → Type 0) (isprm code : ℕ) (row : ℕ × ℕ) (rows : List (ℕ × ℕ)) (b : Bool) → (isprm == row.0) ≡ b →
    code_beside isprm (row ∷ rows) ≡ Some code → P row.1 → (code_beside isprm rows ≡ Some code → P code) → P code
row_of P isprm code row rows true same e here later =
    let h : Some row.1 ≡ Some code = rw same at e in let k : row.1 ≡ code = cc in subst P k here
row_of P isprm code row rows false other e here later = later (rw other at e)

code_in_rows : (P : ℕ → Type 0) (isprm code : ℕ) (rows : List (ℕ × ℕ)) → AllRows P rows →
    code_beside isprm rows ≡ Some code → P code
unfolding AllRows
code_in_rows P isprm code [] all e = absurd (cc (e))
code_in_rows P isprm code (row ∷ rows) all e =
    row_of P isprm code row rows (isprm == row.0) refl e all.0 (code_in_rows P isprm code rows all.1)

-- a code that a Prm carries makes an entry with one byte
TakesByte : ℕ → Type 0
TakesByte code = (byte : ℕ) → IsPrl (code, byte ∷ [])

takes_byte : (code : ℕ) → 0 < code → code < 65536 → size_of code ≡ Fixed 1 → TakesByte code
unfolding TakesByte
takes_byte code some word size byte = record {
  some = some;
  word = word;
  size = subst (λ s. IsSizeOf s
      (length (byte ∷ []))) (sym size) refl;
}

codes_take_bytes : AllRows TakesByte prm_codes
unfolding AllRows
codes_take_bytes = (
  takes_byte 0x2403 (lit< tt) (lit< tt) refl,
  (
    takes_byte 0x2405 (lit< tt) (lit< tt) refl,
    (
      takes_byte 0x2406 (lit< tt) (lit< tt) refl,
      (
        takes_byte 0x2407 (lit< tt) (lit< tt) refl,
        (
          takes_byte 0x2416 (lit< tt) (lit< tt) refl,
          (
            takes_byte 0x2417 (lit< tt) (lit< tt) refl,
            (
              takes_byte 0x2A33 (lit< tt) (lit< tt) refl,
              (
                takes_byte 0x0835 (lit< tt) (lit< tt) refl,
                (
                  takes_byte 0x0836 (lit< tt) (lit< tt) refl,
                  (
                    takes_byte 0x0837 (lit< tt) (lit< tt) refl,
                    (
                      takes_byte 0x0838 (lit< tt) (lit< tt) refl,
                      (
                        takes_byte 0x0839 (lit< tt) (lit< tt) refl,
                        (
                          takes_byte 0x083A (lit< tt) (lit< tt) refl,
                          (
                            takes_byte 0x083B (lit< tt) (lit< tt) refl,
                            (
                              takes_byte 0x083C (lit< tt) (lit< tt) refl,
                              (
                                takes_byte 0x2A3E (lit< tt) (lit< tt) refl,
                                (
                                  takes_byte 0x2A42 (lit< tt) (lit< tt)
                                      refl,
                                  (takes_byte 0x2A48 (lit< tt) (lit< tt) refl, tt),
                                ),
                              ),
                            ),
                          ),
                        ),
                      ),
                    ),
                  ),
                ),
              ),
            ),
          ),
        ),
      ),
    ),
  ),
)

prm_entry : (isprm code byte : ℕ) → code_of_isprm isprm ≡ Some code → IsPrl (code, byte ∷ [])
unfolding TakesByte
prm_entry isprm code byte e = code_in_rows TakesByte isprm code prm_codes codes_take_bytes e byte

-- what a Prm names are entries
pub named_entries : (prcs : List (List ℕ)) (prm : Prm) (sprms : List Prl) → NamesSprms prcs prm sprms → All IsPrl sprms
named_entries prcs Nothing sprms named = subst (All IsPrl) (sym named) (All-nil IsPrl)
named_entries prcs (Sprm isprm operand) sprms named =
    let code = named.0 in
    subst (All IsPrl) (sym named.1.1) (All-cons IsPrl (code, operand ∷ []) [] (prm_entry isprm code operand named.1.0)
    (All-nil IsPrl))
named_entries prcs (Prc number) sprms named = named.1.1.entries
