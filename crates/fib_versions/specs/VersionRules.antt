-- The rules on the FIB of any program from Word 97 to Word 2007, by the numbers of fib_form's: 16 to 18, 21 and 23 are
-- weaker, 22 and 24 are gone. The form is what its own numbers say; a place is an offset in WordDocument.
use Rattle.std.specs.Prelude.{◌≡◌, ◌≢◌, ◌⊎◌, ℕ, ◌<◌, ◌≤◌, List, length}
use Rattle.doc_bits.specs.Rules.{Rules, rule, ◌then◌, IsFirstOffset, Breaks, IsLeastOfAll}
use Rattle.fib_form.specs.declared.form.Form.TheVariants.{Early}
use Rattle.fib_form.specs.Fib.{WIdent, NFib, Csw, Cslw, CcpText, CbRgFcLcb, form_size, kept_pairs}
use Rattle.fib_form.specs.Fib.{field_offset, fib_number, fib_encrypted, fib_obfuscated, fib_ccp_text}
use Rattle.fib_form.specs.FibRules.{IsWrongField, IsHidden, IsGlossary}
use Rattle.fib_versions.specs.Versions.{fib_pair_count, version_size, all_ccp}

-- [MS-DOC] nFib of the first of these programs
abbrev pub oldest_fib : ℕ
oldest_fib = 0x00C0

-- the numbers of the FIB are those of such a program: in an older or a hidden one other things are at their places
pub record IsOpenFib (wd : List ℕ) : Type 0 where
  pub ident : fib_number WIdent wd ≡ 0xA5EC
  pub recent : oldest_fib ≤ fib_number NFib wd
  pub encrypted : fib_encrypted wd ≢ 1
  pub obfuscated : fib_obfuscated wd ≢ 1

-- the stream is shorter than the early form, or than its own numbers say
abbrev pub IsShortFib : List ℕ → ℕ → Type 0
IsShortFib wd p = (p ≡ length wd) × ((length wd < form_size Early) ⊎ (IsOpenFib wd × (length wd < version_size wd)))

-- a program before Word 97 wrote it
abbrev pub IsOlder : List ℕ → ℕ → Type 0
IsOlder wd p = (p ≡ field_offset NFib) × (fib_number NFib wd < oldest_fib)

-- it has fewer pairs than Word 97 wrote
abbrev pub HasFewPairs : List ℕ → ℕ → Type 0
HasFewPairs wd p = (p ≡ field_offset CbRgFcLcb) × (fib_pair_count wd < kept_pairs)

-- csw, cslw or cbRgFcLcb is that of no such program
abbrev pub HasOtherForm : List ℕ → ℕ → Type 0
HasOtherForm wd p = IsWrongField wd Csw 14 p ⊎ (IsWrongField wd Cslw 22 p ⊎ HasFewPairs wd p)

-- there is no main text, or all seven stories have more than 500,000 characters
abbrev pub HasWrongLength : List ℕ → ℕ → Type 0
HasWrongLength wd p = (p ≡ field_offset CcpText) × ((fib_ccp_text wd ≡ 0) ⊎ (500000 < all_ccp wd))

abbrev pub version_rules : List ℕ → Rules ℕ
version_rules wd =
    rule 16 (IsShortFib wd)
    then rule 17 (IsWrongField wd WIdent 0xA5EC)
    then rule 18 (IsOlder wd)
    then rule 19 (IsHidden wd)
    then rule 20 (IsGlossary wd)
    then rule 21 (HasOtherForm wd)
    then rule 23 (HasWrongLength wd)

-- the first broken rule is the least of all broken ones, at its least place
abbrev pub FirstVersionFaultIsLeast : Type 0
FirstVersionFaultIsLeast = (wd : List ℕ) (r p : ℕ) → IsFirstOffset (version_rules wd) r p →
    IsLeastOfAll (λ a b. a ≤ b) (Breaks (version_rules wd)) r p
