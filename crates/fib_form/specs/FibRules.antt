-- The rules on the FIB, 16 to 24, in their order. A place is an offset in WordDocument.
use Rattle.std.specs.Prelude.{◌≡◌, ◌≢◌, ◌⊎◌, ℕ, ◌+◌, ◌*◌, ◌<◌, ◌≤◌, List, length}
use Rattle.doc_bits.specs.Number.{u32_at}
use Rattle.doc_bits.specs.Rules.{Rules, rule, ◌then◌, IsFirstOffset, Among, Breaks, IsLeastOfAll}
use Rattle.fib_form.specs.declared.form.Form.{Form}
use Rattle.fib_form.specs.declared.form.Form.TheVariants.{Early, Later}
use Rattle.fib_form.specs.Fib.{FibField, WIdent, NFib, Flags, Csw, Cslw, CcpText, CcpAtn, CbRgFcLcb, CswNew}
use Rattle.fib_form.specs.Fib.{LaterCswNew, NFibNew, CQuickSavesNew, form_pairs, fib_form, fib_size}
use Rattle.fib_form.specs.Fib.{field_offset, fib_number}
use Rattle.fib_form.specs.Fib.{fib_encrypted, fib_obfuscated, fib_glossary, fib_ccp_text, fib_ccp_ftn}
use Rattle.fib_form.specs.Fib.{fib_ccp_hdd, fib_pair, fib_pair_place}

-- the field has another number than the wanted one
abbrev pub IsWrongField : List ℕ → FibField → ℕ → ℕ → Type 0
IsWrongField wd field wanted p = (p ≡ field_offset field) × (fib_number field wd ≢ wanted)

-- the stream is shorter than a FIB of its form
abbrev pub IsTruncatedFib : List ℕ → ℕ → Type 0
IsTruncatedFib wd p = (p ≡ length wd) × (length wd < fib_size wd)

-- the document is encrypted or obfuscated
abbrev pub IsHidden : List ℕ → ℕ → Type 0
IsHidden wd p = (p ≡ field_offset Flags) × ((fib_encrypted wd ≡ 1) ⊎ (fib_obfuscated wd ≡ 1))

-- the document is a glossary
abbrev pub IsGlossary : List ℕ → ℕ → Type 0
IsGlossary wd p = (p ≡ field_offset Flags) × (fib_glossary wd ≡ 1)

-- the number of pairs is that of neither form
abbrev pub IsOtherForm : List ℕ → ℕ → Type 0
IsOtherForm wd p =
    (p ≡ field_offset CbRgFcLcb) × ((fib_number CbRgFcLcb wd ≢ form_pairs Early) × (fib_number CbRgFcLcb wd ≢
    form_pairs Later))

-- the number of quick saves behind the pairs is above 15
abbrev pub IsOverCount : List ℕ → ℕ → Type 0
IsOverCount wd p = (p ≡ field_offset CQuickSavesNew) × (15 < fib_number CQuickSavesNew wd)

-- what is behind the pairs is not that of the form
abbrev pub IsWrongTail : Form → List ℕ → ℕ → Type 0
IsWrongTail Early wd p = IsWrongField wd CswNew 0 p
IsWrongTail Later wd p = IsWrongField wd LaterCswNew 2 p ⊎ (IsWrongField wd NFibNew 0x00D9 p ⊎ IsOverCount wd p)

-- cbRgFcLcb or what is behind the pairs is not that of a form
abbrev pub IsWrongForm : List ℕ → ℕ → Type 0
IsWrongForm wd p = IsOtherForm wd p ⊎ IsWrongTail (fib_form wd) wd p

-- csw, cslw, cbRgFcLcb or what is behind the pairs is not that of a form
abbrev pub IsWrongSize : List ℕ → ℕ → Type 0
IsWrongSize wd p = IsWrongField wd Csw 14 p ⊎ (IsWrongField wd Cslw 22 p ⊎ IsWrongForm wd p)

-- Profile: comments, endnotes and text boxes are refused. One of their four counts, which are
-- from ccpAtn on, is not 0
abbrev pub HasOtherStory : List ℕ → ℕ → ℕ → Type 0
HasOtherStory wd k p = (p ≡ field_offset CcpAtn + 4 * k) × (u32_at wd (field_offset CcpAtn + 4 * k) ≢ 0)

-- there is no main text, or the three stories have more than 500,000 characters
abbrev pub IsWrongTextLength : List ℕ → ℕ → Type 0
IsWrongTextLength wd p =
    (p ≡ field_offset CcpText) × ((fib_ccp_text wd ≡ 0) ⊎ (500000 < fib_ccp_text wd + fib_ccp_ftn wd + fib_ccp_hdd wd))

-- the part that a pair names is longer than an empty table
abbrev pub IsLongPart : List ℕ → ℕ → ℕ → ℕ → Type 0
IsLongPart wd n most p = (p ≡ fib_pair_place n) × (most < (fib_pair wd n).1)

-- Profile: drawings and endnotes are refused
abbrev pub HasRefusedPart : List ℕ → ℕ → Type 0
HasRefusedPart wd p = IsLongPart wd 40 4 p ⊎ (IsLongPart wd 41 4 p ⊎ IsLongPart wd 46 4 p)

abbrev pub fib_rules : List ℕ → Rules ℕ
fib_rules wd =
    rule 16 (IsTruncatedFib wd)
    then rule 17 (IsWrongField wd WIdent 0xA5EC)
    then rule 18 (IsWrongField wd NFib 0x00C1)
    then rule 19 (IsHidden wd)
    then rule 20 (IsGlossary wd)
    then rule 21 (IsWrongSize wd)
    then rule 22 (Among 4 (HasOtherStory wd))
    then rule 23 (IsWrongTextLength wd)
    then rule 24 (HasRefusedPart wd)

-- the first broken rule is the least of all broken ones, at its least place
abbrev pub FirstIsLeast : Type 0
FirstIsLeast = (wd : List ℕ) (r p : ℕ) → IsFirstOffset (fib_rules wd) r p → IsLeastOfAll (λ a b. a ≤ b)
    (Breaks (fib_rules wd)) r p
