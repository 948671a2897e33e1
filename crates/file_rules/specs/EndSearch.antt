-- The search for the units that end a paragraph: what it has found, and which sections it has met.
use Rattle.std.specs.Prelude.{◌≡◌, ◌⊎◌, ℕ, ◌+◌, ◌<◌, ◌≤◌, Bool, true, false, List, map, slice_index}
use Rattle.doc_bits.specs.Rules.{IsLeast}
use Rattle.doc_parts.specs.declared.lists.Sed.{Sed}
use Rattle.doc_parts.specs.Cps.{AreCpsInOrder}
use Rattle.doc_parts.specs.Sections.{sed_cps}
use Rattle.text_codes.specs.Paragraph.{is_paragraph_end}
use Rattle.file_rules.specs.SectionRules.{section_begin}
use Rattle.file_rules.specs.FormatRules.{is_end, section_ends, ends_section}

-- no CP from one on and before another is so
abbrev pub HasNoneIn : (ℕ → Bool) → ℕ → ℕ → Type 0
HasNoneIn ends from to = (cp : ℕ) → from ≤ cp → cp < to → ends cp ≡ false

-- one there that is so
pub record IsSoIn (ends : ℕ → Bool) (from to cp : ℕ) : Type 0 where
  pub behind : from ≤ cp
  pub within : cp < to
  pub is_so : ends cp ≡ true

-- the unit of a CP ends a paragraph
abbrev pub ends_at : List ℕ → List Sed → ℕ → ℕ → Bool
ends_at units sections main_len cp = is_paragraph_end (slice_index units cp) (ends_section sections main_len cp)

-- the sections ascend, and begin within the main text
abbrev pub AreSectionsInOrder : List Sed → ℕ → Type 0
AreSectionsInOrder sections main_len = AreCpsInOrder (sed_cps main_len) (map (λ sed. sed.start) sections)

-- the later sections before this number begin up to a CP
pub record BeginUpTo (sections : List Sed) (number cp : ℕ) : Type 0 where
  pub later : 1 ≤ number
  pub each : (k : ℕ) → 1 ≤ k → k < number → section_begin sections k ≤ cp

-- the first CP behind another before which a section ends
abbrev pub IsNextEnd : List Sed → ℕ → ℕ → ℕ → Type 0
IsNextEnd sections main_len cp =
    IsLeast (λ a b. a ≤ b) (IsSoIn (is_end (section_ends sections main_len)) (cp + 1) (main_len + 1))

-- where the stretch of so many units from a CP on ends: with the next section, and behind the main text with the last
abbrev pub IsStretchEnd : List Sed → ℕ → ℕ → ℕ → ℕ → Type 0
IsStretchEnd sections main_len len cp stop =
    IsNextEnd sections main_len cp stop ⊎ ((main_len ≤ cp) × (stop ≡ len))
