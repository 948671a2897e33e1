-- The units that end a paragraph have their page.
use Rattle.std.proofs.Common.{◌≡◌, ◌∙◌, refl, sym, ap, subst, ℕ, zero, suc, ◌<◌, ◌+◌, ◌-◌, ◌==◌, ◌&&◌, ◌||◌, Bool}
use Rattle.std.proofs.Common.{true, false, List, [], ◌∷◌, length, filter, arith, inl, inr}
use Rattle.std.specs.Prelude.{slice_index, zip, is_some, nat_lt, All}
use Rattle.std.specs.List.{list_any, range_with_len}
use Rattle.std.proofs.lemmas.Bool.{cases_Bool, eq-eqb, eqb-true, lt-ltb, true≢false}
use Rattle.std.proofs.lemmas.List.{length-map, get_or-map}
use Rattle.std.proofs.lemmas.List.Elements.{All-nil, All-cons, All-filter}
use Rattle.std.proofs.lemmas.List.Folds.{list_any_at}
use Rattle.doc_bits.proofs.Public.{there_is, All_at, both_true}
use Rattle.prop_map.specs.Settings.{Properties}
use Rattle.doc_parts.specs.declared.lists.Sed.{Sed}
use Rattle.fkp_pages.specs.declared.kind.PageKind.TheVariants.{Papx}
use Rattle.direct_props.specs.PageRules.{AreValidPlaces, IsValidPlace}
use Rattle.file_rules.specs.Source.{DocSource}
use Rattle.file_rules.specs.FormatRules.{judged_units, judged_places, section_ends, is_end, ends_section}
use Rattle.file_rules.specs.FormatRules.{ends_paragraph, paragraph_ends, paragraph_end_places}
use Rattle.file_rules.proofs.Public.{index_of_get, below_len}
use Rattle.text_codes.specs.Paragraph.{is_paragraph_end}
use Rattle.doc_model.specs.Entries.{entry_at_cp}
use Rattle.doc_read.specs.Sections.{section_lasts}
use Rattle.doc_read.proofs.EntryLemmas.{entry_found, entry_some}
use Rattle.doc_read.proofs.KeptPlaces.{paragraph_place}
use Rattle.doc_read.proofs.UpLemmas.{IsUpWithin, up_less}

-- the CPs that are kept pass the test, and are among the others
kept_true : (test : ℕ → Bool) (xs : List ℕ) → All (λ x. test x ≡ true) (filter test xs)
kept_true test [] = All-nil (λ x. test x ≡ true)
kept_true test (x ∷ xs) = elim (cases_Bool (test x)) [
  | inl passes ↦ rw passes (All-cons (λ x. test x ≡ true) x (filter test xs) passes (kept_true test xs))
  | inr fails ↦ rw fails (kept_true test xs)
]

-- where the place of each such unit is right their places are
pub paragraphs_right : (wd bin : List ℕ) (source : DocSource) (sections : List Sed) →
    ((cp : ℕ) → cp < length (judged_units source) → ends_paragraph source sections cp ≡ true →
    IsValidPlace Papx wd bin (slice_index (judged_places source) cp)) →
    AreValidPlaces Papx wd bin (paragraph_end_places source sections)
paragraphs_right wd bin source sections each k below =
    let test = ends_paragraph source sections in
    let ends = paragraph_ends source sections in
    let n = length (judged_units source) in
    let inside : k < length ends = omega (arith, below, length-map ends (slice_index (judged_places source))) in
    let found = there_is ends k inside in
    let passes = All_at (λ x. test x ≡ true) ends k found.0 (kept_true test (range_with_len 0 n)) found.1 in
    let within =
    All_at (λ c. c < n) ends k found.0 (All-filter test (λ c. c < n) (range_with_len 0 n) (below_len n)) found.1 in
    subst (IsValidPlace Papx wd bin)
    (sym (index_of_get (slice_index (judged_places source)) ends k found.0 found.1)) (each found.0 within passes)

-- the place of such a unit
pub paragraph_right : (wd bin : List ℕ) (source : DocSource) (sections : List Sed) →
    AreValidPlaces Papx wd bin (paragraph_end_places source sections) → (cp : ℕ) → cp < length (judged_units source) →
    ends_paragraph source sections cp ≡ true → IsValidPlace Papx wd bin (slice_index (judged_places source) cp)
paragraph_right wd bin source sections right cp below ends =
    let found = paragraph_place source sections cp below ends in
    subst (λ fc. IsValidPlace Papx wd bin fc) found.1.1 (right found.0 found.1.0)

-- a section ends with the CP at which properties are
pub section_ends_there : (sections : List Sed) (main_len : ℕ) (maps : List Properties) (cp : ℕ) →
    IsUpWithin 1 (main_len + 1) (section_ends sections main_len) →
    is_some (entry_at_cp (zip (section_lasts sections main_len) maps) cp) ≡ true → ends_section sections main_len cp ≡
    true
section_ends_there sections main_len maps cp is some =
    let ends = section_ends sections main_len in
    let found = entry_some (section_lasts sections main_len) maps cp some in
    let k = found.0 in
    let last = found.1.1 in
    let inside = found.1.0 in
    let below : k < length ends = omega (arith, inside, length-map ends (λ end. end - 1)) in
    let value : slice_index (section_lasts sections main_len) k ≡ slice_index ends k - 1 =
    get_or-map (λ end. end - 1) ends k 0 0 below in
    let above = is.above k below in
    let under = is.below k below in
    let end_is : slice_index ends k ≡ cp + 1 = omega (arith, value, last, above) in
    let low : cp < main_len = omega (arith, end_is, under) in
    let any : is_end ends (cp + 1) ≡ true =
    list_any_at (λ end. end == (cp + 1)) ends k 0 below (eq-eqb (slice_index ends k) (cp + 1) end_is) in
    ap (λ b. b && is_end ends (cp + 1)) (lt-ltb cp main_len low) ∙ any

-- where a test passes
pub any_index : (test : ℕ → Bool) (xs : List ℕ) → list_any test xs ≡ true →
    (k : ℕ) × ((k < length xs) × (test (slice_index xs k) ≡ true))
any_index test [] any = absurd (cc (any))
any_index test (x ∷ xs) any = elim (cases_Bool (test x)) [
  | inl here ↦ (zero, (omega arith, here))
  | inr not_here ↦
      let later = any_index test xs (rw not_here at any) in
      let below = later.1.0 in
      (suc later.0, (omega arith, later.1.1))
]

-- properties are at the CP with which a section ends
properties_there : (sections : List Sed) (main_len : ℕ) (maps : List Properties) (cp : ℕ) →
    IsUpWithin 1 (main_len + 1) (section_ends sections main_len) →
    length maps ≡ length (section_lasts sections main_len) →
    ends_section sections main_len cp ≡ true → is_some (entry_at_cp (zip (section_lasts sections main_len) maps) cp) ≡
    true
properties_there sections main_len maps cp up many here =
    let ends = section_ends sections main_len in
    let lasts = section_lasts sections main_len in
    let found = any_index (λ end. end == (cp + 1)) ends (both_true (nat_lt cp main_len) (is_end ends (cp + 1)) here).1
    in
    let k = found.0 in
    let end_is : slice_index ends k ≡ cp + 1 = eqb-true (slice_index ends k) (cp + 1) found.1.1 in
    let value : slice_index lasts k ≡ slice_index ends k - 1 = get_or-map (λ end. end - 1) ends k 0 0 found.1.0 in
    let last : slice_index lasts k ≡ cp = omega (arith, value, end_is) in
    let below : k < length lasts = omega (arith, found.1.0, length-map ends (λ end. end - 1)) in
    let its = there_is maps k (omega (arith, below, many)) in
    ap is_some (entry_found lasts maps cp k its.0 (up_less (main_len + 1) ends up) below last its.1)

-- properties are at a CP exactly where a section ends with it
pub section_same : (sections : List Sed) (main_len : ℕ) (maps : List Properties) (cp : ℕ) →
    IsUpWithin 1 (main_len + 1) (section_ends sections main_len) →
    length maps ≡ length (section_lasts sections main_len) →
    is_some (entry_at_cp (zip (section_lasts sections main_len) maps) cp) ≡ ends_section sections main_len cp
section_same sections main_len maps cp up many =
    let some = is_some (entry_at_cp (zip (section_lasts sections main_len) maps) cp) in
    elim (cases_Bool (ends_section sections main_len cp)) [
      | inl here ↦ properties_there sections main_len maps cp up many here ∙ sym here
      | inr not_here ↦ elim (cases_Bool some) [
        | inl there ↦
            absurd (true≢false (sym (section_ends_there sections main_len maps cp up there) ∙ not_here))
        | inr none ↦ none ∙ sym not_here
      ]
    ]

or_more : (x y z a b : Bool) → (a ≡ true → b ≡ true) → (x || (y || (z && a))) ≡ true → (x || (y || (z && b))) ≡ true
or_more true y z a b f e = refl
or_more false true z a b f e = refl
or_more false false true a b f e = f e
or_more false false false a b f e = e

-- a unit that ends a paragraph does so where more sections end
pub ends_more : (unit : ℕ) (a b : Bool) → (a ≡ true → b ≡ true) → is_paragraph_end unit a ≡ true →
    is_paragraph_end unit b ≡ true
ends_more unit a b f e = or_more (unit == 0x0D) (unit == 0x07) (unit == 0x0C) a b f e
