-- A range of CPs that has none, and the ends of sections by their order.
use Rattle.std.proofs.Common.{◌≡◌, ◌∙◌, refl, sym, ap, ℕ, zero, suc, ◌+◌, ◌-◌, ◌<◌, ◌≤◌, ◌==◌}
use Rattle.std.proofs.Common.{Bool, true, false, ◌||◌, List, length, map, drop, filter, inl, inr, arith}
use Rattle.std.specs.List.{range_with_len}
use Rattle.std.specs.Prelude.{slice_index}
use Rattle.std.proofs.lemmas.Bool.{cases_lt, eq-eqb, ne_eqb, false≢true, false_from_ne_true}
use Rattle.std.proofs.lemmas.List.{length-drop, length-map}
use Rattle.std.proofs.lemmas.List.Elements.{All-from_get_or}
use Rattle.std.proofs.lemmas.List.Folds.{list_any_none, list_any_at}
use Rattle.std.proofs.lemmas.Grind.{get_or_after_one}
use Rattle.doc_bits.specs.Rules.{IsLeast, Nowhere}
use Rattle.doc_bits.proofs.Public.{first_number, or_true}
use Rattle.doc_parts.specs.declared.lists.Sed.{Sed}
use Rattle.file_rules.specs.SectionRules.{section_begin}
use Rattle.file_rules.specs.FormatRules.{is_end, section_ends}
use Rattle.file_rules.specs.EndSearch.{AreSectionsInOrder, BeginUpTo, HasNoneIn, IsSoIn, IsNextEnd}
use Rattle.file_rules.proofs.FormatLemmas.{is_end-append, none-added}

-- ---- none in a range, and one that is first

-- two ranges, one behind the other
pub none_joined : (ends : ℕ → Bool) (from cp to : ℕ) →
    HasNoneIn ends from cp → HasNoneIn ends cp to → HasNoneIn ends from to
none_joined ends from cp to before behind = λ k above below. elim (cases_lt k cp) [
  | inl low ↦ before k above low
  | inr high ↦ behind k high below
]

-- a range, and one CP behind it
pub none_more : (ends : ℕ → Bool) (from cp to : ℕ) → to ≡ cp + 1 →
    HasNoneIn ends from cp → ends cp ≡ false → HasNoneIn ends from to
none_more ends from cp to next before here = λ k above below. elim (cases_lt k cp) [
  | inl low ↦ before k above low
  | inr high ↦ ap ends (omega arith) ∙ here
]

-- the first one that is so
pub first_so : (ends : ℕ → Bool) (from to cp : ℕ) → from ≤ cp → cp < to → ends cp ≡ true → HasNoneIn ends from cp →
    IsLeast (λ a b. a ≤ b) (IsSoIn ends from to) cp
first_so ends from to cp above below here none = first_number (IsSoIn ends from to) cp
    (λ k less so. false≢true (sym (none k so.behind less) ∙ so.is_so))
    (record { behind = above; within = below; is_so = here })

-- none before it is
pub none_first : (ends : ℕ → Bool) (from to cp : ℕ) → IsLeast (λ a b. a ≤ b) (IsSoIn ends from to) cp →
    HasNoneIn ends from cp
none_first ends from to cp first = λ k above below. false_from_ne_true (ends k) (λ so.
    let inside = first.broken.within in
    let least = first.least k (record { behind = above; within = omega arith; is_so = so }) in
    omega arith)

-- none at all is
pub so_nowhere : (ends : ℕ → Bool) (from to : ℕ) → HasNoneIn ends from to → Nowhere (IsSoIn ends from to)
so_nowhere ends from to none = λ k so. false≢true (sym (none k so.behind so.within) ∙ so.is_so)

pub none_nowhere : (ends : ℕ → Bool) (from to : ℕ) → Nowhere (IsSoIn ends from to) → HasNoneIn ends from to
none_nowhere ends from to none = λ k above below. false_from_ne_true (ends k) (λ so. none k (record {
  behind = above;
  within = below;
  is_so = so;
}))

-- a range that has none adds nothing
pub none_kept : (p : ℕ → Bool) (f : ℕ → ℕ) (from n : ℕ) → HasNoneIn p from (from + n) →
    map f (filter p (range_with_len 0 from)) ≡ map f (filter p (range_with_len 0 (from + n)))
none_kept p f from zero none = ap (λ m. map f (filter p (range_with_len 0 m))) (omega arith)
none_kept p f from (suc n) none =
    let one : from + suc n ≡ from + n + 1 = omega arith in
    let before = none_kept p f from n (λ k above below. none k above (omega arith)) in
    none-added p f (from + n) _ _ (none (from + n) (omega arith) (omega arith)) refl before
    ∙ ap (λ m. map f (filter p (range_with_len 0 m))) (sym one)

-- the same up to a later CP
pub none_up_to : (p : ℕ → Bool) (f : ℕ → ℕ) (from to : ℕ) → from ≤ to → HasNoneIn p from to →
    map f (filter p (range_with_len 0 from)) ≡ map f (filter p (range_with_len 0 to))
none_up_to p f from to later none =
    none_kept p f from (to - from) (λ k above below. none k above (omega arith))
    ∙ ap (λ m. map f (filter p (range_with_len 0 m))) (omega arith)

-- ---- the ends of sections

-- a section begins in the main text
begin_within : (sections : List Sed) (main_len k : ℕ) → AreSectionsInOrder sections main_len → k < length sections →
    section_begin sections k < main_len
begin_within sections main_len k order h =
    let len = length-map sections (λ (sed : Sed). sed.start) in (order k (omega arith)).within

-- and not before an earlier one
begin_later : (sections : List Sed) (main_len j k : ℕ) → AreSectionsInOrder sections main_len → j ≤ k → k < length
    sections →
    section_begin sections j ≤ section_begin sections k
begin_later sections main_len j zero order le h =
    let same : section_begin sections j ≡ section_begin sections zero = ap (section_begin sections) (omega arith) in
    omega arith
begin_later sections main_len j (suc k) order le h = elim (cases_lt j (suc k)) [
  | inl less ↦
      let len = length-map sections (λ (sed : Sed). sed.start) in
      let step = (order (suc k) (omega arith)).after k (omega arith) in
      let before = begin_later sections main_len j k order (omega arith) (omega arith) in omega arith
  | inr most ↦
      let begin = section_begin sections in
      let same : begin j ≡ begin (suc k) = ap begin (omega arith) in omega arith
]

-- one section more is met
pub one_met : (sections : List Sed) (met cp : ℕ) → BeginUpTo sections met cp → section_begin sections met ≤ cp →
    BeginUpTo sections (met + 1) cp
one_met sections met cp so_far here = record {
  later = let before = so_far.later in omega arith;
  each = λ k later less. elim (cases_lt k met) [
    | inl below ↦ so_far.each k later below
    | inr most ↦
        let begin = section_begin sections in
        let same : begin k ≡ begin met = ap begin (omega arith) in omega arith
  ];
}

-- sections that are met are so behind a CP
pub met_behind : (sections : List Sed) (met cp to : ℕ) → BeginUpTo sections met cp → cp ≤ to → BeginUpTo sections met to
met_behind sections met cp to so_far behind = record {
  later = so_far.later;
  each = λ k later below. let before = so_far.each k later below in omega arith;
}

-- no section ends behind a CP and before the sections that are not met begin
none_between : (sections : List Sed) (main_len met cp stop : ℕ) → BeginUpTo sections met cp → stop ≤ main_len →
    ((k : ℕ) → met ≤ k → k < length sections → stop ≤ section_begin sections k) →
    HasNoneIn (is_end (section_ends sections main_len)) (cp + 1) stop
none_between sections main_len met cp stop so_far inside rest = λ k above below.
    let starts : List ℕ = map (λ (sed : Sed). sed.start) sections in
    let len = length-map sections (λ (sed : Sed). sed.start) in
    let len_later = length-drop 1 starts in
    let other = λ (i : ℕ) (h : i < length (drop 1 starts)). ne_eqb (slice_index (drop 1 starts) i) k (λ e.
    let is : section_begin sections (1 + i) ≡ k = sym (get_or_after_one starts i 0) ∙ e in
    elim (cases_lt (1 + i) met) [
      | inl less ↦ let low = so_far.each (1 + i) (omega arith) less in absurd (omega arith)
      | inr most ↦ let high = rest (1 + i) most (omega arith) in absurd (omega arith)
    ]) in
    let others = All-from_get_or (λ (e : ℕ). (e == k) ≡ false) (drop 1 starts) 0 other in
    is_end-append (drop 1 starts) main_len k
    ∙ (ap (λ b. b || (main_len == k)) (list_any_none (λ e. e == k) (drop 1 starts) others)
    ∙ ne_eqb main_len k (λ e. absurd (omega arith)))

-- the first section that is not met ends the one before it
pub begins_next : (sections : List Sed) (main_len met cp : ℕ) → AreSectionsInOrder sections main_len → BeginUpTo
    sections met cp →
    met < length sections → cp < section_begin sections met →
    IsNextEnd sections main_len cp (section_begin sections met)
begins_next sections main_len met cp order so_far there above =
    let starts : List ℕ = map (λ (sed : Sed). sed.start) sections in
    let len = length-map sections (λ (sed : Sed). sed.start) in
    let len_later = length-drop 1 starts in
    let within = begin_within sections main_len met order there in
    let later = so_far.later in
    let begin = section_begin sections met in
    let here : slice_index (drop 1 starts) (met - 1) ≡ begin =
    get_or_after_one starts (met - 1) 0 ∙ ap (section_begin sections) (omega arith) in
    let one = list_any_at (λ e. e == begin) (drop 1 starts) (met - 1) 0 (omega arith) (eq-eqb _ begin here) in
    let rest = λ (k : ℕ) (most : met ≤ k) (h : k < length sections). begin_later sections main_len met k order most h in
    first_so (is_end (section_ends sections main_len)) (cp + 1) (main_len + 1) begin (omega arith) (omega arith)
    (is_end-append (drop 1 starts) main_len begin ∙ ap (λ b. b || (main_len == begin)) one)
    (none_between sections main_len met cp begin so_far (omega arith) rest)

-- the last section ends with the main text
pub main_next : (sections : List Sed) (main_len met cp : ℕ) → BeginUpTo sections met cp →
    length sections ≤ met → cp < main_len → IsNextEnd sections main_len cp main_len
main_next sections main_len met cp so_far all inside =
    let later : List ℕ = drop 1 (map (λ (sed : Sed). sed.start) sections) in
    let one = ap (λ b. is_end later main_len || b) (eq-eqb main_len main_len refl) in
    first_so (is_end (section_ends sections main_len)) (cp + 1) (main_len + 1) main_len (omega arith) (omega arith)
    (is_end-append later main_len main_len ∙ (one ∙ or_true (is_end later main_len)))
    (none_between sections main_len met cp main_len so_far (omega arith) (λ k most h. absurd (omega arith)))
