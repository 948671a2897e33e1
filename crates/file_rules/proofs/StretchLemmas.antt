-- The units between two ends of sections that end a paragraph.
use Rattle.std.proofs.Common.{◌≡◌, ◌∙◌, refl, sym, ap, ℕ, ◌+◌, ◌-◌, ◌<◌, ◌≤◌, ◌==◌, nat_lt}
use Rattle.std.proofs.Common.{Bool, true, false, ◌||◌, ◌&&◌, inl, inr, min, List, length, arith}
use Rattle.std.specs.List.{slice_range}
use Rattle.std.specs.Prelude.{slice_index}
use Rattle.std.proofs.Math.Bool.{and-false}
use Rattle.std.proofs.lemmas.Bool.{cases_lt, le-ltb, lt-ltb, false≢true, true≢false}
use Rattle.doc_bits.specs.Rules.{IsLeast}
use Rattle.doc_bits.proofs.Public.{length-range, range_index}
use Rattle.doc_parts.specs.declared.lists.Sed.{Sed}
use Rattle.text_codes.specs.Paragraph.{is_paragraph_end}
use Rattle.file_rules.specs.FormatRules.{is_end, section_ends, ends_section}
use Rattle.file_rules.specs.EndSearch.{HasNoneIn, IsSoIn, IsNextEnd, IsStretchEnd, ends_at}
use Rattle.file_rules.proofs.EndLemmas.{none_joined, none_more, first_so, none_first}

any_section : (p q r b : Bool) → (p || (q || (r && false))) ≡ true → (p || (q || (r && b))) ≡ true
any_section true q r b e = refl
any_section false true r b e = refl
any_section false false true b e = absurd (false≢true e)
any_section false false false b e = absurd (false≢true e)

-- a unit that ends a paragraph wherever it is
bare_ends : (unit : ℕ) (b : Bool) → is_paragraph_end unit false ≡ true → is_paragraph_end unit b ≡ true
bare_ends unit b = any_section (unit == 0x0D) (unit == 0x07) (unit == 0x0C) b

-- no section ends with the units before the last one of a stretch
inner_units : (sections : List Sed) (main_len cp stop : ℕ) → IsNextEnd sections main_len cp stop →
    HasNoneIn (ends_section sections main_len) cp (stop - 1)
inner_units sections main_len cp stop next = λ k above below.
    let is = is_end (section_ends sections main_len) in
    let none = none_first is (cp + 1) (main_len + 1) stop next (k + 1) (omega arith) (omega arith) in
    ap (λ b. nat_lt k main_len && b) none ∙ and-false (nat_lt k main_len)

-- and one does with the last
last_unit : (sections : List Sed) (main_len cp stop : ℕ) → IsNextEnd sections main_len cp stop →
    ends_section sections main_len (stop - 1) ≡ true
last_unit sections main_len cp stop next =
    let behind = next.broken.behind in
    let within = next.broken.within in
    let is = is_end (section_ends sections main_len) in
    ap (λ b. b && is (stop - 1 + 1)) (lt-ltb (stop - 1) main_len (omega arith)) ∙ (ap is (omega arith) ∙
    next.broken.is_so)

-- none does behind the main text
outer_units : (sections : List Sed) (main_len cp to : ℕ) → main_len ≤ cp →
    HasNoneIn (ends_section sections main_len) cp to
outer_units sections main_len cp to outside = λ k above below.
    ap (λ b. b && is_end (section_ends sections main_len) (k + 1)) (le-ltb k main_len (omega arith))

-- so many units at the front of a part end no paragraph wherever they are
abbrev pub AreBare : List ℕ → ℕ → Type 0
AreBare part n = (j : ℕ) → j < n → is_paragraph_end (slice_index part j) false ≡ false

-- where no section ends with them, they end none
none_in_part : (units : List ℕ) (sections : List Sed) (main_len cp stop n : ℕ) → n ≤ stop - cp →
    AreBare (slice_range units cp stop) n → HasNoneIn (ends_section sections main_len) cp (cp + n) →
    HasNoneIn (ends_at units sections main_len) cp (cp + n)
none_in_part units sections main_len cp stop n inside bare inner = λ k above below.
    let there : cp + (k - cp) ≡ k = omega arith in
    let unit = range_index units cp stop (k - cp) (omega arith) ∙ ap (slice_index units) there in
    ap (is_paragraph_end (slice_index units k)) (inner k above below)
    ∙ (ap (λ u. is_paragraph_end u false) (sym unit) ∙ bare (k - cp) (omega arith))

-- a stretch: no section ends with the units before its last one, and one ends with that in the main text
record IsStretch (sections : List Sed) (main_len len cp stop : ℕ) : Type 0 where
  behind : cp < stop
  within : stop ≤ len
  inner : HasNoneIn (ends_section sections main_len) cp (stop - 1)
  last : ends_section sections main_len (stop - 1) ≡ nat_lt cp main_len

stretch_is : (sections : List Sed) (main_len len cp stop : ℕ) → main_len ≤ len → cp < len →
    IsStretchEnd sections main_len len cp stop → IsStretch sections main_len len cp stop
stretch_is sections main_len len cp stop main inside (inl next) =
    let behind = next.broken.behind in
    let within = next.broken.within in
    record {
      behind = omega arith;
      within = omega arith;
      inner = inner_units sections main_len cp stop next;
      last = last_unit sections main_len cp stop next ∙ sym (lt-ltb cp main_len (omega arith));
    }
stretch_is sections main_len len cp stop main inside (inr (outside, all)) = record {
  behind = omega arith;
  within = omega arith;
  inner = outer_units sections main_len cp (stop - 1) outside;
  last = outer_units sections main_len cp stop outside (stop - 1) (omega arith) (omega arith)
      ∙ sym (le-ltb cp main_len outside);
}

-- the units at the front of a part that end no paragraph wherever they are, up to one that does
pub record AreBareUpTo (part : List ℕ) (n : ℕ) : Type 0 where
  pub within : n ≤ length part
  pub bare : AreBare part n
  pub ends : n < length part → is_paragraph_end (slice_index part n) false ≡ true

-- a CP of a stretch that is the first, or else there is none up to the stretch's end
pub record IsFirstOrNone (ends : ℕ → Bool) (from stop len at : ℕ) (found : Bool) : Type 0 where
  pub first : found ≡ true → IsLeast (λ a b. a ≤ b) (IsSoIn ends from len) at
  pub none : found ≡ false → HasNoneIn ends from stop

-- that is so of the unit behind those, and of the last one where all are bare
pub stretch_met : (units : List ℕ) (sections : List Sed) (main_len from cp stop n at : ℕ) (found : Bool) →
    from ≤ cp → main_len ≤ length units → cp < length units →
    IsStretchEnd sections main_len (length units) cp stop → AreBareUpTo (slice_range units cp stop) n →
    HasNoneIn (ends_at units sections main_len) from cp → at ≡ min (cp + n) (stop - 1) →
    found ≡ is_paragraph_end (slice_index units at) (nat_lt cp main_len) →
    IsFirstOrNone (ends_at units sections main_len) from stop (length units) at found
stretch_met units sections main_len from cp stop n at found above main inside end front before place is =
    let ends = ends_at units sections main_len in
    let stretch = stretch_is sections main_len (length units) cp stop main inside end in
    let behind = stretch.behind in
    let within = stretch.within in
    let len = length-range units cp stop within in
    let short = front.within in
    let bare = none_in_part units sections main_len cp stop (at - cp) (omega arith)
    (λ j low. front.bare j (omega arith)) (λ k high low. stretch.inner k high (omega arith)) in
    let none = none_joined ends from cp at before (λ k high low. bare k high (omega arith)) in
    elim (cases_lt n (stop - cp)) [
      | inl less ↦
          let here : at ≡ cp + n = omega arith in
          let unit = ap (λ u. is_paragraph_end u false)
          (ap (slice_index units) here ∙ sym (range_index units cp stop n less)) ∙ front.ends (omega arith) in
          record {
            first = λ yes. first_so ends from (length units) at (omega arith) (omega arith)
                (bare_ends (slice_index units at) (ends_section sections main_len at) unit) none;
            none = λ no. absurd (true≢false (sym (is ∙ bare_ends (slice_index units at) (nat_lt cp main_len) unit)
                ∙ no));
          }
      | inr all ↦
          let here : at ≡ stop - 1 = omega arith in
          let same : ends at ≡ found = ap (is_paragraph_end (slice_index units at))
          (ap (ends_section sections main_len) here ∙ stretch.last) ∙ sym is in
          record {
            first = λ yes. first_so ends from (length units) at (omega arith) (omega arith) (same ∙ yes) none;
            none = λ no. none_more ends from at stop (omega arith) none (same ∙ no);
          }
    ]
