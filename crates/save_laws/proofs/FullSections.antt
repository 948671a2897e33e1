-- The Sepxes of a full save: each section has its properties where its Sed says.
use Rattle.std.specs.Prelude.{slice_get, ◌==◌, if◌then◌else◌}
use Rattle.std.specs.FinMap.{empty, entries, same_entries_map}
use Rattle.std.proofs.Common.{◌≡◌, ◌≢◌, inl, inr, ℕ, zero, suc, ◌+◌, ◌%◌, ◌^◌, ◌<◌, ◌≤◌, true, eqb-true}
use Rattle.std.proofs.Common.{cond, List, [], ◌∷◌, ◌++◌, length, map, take, drop, Some, None, refl, sym, ap, ◌∙◌}
use Rattle.std.proofs.Common.{subst}
use Rattle.std.proofs.Common.{arith, append_assoc, length-append}
use Rattle.std.proofs.lemmas.Bool.{cases_Bool}
use Rattle.std.proofs.lemmas.List.{nil_from_length}
use Rattle.std.proofs.lemmas.Option.{same_Some, none-some}
use Rattle.doc_bits.specs.Number.{u16_at, number_bytes}
use Rattle.doc_bits.proofs.Public.{range_mid, number_at-read_back, length-number_bytes}
use Rattle.sprm_table.specs.Sprm.{IsAcceptedList}
use Rattle.prop_map.specs.Settings.{Properties}
use Rattle.prop_map.specs.Formed.{section_groups, IsPropertyMap}
use Rattle.prop_map.specs.Printing.{printed_list}
use Rattle.prop_map.proofs.Public.{entries-empty, print_is}
use Rattle.direct_props.specs.Direct.{MakesProperties}
use Rattle.style_sheet.specs.Counted.{written_counted}
use Rattle.doc_parts.specs.declared.lists.Sed.{Sed}
use Rattle.file_rules.specs.SectionRules.{sepx_list}
use Rattle.doc_model.specs.TextLists.{starts_from}
use Rattle.full_save.specs.Sections.{is_plain_section, sepx_bytes, sepxes, no_sepx, fc_sepx, seds_from}
use Rattle.save_laws.specs.Saves.{HasPropertiesAt, AreSavedSections}
use Rattle.full_save.proofs.Public.{length-seds}

-- properties for a section: they are formed and fit a Sepx
pub record FitsSepx (properties : Properties) : Type 0 where
  pub formed : IsPropertyMap section_groups properties
  pub short : length (printed_list properties) ≤ 500

-- the Sepx is between other bytes, not in the first 1,024
record StandsBetween (wd before bytes after : List ℕ) : Type 0 where
  there : wd ≡ before ++ (bytes ++ after)
  low : 1024 ≤ length before
  small : length wd < 2 ^ 31

plain_at : (wd : List ℕ) (properties : Properties) → is_plain_section properties ≡ true → HasPropertiesAt wd no_sepx
    properties
plain_at wd properties plain =
    let none : entries properties ≡ [] =
    nil_from_length (entries properties) (eqb-true (length (entries properties)) 0 plain) in
    record {
      is = inl (refl, same_entries_map properties empty (none ∙ sym entries-empty));
      there = λ some. absurd (some refl);
      accepted = λ some. absurd (some refl);
    }

listed_at : (wd before after : List ℕ) (properties : Properties) → FitsSepx properties →
    StandsBetween wd before (written_counted (printed_list properties)) after → HasPropertiesAt wd (length before)
    properties
listed_at wd before after properties fits stands =
    let list = printed_list properties in
    let pad : List ℕ = if length list % 2 == 0 then [] else 0 ∷ [] in
    let count = number_bytes 2 (length list) in
    let fc = length before in
    let cut : wd ≡ before ++ (count ++ ((list ++ pad) ++ after)) =
    stands.there ∙ ap (λ rest. before ++ rest) (append_assoc count (list ++ pad) after) in
    let later : wd ≡ (before ++ count) ++ (list ++ (pad ++ after)) =
    cut ∙ (ap (λ rest. before ++ (count ++ rest)) (append_assoc list pad after)
    ∙ sym (append_assoc before count (list ++ (pad ++ after)))) in
    let width = length-number_bytes 2 (length list) in
    let short = fits.short in
    let number : u16_at wd fc ≡ length list =
    ap (λ bytes. u16_at bytes fc) cut
    ∙ number_at-read_back 2 (length list) before ((list ++ pad) ++ after) (omega (arith, short)) in
    let a1 = length-append (before ++ count) (list ++ (pad ++ after)) in
    let a2 = length-append before count in
    let a3 = length-append list (pad ++ after) in
    let all = ap length later in
    let low = stands.low in
    let small = stands.small in
    let same : sepx_list wd fc ≡ list =
    range_mid wd (before ++ count) list (pad ++ after) (fc + 2) (fc + 2 + u16_at wd fc) later
    (omega (arith, a2, width)) (omega (arith, a2, width, number)) in
    let print = print_is properties (section_groups, fits.formed) in
    let back = print.back section_groups (entries properties) fits.formed print.spelt in
    let there : fc ≢ 0xFFFFFFFF = λ same_fc. omega (arith, same_fc, a1, a2, all, small) in
    let made : MakesProperties list section_groups properties None =
    record { prls = entries properties; spelt = print.spelt; map = back.0; style_is = sym back.1 } in
    record {
      is = inr (record {
        there = there;
        style = None;
        makes = subst (λ l. MakesProperties l section_groups properties None) (sym same) made;
      });
      there = λ some. record { after_fib = low; within = omega (arith, a1, a2, a3, all, width, number) };
      accepted = λ some.
          subst (λ l. IsAcceptedList l section_groups) (sym same) (print.accepted section_groups);
    }

properties_at : (wd before after : List ℕ) (properties : Properties) → FitsSepx properties →
    StandsBetween wd before (sepx_bytes properties) after → HasPropertiesAt wd (fc_sepx (length before) properties)
    properties
properties_at wd before after properties fits stands = elim (cases_Bool (is_plain_section properties)) [
  | inl plain ↦
      subst (λ fc. HasPropertiesAt wd fc properties) (sym (ap (λ b. cond b no_sepx (length before)) plain))
      (plain_at wd properties plain)
  | inr listed ↦
      let bytes : sepx_bytes properties ≡ written_counted (printed_list properties) =
      ap (λ b. cond b [] (written_counted (printed_list properties))) listed in
      subst (λ fc. HasPropertiesAt wd fc properties) (sym (ap (λ b. cond b no_sepx (length before)) listed))
      (listed_at wd before after properties fits (subst (λ b. StandsBetween wd before b after) bytes stands))
]

-- ---- the list of sections

starts_are : (start place : ℕ) (sections : List (ℕ × Properties)) →
    map (λ (sed : Sed). sed.start) (seds_from start place sections) ≡ starts_from start sections
unfolding seds_from starts_from
starts_are start place [] = refl
starts_are start place (section ∷ sections) =
    ap (λ rest. start ∷ rest) (starts_are (section.0 + 1) (place + length (sepx_bytes section.1)) sections)

sed_there : (start place : ℕ) (sections : List (ℕ × Properties)) (k : ℕ) (sed : Sed) (section : ℕ × Properties) →
    slice_get (seds_from start place sections) k ≡ Some sed → slice_get sections k ≡ Some section →
    sed.sepx ≡ fc_sepx (place + length (sepxes (take k sections))) section.1
unfolding seds_from
sed_there start place [] k sed section here there = absurd (none-some section there)
sed_there start place (first ∷ sections) zero sed section here there =
    let own : Sed = record { start = start; sepx = fc_sepx place first.1 } in
    let e : place ≡ place + 0 = omega arith in
    let same = same_Some first section there in
    ap (λ (s : Sed). s.sepx) (sym (same_Some own sed here)) ∙ (λ i. fc_sepx (e i) (same i).1)
sed_there start place (first ∷ sections) (suc k) sed section here there =
    let len = length-append (sepx_bytes first.1) (sepxes (take k sections)) in
    let e : place + length (sepx_bytes first.1) + length (sepxes (take k sections)) ≡ place + length
    (sepxes (first ∷ take k sections)) = omega (arith, len) in
    sed_there (first.0 + 1) (place + length (sepx_bytes first.1)) sections k sed section here there
    ∙ ap (λ n. fc_sepx n section.1) e

cut_at_section : (sections : List (ℕ × Properties)) (k : ℕ) (section : ℕ × Properties) →
    slice_get sections k ≡ Some section →
    sepxes sections ≡ sepxes (take k sections) ++ (sepx_bytes section.1 ++ sepxes (drop (suc k) sections))
cut_at_section [] k section here = absurd (none-some section here)
cut_at_section (first ∷ sections) zero section here =
    ap (λ (s : ℕ × Properties). sepx_bytes s.1 ++ sepxes sections) (same_Some first section here)
cut_at_section (first ∷ sections) (suc k) section here =
    ap (λ rest. sepx_bytes first.1 ++ rest) (cut_at_section sections k section here)
    ∙ sym (append_assoc (sepx_bytes first.1) (sepxes (take k sections))
    (sepx_bytes section.1 ++ sepxes (drop (suc k) sections)))

-- Sepxes that are between other bytes give each section its properties
pub sections_saved : (wd before after : List ℕ) (sections : List (ℕ × Properties)) →
    ((k : ℕ) (section : ℕ × Properties) → slice_get sections k ≡ Some section → FitsSepx section.1) →
    wd ≡ before ++ (sepxes sections ++ after) → 1024 ≤ length before → length wd < 2 ^ 31 →
    AreSavedSections sections wd (seds_from 0 (length before) sections)
sections_saved wd before after sections fit there low small = record {
  starts = starts_are 0 (length before) sections;
  properties = record {
    len = length-seds 0 (length before) sections;
    each = λ k sed section here mine.
        let front = sepxes (take k sections) in
        let own = sepx_bytes section.1 in
        let back = sepxes (drop (suc k) sections) in
        let cut : wd ≡ (before ++ front) ++ (own ++ (back ++ after)) =
        there ∙ (ap (λ middle. before ++ (middle ++ after)) (cut_at_section sections k section mine)
        ∙ simp (append_assoc) refl) in
        let len = length-append before front in
        let place : length (before ++ front) ≡ length before + length front = len in
        let has = properties_at wd (before ++ front) (back ++ after) section.1 (fit k section mine)
        (record { there = cut; low = omega (arith, len, low); small = small }) in
        let fc : fc_sepx (length (before ++ front)) section.1 ≡ sed.sepx =
        ap (λ n. fc_sepx n section.1) place ∙ sym (sed_there 0 (length before) sections k sed section here mine) in
        subst (λ n. HasPropertiesAt wd n section.1) fc has;
  };
}
