-- Sections of which some have their properties in an old stream: what is made of them item by item, and what is read.
use Rattle.std.specs.Prelude.{slice_get}
use Rattle.std.specs.Option.{ForSome}
use Rattle.std.proofs.Common.{◌≡◌, ◌∙◌, ◌⊎◌, refl, sym, ap, subst, inl, inr, ℕ, zero, suc, ◌+◌, ◌*◌, ◌<◌, ◌≤◌, ◌^◌}
use Rattle.std.proofs.Common.{List, [], ◌∷◌, ◌++◌, length, map, drop, get_or, Option, Some, None, arith}
use Rattle.std.proofs.lemmas.List.{append_assoc, length-append, append-nil, drop_all}
use Rattle.std.proofs.lemmas.Option.{same_Some, none-some, get_or_from_slice_get}
use Rattle.doc_bits.specs.Together.{AreTogether}
use Rattle.prop_map.specs.Settings.{Properties}
use Rattle.doc_parts.specs.declared.lists.Sed.{Sed}
use Rattle.doc_model.specs.declared.item.Item.{Item}
use Rattle.doc_model.specs.Collected.{collected, entry_before, sections_of}
use Rattle.doc_model.specs.TextLists.{starts_from}
use Rattle.full_save.specs.Sections.{sepx_bytes, fc_sepx, seds_from, left_from}
use Rattle.full_save.proofs.Public.{drop_here, length-sepx, left_here}
use Rattle.prop_map.specs.Printing.{printed_list}
use Rattle.save_laws.specs.Saves.{HasPropertiesAt}
use Rattle.save_laws.proofs.Public.{FitsSepx, sections_saved}
use Rattle.fast_save_layout.specs.PlannedSections.{new_sepx, planned_fc, planned_sepxes, planned_seds}
use Rattle.fast_save_layout.specs.PlannedSections.{PlannedSections, ArePlannedUpTo}

-- ---- item by item

pub left_some : (main : List Item) (cp : ℕ) (d : Item) (properties : Properties) → cp < length main →
    (get_or main cp d).sect ≡ Some properties → left_from main cp ≡ (cp, properties) ∷ left_from main (cp + 1)
left_some main cp d properties h has =
    left_here main cp d h ∙ ap (λ (o : Option Properties). entry_before o cp (left_from main (cp + 1))) has

left_none : (main : List Item) (cp : ℕ) (d : Item) → cp < length main →
    (get_or main cp d).sect ≡ None → left_from main cp ≡ left_from main (cp + 1)
left_none main cp d h none =
    left_here main cp d h ∙ ap (λ (o : Option Properties). entry_before o cp (left_from main (cp + 1))) none

pub planned_skip : (main : List Item) (places : List (Option ℕ)) (base : ℕ) (old : List ℕ) (cp : ℕ) (d : Item)
    (so : PlannedSections) → cp < length main → (get_or main cp d).sect ≡ None →
    ArePlannedUpTo main places base old cp so → ArePlannedUpTo main places base old (cp + 1) so
planned_skip main places base old cp d so h none are =
    let same = left_none main cp d h none in
    let few = are.few in
    let count = are.count in
    let len = ap length same in
    record {
      bytes =
          ap (λ (rest : List (ℕ × Properties)). so.out ++ planned_sepxes (drop so.number places) rest) (sym same) ∙
          are.bytes;
      seds =
          ap (λ (rest : List (ℕ × Properties)).
          so.seds ++ planned_seds so.start (base + length so.out) (drop so.number places) rest) (sym same)
          ∙ are.seds;
      few = omega (arith, few);
      count = omega (arith, count, len);
    }

-- there is a place for a section that ends here
pub place_within : (main : List Item) (places : List (Option ℕ)) (base : ℕ) (old : List ℕ) (cp : ℕ) (d : Item)
    (properties : Properties) (so : PlannedSections) → cp < length main → (get_or main cp d).sect ≡ Some properties →
    ArePlannedUpTo main places base old cp so → so.number < length places
place_within main places base old cp d properties so h has are =
    let count = are.count in
    let len = ap length (left_some main cp d properties h has) in
    omega (arith, count, len)

pub planned_more : (main : List Item) (places : List (Option ℕ)) (base : ℕ) (old : List ℕ) (cp : ℕ) (d : Item)
    (properties : Properties) (place : Option ℕ) (so new : PlannedSections) → cp < length main →
    (get_or main cp d).sect ≡ Some properties → slice_get places so.number ≡ Some place →
    length (new_sepx place properties) ≤ 503 → new.out ≡ so.out ++ new_sepx place properties →
    new.seds ≡ so.seds ++ (record { start = so.start; sepx = planned_fc (base + length so.out) place properties }) ∷ []
    →
    new.start ≡ cp + 1 → new.number ≡ so.number + 1 → ArePlannedUpTo main places base old cp so →
    ArePlannedUpTo main places base old (cp + 1) new
unfolding planned_sepxes planned_seds
planned_more main places base old cp d properties place so new h has at short out seds start number are =
    let rest = left_from main (cp + 1) in
    let others = drop new.number places in
    let mine = left_some main cp d properties h has in
    let within = place_within main places base old cp d properties so h has are in
    let here : drop so.number places ≡ place ∷ others =
    drop_here places so.number place within
    ∙ ((λ i. get_or_from_slice_get places so.number place place at i ∷ drop (sym number i) places)) in
    let sed : Sed = record { start = so.start; sepx = planned_fc (base + length so.out) place properties } in
    let bytes = new_sepx place properties in
    let few = are.few in
    let count = are.count in
    let len = ap length mine in
    let grown = ap length out ∙ length-append so.out bytes in
    let at_end : base + length new.out ≡ base + length so.out + length bytes = omega (arith, grown) in
    let both : planned_sepxes (drop so.number places) (left_from main cp) ≡ bytes ++ planned_sepxes others rest =
    (λ i. planned_sepxes (here i) (mine i)) in
    let listed : planned_seds so.start (base + length so.out) (drop so.number places) (left_from main cp)
    ≡ sed ∷ planned_seds (cp + 1) (base + length so.out + length bytes) others rest =
    (λ i. planned_seds so.start (base + length so.out) (here i) (mine i)) in
    record {
      bytes =
          ap (λ (b : List ℕ). b ++ planned_sepxes others rest) out
          ∙ (append_assoc so.out bytes (planned_sepxes others rest)
          ∙ (ap (λ (b : List ℕ). so.out ++ b) (sym both) ∙ are.bytes));
      seds =
          ap (λ (list : List Sed). list ++ planned_seds new.start (base + length new.out) others rest) seds
          ∙ (append_assoc so.seds (sed ∷ []) (planned_seds new.start (base + length new.out) others rest)
          ∙ (ap (λ (n : ℕ). so.seds ++ (sed ∷ planned_seds n (base + length new.out) others rest)) start
          ∙ (ap (λ (n : ℕ). so.seds ++ (sed ∷ planned_seds (cp + 1) n others rest)) at_end
          ∙ (ap (λ (list : List Sed). so.seds ++ list) (sym listed) ∙ are.seds))));
      few = omega (arith, few, grown, short);
      count = omega (arith, count, len, number);
    }

none_planned : (places : List (Option ℕ)) → planned_sepxes places [] ≡ []
unfolding planned_sepxes
none_planned [] = refl
none_planned (place ∷ places) = refl

no_seds : (start at : ℕ) (places : List (Option ℕ)) → planned_seds start at places [] ≡ []
unfolding planned_seds
no_seds start at [] = refl
no_seds start at (place ∷ places) = refl

pub planned_all : (main : List Item) (places : List (Option ℕ)) (base : ℕ) (old : List ℕ) (cp : ℕ)
    (so : PlannedSections) → length main ≤ cp → ArePlannedUpTo main places base old cp so →
    (so.out ≡ old ++ planned_sepxes places (sections_of main))
    × (so.seds ≡ planned_seds 0 (base + length old) places (sections_of main))
unfolding collected
planned_all main places base old cp so h are =
    let none : drop cp main ≡ [] = drop_all cp main h in
    let nothing : left_from main cp ≡ [] = ap (λ (items : List Item). collected (λ item. item.sect) cp items) none in
    let rest = drop so.number places in
    let bytes : planned_sepxes rest (left_from main cp) ≡ [] = ap (planned_sepxes rest) nothing ∙ none_planned rest in
    let seds : planned_seds so.start (base + length so.out) rest (left_from main cp) ≡ [] =
    ap (planned_seds so.start (base + length so.out) rest) nothing ∙ no_seds so.start (base + length so.out) rest in (
      sym (append-nil so.out) ∙ (ap (λ (b : List ℕ). so.out ++ b) (sym bytes) ∙ are.bytes),
      sym (append-nil so.seds) ∙ (ap (λ (s : List Sed). so.seds ++ s) (sym seds) ∙ are.seds),
    )

-- ---- how long they are

pub length-new : (place : Option ℕ) (properties : Properties) → length (printed_list properties) ≤ 500 →
    length (new_sepx place properties) ≤ 503
length-new None properties short = length-sepx properties short
length-new (Some fc) properties short = omega arith

pub length-planned : (places : List (Option ℕ)) (sections : List (ℕ × Properties)) →
    ((k : ℕ) (section : ℕ × Properties) → slice_get sections k ≡ Some section →
    length (printed_list section.1) ≤ 500) → length (planned_sepxes places sections) ≤ 503 * length sections
unfolding planned_sepxes
length-planned [] sections short = omega arith
length-planned (place ∷ places) [] short = omega arith
length-planned (place ∷ places) (section ∷ sections) short =
    let first = length-new place section.1 (short 0 section refl) in
    let rest = length-planned places sections (λ k other here. short (suc k) other here) in
    omega (arith, first, rest, length-append (new_sepx place section.1) (planned_sepxes places sections))

-- ---- what is read

pub planned_starts : (start at : ℕ) (places : List (Option ℕ)) (sections : List (ℕ × Properties)) →
    length places ≡ length sections →
    map (λ (sed : Sed). sed.start) (planned_seds start at places sections) ≡ starts_from start sections
unfolding planned_seds starts_from
planned_starts start at [] [] same = refl
planned_starts start at [] (section ∷ sections) same = absurd (omega (arith, same))
planned_starts start at (place ∷ places) [] same = absurd (omega (arith, same))
planned_starts start at (place ∷ places) (section ∷ sections) same =
    ap (λ rest. start ∷ rest)
    (planned_starts (section.0 + 1) (at + length (new_sepx place section.1)) places sections (omega (arith, same)))

pub length-planned_seds : (start at : ℕ) (places : List (Option ℕ)) (sections : List (ℕ × Properties)) →
    length places ≡ length sections → length (planned_seds start at places sections) ≡ length sections
unfolding planned_seds
length-planned_seds start at [] [] same = refl
length-planned_seds start at [] (section ∷ sections) same = absurd (omega (arith, same))
length-planned_seds start at (place ∷ places) [] same = absurd (omega (arith, same))
length-planned_seds start at (place ∷ places) (section ∷ sections) same =
    ap suc (length-planned_seds (section.0 + 1) (at + length (new_sepx place section.1)) places sections
    (omega (arith, same)))

-- the properties of a section are in the old stream, where it has a place
abbrev pub HasPlanned : List ℕ → Option ℕ → ℕ × Properties → Type 0
HasPlanned old place section = ForSome place (λ fc. HasPropertiesAt old fc section.1)

abbrev pub StandsInOne : List ℕ → List ℕ → Sed → ℕ × Properties → Type 0
StandsInOne old wd sed section = HasPropertiesAt old sed.sepx section.1 ⊎ HasPropertiesAt wd sed.sepx section.1

only_one : (section : ℕ × Properties) (k : ℕ) (other : ℕ × Properties) → slice_get (section ∷ []) k ≡ Some other →
    section ≡ other
only_one section zero other here = same_Some section other here
only_one section (suc k) other here = absurd (none-some other here)

-- a new Sepx between other bytes
written_one : (wd before after : List ℕ) (section : ℕ × Properties) → FitsSepx section.1 →
    wd ≡ before ++ (sepx_bytes section.1 ++ after) → 1024 ≤ length before → length wd < 2 ^ 31 →
    HasPropertiesAt wd (fc_sepx (length before) section.1) section.1
unfolding seds_from
written_one wd before after section fits there low small =
    let alone : sepx_bytes section.1 ++ after ≡ (sepx_bytes section.1 ++ []) ++ after =
    ap (λ (b : List ℕ). b ++ after) (sym (append-nil (sepx_bytes section.1))) in
    let saved = sections_saved wd before after (section ∷ [])
    (λ k other here. subst (λ (s : ℕ × Properties). FitsSepx s.1) (only_one section k other here) fits)
    (there ∙ ap (λ (b : List ℕ). before ++ b) alone) low small in
    saved.properties.each 0 (record { start = 0; sepx = fc_sepx (length before) section.1 }) section refl refl

by_place : (old wd before after : List ℕ) (place : Option ℕ) (section : ℕ × Properties) →
    HasPlanned old place section → FitsSepx section.1 →
    wd ≡ before ++ (new_sepx place section.1 ++ after) → 1024 ≤ length before → length wd < 2 ^ 31 →
    HasPropertiesAt old (planned_fc (length before) place section.1) section.1
    ⊎ HasPropertiesAt wd (planned_fc (length before) place section.1) section.1
by_place old wd before after (Some fc) section has fits there low small = inl (has fc refl)
by_place old wd before after None section has fits there low small =
    inr (written_one wd before after section fits there low small)

planned_at : (old wd before after : List ℕ) (start at : ℕ) (places : List (Option ℕ))
    (sections : List (ℕ × Properties)) →
    ((k : ℕ) (place : Option ℕ) (section : ℕ × Properties) → slice_get places k ≡ Some place →
    slice_get sections k ≡ Some section → HasPlanned old place section) →
    ((k : ℕ) (section : ℕ × Properties) → slice_get sections k ≡ Some section → FitsSepx section.1) →
    wd ≡ before ++ (planned_sepxes places sections ++ after) → at ≡ length before → 1024 ≤ length before →
    length wd < 2 ^ 31 → (k : ℕ) (sed : Sed) (section : ℕ × Properties) →
    slice_get (planned_seds start at places sections) k ≡ Some sed → slice_get sections k ≡ Some section →
    StandsInOne old wd sed section
unfolding planned_sepxes planned_seds
planned_at old wd before after start at [] sections has fit there here low small k sed section mine its =
    absurd (none-some sed mine)
planned_at old wd before after start at (place ∷ places) [] has fit there here low small k sed section mine its =
    absurd (none-some section its)
planned_at old wd before after start at (place ∷ places) (first ∷ sections) has fit there here low small zero sed
    section
    mine its =
    let same = same_Some first section its in
    let own : Sed = record { start = start; sepx = planned_fc at place first.1 } in
    let sed_is = same_Some own sed mine in
    let cut : wd ≡ before ++ (new_sepx place first.1 ++ (planned_sepxes places sections ++ after)) =
    there ∙ ap (λ (b : List ℕ). before ++ b) (append_assoc (new_sepx place first.1) (planned_sepxes places sections)
    after) in
    let is = by_place old wd before (planned_sepxes places sections ++ after) place first (has 0 place first refl refl)
    (fit 0 first refl) cut low small in
    let moved : StandsInOne old wd own first =
    subst (λ n. HasPropertiesAt old (planned_fc n place first.1) first.1
    ⊎ HasPropertiesAt wd (planned_fc n place first.1) first.1) (sym here) is in
    subst (λ (s : ℕ × Properties). StandsInOne old wd sed s) same
    (subst (λ (s : Sed). StandsInOne old wd s first) sed_is moved)
planned_at old wd before after start at (place ∷ places) (first ∷ sections) has fit there here low small (suc k) sed
    section mine its =
    let own = new_sepx place first.1 in
    let len = length-append before own in
    let cut : wd ≡ (before ++ own) ++ (planned_sepxes places sections ++ after) =
    there ∙ (ap (λ (b : List ℕ). before ++ b) (append_assoc own (planned_sepxes places sections) after)
    ∙ sym (append_assoc before own (planned_sepxes places sections ++ after))) in
    planned_at old wd (before ++ own) after (first.0 + 1) (at + length own) places sections
    (λ i p s here_p here_s. has (suc i) p s here_p here_s) (λ i s here_s. fit (suc i) s here_s) cut
    (omega (arith, here, len)) (omega (arith, low, len)) small k sed section mine its

pub planned_saved : (old wd before after : List ℕ) (places : List (Option ℕ)) (sections : List (ℕ × Properties)) →
    AreTogether (HasPlanned old) places sections →
    ((k : ℕ) (section : ℕ × Properties) → slice_get sections k ≡ Some section → FitsSepx section.1) →
    wd ≡ before ++ (planned_sepxes places sections ++ after) → 1024 ≤ length before → length wd < 2 ^ 31 →
    AreTogether (StandsInOne old wd) (planned_seds 0 (length before) places sections) sections
planned_saved old wd before after places sections together fit there low small = record {
  len = length-planned_seds 0 (length before) places sections together.len;
  each = planned_at old wd before after 0 (length before) places sections together.each fit there refl low small;
}
