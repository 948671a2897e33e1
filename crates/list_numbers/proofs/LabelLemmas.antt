-- The first units of numbers, and the values of paragraphs one after the other.
use Rattle.std.proofs.Common.{◌≡◌, ◌∙◌, ℕ, ◌+◌, ◌<◌, ◌≤◌, min, List, [], ◌∷◌, ◌++◌, length, take, drop}
use Rattle.std.proofs.Common.{inl, inr, sym, ap, subst, arith, Option, Some, append-nil, length-take, length-drop}
use Rattle.std.specs.Prelude.{slice_get, get_or}
use Rattle.std.specs.List.{flat_map}
use Rattle.std.proofs.lemmas.Grind.{flat_map-append}
use Rattle.std.proofs.lemmas.Bool.{cases_lt}
use Rattle.std.proofs.lemmas.List.{drop_all, take-append-le, take_all}
use Rattle.std.proofs.Math.ListN.{take-append-drop}
use Rattle.list_numbers.specs.declared.list_format.ListFormat.{ListFormat}
use Rattle.list_numbers.specs.declared.list_place.ListPlace.{ListPlace}
use Rattle.list_numbers.specs.declared.mark_values.MarkValues.{MarkValues}
use Rattle.list_numbers.specs.declared.paragraph_values.ListLabel.{ListLabel}
use Rattle.list_numbers.specs.declared.paragraph_values.ParagraphValues.{ParagraphValues}
use Rattle.symbol_fonts.specs.declared.fonts.SymbolFonts.{SymbolFonts}
use Rattle.list_numbers.specs.Counters.{HaveCounted}
use Rattle.list_numbers.specs.Fronts.{BeginsLong}
use Rattle.list_numbers.specs.MarkValues.{no_values}
use Rattle.list_numbers.specs.Numbers.{at_entry}
use Rattle.list_numbers.specs.ParagraphValues.{label_at_place, values_with}
use Rattle.list_numbers.proofs.NumberedLemmas.{place_taken}
use Rattle.list_numbers.proofs.TabulatedLemmas.{tabulate_zero}
use Rattle.doc_parts.specs.Tabulated.{tabulate}
use Rattle.doc_parts.proofs.Public.{tabulate-next}

-- ---- units

by_rest : (text units rest : List ℕ) → text ≡ units ++ rest → (0 < length rest → 64 ≤ length units) →
    take 64 units ≡ take 64 text
by_rest text units [] whole long = ap (take 64) (sym (append-nil units) ∙ sym whole)
by_rest text units (x ∷ xs) whole long =
    sym (take-append-le 64 units (x ∷ xs) (long (omega arith))) ∙ ap (take 64) (sym whole)

short_taken : (units : List ℕ) (n : ℕ) → n ≡ min (length units) 64 → take n units ≡ take 64 units
short_taken units n is = elim (cases_lt (length units) 64) [
  | inl less ↦ take_all n units (omega arith) ∙ sym (take_all 64 units (omega arith))
  | inr more ↦ let e : n ≡ 64 = omega arith in ap (λ k. take k units) e
]

-- the first units of a front that is long enough
pub front_taken : (text units : List ℕ) (n : ℕ) → BeginsLong text units → n ≡ min (length units) 64 →
    take n units ≡ take 64 text
front_taken text units n b is = short_taken units n is ∙ by_rest text units b.rest b.whole b.long

pub whole_front : (text : List ℕ) → BeginsLong text text
whole_front text = record { rest = []; whole = sym (append-nil text); long = λ some. absurd (omega (arith, some)) }

pub cut_front : (text : List ℕ) (n : ℕ) → n ≡ min (length text) 64 → BeginsLong text (take n text)
cut_front text n is = record {
  rest = drop n text;
  whole = sym (take-append-drop n text);
  long = λ some. omega (arith, some, length-drop n text, length-take n text);
}

none_long : (units rest : List ℕ) (at size : ℕ) → length rest ≡ 0 → 0 < length rest → 64 ≤ length units
none_long units rest at size none some = absurd (omega (arith, none, some))

-- units of a text as far as it was gone through
pub text_front : (f : ℕ → List ℕ) (text units : List ℕ) (at : ℕ) → units ≡ flat_map f (take at text) →
    (at < length text → 64 ≤ length units) → BeginsLong (flat_map f text) units
text_front f text units at is long = record {
  rest = flat_map f (drop at text);
  whole =
      ap (flat_map f) (sym (take-append-drop at text))
      ∙ (flat_map-append f (take at text) (drop at text)
      ∙ ap (λ (u : List ℕ). u ++ flat_map f (drop at text)) (sym is));
  long = λ some. elim (cases_lt at (length text)) [
    | inl more ↦ long more
    | inr past ↦
        let none : drop at text ≡ [] = drop_all at text past in
        let empty : length (flat_map f (drop at text)) ≡ 0 = ap (λ (u : List ℕ). length (flat_map f u)) none in
        absurd (omega (arith, empty, some))
  ];
}

-- ---- paragraphs

-- the values of a paragraph by the places up to its own
abbrev pub own_values_at : SymbolFonts → List ListFormat → List (Option ListPlace) → List MarkValues → ℕ → ParagraphValues
own_values_at fonts lists places values i =
    values_with (get_or values i no_values) (label_at_place fonts lists (take (i + 1) places)
    (at_entry (slice_get places i)))

-- the values of the first paragraphs, and the counters there
pub record HasValues (fonts : SymbolFonts) (lists : List ListFormat) (places : List (Option ListPlace))
    (values : List MarkValues) (made : List ParagraphValues) (counts : List ℕ) (done : ℕ) : Type 0 where
  pub values_made : made ≡ tabulate (own_values_at fonts lists places values) done
  pub counted : HaveCounted (take done places) (length lists) counts

pub none_made : (fonts : SymbolFonts) (lists : List ListFormat) (places : List (Option ListPlace)) (values : List MarkValues)
    (counts : List ℕ) → HaveCounted [] (length lists) counts → HasValues fonts lists places values [] counts 0
none_made fonts lists places values counts h =
    record { values_made = sym (tabulate_zero (own_values_at fonts lists places values)); counted = h }

pub one_made : (fonts : SymbolFonts) (lists : List ListFormat) (places : List (Option ListPlace)) (values : List MarkValues)
    (made : List ParagraphValues) (counts new : List ℕ) (k : ℕ) (place : Option ListPlace) (label : Option ListLabel)
    (own : MarkValues) →
    HasValues fonts lists places values made counts k → slice_get places k ≡ Some place → k < length places →
    HaveCounted (take k places ++ place ∷ []) (length lists) new →
    label ≡ label_at_place fonts lists (take k places ++ place ∷ []) place → own ≡ get_or values k no_values →
    HasValues fonts lists places values (made ++ values_with own label ∷ []) new (k + 1)
one_made fonts lists places values made counts new k place label own h there low counted is same =
    let f : ℕ → ParagraphValues = own_values_at fonts lists places values in
    let taken = place_taken places k place there low in
    let label_is : label ≡ label_at_place fonts lists (take (k + 1) places) (at_entry (slice_get places k)) =
    is ∙ (ap (λ ps. label_at_place fonts lists ps place) (sym taken)
    ∙ ap (λ o. label_at_place fonts lists (take (k + 1) places) (at_entry o)) (sym there)) in
    let one : values_with own label ≡ f k =
    ap (λ v. values_with v label) same ∙ ap (values_with (get_or values k no_values)) label_is in
    record {
      values_made =
          ap (λ l. l ++ values_with own label ∷ []) h.values_made
          ∙ (ap (λ v. tabulate f k ++ v ∷ []) one ∙ sym (tabulate-next f k));
      counted = subst (λ ps. HaveCounted ps (length lists) new) (sym taken) counted;
    }
