-- The front of a text, behind a FIB of the early form, is loaded in place of the text that the streams name.
use Rattle.std.specs.Prelude.{slice_get, slice_range}
use Rattle.std.proofs.Common.{◌≡◌, ◌∙◌, ◌∷◌, [], ◌+◌, ◌<◌, ◌≤◌, refl, sym, ap, subst, inl, inr, ℕ, List, length, map}
use Rattle.std.proofs.Common.{Bool, true, false, take, drop, Some, All, arith}
use Rattle.std.proofs.lemmas.Bool.{cases_lt}
use Rattle.std.proofs.lemmas.Option.{slice_get_past}
use Rattle.std.proofs.lemmas.List.{length-take, take-append-drop}
use Rattle.std.proofs.lemmas.List.Elements.{All-head, All-tail, All-weaker}
use Rattle.doc_bits.specs.Number.{u16_at}
use Rattle.doc_bits.specs.Rules.{Hold}
use Rattle.doc_bits.proofs.Public.{slice_get-take, slice_get_before}
use Rattle.cfb_streams.specs.Contents.{Contents}
use Rattle.fib_form.specs.Fib.{fib_size, form_size}
use Rattle.fib_form.specs.FibFields.{FibFields, fib_fields, text_length}
use Rattle.fib_form.specs.declared.form.Form.TheVariants.{Early}
use Rattle.fib_form.specs.declared.table_parts.TablePart.TheVariants.{Clx}
use Rattle.fib_versions.specs.Early.{early_pairs, early_fields, early_wd}
use Rattle.text_codes.specs.Compressed.{compressed_unit}
use Rattle.piece_table.specs.Piece.{TextPiece, UnitPlace, flat_pieces, place_of_cp}
use Rattle.piece_table.specs.Clx.{IsClx}
use Rattle.piece_table.specs.ClxRules.{text_bounds}
use Rattle.file_rules.specs.Units.{unit_at, text_units}
use Rattle.file_rules.specs.FormatRules.{text_count}
use Rattle.file_rules.specs.FileRules.{FileText, HasFileText, IsFrontOf, doc_source_of, clx_of, rules_of_pieces}
use Rattle.file_rules.proofs.Public.{StandsBy, place_stands, places_stand}
use Rattle.doc_meaning.specs.Skipped.{plcf_sed, fc_sepx, KeepsSepx}
use Rattle.doc_meaning.specs.Loaded.{IsLoadedFor}
use Rattle.doc_meaning.specs.Apart.{IsReadTable}
use Rattle.doc_meaning.proofs.ApartLemmas.{apart_pieces}
use Rattle.doc_meaning.proofs.EarlyLemmas.{early_behind, pair_same}
use Rattle.doc_meaning.proofs.BehindLemmas.{range_behind, byte_behind, number_behind}

-- a FIB of the early form is read back, and the pieces have as many CPs as all stories have
pub record HasFront (wd table : List ℕ) (text_len : ℕ) : Type 0 where
  pub fields : fib_fields (early_wd wd (early_pairs wd)) ≡ early_fields wd (early_pairs wd)
  pub hold : Hold (rules_of_pieces (early_wd wd (early_pairs wd)) table text_len)

-- the text that the streams name
abbrev pub whole_text : List ℕ → List ℕ → List TextPiece → FileText
whole_text wd table pieces = record { wd = wd; table = table; pieces = pieces }

-- what is at a place of the front is there in the list
pub front_get : {A : Type 0} (xs : List A) (n i : ℕ) → i < n → slice_get (take n xs) i ≡ slice_get xs i
front_get xs n i below =
    let len = length-take n xs in
    elim (cases_lt i (length xs)) [
      | inl inside ↦
          sym (slice_get_before (take n xs) (drop n xs) i (omega (arith, below, inside, len)))
          ∙ ap (λ l. slice_get l i) (take-append-drop n xs)
      | inr past ↦
          slice_get_past (take n xs) i (omega (arith, past, len)) ∙ sym (slice_get_past xs i past)
    ]

-- the FIB of the early form ends where that form does
early_size : (wd early : List ℕ) → fib_fields early ≡ early_fields wd (early_pairs wd) →
    fib_size early ≡ form_size Early
early_size wd early fields = ap (λ (f : FibFields). form_size f.form) fields

-- what is behind the FIB is the same
abbrev pub AreSameBehind : List ℕ → List ℕ → Type 0
AreSameBehind old new = drop (form_size Early) new ≡ drop (form_size Early) old

unit_same : (old new : List ℕ) (place : UnitPlace) (wide : Bool) → AreSameBehind old new →
    form_size Early ≤ place.at → unit_at new (record place { wide = wide }) ≡ unit_at old (record place { wide = wide })
unit_same old new place true same low = number_behind old new (form_size Early) place.at 2 same low
unit_same old new place false same low = ap compressed_unit (byte_behind old new (form_size Early) place.at same low)

sepx_behind : (old new : List ℕ) (fc : ℕ) → AreSameBehind old new → KeepsSepx old new fc
sepx_behind old new fc same = λ after within.
    let k = form_size Early in
    let count : u16_at new fc ≡ u16_at old fc = number_behind old new k fc 2 same (omega (arith, after)) in (
      count,
      range_behind old new k (fc + 2) (fc + 2 + u16_at new fc) same (omega (arith, after))
          ∙ ap (λ n. slice_range old (fc + 2) (fc + 2 + n)) count,
    )

pub front_loaded : (wd table : List ℕ) (text_len : ℕ) (text : FileText) (units : List ℕ) →
    HasFront wd table text_len → (front : IsFrontOf (early_wd wd (early_pairs wd)) table text units) →
    IsLoadedFor (whole_text wd table front.all) text
front_loaded wd table text_len text units has front =
    let early = early_wd wd (early_pairs wd) in
    let flat = flat_pieces front.all in
    let count = text_length (fib_fields early).ccps in
    let most : text_count (doc_source_of text) ≤ text_length (fib_fields text.wd).ccps = omega arith in
    let few : text_count (doc_source_of text) ≤ count =
    subst (λ (w : List ℕ). text_count (doc_source_of text) ≤ text_length (fib_fields w).ccps) front.wd_is most in
    let behind : drop (form_size Early) text.wd ≡ drop (form_size Early) wd =
    ap (drop (form_size Early)) front.wd_is ∙ early_behind wd in
    let place_low : (cp : ℕ) (place : UnitPlace) → place_of_cp text.pieces cp ≡ Some place →
    form_size Early ≤ place.at = λ cp place here.
    let there : slice_get flat cp ≡ Some place =
    slice_get-take count flat cp place (sym (ap (λ (places : List UnitPlace). slice_get places cp) front.front)
    ∙ here) in
    let by = place_stands early table text_len front.all has.hold front.has_pieces cp place there in
    omega (arith, by.0, early_size wd early has.fields) in
    record {
      pages = wd;
      kept_pages = inr refl;
      behind = behind;
      fields = ap fib_fields front.wd_is ∙ has.fields;
      table = inr front.table_is;
      places = λ cp below.
          ap (λ (places : List UnitPlace). slice_get places cp) front.front
          ∙ front_get flat count cp (omega (arith, below, few));
      units = λ cp place below here. unit_same wd text.wd place place.wide behind (place_low cp place here);
      sepxs = λ k below. sepx_behind wd text.wd (fc_sepx (plcf_sed wd table) k) behind;
    }

-- the streams have the text of all pieces
pub front_text : (contents : Contents) (wd table : List ℕ) (text_len : ℕ) (text : FileText) (units : List ℕ) →
    (reads : IsReadTable contents wd table) → HasFront wd table text_len →
    (front : IsFrontOf (early_wd wd (early_pairs wd)) table text units) →
    HasFileText contents (whole_text wd reads.own front.all)
front_text contents wd table text_len text units reads has front =
    let pair = pair_same wd (early_wd wd (early_pairs wd)) Clx has.fields in
    let same : clx_of (early_wd wd (early_pairs wd)) table ≡ clx_of wd table =
    λ i. slice_range table (pair i).0 ((pair i).0 + (pair i).1) in
    record {
      has_wd = reads.has_wd;
      has_table = reads.has_table;
      has_pieces = apart_pieces wd reads.own table front.all reads.clx
          (subst (λ bytes. IsClx bytes front.all) same front.has_pieces);
    }

-- what two functions say alike of each entry
mapped_same : (f g : UnitPlace → ℕ) (xs : List UnitPlace) → All (λ x. f x ≡ g x) xs → map f xs ≡ map g xs
mapped_same f g [] all = refl
mapped_same f g (x ∷ xs) all =
    let first = All-head (λ x. f x ≡ g x) x xs all in
    let rest = mapped_same f g xs (All-tail (λ x. f x ≡ g x) x xs all) in
    λ i. first i ∷ rest i

-- the units of all CPs are those of the input's own stream
pub front_units : (wd table : List ℕ) (text_len : ℕ) (text : FileText) (units : List ℕ) →
    HasFront wd table text_len → (front : IsFrontOf (early_wd wd (early_pairs wd)) table text units) →
    units ≡ text_units wd front.all
front_units wd table text_len text units has front =
    let early = early_wd wd (early_pairs wd) in
    let bounds = text_bounds (fib_size early) (length early) in
    let behind = early_behind wd in
    let stand = places_stand early table text_len front.all has.hold front.has_pieces in
    front.units_are
    ∙ mapped_same (unit_at early) (unit_at wd) (flat_pieces front.all)
    (All-weaker (StandsBy bounds) (λ place. unit_at early place ≡ unit_at wd place)
    (λ place by. unit_same wd early place place.wide behind (omega (arith, by.0, early_size wd early has.fields)))
    (flat_pieces front.all) stand)
