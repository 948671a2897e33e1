-- The modifiers of the pieces of a Clx that breaks no rule fit the pages.
use Rattle.std.proofs.Common.{◌^◌, ◌≡◌, ℕ, ◌<◌, ◌≤◌, ◌==◌, Bool, true, false, cond, ◌&&◌, ◌||◌, not, List, [], ◌∷◌}
use Rattle.std.proofs.Common.{length, map, flat_map, All, Some, None, refl, inl, inr, sym, ap, subst, ◌∙◌, arith}
use Rattle.std.proofs.Common.{length-append}
use Rattle.std.proofs.lemmas.Bool.{cases_lt, eqb-true}
use Rattle.std.proofs.lemmas.Option.{slice_get_within}
use Rattle.std.specs.List.{last_or}
use Rattle.std.specs.Ordering.{nat_cmp}
use Rattle.std.specs.FinMap.{get, get-empty, entries, entries_sorted}
use Rattle.doc_bits.specs.Number.{number_bytes}
use Rattle.doc_bits.specs.Rules.{Among, Nowhere}
use Rattle.doc_bits.proofs.Public.{length-number_bytes, All-from_slice_get}
use Rattle.sprm_table.specs.declared.operands.OperandSize.{OperandSize}
use Rattle.sprm_table.specs.declared.operands.OperandSize.TheVariants.{Fixed, CountedByByte, CountedByWord}
use Rattle.sprm_table.specs.Codes.{class_of, is_held, is_property, is_clear}
use Rattle.sprm_table.specs.Operands.{size_of, operand_bytes}
use Rattle.sprm_table.specs.Sprm.{Prl, spelling}
use Rattle.prop_map.specs.Settings.{Properties}
use Rattle.prop_map.specs.Acting.{is_kept_by_plain, concerns_code, left_by, value_after, ArePropertiesAfter}
use Rattle.prop_map.specs.Formed.{character_groups, paragraph_groups}
use Rattle.prop_map.specs.Printing.{printed_list}
use Rattle.prop_map.specs.declared.modifiers.Modifier.{Modifier}
use Rattle.prop_map.specs.Modifiers.{no_modifier, IsModifierOf}
use Rattle.prop_map.proofs.Public.{sets_not_clears, rises, entries-empty, get-entry, modifier_one}
use Rattle.piece_table.specs.declared.pcd.Prm.{Prm}
use Rattle.piece_table.specs.declared.pcd.Prm.TheVariants.{Nothing, Sprm, Prc}
use Rattle.piece_table.specs.Piece.{TextPiece, bare_piece, one_piece}
use Rattle.piece_table.specs.Clx.{ClxParts, pcd_prm, clx_pieces, HaveModifiers}
use Rattle.std.proofs.lemmas.List.Elements.{All-nil, All-cons}
use Rattle.piece_table.specs.Printing.{IsPrintable}
use Rattle.piece_table.specs.PrmLists.{IsPrmModifier}
use Rattle.piece_table.specs.ClxRules.{IsLongPrc, FitsPages}
use Rattle.piece_table.proofs.PieceLemmas.{length-clx_pieces}
use Rattle.piece_table.proofs.SprmModifierLemmas.{none_does}

-- ---- one sprm

concerns_same : (held same property clear other : Bool) → property ≡ true → clear ≡ false → ((held && (same &&
    property))
    || (held && (clear && other))) ≡ true → same ≡ true
concerns_same true true property clear other s k e = refl
concerns_same true false property clear other s k e = cc
concerns_same false same property clear other s k e = cc

-- what one sprm leaves where nothing was is its own value, at its own code
value_one : (groups code key : ℕ) (value found : List ℕ) → value_after ((code, value) ∷ []) groups key None ≡ Some
    found → (key ≡ code) × (found ≡ value)
value_one groups code key value found e =
    elim (concerns_code groups key (code, value)) as (λ b. concerns_code groups key (code, value) ≡ b →
    (key ≡ code) × (found ≡ value)) [
      | false ↦ λ none. let nothing : None ≡ Some found = ap (λ b. left_by (last_or None (cond b ((code, value) ∷ [])
          [])) None) (sym none) ∙ e in absurd (cc (nothing))
      | true ↦ λ concerns.
          let left : left_by (Some (code, value)) None ≡ Some found = ap (λ b. left_by (last_or None
          (cond b ((code, value) ∷ []) [])) None) (sym concerns) ∙ e in
          elim (is_property (class_of code)) as (λ b. is_property (class_of code) ≡ b → (key ≡ code) × (found ≡ value)) [
            | false ↦ λ sets. let nothing : None ≡ Some found = ap (λ b. cond b (Some value) None) (sym sets) ∙ left
                in absurd (cc (nothing))
            | true ↦ λ sets.
                let there : Some value ≡ Some found = ap (λ b. cond b (Some value) None) (sym sets) ∙ left in
                let same = concerns_same (is_held groups code) (key == code) (is_property (class_of code))
                (is_clear (class_of code)) (not (is_kept_by_plain key)) sets (sets_not_clears (class_of code) sets)
                concerns in
                (eqb-true key code same, cc (there))
          ] refl
    ] refl

-- a map that has one code at most has one entry at most
one_entry : (m : Properties) (code : ℕ) (value : List ℕ) (es : List Prl) → entries m ≡ es →
    ((key : ℕ) (found : List ℕ) → get m key ≡ Some found → (key ≡ code) × (found ≡ value)) →
    length (flat_map spelling es) ≤ length (spelling (code, value))
one_entry m code value [] is one = omega arith
one_entry m code value (e ∷ []) is one =
    let first = get-entry m 0 e (rw is (omega arith)) in
    let entry = one e.0 e.1 (rw is at first) in
    let same : spelling e ≡ spelling (code, value) = ap spelling (λ i. (entry.0 i, entry.1 i)) in
    omega (arith, ap length same, length-append (spelling e) [])
one_entry m code value (e ∷ f ∷ es) is one =
    let first = one e.0 e.1 (rw is at (get-entry m 0 e (rw is (omega arith)))) in
    let next = one f.0 f.1 (rw is at (get-entry m 1 e (rw is (omega arith)))) in
    let less = rw is at (rises (entries m) 0 1 e (entries_sorted m) (omega arith) (rw is (omega arith))) in
    let a = first.0 in
    let b = next.0 in
    absurd (omega arith)

operand_short : (size : OperandSize) (operand : ℕ) → length (operand_bytes size (operand ∷ [])) ≤ 3
operand_short (Fixed n) operand = omega arith
operand_short CountedByByte operand = omega arith
operand_short CountedByWord operand = omega (
  arith,
  length-append (number_bytes 2 2) (operand ∷ []),
  length-number_bytes 2 2,
)

sprm_short : (code operand : ℕ) → length (spelling (code, operand ∷ [])) ≤ 5
sprm_short code operand =
    omega (
      arith,
      length-append (number_bytes 2 code) (operand_bytes (size_of code) (operand ∷ [])),
      length-number_bytes 2 code,
      operand_short (size_of code) operand,
    )

map_short : (groups code operand : ℕ) (m old : Properties) → ((key : ℕ) → get old key ≡ None) → ArePropertiesAfter
    ((code, operand ∷ []) ∷ []) groups old m → length (printed_list m) ≤ 5
map_short groups code operand m old none after =
    let short = one_entry m code (operand ∷ []) (entries m) refl (λ key found there. value_one groups code key
    (operand ∷ []) found (ap (value_after ((code, operand ∷ []) ∷ []) groups key) (sym (none key)) ∙
    (sym (after key) ∙ there))) in
    omega (arith, sprm_short code operand)

sprm_fits : (code operand : ℕ) (modifier : Modifier) → IsModifierOf ((code, operand ∷ []) ∷ []) modifier →
    FitsPages modifier
sprm_fits code operand modifier does = record {
  chp = omega (
    arith,
    map_short character_groups code operand modifier.chp _ (λ key. get-empty nat_cmp key)
        does.characters,
  );
  pap = omega (arith, map_short paragraph_groups code operand modifier.pap _ (λ key. get-empty nat_cmp key) does.marks);
}

-- ---- each piece

pub none_fits : FitsPages no_modifier
none_fits = record { chp = rw entries-empty (omega arith); pap = rw entries-empty (omega arith) }

-- what is not too long fits
fits_of : (modifier : Modifier) → (¬ (FitsPages modifier) → ⊥) → FitsPages modifier
fits_of modifier never = elim (cases_lt 255 (length (printed_list modifier.chp))) [
  | inl long ↦ absurd (never (λ fits. let chp = fits.chp in omega arith))
  | inr chp ↦ elim (cases_lt 480 (length (printed_list modifier.pap))) [
    | inl long ↦ absurd (never (λ fits. let pap = fits.pap in omega arith))
    | inr pap ↦ record { chp = chp; pap = pap }
  ]
]

prm_fits : (parts : ClxParts) (at k : ℕ) (prm : Prm) (modifier : Modifier) → Nowhere (Among (length parts.prcs)
    (IsLongPrc parts at)) → k < parts.plc.count → pcd_prm parts.plc k ≡ prm → IsPrmModifier parts.prcs prm modifier →
    FitsPages modifier
prm_fits parts at k Nothing modifier none low is does =
    subst FitsPages (modifier_one [] no_modifier modifier none_does (subst (λ s. IsModifierOf s modifier) does.named
    does.does)) none_fits
prm_fits parts at k (Sprm isprm operand) modifier none low is does =
    sprm_fits does.named.0 operand modifier (subst (λ s. IsModifierOf s modifier) does.named.1.1 does.does)
prm_fits parts at k (Prc number) modifier none low is does =
    let there = slice_get_within parts.prcs number does.named.0 does.named.1.0 in
    fits_of modifier (λ long. none _ (record {
      entry = number;
      below = there;
      broken = record {
        named = record { piece = k; below = low; names = is };
        modifier = modifier;
        does = does;
        long = long;
        here = refl;
      };
    }))

pub pieces_fit : (parts : ClxParts) (at : ℕ) (pieces : List TextPiece) → Nowhere (Among (length parts.prcs)
    (IsLongPrc parts at)) → map bare_piece pieces ≡ clx_pieces parts.plc → HaveModifiers parts pieces →
    All (λ piece. FitsPages piece.modifier) pieces
pieces_fit parts at pieces none are does = All-from_slice_get (λ piece. FitsPages piece.modifier) pieces
    (λ k piece there.
    let low = slice_get_within pieces k piece there in
    prm_fits parts at k (pcd_prm parts.plc k) piece.modifier none (omega (
      arith,
      length-clx_pieces parts.plc pieces
          are,
    )) refl (does k piece there))

-- one piece alone can be printed
pub one_printable : (at len : ℕ) → at < 2 ^ 29 → IsPrintable (one_piece at len)
one_printable at len low = record {
  few = omega arith;
  places = All-cons (λ (piece : TextPiece). piece.at < 2 ^ 29) (record {
    at = at;
    wide = true;
    len = len;
    modifier = no_modifier;
  }) [] low (All-nil (λ (piece : TextPiece). piece.at < 2 ^ 29));
  fit = All-cons (λ (piece : TextPiece). FitsPages piece.modifier) (record {
    at = at;
    wide = true;
    len = len;
    modifier = no_modifier;
  }) [] none_fits (All-nil (λ (piece : TextPiece). FitsPages piece.modifier));
}
