-- The Prcs that are printed for the modifiers of entries.
use Rattle.std.proofs.Common.{◌≡◌, ◌≢◌, ℕ, ◌+◌, ◌*◌, ◌<◌, ◌≤◌, Bool, true, false, List, [], ◌∷◌, ◌++◌, length}
use Rattle.std.proofs.Common.{map, flat_map, get_or, slice_get, slice_index, slice_index_or, slice_set, Some, None}
use Rattle.std.proofs.Common.{Option, inl, inr, sym, ap, subst, ◌∙◌, arith, length-append}
use Rattle.std.specs.List.{Contains}
use Rattle.std.proofs.Math.ListN.{get_or-map, length-map}
use Rattle.std.proofs.lemmas.Bool.{cases_lt}
use Rattle.std.proofs.lemmas.List.{append-nil, get_or-set_same, get_or-set_other, length-set}
use Rattle.std.proofs.lemmas.Grind.{flat_map-append}
use Rattle.std.proofs.lemmas.Option.{slice_get_within, get_or_from_slice_get}
use Rattle.std.proofs.lemmas.List.Elements.{All-push, All-nil, Contains-get_or}
use Rattle.doc_bits.proofs.Public.{slice_get_before, slice_get_push}
use Rattle.sprm_table.specs.Sprm.{IsAcceptedList, SpellsSprmList, spelling}
use Rattle.prop_map.specs.Formed.{prc_groups}
use Rattle.prop_map.specs.declared.modifiers.Modifier.{Modifier}
use Rattle.prop_map.specs.Modifiers.{no_modifier, printed_modifier, style_prls, clear_prls, IsSpeltModifier}
use Rattle.prop_map.proofs.Public.{modifier_one, length-printed_modifier, length-style, length-clear}
use Rattle.piece_table.specs.declared.pieces.Entry.{Entry}
use Rattle.piece_table.specs.Piece.{TextPiece}
use Rattle.piece_table.specs.Clx.{prc_bytes}
use Rattle.piece_table.specs.ClxRules.{FitsPages}
use Rattle.piece_table.specs.Numbering.{text_piece}
use Rattle.piece_table.specs.Printing.{IsPrintedPrc, printed_prcs}
use Rattle.piece_table.specs.PrcLists.{no_prm}
use Rattle.piece_table.specs.PrintSteps.{PrcTable, NamesPrc, ArePrinted, IsNewPrm}
use Rattle.piece_table.proofs.PrcListLemmas.{bytes_eq-cases}
use Rattle.piece_table.proofs.NumberingLemmas.{same_or_apart}

-- a modifier that fits pages fits a Prc
style_short : (istd : Option ℕ) → length (flat_map spelling (style_prls istd)) ≤ 4
style_short None = omega arith
style_short (Some n) = omega (arith, length-style n)

clear_short : (clear : Bool) → length (flat_map spelling (clear_prls clear)) ≤ 3
clear_short true = omega (arith, length-clear)
clear_short false = omega arith

pub printed_short : (modifier : Modifier) → FitsPages modifier → length (printed_modifier modifier) ≤ 742
printed_short modifier fits =
    let chp = fits.chp in
    let pap = fits.pap in
    omega (arith, length-printed_modifier modifier, style_short modifier.istd, clear_short modifier.clear)

pub printed_none : (modifiers : List Modifier) (entries : List Entry) (table : PrcTable) → table.count ≡ 0 →
    length table.prms ≡ length modifiers → ((number : ℕ) → slice_index table.prms number ≡ 0) → table.bytes ≡ [] →
    table.found ≡ no_prm → ArePrinted modifiers entries 0 table
printed_none modifiers entries table count len zeros bytes found = record {
  prcs = [];
  count_is = count;
  few = omega arith;
  each = All-nil (IsPrintedPrc (map (text_piece modifiers) entries));
  one_each = len;
  names = λ number some. absurd (some (zeros number));
  none = λ k entry low there z. absurd (omega arith);
  spelt = bytes;
  known = λ number modifier there. absurd (cc (there));
  lists = λ list prm there. let nothing : None ≡ Some prm = sym (ap (λ f. f list) found) ∙ there in
      absurd (cc (nothing));
}

-- the modifier of an entry is among those of the pieces
used : (modifiers : List Modifier) (entries : List Entry) (k : ℕ) (entry : Entry) → slice_get entries k ≡ Some entry →
    Contains (map (λ (piece : TextPiece). piece.modifier) (map (text_piece modifiers) entries)) (slice_index_or
    modifiers entry.modifier no_modifier)
used modifiers entries k entry there =
    let view = text_piece modifiers in
    let seen = map view entries in
    let all = map (λ (piece : TextPiece). piece.modifier) seen in
    let low = slice_get_within entries k entry there in
    let m = slice_index_or modifiers entry.modifier no_modifier in
    let at_k : get_or all k m ≡ m =
    get_or-map (λ (piece : TextPiece). piece.modifier) seen k (view entry) ∙ ap (λ (piece : TextPiece).
    piece.modifier) (get_or-map view entries k entry ∙ ap view (get_or_from_slice_get entries k entry entry
    there)) in
    subst (Contains all) at_k (Contains-get_or all k m (omega (
      arith,
      length-map entries view,
      length-map seen
          (λ (piece : TextPiece). piece.modifier),
    )))

-- a Prm is kept beside the modifier of an entry
names_set : (modifiers prcs more : List Modifier) (prms : List ℕ) (number prm : ℕ) → number < length prms →
    NamesPrc (prcs ++ more) prm (slice_index_or modifiers number no_modifier) → ((other : ℕ) → slice_index prms other
    ≢ 0 → NamesPrc prcs (slice_index prms other) (slice_index_or modifiers other no_modifier)) → (other : ℕ) →
    slice_index (slice_set prms number prm) other ≢ 0 → NamesPrc (prcs ++ more) (slice_index (slice_set prms number
    prm) other) (slice_index_or modifiers other no_modifier)
names_set modifiers prcs more prms number prm low names before other some = elim (same_or_apart other number) [
  | inl e ↦
      let here : slice_index (slice_set prms number prm) number ≡ prm = get_or-set_same prms number prm 0 low in
      subst (λ n. NamesPrc (prcs ++ more) (slice_index (slice_set prms number prm) n) (slice_index_or modifiers n
      no_modifier)) (sym e)
      (subst (λ p. NamesPrc (prcs ++ more) p (slice_index_or modifiers number no_modifier)) (sym here) names)
  | inr apart ↦
      let same = get_or-set_other prms number other prm 0 apart in
      let old = before other (λ z. some (same ∙ z)) in
      record {
        number = old.number;
        prm_is = same ∙ old.prm_is;
        there = slice_get_before prcs more old.number (slice_get_within prcs old.number _ old.there) ∙ old.there;
      }
]

none_set : (modifiers : List Modifier) (entries : List Entry) (prms : List ℕ) (k prm : ℕ) (entry : Entry) →
    slice_get entries k ≡ Some entry → entry.modifier < length prms → prm ≢ 0 → ((j : ℕ) (other : Entry) → j < k →
    slice_get entries j ≡ Some other → slice_index prms other.modifier ≡ 0 → slice_index_or modifiers other.modifier
    no_modifier ≡ no_modifier) → (j : ℕ) (other : Entry) → j < k + 1 → slice_get entries j ≡ Some other →
    slice_index (slice_set prms entry.modifier prm) other.modifier ≡ 0 → slice_index_or modifiers other.modifier
    no_modifier ≡ no_modifier
none_set modifiers entries prms k prm entry there within some before j other low there_j z = elim (same_or_apart
    other.modifier entry.modifier) [
      | inl e ↦ absurd (some (sym (get_or-set_same prms entry.modifier prm 0 within) ∙
          (ap (slice_index (slice_set prms entry.modifier prm)) (sym e) ∙ z)))
      | inr apart ↦
          let same = get_or-set_other prms entry.modifier other.modifier prm 0 apart in
          elim (cases_lt j k) [
            | inl less ↦ before j other less there_j (sym same ∙ z)
            | inr most ↦
                let e : j ≡ k = omega arith in
                let one : entry ≡ other = sym (get_or_from_slice_get entries k entry entry there) ∙
                (ap (λ n. get_or entries n entry) (sym e) ∙ get_or_from_slice_get entries j other entry there_j) in
                absurd (apart (ap (λ x. x.modifier) (sym one)))
          ]
    ]

-- the entry's modifier is one that a Prc can hold
pub record IsPrintedEntry (modifiers : List Modifier) (entries : List Entry) (k : ℕ) (entry : Entry)
    (modifier : Modifier) : Type 0 where
  pub there : slice_get entries k ≡ Some entry
  pub within : entry.modifier < length modifiers
  pub is : slice_index_or modifiers entry.modifier no_modifier ≡ modifier
  pub some : modifier ≢ no_modifier
  pub accepted : IsAcceptedList (printed_modifier modifier) prc_groups
  pub back : IsSpeltModifier (printed_modifier modifier) modifier

entry_prc : (modifiers : List Modifier) (entries : List Entry) (k : ℕ) (entry : Entry) (modifier : Modifier) →
    IsPrintedEntry modifiers entries k entry modifier → IsPrintedPrc (map (text_piece modifiers) entries) modifier
entry_prc modifiers entries k entry modifier has = record {
  some = has.some;
  used = subst (Contains (map (λ (piece : TextPiece). piece.modifier) (map (text_piece modifiers) entries))) has.is
      (used modifiers entries k entry has.there);
  accepted = has.accepted;
  back = has.back;
}

-- a modifier with an equal list is the same
list_one : (a b : Modifier) → IsAcceptedList (printed_modifier a) prc_groups → IsSpeltModifier (printed_modifier a)
    a → IsSpeltModifier (printed_modifier b) b → printed_modifier b ≡ printed_modifier a → b ≡ a
list_one a b accepted back_a back_b same = modifier_one accepted.list b a (back_b accepted.list
    (subst (λ l. SpellsSprmList l accepted.list) (sym same) accepted.spelt)) (back_a accepted.list accepted.spelt)

-- the list was printed before
pub printed_found : (modifiers : List Modifier) (entries : List Entry) (k : ℕ) (table : PrcTable) (prm : ℕ)
    (entry : Entry) (modifier : Modifier) → ArePrinted modifiers entries k table → IsPrintedEntry modifiers entries k
    entry modifier → table.found (printed_modifier modifier) ≡ Some prm → ArePrinted modifiers entries (k + 1)
    (record {
      count = table.count;
      prms = slice_set table.prms entry.modifier prm;
      bytes = table.bytes;
      found = table.found;
    })
printed_found modifiers entries k table prm entry modifier before has found =
    let named = before.lists (printed_modifier modifier) prm found in
    let one_each = before.one_each in
    let low : entry.modifier < length table.prms = let within = has.within in omega arith in
    let printed = subst (IsPrintedPrc (map (text_piece modifiers) entries)) (get_or_from_slice_get before.prcs
    named.number named.modifier named.modifier named.there) (before.each named.number named.modifier
    (slice_get_within before.prcs named.number named.modifier named.there)) in
    let same : named.modifier ≡ modifier = list_one modifier named.modifier has.accepted has.back printed.back
    named.spelt in
    let nothing_more = append-nil before.prcs in
    let names : NamesPrc (before.prcs ++ []) prm (slice_index_or modifiers entry.modifier no_modifier) = record {
      number = named.number;
      prm_is = named.prm_is;
      there = ap (λ l. slice_get l named.number) nothing_more ∙ (named.there ∙ ap (λ m. Some m) (same ∙ sym has.is));
    } in
    let prm_is = named.prm_is in
    record {
      prcs = before.prcs;
      count_is = before.count_is;
      few = let few = before.few in omega arith;
      each = before.each;
      one_each = length-set table.prms entry.modifier prm ∙ one_each;
      names = λ other some. subst (λ l. NamesPrc l (slice_index (slice_set table.prms entry.modifier prm) other)
          (slice_index_or modifiers other no_modifier)) nothing_more (names_set modifiers before.prcs [] table.prms
          entry.modifier prm low names before.names other some);
      none = none_set modifiers entries table.prms k prm entry has.there low (λ z. omega (arith, z, prm_is))
          before.none;
      spelt = before.spelt;
      known = before.known;
      lists = before.lists;
    }

-- the list is printed now
pub printed_add : (modifiers : List Modifier) (entries : List Entry) (k : ℕ) (old new : PrcTable) (prm : ℕ)
    (entry : Entry) (modifier : Modifier) → ArePrinted modifiers entries k old → IsPrintedEntry modifiers entries k
    entry modifier → IsNewPrm old new (printed_modifier modifier) prm → ArePrinted modifiers entries (k + 1)
    (record { count = new.count; prms = slice_set new.prms entry.modifier prm; bytes = new.bytes; found = new.found })
printed_add modifiers entries k old new prm entry modifier before has is =
    let seen = map (text_piece modifiers) entries in
    let prcs = before.prcs ++ modifier ∷ [] in
    let one_each = before.one_each in
    let count_is = before.count_is in
    let prm_is = is.prm_is in
    let count = is.count in
    let list = printed_modifier modifier in
    let low : entry.modifier < length old.prms = let within = has.within in omega arith in
    let last : slice_get prcs (length before.prcs) ≡ Some modifier = slice_get_push before.prcs modifier in
    let names : NamesPrc prcs prm (slice_index_or modifiers entry.modifier no_modifier) = record {
      number = length before.prcs;
      prm_is = omega arith;
      there = last ∙ ap (λ m. Some m) (sym has.is);
    } in
    let set : slice_set new.prms entry.modifier prm ≡ slice_set old.prms entry.modifier prm = ap (λ l. slice_set l
    entry.modifier prm) is.prms in
    let some : prm ≢ 0 = λ z. omega (arith, z, prm_is) in
    -- an earlier Prc has another list
    let earlier : (number : ℕ) (other : Modifier) → slice_get before.prcs number ≡ Some other → printed_modifier other
    ≢ list = λ number other there same.
    let nothing : None ≡ Some (2 * number + 1) = sym is.unknown ∙ (ap old.found (sym same) ∙ before.known number other
    there) in
    absurd (cc (nothing)) in
    record {
      prcs = prcs;
      count_is = omega (arith, length-append before.prcs (modifier ∷ []));
      few = let few = before.few in omega arith;
      each = All-push (IsPrintedPrc seen) before.prcs modifier before.each (entry_prc modifiers entries k entry
          modifier has);
      one_each = ap length set ∙ (length-set old.prms entry.modifier prm ∙ one_each);
      names = λ other kept. subst (λ l. NamesPrc prcs (slice_index l other) (slice_index_or modifiers other
          no_modifier)) (sym set)
          (names_set modifiers before.prcs (modifier ∷ []) old.prms entry.modifier prm low names before.names other
          (λ z. kept (ap (λ l. slice_index l other) set ∙ z)));
      none = λ j other less there z. none_set modifiers entries old.prms k prm entry has.there low some before.none j
          other less there (ap (λ l. slice_index l other.modifier) (sym set) ∙ z);
      spelt =
          let joined : printed_prcs prcs ≡ printed_prcs before.prcs ++ prc_bytes list =
          flat_map-append (λ m. prc_bytes (printed_modifier m)) before.prcs (modifier ∷ []) ∙ ap (λ l. printed_prcs
          before.prcs ++ l) (append-nil (prc_bytes list)) in
          is.bytes ∙ (ap (λ l. l ++ prc_bytes list) before.spelt ∙ sym joined);
      known = λ number other there. elim (cases_lt number (length before.prcs)) [
        | inl less ↦
            let old_there = sym (slice_get_before before.prcs (modifier ∷ []) number less) ∙ there in
            is.puts.others (printed_modifier other) (earlier number other old_there) ∙ before.known number other
            old_there
        | inr most ↦
            let within = slice_get_within prcs number other there in
            let e : number ≡ length before.prcs = omega (arith, length-append before.prcs (modifier ∷ [])) in
            let same : modifier ≡ other = sym (get_or_from_slice_get prcs (length before.prcs) modifier modifier last)
            ∙ (ap (λ n. get_or prcs n modifier) (sym e) ∙ get_or_from_slice_get prcs number other modifier there) in
            let two : prm ≡ 2 * number + 1 = omega arith in
            ap (λ m. new.found (printed_modifier m)) (sym same) ∙ (is.puts.here ∙ ap (λ n. Some n) two)
      ];
      lists = λ other p there. elim (bytes_eq-cases other list) [
        | inl e ↦
            let found : Some prm ≡ Some p = sym is.puts.here ∙ (ap new.found (sym e) ∙ there) in
            let p_is : prm ≡ p = cc (found) in
            record {
              number = length before.prcs;
              prm_is = omega arith;
              modifier = modifier;
              there = last;
              spelt = sym e;
            }
        | inr apart ↦
            let kept = before.lists other p (sym (is.puts.others other apart) ∙ there) in
            record {
              number = kept.number;
              prm_is = kept.prm_is;
              modifier = kept.modifier;
              there = slice_get_before before.prcs (modifier ∷ []) kept.number (slice_get_within before.prcs
                  kept.number kept.modifier kept.there) ∙ kept.there;
              spelt = kept.spelt;
            }
      ];
    }

-- no two Prcs have one modifier
pub printed_once : (modifiers : List Modifier) (entries : List Entry) (n : ℕ) (table : PrcTable) (printed : ArePrinted
    modifiers entries n table) (i j : ℕ) (modifier : Modifier) → slice_get printed.prcs i ≡ Some modifier →
    slice_get printed.prcs j ≡ Some modifier → i ≡ j
printed_once modifiers entries n table printed i j modifier a b =
    let same : Some (2 * i + 1) ≡ Some (2 * j + 1) = sym (printed.known i modifier a) ∙ printed.known j modifier b in
    let twice : 2 * i + 1 ≡ 2 * j + 1 = cc (same) in
    omega arith
