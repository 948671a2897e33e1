-- The modifiers that a table has, and those of Prms.
use Rattle.std.proofs.Common.{◌≡◌, ◌≢◌, ℕ, ◌+◌, ◌<◌, ◌⊎◌, List, [], ◌∷◌, ◌++◌, length, map, true, All, get_or}
use Rattle.std.proofs.Common.{slice_get, slice_index, slice_index_or, Some, inl, inr, sym, ap, subst, ◌∙◌}
use Rattle.std.proofs.Common.{arith, length-append}
use Rattle.std.specs.List.{range_with_len}
use Rattle.std.proofs.lemmas.List.FromFn.{length-map-range_with_len, get_or-map-range_with_len}
use Rattle.std.proofs.Math.ListN.{get_or-append, get_or-map, length-map}
use Rattle.std.proofs.Math.Seq.{get_or-append_seam}
use Rattle.std.proofs.lemmas.Bool.{cases_lt}
use Rattle.std.proofs.lemmas.Option.{slice_get_within, slice_get-get_or, get_or_from_slice_get}
use Rattle.std.proofs.lemmas.List.Elements.{All-push}
use Rattle.std.proofs.lemmas.List.{ext_get_or}
use Rattle.doc_bits.proofs.Public.{slice_get_before, All-from_slice_get}
use Rattle.prop_map.specs.declared.modifiers.Modifier.{Modifier}
use Rattle.prop_map.specs.Modifiers.{no_modifier, IsFormedModifier}
use Rattle.piece_table.specs.declared.pieces.Piece.{Piece}
use Rattle.piece_table.specs.declared.pieces.Entry.{Entry}
use Rattle.piece_table.specs.Piece.{TextPiece, bare_piece}
use Rattle.piece_table.specs.Clx.{ClxParts, prm_of, pcd_prm, clx_piece, clx_pieces, HaveModifiers}
use Rattle.piece_table.specs.PrmLists.{IsPrmModifier}
use Rattle.piece_table.specs.Numbering.{text_piece, HasMet, Extends, IsEntryOf, AreEntriesOf, AreNumbered}

pub same_or_apart : (a b : ℕ) → (a ≡ b) ⊎ (a ≢ b)
same_or_apart a b = elim (cases_lt a b) [
  | inl less ↦ inr (λ e. omega (arith, e, less))
  | inr more ↦ elim (cases_lt b a) [
    | inl less ↦ inr (λ e. omega (arith, e, less))
    | inr most ↦ let e : a ≡ b =
        omega arith in inl e
  ]
]

-- an element of the front
pub in_front : (list more : List Modifier) (n : ℕ) → n < length list → slice_index_or (list ++ more) n no_modifier ≡
    slice_index_or list n no_modifier
in_front list more n low = get_or-append list more no_modifier n low

-- the table with the modifier of one Prm more
pub met_put : (prcs : List (List ℕ)) (list : List Modifier) (numbers new : List ℕ) (prm : ℕ) (modifier : Modifier) →
    HasMet prcs list numbers → IsFormedModifier modifier → IsPrmModifier prcs (prm_of prm) modifier → slice_index new
    prm ≡ length list → ((other : ℕ) → other ≢ prm → slice_index new other ≡ slice_index numbers other) →
    HasMet prcs (list ++ modifier ∷ []) new
met_put prcs list numbers new prm modifier met formed does here others =
    let some = slice_get_within list 0 no_modifier met.first in
    let long = length-append list (modifier ∷ []) in
    record {
      first = slice_get_before list (modifier ∷ []) 0 some ∙ met.first;
      formed = All-push IsFormedModifier list modifier met.formed formed;
      within = λ other. elim (same_or_apart other prm) [
        | inl e ↦ let is : slice_index new other ≡ length list = ap (slice_index new) e ∙ here in omega arith
        | inr apart ↦ let is = others other apart in let low = met.within other in omega arith
      ];
      met = λ other some_number. elim (same_or_apart other prm) [
        | inl e ↦
            let is : slice_index new other ≡ length list = ap (slice_index new) e ∙ here in
            let at_end : slice_index_or (list ++ modifier ∷ []) (slice_index new other) no_modifier ≡ modifier = ap
            (λ n. slice_index_or (list ++ modifier ∷ []) n no_modifier) is ∙ get_or-append_seam list modifier []
            no_modifier in
            subst (λ m. IsPrmModifier prcs (prm_of other) m) (sym at_end) (subst (λ n. IsPrmModifier prcs (prm_of n)
            modifier) (sym e) does)
        | inr apart ↦
            let is = others other apart in
            let low = met.within other in
            let before = met.met other (λ z. some_number (is ∙ z)) in
            let front : slice_index_or (list ++ modifier ∷ []) (slice_index new other) no_modifier ≡ slice_index_or
            list (slice_index numbers other) no_modifier = ap (λ n. slice_index_or (list ++ modifier ∷ []) n
            no_modifier) is ∙ in_front list (modifier ∷ []) (slice_index numbers other) low in
            subst (λ m. IsPrmModifier prcs (prm_of other) m) (sym front) before
      ];
    }

-- ---- entries

-- the entries stay right where modifiers follow
pub entries_extend : (parts : ClxParts) (old new : List Modifier) (n : ℕ) (entries : List Entry) → Extends old new →
    AreEntriesOf parts old n entries → AreEntriesOf parts new n entries
entries_extend parts old new n entries more are = record {
  count = are.count;
  each = λ k entry there.
      let is = are.each k entry there in
      let low = is.within in
      let long = length-append old more.more in
      let same : slice_index_or new entry.modifier no_modifier ≡ slice_index_or old entry.modifier no_modifier = ap
      (λ l. slice_index_or l entry.modifier no_modifier) more.joined ∙ in_front old more.more entry.modifier low in
      record {
        piece = is.piece;
        within = rw more.joined (omega arith);
        does = subst (λ m. IsPrmModifier parts.prcs (pcd_prm parts.plc k) m) (sym same) is.does;
      };
}

pub entries_more : (parts : ClxParts) (modifiers : List Modifier) (n : ℕ) (entries : List Entry) (entry : Entry) →
    AreEntriesOf parts modifiers n entries → IsEntryOf parts modifiers n entry → AreEntriesOf parts modifiers (n + 1)
    (entries ++ entry ∷ [])
entries_more parts modifiers n entries entry are is = record {
  count = let count = are.count in omega (arith, length-append entries (entry ∷ []));
  each = λ k other there. elim (cases_lt k n) [
    | inl less ↦ are.each k other (sym (slice_get_before entries (entry ∷ []) k (let count = are.count in
        omega arith)) ∙ there)
    | inr most ↦
        let within = slice_get_within (entries ++ entry ∷ []) k other there in
        let long = length-append entries (entry ∷ []) in
        let count = are.count in
        let e : k ≡ length entries = omega arith in
        let f : n ≡ k = omega arith in
        let same : entry ≡ other = sym (get_or-append_seam entries entry [] other) ∙
        (ap (λ i. get_or (entries ++ entry ∷ []) i other) (sym e) ∙ get_or_from_slice_get (entries ++ entry ∷ [])
        k other other there) in
        subst (λ i. IsEntryOf parts modifiers i other) f (subst (IsEntryOf parts modifiers n) same is)
  ];
}

-- the pieces that are seen
pub seen_piece : (modifiers : List Modifier) (entries : List Entry) (k : ℕ) (piece : TextPiece) →
    slice_get (map (text_piece modifiers) entries) k ≡ Some piece → (entry : Entry) × ((slice_get entries k ≡ Some
    entry) × (piece ≡ text_piece modifiers entry))
seen_piece modifiers entries k piece there =
    let within = slice_get_within (map (text_piece modifiers) entries) k piece there in
    let d : Entry = record { piece = record { at = 0; wide = true; len = 0 }; modifier = 0 } in
    let low : k < length entries = omega (arith, length-map entries (text_piece modifiers)) in
    let entry = get_or entries k d in
    let same : text_piece modifiers entry ≡ piece = sym (get_or-map (text_piece modifiers) entries k d) ∙
    get_or_from_slice_get (map (text_piece modifiers) entries) k piece (text_piece modifiers d) there in
    (entry, (slice_get-get_or entries k d low, sym same))

pub seen_bare : (parts : ClxParts) (modifiers : List Modifier) (entries : List Entry) → AreEntriesOf parts modifiers
    parts.plc.count entries → map bare_piece (map (text_piece modifiers) entries) ≡ clx_pieces parts.plc
unfolding clx_pieces
seen_bare parts modifiers entries are =
    let d : Piece = record { at = 0; wide = true; len = 0 } in
    let e : Entry = record { piece = d; modifier = 0 } in
    let seen = map (text_piece modifiers) entries in
    let count = are.count in
    let len_a = length-map seen bare_piece in
    let len_b = length-map entries (text_piece modifiers) in
    let len_c = length-map-range_with_len (clx_piece parts.plc) 0 parts.plc.count in
    ext_get_or d (map bare_piece seen) (map (clx_piece parts.plc) (range_with_len 0 parts.plc.count)) (omega arith)
    (λ k low.
    let there = slice_get-get_or entries k e (omega arith) in
    let is = are.each k (get_or entries k e) there in
    get_or-map bare_piece seen k (text_piece modifiers e) ∙ (ap bare_piece (get_or-map (text_piece modifiers) entries
    k e) ∙ (is.piece ∙ sym (get_or-map-range_with_len (clx_piece parts.plc) 0 parts.plc.count k k d (omega arith)
    (omega arith)))))

pub seen_modifiers : (parts : ClxParts) (modifiers : List Modifier) (entries : List Entry) → AreEntriesOf parts
    modifiers parts.plc.count entries → HaveModifiers parts (map (text_piece modifiers) entries)
seen_modifiers parts modifiers entries are = λ k piece there.
    let seen = seen_piece modifiers entries k piece there in
    let is = are.each k seen.0 seen.1.0 in
    subst (λ p. IsPrmModifier parts.prcs (pcd_prm parts.plc k) p.modifier) (sym seen.1.1) is.does

pub seen_formed : (parts : ClxParts) (modifiers : List Modifier) (entries : List Entry) (n : ℕ) → All IsFormedModifier
    modifiers → AreEntriesOf parts modifiers n entries → All (λ (p : TextPiece). IsFormedModifier p.modifier)
    (map (text_piece modifiers) entries)
seen_formed parts modifiers entries n formed are = All-from_slice_get (λ (p : TextPiece). IsFormedModifier p.modifier)
    (map (text_piece modifiers) entries) (λ k piece there.
    let seen = seen_piece modifiers entries k piece there in
    let is = are.each k seen.0 seen.1.0 in
    subst (λ p. IsFormedModifier p.modifier) (sym seen.1.1) (formed seen.0.modifier no_modifier is.within))

pub seen_numbered : (parts : ClxParts) (modifiers : List Modifier) (entries : List Entry) (n : ℕ) →
    slice_get modifiers 0 ≡ Some no_modifier → AreEntriesOf parts modifiers n entries → AreNumbered modifiers entries
seen_numbered parts modifiers entries n first are = record {
  first = first;
  named = All-from_slice_get (λ entry. entry.modifier < length modifiers) entries (λ k entry there. (are.each k entry
      there).within);
}
