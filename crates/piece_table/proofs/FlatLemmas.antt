-- Entries as they are seen, one a CP: joined, cut, and modified.
use Rattle.std.proofs.Common.{◌≡◌, ℕ, ◌+◌, ◌-◌, ◌*◌, ◌<◌, ◌≤◌, List, [], ◌∷◌, ◌++◌, length, map, take, drop, All}
use Rattle.std.proofs.Common.{slice_index_or, Bool, true, false, refl, inl, inr, sym, ap, ◌∙◌, arith, length-append}
use Rattle.std.proofs.Math.ListN.{get_or-append}
use Rattle.std.proofs.lemmas.Bool.{cases_lt}
use Rattle.std.proofs.lemmas.Grind.{flat_map-append}
use Rattle.std.proofs.lemmas.List.{ext_get_or, map-append, take-append-drop, take_at, drop_at, get_or-append_right}
use Rattle.std.proofs.lemmas.List.Elements.{All-head, All-tail}
use Rattle.std.proofs.lemmas.List.Sums.{sum_by-cons}
use Rattle.prop_map.specs.declared.modifiers.Modifier.{Modifier}
use Rattle.prop_map.specs.Modifiers.{no_modifier}
use Rattle.piece_table.specs.declared.pieces.Entry.{Entry}
use Rattle.piece_table.specs.Piece.{TextPiece, UnitPlace, unit_bytes, places_of_piece, flat_pieces, total_length}
use Rattle.piece_table.specs.Numbering.{text_piece, Extends}
use Rattle.piece_table.specs.Cuts.{entry_units, flat_entries, front_entry, back_entry, IsSeam}
use Rattle.piece_table.proofs.NumberingLemmas.{in_front}
use Rattle.piece_table.proofs.PieceLemmas.{length-unit_places, length-flat_pieces, get_or-unit_places}

pub flat_pieces-append : (xs ys : List TextPiece) → flat_pieces (xs ++ ys) ≡ flat_pieces xs ++ flat_pieces ys
unfolding flat_pieces
flat_pieces-append xs ys = flat_map-append places_of_piece xs ys

pub flat_pieces-cons : (piece : TextPiece) (pieces : List TextPiece) → flat_pieces (piece ∷ pieces) ≡ places_of_piece
    piece ++ flat_pieces pieces
unfolding flat_pieces
flat_pieces-cons piece pieces = refl

pub flat_pieces-nil : flat_pieces [] ≡ []
unfolding flat_pieces
flat_pieces-nil = refl

pub flat_entries-append : (modifiers : List Modifier) (xs ys : List Entry) → flat_entries modifiers (xs ++ ys) ≡
    flat_entries modifiers xs ++ flat_entries modifiers ys
flat_entries-append modifiers xs ys = ap flat_pieces (map-append (text_piece modifiers) xs ys) ∙ flat_pieces-append
    (map (text_piece modifiers) xs) (map (text_piece modifiers) ys)

pub total_length-seen : (modifiers : List Modifier) (entries : List Entry) → total_length (map (text_piece modifiers)
    entries) ≡ entry_units entries
total_length-seen modifiers [] = refl
total_length-seen modifiers (entry ∷ entries) =
    omega (
      arith,
      total_length-seen modifiers entries,
      sum_by-cons (λ (p : TextPiece). p.len) (text_piece modifiers entry) (map (text_piece modifiers) entries),
      sum_by-cons (λ (e : Entry). e.piece.len) entry entries,
    )

pub length-flat_entries : (modifiers : List Modifier) (entries : List Entry) → length (flat_entries modifiers entries)
    ≡ entry_units entries
length-flat_entries modifiers entries = length-flat_pieces (map (text_piece modifiers) entries) ∙ total_length-seen
    modifiers entries

-- the entries before a seam, and those behind it
pub take-flat_entries : (modifiers : List Modifier) (entries : List Entry) (cp number : ℕ) → IsSeam entries cp
    number → take cp (flat_entries modifiers entries) ≡ flat_entries modifiers (take number entries)
take-flat_entries modifiers entries cp number seam =
    let joined : flat_entries modifiers entries ≡ flat_entries modifiers (take number entries) ++ flat_entries
    modifiers (drop number entries) =
    ap (flat_entries modifiers) (sym (take-append-drop number entries)) ∙ flat_entries-append modifiers (take number
    entries) (drop number entries) in
    ap (take cp) joined ∙ take_at (flat_entries modifiers (take number entries)) (flat_entries modifiers (drop number
    entries)) cp (length-flat_entries modifiers (take number entries) ∙ seam.units)

pub drop-flat_entries : (modifiers : List Modifier) (entries : List Entry) (cp number : ℕ) → IsSeam entries cp
    number → drop cp (flat_entries modifiers entries) ≡ flat_entries modifiers (drop number entries)
drop-flat_entries modifiers entries cp number seam =
    let joined : flat_entries modifiers entries ≡ flat_entries modifiers (take number entries) ++ flat_entries
    modifiers (drop number entries) =
    ap (flat_entries modifiers) (sym (take-append-drop number entries)) ∙ flat_entries-append modifiers (take number
    entries) (drop number entries) in
    ap (drop cp) joined ∙ drop_at (flat_entries modifiers (take number entries)) (flat_entries modifiers (drop number
    entries)) cp (length-flat_entries modifiers (take number entries) ∙ seam.units)

-- a unit behind some others of its piece
unit_moved : (at units k : ℕ) (wide : Bool) → units ≤ k → at + k * unit_bytes wide ≡ (at + units * unit_bytes wide) +
    (k - units) * unit_bytes wide
unit_moved at units k true low = omega arith
unit_moved at units k false low = omega arith

-- an entry that is cut covers the same units
pub unit_places-cut : (modifiers : List Modifier) (entry : Entry) (units : ℕ) → units ≤ entry.piece.len →
    places_of_piece (text_piece modifiers (front_entry entry units)) ++ places_of_piece (text_piece modifiers
    (back_entry entry units)) ≡ places_of_piece (text_piece modifiers entry)
unit_places-cut modifiers entry units low =
    let whole = text_piece modifiers entry in
    let front = text_piece modifiers (front_entry entry units) in
    let back = text_piece modifiers (back_entry entry units) in
    let d : UnitPlace = record { at = 0; wide = true; modifier = no_modifier } in
    let len_front = length-unit_places front in
    let len_back = length-unit_places back in
    let len_whole = length-unit_places whole in
    let len = length-append (places_of_piece front) (places_of_piece back) in
    ext_get_or d (places_of_piece front ++ places_of_piece back) (places_of_piece whole) (omega arith) (λ k within. elim
    (cases_lt
    k units) [
      | inl less ↦ get_or-append (places_of_piece front) (places_of_piece back) d k (omega arith) ∙ (get_or-unit_places
          front
          k d less ∙ sym (get_or-unit_places whole k d (omega arith)))
      | inr more ↦
          get_or-append_right (places_of_piece front) (places_of_piece back) units k d len_front more
          ∙ (get_or-unit_places back (k - units) d (omega arith)
          ∙ (ap (λ at. record { at = at; wide = entry.piece.wide; modifier = whole.modifier })
          (sym (unit_moved entry.piece.at units k entry.piece.wide more))
          ∙ sym (get_or-unit_places whole k d (omega arith))))
    ])

-- the entries stay as they are seen where modifiers follow
pub seen-extended : (old new : List Modifier) (entries : List Entry) → Extends old new → All (λ entry. entry.modifier
    < length old) entries → map (text_piece new) entries ≡ map (text_piece old) entries
seen-extended old new [] more named = refl
seen-extended old new (entry ∷ entries) more named =
    let low = All-head (λ (e : Entry). e.modifier < length old) entry entries named in
    let same : slice_index_or new entry.modifier no_modifier ≡ slice_index_or old entry.modifier no_modifier =
    ap (λ l. slice_index_or l entry.modifier no_modifier) more.joined ∙ in_front old more.more entry.modifier low in
    let head : text_piece new entry ≡ text_piece old entry = ap (λ m. record {
      at = entry.piece.at;
      wide = entry.piece.wide;
      len = entry.piece.len;
      modifier = m;
    }) same in
    cc (
      head,
      seen-extended old new entries more (All-tail (λ (e : Entry). e.modifier < length old) entry entries
          named),
    )
