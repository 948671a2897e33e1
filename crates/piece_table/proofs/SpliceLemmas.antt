-- A range of entries in whose place others are.
use Rattle.std.proofs.Common.{◌≡◌, ℕ, ◌+◌, ◌-◌, ◌<◌, ◌≤◌, List, [], ◌++◌, length, map, take, drop, All, slice_get}
use Rattle.std.proofs.Common.{slice_index_or, Option, Some, None, refl, sym, ap, ◌∙◌, arith, length-append}
use Rattle.std.proofs.Common.{length-drop}
use Rattle.std.specs.Bool.{⊤}
use Rattle.std.specs.List.{splice}
use Rattle.std.proofs.Math.ListN.{length-map}
use Rattle.std.specs.Option.{MatchOption, option_to_list}
use Rattle.std.proofs.lemmas.List.{append-nil, take_at, drop_at, drop_all, length-take-le, take-map}
use Rattle.std.proofs.lemmas.List.Elements.{All-append, All-take, All-drop, All-cons, All-nil, All-map}
use Rattle.std.proofs.lemmas.List.Sums.{sum_by-cons, sum_by-append, sum_by-take-drop}
use Rattle.std.proofs.lemmas.Option.{get_or_from_slice_get, slice_get_within}
use Rattle.prop_map.specs.declared.modifiers.Modifier.{Modifier}
use Rattle.prop_map.specs.Modifiers.{no_modifier}
use Rattle.piece_table.specs.declared.pieces.Piece.{Piece}
use Rattle.piece_table.specs.declared.pieces.Entry.{Entry}
use Rattle.piece_table.specs.Piece.{TextPiece, places_of_piece, flat_pieces, total_length, IsPiece, IsTextPiece}
use Rattle.piece_table.specs.Piece.{ArePieces}
use Rattle.piece_table.specs.Numbering.{text_piece, AreNumbered}
use Rattle.piece_table.specs.Changes.{fresh_piece, fresh_places, fresh_units, HasPieceBegin}
use Rattle.piece_table.specs.Cuts.{entry_units, flat_entries, fresh_entries, ArePieceEntries, IsSeam, KeepsText}
use Rattle.piece_table.specs.Cuts.{IsCutTwice}
use Rattle.piece_table.proofs.SprmModifierLemmas.{none_formed}
use Rattle.piece_table.proofs.PieceLemmas.{All-seen, length-unit_places, length-flat_pieces}
use Rattle.piece_table.proofs.FlatLemmas.{flat_pieces-cons, flat_pieces-nil, flat_entries-append, take-flat_entries}
use Rattle.piece_table.proofs.FlatLemmas.{drop-flat_entries, total_length-seen}

abbrev units : Entry → ℕ
units entry = entry.piece.len

-- entries are drained from a list, and others are put there
pub drained_put : (entries fresh : List Entry) (first last : ℕ) → first ≤ last → last ≤ length entries →
    take first (take first entries ++ drop last entries) ++ (fresh ++ drop first (take first entries ++ drop last
    entries)) ≡ splice entries first last fresh
drained_put entries fresh first last order within =
    let long = length-take-le first entries (omega arith) in
    let before : take first (take first entries ++ drop last entries) ≡ take first entries = take_at
    (take first entries) (drop last entries) first long in
    let behind : drop first (take first entries ++ drop last entries) ≡ drop last entries = drop_at
    (take first entries) (drop last entries) first long in
    rw (before, behind) refl

-- what holds of each entry
pub splice_all : (P : Entry → Type 0) (entries fresh : List Entry) (first last : ℕ) → All P entries → All P fresh →
    All P (splice entries first last fresh)
splice_all P entries fresh first last all new =
    All-append P (take first entries) (fresh ++ drop last entries) (All-take P first entries all) (All-append P fresh
    (drop last entries) new (All-drop P last entries all))

-- the flat entries
pub splice_flat : (modifiers : List Modifier) (entries fresh : List Entry) (from to first last : ℕ) →
    IsSeam entries from first → IsSeam entries to last → flat_entries modifiers (splice entries first last fresh) ≡
    splice (flat_entries modifiers entries) from to (flat_entries modifiers fresh)
splice_flat modifiers entries fresh from to first last begins ends =
    let before = take-flat_entries modifiers entries from first begins in
    let behind = drop-flat_entries modifiers entries to last ends in
    flat_entries-append modifiers (take first entries) (fresh ++ drop last entries)
    ∙ (ap (λ l. flat_entries modifiers (take first entries) ++ l) (flat_entries-append modifiers fresh
    (drop last entries)) ∙ rw (before, behind) refl)

-- the units
pub splice_units : (entries fresh : List Entry) (from to first last : ℕ) → IsSeam entries from first →
    IsSeam entries to last → entry_units (splice entries first last fresh) + to ≡ from + entry_units fresh +
    entry_units entries
splice_units entries fresh from to first last begins ends =
    let a = begins.units in
    let b = ends.units in
    omega (
      arith,
      sum_by-append units (take first entries) (fresh ++ drop last entries),
      sum_by-append units fresh
          (drop last entries),
      sum_by-take-drop units entries last,
    )

pub length-splice : {A : Type 0} (xs ys : List A) (first last : ℕ) → first ≤ last → last ≤ length xs →
    length (splice xs first last ys) + last ≡ first + length ys + length xs
length-splice xs ys first last order within =
    omega (
      arith,
      length-append (take first xs) (ys ++ drop last xs),
      length-append ys (drop last xs),
      length-take-le first xs (omega arith),
      length-drop last xs,
    )

-- ---- a fresh piece

pub fresh_seen : (modifiers : List Modifier) (fresh : Option Piece) → slice_get modifiers 0 ≡ Some no_modifier →
    flat_entries modifiers (fresh_entries fresh) ≡ fresh_places fresh
fresh_seen modifiers None first = flat_pieces-nil
fresh_seen modifiers (Some piece) first =
    let none : slice_index_or modifiers 0 no_modifier ≡ no_modifier = get_or_from_slice_get modifiers 0 no_modifier
    no_modifier first in
    let same : text_piece modifiers (record { piece = piece; modifier = 0 }) ≡ fresh_piece piece = ap
    (λ m. record { at = piece.at; wide = piece.wide; len = piece.len; modifier = m }) none in
    flat_pieces-cons (text_piece modifiers (record { piece = piece; modifier = 0 })) []
    ∙ (ap (λ l. places_of_piece (text_piece modifiers (record { piece = piece; modifier = 0 })) ++ l) flat_pieces-nil
    ∙ (append-nil (places_of_piece (text_piece modifiers (record { piece = piece; modifier = 0 }))) ∙ ap places_of_piece
    same))

pub fresh_entry_units : (fresh : Option Piece) → entry_units (fresh_entries fresh) ≡ fresh_units fresh
fresh_entry_units None = refl
fresh_entry_units (Some piece) = omega (arith, sum_by-cons units (record { piece = piece; modifier = 0 }) [])

pub length-fresh_places : (fresh : Option Piece) → length (fresh_places fresh) ≡ fresh_units fresh
length-fresh_places None = refl
length-fresh_places (Some piece) = length-unit_places (fresh_piece piece)

pub length-fresh_entries : (fresh : Option Piece) → length (fresh_entries fresh) ≡ length (option_to_list fresh)
length-fresh_entries None = refl
length-fresh_entries (Some piece) = refl

pub fresh_sound : (modifiers : List Modifier) (fresh : Option Piece) → slice_get modifiers 0 ≡ Some no_modifier →
    MatchOption fresh ⊤ IsPiece → All (λ entry. IsTextPiece (text_piece modifiers entry)) (fresh_entries fresh)
fresh_sound modifiers None first is = All-nil (λ (entry : Entry). IsTextPiece (text_piece modifiers entry))
fresh_sound modifiers (Some piece) first is =
    let none : slice_index_or modifiers 0 no_modifier ≡ no_modifier = get_or_from_slice_get modifiers 0 no_modifier
    no_modifier first in
    All-cons (λ (entry : Entry). IsTextPiece (text_piece modifiers entry)) (record { piece = piece; modifier = 0 }) []
    (record { units = is; formed = rw none none_formed }) (All-nil (λ (entry : Entry). IsTextPiece
    (text_piece modifiers entry)))

pub fresh_named : (fresh : Option Piece) (count : ℕ) → 0 < count → All (λ entry. entry.modifier < count)
    (fresh_entries fresh)
fresh_named None count some = All-nil (λ (entry : Entry). entry.modifier < count)
fresh_named (Some piece) count some = All-cons (λ (entry : Entry). entry.modifier < count) (record {
  piece = piece;
  modifier = 0;
}) [] some (All-nil (λ (entry : Entry). entry.modifier < count))

-- ---- what a list keeps

-- its entries are pieces, of so many units
pub are_pieces : (modifiers : List Modifier) (entries : List Entry) → ArePieceEntries modifiers entries →
    entry_units entries ≤ 500001 → ArePieces (map (text_piece modifiers) entries)
are_pieces modifiers entries each total = record {
  each = each;
  total = omega (
    arith,
    total_length-seen modifiers
        entries,
  );
}

-- a piece begins at a seam
pub seam_begins : (modifiers : List Modifier) (entries : List Entry) (cp number : ℕ) → IsSeam entries cp number →
    HasPieceBegin (map (text_piece modifiers) entries) cp
seam_begins modifiers entries cp number seam =
    let within = seam.within in
    let view = text_piece modifiers in
    record {
      before = number;
      within = omega (arith, length-map entries view);
      units = ap total_length (take-map view number entries) ∙ (total_length-seen modifiers (take number entries) ∙
          seam.units);
    }

-- a list that is seen as before keeps it all
pub kept_numbered : (modifiers : List Modifier) (old new : List Entry) → KeepsText old new → AreNumbered modifiers
    old → AreNumbered modifiers new
kept_numbered modifiers old new keeps numbered = record {
  first = numbered.first;
  named = keeps.named
      (length modifiers) numbered.named;
}

pub kept_total : (modifiers : List Modifier) (old new : List Entry) → KeepsText old new →
    total_length (map (text_piece modifiers) old) ≡ total_length (map (text_piece modifiers) new)
kept_total modifiers old new keeps = total_length-seen modifiers old ∙ (sym keeps.units ∙ sym (total_length-seen
    modifiers new))

pub kept_pieces : (modifiers : List Modifier) (old new : List Entry) → KeepsText old new →
    ArePieces (map (text_piece modifiers) old) → ArePieces (map (text_piece modifiers) new)
kept_pieces modifiers old new keeps are = record {
  each = keeps.sound modifiers are.each;
  total = let total =
      are.total in omega (arith, kept_total modifiers old new keeps);
}

-- the list after a splice
pub record IsSpliced (modifiers : List Modifier) (old new : List Entry) (from to : ℕ) (fresh : Option Piece) : Type 0
  where
    pub named : AreNumbered modifiers new
    pub pieces : ArePieces (map (text_piece modifiers) new)
    pub total : entry_units new + (to - from) ≡ entry_units old + fresh_units fresh
    pub flat : flat_entries modifiers new ≡ splice (flat_entries modifiers old) from to (fresh_places fresh)
    pub count : length new ≤ length old + 1 + length (option_to_list fresh)

pub spliced : (modifiers : List Modifier) (old cut : List Entry) (from to first last : ℕ) (fresh : Option Piece) →
    AreNumbered modifiers old → ArePieces (map (text_piece modifiers) old) → IsCutTwice old cut from to first last →
    from ≤ to → MatchOption fresh ⊤ IsPiece → entry_units old + fresh_units fresh ≤ 500001 + (to - from) →
    IsSpliced modifiers old (splice cut first last (fresh_entries fresh)) from to fresh
spliced modifiers old cut from to first last fresh numbered are twice low sound total =
    let new = splice cut first last (fresh_entries fresh) in
    let view = text_piece modifiers in
    let some = slice_get_within modifiers 0 no_modifier numbered.first in
    let each = All-seen view IsTextPiece cut (twice.keeps.sound modifiers are.each) in
    let P : Entry → Type 0 = λ entry. IsTextPiece (view entry) in
    let count = length-splice cut (fresh_entries fresh) first last twice.order twice.ends.within in
    let fresh_count = length-fresh_entries fresh in
    let less = twice.less in
    let order = twice.order in
    let units_kept = twice.keeps.units in
    let sum : entry_units new + (to - from) ≡ entry_units old + fresh_units fresh = omega (
      arith,
      splice_units cut
          (fresh_entries fresh) from to first last twice.begins twice.ends,
      fresh_entry_units fresh,
    ) in
    record {
      named = record {
        first = numbered.first;
        named = splice_all (λ (entry : Entry). entry.modifier < length
            modifiers) cut (fresh_entries fresh) first last (twice.keeps.named (length modifiers) numbered.named)
            (fresh_named fresh (length modifiers) some);
      };
      pieces = are_pieces modifiers new (All-map IsTextPiece view new (splice_all P cut (fresh_entries fresh) first
          last each (fresh_sound modifiers fresh numbered.first sound))) (omega arith);
      total = sum;
      flat = splice_flat modifiers cut (fresh_entries fresh) from to first last twice.begins twice.ends ∙
          rw (twice.keeps.flat modifiers, fresh_seen modifiers fresh numbered.first) refl;
      count = omega arith;
    }

-- a splice of nothing in place of all behind the first entries leaves these
pub splice_front : {A : Type 0} (xs : List A) (count : ℕ) → splice xs count (length xs) [] ≡ take count xs
splice_front xs count = ap (λ rest. take count xs ++ rest) (drop_all (length xs) xs (omega arith))
    ∙ append-nil (take count xs)

pub truncated : (old new : List TextPiece) (count total : ℕ) → total ≡ total_length old →
    flat_pieces new ≡ splice (flat_pieces old) count total [] → flat_pieces new ≡ take count (flat_pieces old)
truncated old new count total sum is =
    let len : total ≡ length (flat_pieces old) = sum ∙ sym (length-flat_pieces old) in
    is ∙ (ap (λ n. splice (flat_pieces old) count n []) len ∙ splice_front (flat_pieces old) count)
