-- Entries that are cut are seen as before.
use Rattle.std.proofs.Common.{◌≡◌, ℕ, zero, suc, ◌+◌, ◌-◌, ◌*◌, ◌<◌, ◌≤◌, List, [], ◌∷◌, ◌++◌, length, map, take}
use Rattle.std.proofs.Common.{drop, All, get_or, slice_get, slice_set, Bool, true, false, Some, refl, inl, inr, sym}
use Rattle.std.proofs.Common.{ap, subst, ◌∙◌, arith, append_assoc, length-append, length-drop}
use Rattle.std.proofs.lemmas.Bool.{cases_lt}
use Rattle.std.proofs.lemmas.List.{take-append-drop, take-append-le, take-take, take_at, take_all, take-map, take-set}
use Rattle.std.proofs.lemmas.List.{drop-set, drop_more, length-take-le}
use Rattle.std.proofs.lemmas.List.Elements.{All-get_or, All-append, All-take, All-drop, All-cons, All-map, All-weaker}
use Rattle.std.proofs.lemmas.List.Sums.{sum_by-cons, sum_by-append, sum_by_more}
use Rattle.std.proofs.lemmas.Option.{slice_get_within, get_or_from_slice_get, slice_get-get_or}
use Rattle.doc_bits.proofs.Public.{get-map}
use Rattle.prop_map.specs.declared.modifiers.Modifier.{Modifier}
use Rattle.piece_table.specs.declared.pieces.Entry.{Entry}
use Rattle.piece_table.specs.declared.pieces.Spot.{Spot}
use Rattle.piece_table.specs.Piece.{unit_bytes, places_of_piece, total_length, IsPiece, IsTextPiece, ArePieces}
use Rattle.piece_table.specs.Numbering.{text_piece}
use Rattle.piece_table.specs.Changes.{IsSpot}
use Rattle.piece_table.specs.Cuts.{entry_units, flat_entries, front_entry, back_entry, IsEntrySpot, IsSeam, KeepsText}
use Rattle.piece_table.specs.Cuts.{AreCutEntries, IsCutTwice}
use Rattle.piece_table.proofs.PartLemmas.{cut_parts, here_is, part_of_itself, part_on}
use Rattle.piece_table.proofs.PieceLemmas.{All-seen}
use Rattle.piece_table.proofs.FlatLemmas.{flat_entries-append, flat_pieces-cons, unit_places-cut, total_length-seen}

-- ---- sums

abbrev units : Entry → ℕ
units entry = entry.piece.len

-- more entries have as many units at least
pub units_rise : (entries : List Entry) (a b : ℕ) → a ≤ b → entry_units (take a entries) ≤ entry_units (take b entries)
units_rise entries zero b low = omega arith
units_rise [] (suc a) zero low = absurd (omega arith)
units_rise [] (suc a) (suc b) low = omega arith
units_rise (entry ∷ entries) (suc a) zero low = absurd (omega arith)
units_rise (entry ∷ entries) (suc a) (suc b) low =
    omega (
      arith,
      units_rise entries a b (omega arith),
      sum_by-cons units entry (take a entries),
      sum_by-cons units
          entry (take b entries),
    )

-- and more where each has one
units_climb : (entries : List Entry) (a b : ℕ) → All (λ entry. IsPiece entry.piece) entries → a < b →
    b ≤ length entries → entry_units (take a entries) < entry_units (take b entries)
units_climb entries a b sound low within =
    let d : Entry = record { piece = record { at = 0; wide = true; len = 0 }; modifier = 0 } in
    let some = (All-get_or (λ (e : Entry). IsPiece e.piece) entries a d (omega arith) sound).some in
    omega (arith, sum_by_more units entries a d (omega arith), units_rise entries (a + 1) b (omega arith))

-- a seam is not behind a later one
pub seams_rise : (entries : List Entry) (from to first last : ℕ) → All (λ entry. IsPiece entry.piece) entries →
    IsSeam entries from first → IsSeam entries to last → from ≤ to → first ≤ last
seams_rise entries from to first last sound begins ends low = elim (cases_lt last first) [
  | inl less ↦ let a = begins.units in let b = ends.units in absurd (omega (
    arith,
    units_climb entries last first
        sound less begins.within,
  ))
  | inr more ↦ more
]

-- ---- a cut inside an entry

-- the place of a cut
pub record IsCutPlace (entries : List Entry) (cp number inside : ℕ) (entry : Entry) : Type 0 where
  pub there : slice_get entries number ≡ Some entry
  pub here : entry_units (take number entries) + inside ≡ cp
  pub some : 0 < inside
  pub less : inside < entry.piece.len

abbrev pub cut_entries : List Entry → ℕ → ℕ → Entry → List Entry
cut_entries entries number inside entry = take number entries ++ (front_entry entry inside ∷ (back_entry entry inside
    ∷ drop (number + 1) entries))

parted : (entries : List Entry) (number : ℕ) (entry : Entry) → slice_get entries number ≡ Some entry →
    entries ≡ take number entries ++ (entry ∷ drop (number + 1) entries)
parted entries number entry there =
    let low = slice_get_within entries number entry there in
    sym (take-append-drop number entries) ∙ ap (λ l. take number entries ++ l)
    (drop_more entries number entry low ∙ ap (λ e. e ∷ drop (number + 1) entries) (get_or_from_slice_get entries
    number entry entry there))

-- what holds of each entry holds of each after the cut, where it holds of both parts
cut_all : (P : Entry → Type 0) (entries : List Entry) (number inside : ℕ) (entry : Entry) → slice_get entries number ≡
    Some entry → (P entry → P (front_entry entry inside)) → (P entry → P (back_entry entry inside)) → All P entries →
    All P (cut_entries entries number inside entry)
cut_all P entries number inside entry there front back all =
    let low = slice_get_within entries number entry there in
    let here : P entry = subst P (get_or_from_slice_get entries number entry entry there) (All-get_or P entries number
    entry low all) in
    let rest = drop (number + 1) entries in
    All-append P (take number entries) (front_entry entry inside ∷ (back_entry entry inside ∷ rest))
    (All-take P number entries all)
    (All-cons P (front_entry entry inside) (back_entry entry inside ∷ rest) (front here) (All-cons P (back_entry entry
    inside) rest (back here) (All-drop P (number + 1) entries all)))

cut_end : (at len inside : ℕ) (wide : Bool) → inside ≤ len → (at + inside * unit_bytes wide) + (len - inside) *
    unit_bytes wide ≡ at + len * unit_bytes wide
cut_end at len inside true low = omega arith
cut_end at len inside false low = omega arith

front_end : (at len inside : ℕ) (wide : Bool) → inside ≤ len → at + inside * unit_bytes wide ≤ at + len * unit_bytes
    wide
front_end at len inside true low = omega arith
front_end at len inside false low = omega arith

-- both parts are pieces
pub front_piece : (entry : Entry) (inside : ℕ) → 0 < inside → inside < entry.piece.len → IsPiece entry.piece →
    IsPiece (front_entry entry inside).piece
front_piece entry inside some less sound = record {
  some = omega arith;
  end = let end = sound.end in omega (
    arith,
    front_end entry.piece.at entry.piece.len inside entry.piece.wide
        (omega arith),
  );
}

pub back_piece : (entry : Entry) (inside : ℕ) → 0 < inside → inside < entry.piece.len → IsPiece entry.piece →
    IsPiece (back_entry entry inside).piece
back_piece entry inside some less sound = record {
  some = omega arith;
  end = let end = sound.end in omega (
    arith,
    cut_end entry.piece.at entry.piece.len inside entry.piece.wide
        (omega arith),
  );
}

pub front_sound : (modifiers : List Modifier) (entry : Entry) (inside : ℕ) → 0 < inside → inside < entry.piece.len →
    IsTextPiece (text_piece modifiers entry) → IsTextPiece (text_piece modifiers (front_entry entry inside))
front_sound modifiers entry inside some less sound = record {
  units = front_piece entry inside some less sound.units;
  formed = sound.formed;
}

pub back_sound : (modifiers : List Modifier) (entry : Entry) (inside : ℕ) → 0 < inside → inside < entry.piece.len →
    IsTextPiece (text_piece modifiers entry) → IsTextPiece (text_piece modifiers (back_entry entry inside))
back_sound modifiers entry inside some less sound = record {
  units = back_piece entry inside some less sound.units;
  formed = sound.formed;
}

-- all units are seen as before
cut_flat : (entries : List Entry) (number inside : ℕ) (entry : Entry) → slice_get entries number ≡ Some entry →
    inside ≤ entry.piece.len → (modifiers : List Modifier) → flat_entries modifiers (cut_entries entries number inside
    entry) ≡ flat_entries modifiers entries
cut_flat entries number inside entry there low modifiers =
    let front = take number entries in
    let rest = drop (number + 1) entries in
    let a = front_entry entry inside in
    let b = back_entry entry inside in
    let view = text_piece modifiers in
    let two : flat_entries modifiers (a ∷ (b ∷ rest)) ≡ flat_entries modifiers (entry ∷ rest) =
    flat_pieces-cons (view a) (map view (b ∷ rest))
    ∙ (ap (λ l. places_of_piece (view a) ++ l) (flat_pieces-cons (view b) (map view rest))
    ∙ (sym (append_assoc (places_of_piece (view a)) (places_of_piece (view b)) (flat_entries modifiers rest))
    ∙ (ap (λ l. l ++ flat_entries modifiers rest) (unit_places-cut modifiers entry inside low) ∙ sym (flat_pieces-cons
    (view entry) (map view rest))))) in
    flat_entries-append modifiers front (a ∷ (b ∷ rest))
    ∙ (ap (λ l. flat_entries modifiers front ++ l) two
    ∙ (sym (flat_entries-append modifiers front (entry ∷ rest)) ∙ ap (flat_entries modifiers)
    (sym (parted entries number entry there))))

cut_units : (entries : List Entry) (number inside : ℕ) (entry : Entry) → slice_get entries number ≡ Some entry →
    inside ≤ entry.piece.len → entry_units (cut_entries entries number inside entry) ≡ entry_units entries
cut_units entries number inside entry there low =
    let front = take number entries in
    let rest = drop (number + 1) entries in
    let a = front_entry entry inside in
    let b = back_entry entry inside in
    omega (
      arith,
      ap entry_units (parted entries number entry there),
      sum_by-append units front (a ∷ (b ∷ rest)),
      sum_by-append units front (entry ∷ rest),
      sum_by-cons units a (b ∷ rest),
      sum_by-cons units b rest,
      sum_by-cons units entry rest,
    )

cut_keeps : (entries : List Entry) (cp number inside : ℕ) (entry : Entry) → IsCutPlace entries cp number inside
    entry → KeepsText entries (cut_entries entries number inside entry)
cut_keeps entries cp number inside entry place =
    let some = place.some in
    let less = place.less in
    record {
      flat = cut_flat entries number inside entry place.there (omega arith);
      units = cut_units entries number inside entry place.there (omega arith);
      pieces = λ sound. cut_all (λ (e : Entry). IsPiece e.piece) entries number inside entry place.there (front_piece
          entry inside some less) (back_piece entry inside some less) sound;
      sound = λ modifiers sound.
          let view = text_piece modifiers in
          All-map IsTextPiece view (cut_entries entries number inside entry)
          (cut_all (λ (e : Entry). IsTextPiece (view e)) entries number inside entry place.there (front_sound
          modifiers entry inside some less) (back_sound modifiers entry inside some less) (All-seen view
          IsTextPiece entries sound));
      named = λ count named. cut_all (λ (e : Entry). e.modifier < count) entries number inside entry place.there
          (λ low. low) (λ low. low) named;
      parts = cut_parts entries number inside entry (here_is entries number entry place.there) (omega arith);
    }

-- a seam before the cut stays
cut_front : (entries : List Entry) (cp number inside : ℕ) (entry : Entry) → IsCutPlace entries cp number inside
    entry → (first begin : ℕ) → IsSeam entries begin first → begin ≤ cp → (first ≤ number) × IsSeam (cut_entries
    entries number inside entry) begin first
cut_front entries cp number inside entry place first begin seam low =
    let within = slice_get_within entries number entry place.there in
    let before : first ≤ number = elim (cases_lt number first) [
      | inl less ↦
          let here = place.here in
          let inner = place.less in
          let ends = seam.units in
          let at_entry = get_or_from_slice_get entries number entry entry place.there in
          let len : units (get_or entries number entry) ≡ entry.piece.len = ap units at_entry in
          absurd (omega (
            arith,
            len,
            sum_by_more units entries number entry within,
            units_rise entries (number + 1)
                first (omega arith),
          ))
      | inr more ↦ more
    ] in
    let long = length-take-le number entries (omega arith) in
    let rest = front_entry entry inside ∷ (back_entry entry inside ∷ drop (number + 1) entries) in
    let same : take first (cut_entries entries number inside entry) ≡ take first entries = take-append-le first
    (take number entries) rest (omega arith) ∙ take-take first number entries before in (
      before,
      record {
        within = omega (arith, length-append (take number entries) rest);
        units = ap entry_units same ∙
            seam.units;
      },
    )

pub cut_inside : (entries : List Entry) (cp number inside : ℕ) (entry : Entry) → IsCutPlace entries cp number inside
    entry → AreCutEntries entries (cut_entries entries number inside entry) cp (number + 1)
cut_inside entries cp number inside entry place =
    let within = slice_get_within entries number entry place.there in
    let front = take number entries in
    let a = front_entry entry inside in
    let rest = back_entry entry inside ∷ drop (number + 1) entries in
    let long = length-take-le number entries (omega arith) in
    let all = length-append front (a ∷ rest) in
    let left = length-drop (number + 1) entries in
    let first : take (number + 1) (front ++ (a ∷ rest)) ≡ front ++ a ∷ [] =
    ap (take (number + 1)) (sym (append_assoc front (a ∷ []) rest)) ∙ take_at (front ++ a ∷ []) rest (number + 1)
    (omega (arith, length-append front (a ∷ []))) in
    let here = place.here in
    record {
      keeps = cut_keeps entries cp number inside entry place;
      seam = record {
        within = omega arith;
        units = omega (
          arith,
          ap entry_units first,
          sum_by-append units front
              (a ∷ []),
          sum_by-cons units a [],
        );
      };
      count = omega arith;
      front = λ seam_number begin seam low.
          let kept = cut_front entries cp number inside entry place seam_number begin seam low in
          let before = kept.0 in
          (omega arith, kept.1);
      still = λ seam_number seam.
          let kept = cut_front entries cp number inside entry place seam_number cp seam (omega arith) in
          let before = kept.0 in
          let some = place.some in
          let ends = seam.units in
          absurd (omega (arith, units_rise entries seam_number number before));
    }

-- ---- no cut, where an entry begins there

pub keeps_itself : (entries : List Entry) → KeepsText entries entries
keeps_itself entries = record {
  flat = λ modifiers. refl;
  units = refl;
  pieces = λ sound. sound;
  sound = λ modifiers
      sound. sound;
  named = λ count named. named;
  parts = λ j low. part_of_itself entries j low;
}

pub cut_nowhere : (entries : List Entry) (cp number : ℕ) → All (λ entry. IsPiece entry.piece) entries →
    IsSeam entries cp number → AreCutEntries entries entries cp number
cut_nowhere entries cp number sound seam = record {
  keeps = keeps_itself entries;
  seam = seam;
  count = omega arith;
  front = λ first begin begins low. (seams_rise entries begin cp first number sound begins seam low, begins);
  still = λ seam_number other. refl;
}

-- ---- two cuts

pub keeps_on : (a b c : List Entry) → KeepsText a b → KeepsText b c → KeepsText a c
keeps_on a b c x y = record {
  flat = λ modifiers. y.flat modifiers ∙ x.flat modifiers;
  units = y.units ∙ x.units;
  pieces = λ sound. y.pieces (x.pieces sound);
  sound = λ modifiers sound. y.sound modifiers (x.sound modifiers sound);
  named = λ count named. y.named count (x.named count named);
  parts = λ j low. let part = y.parts j low in part_on a b c j part (x.parts part.place part.there);
}

pub cut_twice : (a b c : List Entry) (from to first last : ℕ) → from ≤ to → AreCutEntries a b from first → AreCutEntries
    b c to last →
    IsCutTwice a c from to first last
cut_twice a b c from to first last low x y =
    let kept = y.front first from x.seam low in
    let order = kept.0 in
    let one = x.count in
    let other = y.count in
    record {
      keeps = keeps_on a b c x.keeps y.keeps;
      begins = kept.1;
      ends = y.seam;
      order = order;
      count = omega arith;
      less = elim (cases_lt first last) [
        | inl some ↦ omega arith
        | inr none ↦
            let e : last ≡ first = omega arith in
            let begins = kept.1.units in
            let ends = y.seam.units in
            let both : from ≡ to = sym begins ∙ (ap (λ n. entry_units (take n c)) (sym e) ∙ ends) in
            let same : c ≡ b = y.still first (subst (λ cp. IsSeam b cp first) both x.seam) in
            omega (arith, ap length same)
      ];
    }

-- ---- spots

-- a spot inside an entry is the place of a cut
pub spot_place : (entries : List Entry) (cp : ℕ) (spot : Spot) (entry : Entry) → IsEntrySpot entries cp spot →
    0 < spot.within → entry ≡ get_or entries spot.piece entry → IsCutPlace entries cp spot.piece spot.within entry
spot_place entries cp spot entry is some here =
    let low = is.low in
    let within : spot.piece < length entries = elim (cases_lt spot.piece (length entries)) [
      | inl less ↦ less
      | inr more ↦ let e : spot.piece ≡ length entries = omega arith in absurd (omega (arith, is.behind e))
    ] in
    let there : slice_get entries spot.piece ≡ Some entry = slice_get-get_or entries spot.piece entry within ∙ ap
    (λ e. Some e) (sym here) in
    record { there = there; here = is.here; some = some; less = is.inside entry there }

-- a spot at the begin of an entry is a seam
pub spot_seam : (entries : List Entry) (cp : ℕ) (spot : Spot) → IsEntrySpot entries cp spot → spot.within ≡ 0 →
    IsSeam entries cp spot.piece
spot_seam entries cp spot is none = record { within = is.low; units = let here = is.here in omega arith }

-- the spot of a CP of the text, as it is seen
pub spot_seen : (modifiers : List Modifier) (entries : List Entry) (cp : ℕ) (spot : Spot) → IsEntrySpot entries cp
    spot → cp < entry_units entries → IsSpot (map (text_piece modifiers) entries) cp spot
spot_seen modifiers entries cp spot is less =
    let d : Entry = record { piece = record { at = 0; wide = true; len = 0 }; modifier = 0 } in
    let low = is.low in
    let here = is.here in
    let view = text_piece modifiers in
    let within : spot.piece < length entries = elim (cases_lt spot.piece (length entries)) [
      | inl inside ↦ inside
      | inr more ↦
          let e : spot.piece ≡ length entries = omega arith in
          let all : take spot.piece entries ≡ entries = take_all spot.piece entries more in
          absurd (omega (arith, is.behind e, ap entry_units all))
    ] in
    let there = slice_get-get_or entries spot.piece d within in
    record {
      piece = view (get_or entries spot.piece d);
      there = get-map view entries spot.piece (get_or entries spot.piece d) there;
      here = omega (
        arith,
        ap total_length (take-map view spot.piece entries),
        total_length-seen modifiers
            (take spot.piece entries),
      );
      inside = is.inside (get_or entries spot.piece d) there;
    }

-- an entry that is written over, with another before it
pub inserted : (entries : List Entry) (number : ℕ) (front back : Entry) → number < length entries →
    take number (slice_set entries number back) ++ (front ∷ drop number (slice_set entries number back)) ≡ take number
    entries ++ (front ∷ (back ∷ drop (number + 1) entries))
inserted entries number front back low = rw (take-set entries number back, drop-set entries number back low) refl

-- entries that are seen as pieces are pieces
pub entries_sound : (modifiers : List Modifier) (entries : List Entry) → ArePieces (map (text_piece modifiers)
    entries) → All (λ entry. IsPiece entry.piece) entries
entries_sound modifiers entries are =
    let view = text_piece modifiers in
    let seen = All-seen view IsTextPiece entries are.each in
    All-weaker (λ (e : Entry). IsTextPiece (view e)) (λ (e : Entry). IsPiece e.piece) (λ e sound. sound.units) entries
    seen
