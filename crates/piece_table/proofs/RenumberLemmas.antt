-- Entries that name new modifiers.
use Rattle.std.proofs.Common.{◌≡◌, ◌≢◌, ℕ, ◌+◌, ◌-◌, ◌*◌, ◌<◌, ◌≤◌, List, [], ◌∷◌, ◌++◌, length, map, take, drop, All}
use Rattle.std.proofs.Common.{get_or, slice_index, slice_index_or, slice_get, slice_set, Bool, Some, refl, inl, inr}
use Rattle.std.proofs.Common.{sym, ap, subst, ◌∙◌, arith, append_assoc, length-append}
use Rattle.std.specs.Prelude.{slice_range}
use Rattle.std.specs.List.{AllZip, range_with_len, splice}
use Rattle.std.proofs.Math.ListN.{length-map}
use Rattle.std.proofs.Math.Seq.{get_or-append_seam, set-append_seam}
use Rattle.std.proofs.lemmas.Bool.{cases_lt}
use Rattle.std.proofs.lemmas.List.{get_or-set_same, get_or-set_other, length-set, append-nil, take_at, drop_at}
use Rattle.std.proofs.lemmas.List.{get_or_past, length-take-le, drop_more, map-append, take_all}
use Rattle.std.proofs.lemmas.List.{drop_all}
use Rattle.std.proofs.lemmas.List.Edits.{split_between, length-between, between_more}
use Rattle.std.proofs.lemmas.List.Elements.{All-nil, All-cons, All-head, All-tail, All-map, All-take, All-drop}
use Rattle.std.proofs.lemmas.List.Elements.{All-weaker}
use Rattle.std.proofs.lemmas.List.Sums.{sum_by-cons, sum_by-append, sum_by-take-drop}
use Rattle.std.proofs.lemmas.Option.{slice_get_within, get_or_from_slice_get}
use Rattle.std.proofs.lemmas.Slice.Zip.{AllZip-long}
use Rattle.doc_bits.proofs.Public.{range_mid, slice_get_before}
use Rattle.prop_map.specs.declared.modifiers.Modifier.{Modifier}
use Rattle.prop_map.specs.Modifiers.{no_modifier, IsComposed, StaysFormedModifier, IsFormedModifier}
use Rattle.piece_table.specs.declared.pieces.Entry.{Entry}
use Rattle.piece_table.specs.Piece.{UnitPlace, unit_bytes, places_of_piece, flat_pieces, IsTextPiece, ArePieces}
use Rattle.piece_table.specs.Numbering.{text_piece, Extends, AreNumbered}
use Rattle.piece_table.specs.Changes.{HasPieceBegin, IsModifiedPlace, AreModified}
use Rattle.piece_table.specs.Cuts.{entry_units, flat_entries, renumbered_entry, IsSeam, IsCutTwice}
use Rattle.piece_table.specs.Renumbering.{IsComposedAt, HaveComposed, HaveCopied}
use Rattle.piece_table.proofs.NumberingLemmas.{in_front, same_or_apart}
use Rattle.piece_table.proofs.PieceLemmas.{All-seen}
use Rattle.piece_table.proofs.FlatLemmas.{flat_entries-append, length-flat_entries, total_length-seen, seen-extended}
use Rattle.piece_table.proofs.SpliceLemmas.{splice_all, splice_units, length-splice, are_pieces, seam_begins}

-- ---- lists that grow

pub extends_on : (a b c : List Modifier) → Extends a b → Extends b c → Extends a c
extends_on a b c x y = record {
  more = x.more ++ y.more;
  joined = y.joined ∙ (ap (λ l. l ++ y.more) x.joined ∙
      append_assoc a x.more y.more);
}

-- a number beside which something is kept is one of the list
pub kept_within : (numbers : List ℕ) (number : ℕ) → slice_index numbers number ≢ 0 → number < length numbers
kept_within numbers number some = elim (cases_lt number (length numbers)) [
  | inl low ↦ low
  | inr high ↦ absurd (some (get_or_past numbers number 0 high))
]

-- ---- composed modifiers

composed_on : (by : Modifier) (old more : List Modifier) (number made : ℕ) → number < length old → IsComposedAt by old
    number made → IsComposedAt by (old ++ more) number made
composed_on by old more number made low is =
    let within = is.within in
    let a = in_front old more number low in
    let b = in_front old more made within in
    record {
      within = omega (arith, length-append old more);
      composed = rw (a, b) is.composed;
      formed = rw (a, b) is.formed;
    }

pub composed_put : (by : Modifier) (modifiers : List Modifier) (numbers : List ℕ) (number : ℕ) (made : Modifier) →
    HaveComposed by modifiers numbers → number < length numbers → IsComposed (slice_index_or modifiers number
    no_modifier) by made → StaysFormedModifier (slice_index_or modifiers number no_modifier) by made → HaveComposed by
    (modifiers ++ made ∷ []) (slice_set numbers number (length modifiers))
composed_put by modifiers numbers number made have low is formed =
    let short = have.short in
    let long = length-append modifiers (made ∷ []) in
    let numbers2 = slice_set numbers number (length modifiers) in
    let same : slice_index numbers2 number ≡ length modifiers = get_or-set_same numbers number (length modifiers) 0
    low in
    record {
      short = omega (arith, length-set numbers number (length modifiers));
      each = λ other some. elim (same_or_apart other number) [
        | inl e ↦
            let front = in_front modifiers (made ∷ []) number (omega arith) in
            let last : slice_index_or (modifiers ++ made ∷ []) (length modifiers) no_modifier ≡ made =
            get_or-append_seam modifiers made [] no_modifier in
            let here : IsComposedAt by (modifiers ++ made ∷ []) number (length modifiers) = record {
              within =
                  omega arith;
              composed = rw (front, last) is;
              formed = rw (front, last) formed;
            } in
            subst (λ n. IsComposedAt by (modifiers ++ made ∷ []) n (slice_index numbers2 n)) (sym e)
            (subst (IsComposedAt by (modifiers ++ made ∷ []) number) (sym same) here)
        | inr apart ↦
            let kept : slice_index numbers2 other ≡ slice_index numbers other = get_or-set_other numbers number other
            (length modifiers) 0 apart in
            let some_old : slice_index numbers other ≢ 0 = λ z. some (kept ∙ z) in
            let within = kept_within numbers other some_old in
            subst (IsComposedAt by (modifiers ++ made ∷ []) other) (sym kept) (composed_on by modifiers (made ∷ [])
            other (slice_index numbers other) (omega arith) (have.each other some_old))
      ];
    }

-- ---- a number that is put beside another

pub here_put : (numbers : List ℕ) (number place : ℕ) → number < length numbers → 0 < place →
    slice_index (slice_set numbers number place) number ≢ 0
here_put numbers number place low some = λ none.
    let same : slice_index (slice_set numbers number place) number ≡ place =
    get_or-set_same numbers number place 0 low in
    omega (arith, same, none)

pub others_put : (numbers : List ℕ) (number place other : ℕ) → number < length numbers → 0 < place →
    slice_index numbers other ≢ 0 → slice_index (slice_set numbers number place) other ≢ 0
others_put numbers number place other low some kept = elim (same_or_apart other number) [
  | inl e ↦ subst (λ n. slice_index (slice_set numbers number place) n ≢ 0) (sym e) (here_put numbers number place low
      some)
  | inr apart ↦ λ none. kept (sym (get_or-set_other numbers number other place 0 apart) ∙ none)
]

-- ---- entries with new numbers

-- each place of a piece
modified_places : (by old new : Modifier) (at : ℕ) (wide : Bool) (ks : List ℕ) → IsComposed old by new →
    AllZip (IsModifiedPlace by) (map (λ j. record { at = at + j * unit_bytes wide; wide = wide; modifier = old }) ks)
    (map (λ j. record { at = at + j * unit_bytes wide; wide = wide; modifier = new }) ks)
modified_places by old new at wide [] is = tt
modified_places by old new at wide (k ∷ ks) is = (
  record { at = refl; wide = refl; modifier = is },
  modified_places by
      old new at wide ks is,
)

pub AllZip-append : {A B : Type 0} (R : A → B → Type 0) (a c : List A) (b d : List B) → AllZip R a b → AllZip R c d →
    AllZip R (a ++ c) (b ++ d)
AllZip-append R [] c [] d x y = y
AllZip-append R [] c (z ∷ b) d x y = absurd x
AllZip-append R (z ∷ a) c [] d x y = absurd x
AllZip-append R (z ∷ a) c (w ∷ b) d x y = (x.0, AllZip-append R a c b d x.1 y)

-- entries whose modifiers were composed
pub renumbered_places : (by : Modifier) (modifiers : List Modifier) (numbers : List ℕ) (entries : List Entry) →
    HaveComposed by modifiers numbers → All (λ entry. slice_index numbers entry.modifier ≢ 0) entries →
    AllZip (IsModifiedPlace by) (flat_entries modifiers entries) (flat_entries modifiers (map (renumbered_entry numbers)
    entries))
unfolding flat_pieces
renumbered_places by modifiers numbers [] have all = tt
renumbered_places by modifiers numbers (entry ∷ entries) have all =
    let some = All-head (λ (e : Entry). slice_index numbers e.modifier ≢ 0) entry entries all in
    let is = (have.each entry.modifier some).composed in
    let new = renumbered_entry numbers entry in
    AllZip-append (IsModifiedPlace by) (places_of_piece (text_piece modifiers entry)) (flat_entries modifiers entries)
    (places_of_piece (text_piece modifiers new)) (flat_entries modifiers (map (renumbered_entry numbers) entries))
    (modified_places by (slice_index_or modifiers entry.modifier no_modifier) (slice_index_or modifiers new.modifier
    no_modifier) entry.piece.at entry.piece.wide (range_with_len 0 entry.piece.len) is)
    (renumbered_places by modifiers numbers entries have (All-tail (λ (e : Entry). slice_index numbers e.modifier ≢ 0)
    entry entries all))

-- ---- a range of entries with new numbers

pub units_renumbered : (numbers : List ℕ) (entries : List Entry) → entry_units (map (renumbered_entry numbers) entries)
    ≡
    entry_units entries
units_renumbered numbers [] = refl
units_renumbered numbers (entry ∷ entries) =
    omega (
      arith,
      units_renumbered numbers entries,
      sum_by-cons (λ (e : Entry). e.piece.len) (renumbered_entry numbers
          entry) (map (renumbered_entry numbers) entries),
      sum_by-cons (λ (e : Entry). e.piece.len) entry entries,
    )

-- a list whose middle was changed
pub changed_middle : (by : Modifier) (old new before middle made behind : List UnitPlace) (from to : ℕ) →
    old ≡ before ++ (middle ++ behind) → new ≡ before ++ (made ++ behind) → length before ≡ from →
    from + length middle ≡ to → AllZip (IsModifiedPlace by) middle made → AreModified by from to old new
changed_middle by old new before middle made behind from to is_old is_new first last all =
    let same = length_all_places by middle made all in
    let cut_old : slice_range old from to ≡ middle = range_mid old before middle behind from to is_old (sym first)
    (omega arith) in
    let cut_new : slice_range new from to ≡ made = range_mid new before made behind from to is_new (sym first)
    (omega arith) in
    let front_old : take from old ≡ before = ap (take from) is_old ∙ take_at before (middle ++ behind) from first in
    let front_new : take from new ≡ before = ap (take from) is_new ∙ take_at before (made ++ behind) from first in
    let back_old : drop to old ≡ behind = ap (drop to) (is_old ∙ sym (append_assoc before middle behind)) ∙ drop_at
    (before ++ middle) behind to (omega (arith, length-append before middle)) in
    let back_new : drop to new ≡ behind = ap (drop to) (is_new ∙ sym (append_assoc before made behind)) ∙ drop_at
    (before ++ made) behind to (omega (arith, length-append before made)) in
    record {
      before = front_new ∙ sym front_old;
      modified = rw (cut_old, cut_new) all;
      after = back_new ∙ sym back_old;
    }
  where
    length_all_places : (by : Modifier) (a b : List UnitPlace) → AllZip (IsModifiedPlace by) a b → length b ≡ length a
    length_all_places by a b all = AllZip-long (IsModifiedPlace by) a b all

-- the list after the modifiers of a range were composed
pub record IsRenewed (old_modifiers new_modifiers : List Modifier) (by : Modifier) (from to : ℕ) (old new : List
    Entry) : Type 0 where
  pub named : AreNumbered new_modifiers new
  pub pieces : ArePieces (map (text_piece new_modifiers) new)
  pub total : entry_units new ≡ entry_units old
  pub flat : AreModified by from to (flat_entries old_modifiers old) (flat_entries new_modifiers new)
  pub count : length new ≤ length old + 2
  pub begins : HasPieceBegin (map (text_piece new_modifiers) new) from
  pub ends : HasPieceBegin (map (text_piece new_modifiers) new) to

-- a range whose entries have new numbers begins and ends where it did
range_seams : (numbers : List ℕ) (cut : List Entry) (from to first last : ℕ) → first ≤ last → IsSeam cut from first →
    IsSeam cut to last → (IsSeam (splice cut first last (map (renumbered_entry numbers) (slice_range cut first last)))
    from
    first) × IsSeam (splice cut first last (map (renumbered_entry numbers) (slice_range cut first last))) to last
range_seams numbers cut from to first last order begins ends =
    let middle = slice_range cut first last in
    let made = map (renumbered_entry numbers) middle in
    let behind = drop last cut in
    let new = splice cut first last made in
    let U : Entry → ℕ = λ entry. entry.piece.len in
    let within = ends.within in
    let low : length (take first cut) ≡ first = length-take-le first cut (omega arith) in
    let long : length made ≡ last - first = omega (
      arith,
      length-map middle (renumbered_entry numbers),
      length-between cut first last within,
    ) in
    let whole = length-splice cut made first last order within in
    let front : take first new ≡ take first cut = take_at (take first cut) (made ++ behind) first (omega arith) in
    let back : take last new ≡ take first cut ++ made = ap (take last) (sym (append_assoc (take first cut) made
    behind)) ∙ take_at (take first cut ++ made) behind last (omega (arith, length-append (take first cut) made)) in
    let units : entry_units (take first cut ++ made) ≡ to = omega (
      arith,
      begins.units,
      ends.units,
      units_renumbered numbers middle,
      sum_by-append U (take first cut) made,
      ap entry_units (split_between cut first last order),
      sum_by-append U (take first cut) (middle ++ behind),
      sum_by-append U middle behind,
      sum_by-take-drop U cut last,
    ) in (
      record { within = omega arith; units = ap entry_units front ∙ begins.units },
      record { within = omega arith; units = ap entry_units back ∙ units },
    )

-- entries of a range, composed
made_sound : (by : Modifier) (modifiers : List Modifier) (numbers : List ℕ) (entries : List Entry) → IsFormedModifier
    by → HaveComposed by modifiers numbers → All (λ entry. slice_index numbers entry.modifier ≢ 0) entries →
    All (λ entry. IsTextPiece (text_piece modifiers entry)) entries → All (λ entry. IsTextPiece (text_piece modifiers
    entry)) (map (renumbered_entry numbers) entries)
made_sound by modifiers numbers [] formed have all sound = All-nil (λ (entry : Entry). IsTextPiece
    (text_piece modifiers entry))
made_sound by modifiers numbers (entry ∷ entries) formed have all sound =
    let P : Entry → Type 0 = λ entry. IsTextPiece (text_piece modifiers entry) in
    let Q : Entry → Type 0 = λ entry. slice_index numbers entry.modifier ≢ 0 in
    let here = All-head P entry entries sound in
    let is = have.each entry.modifier (All-head Q entry entries all) in
    All-cons P (renumbered_entry numbers entry) (map (renumbered_entry numbers) entries) (record {
      units = here.units;
      formed = is.formed here.formed formed;
    })
    (made_sound by modifiers numbers entries formed have (All-tail Q entry entries all) (All-tail P entry entries
    sound))

made_named : (by : Modifier) (modifiers : List Modifier) (numbers : List ℕ) (entries : List Entry) → HaveComposed by
    modifiers numbers → All (λ entry. slice_index numbers entry.modifier ≢ 0) entries → All (λ entry. entry.modifier <
    length modifiers) (map (renumbered_entry numbers) entries)
made_named by modifiers numbers [] have all = All-nil (λ (entry : Entry). entry.modifier < length modifiers)
made_named by modifiers numbers (entry ∷ entries) have all =
    let P : Entry → Type 0 = λ entry. entry.modifier < length modifiers in
    let Q : Entry → Type 0 = λ entry. slice_index numbers entry.modifier ≢ 0 in
    All-cons P (renumbered_entry numbers entry) (map (renumbered_entry numbers) entries) (have.each entry.modifier
    (All-head Q entry entries all)).within (made_named by modifiers numbers entries have (All-tail Q entry entries
    all))

-- a list that was extended has its front
extended_first : (old new : List Modifier) (modifier : Modifier) → Extends old new → slice_get old 0 ≡ Some modifier →
    slice_get new 0 ≡ Some modifier
extended_first old new modifier more first = ap (λ l. slice_get l 0) more.joined ∙ (slice_get_before old more.more 0
    (slice_get_within old 0 modifier first) ∙ first)

pub extended_long : (old new : List Modifier) → Extends old new → length old ≤ length new
extended_long old new more = omega (arith, ap length more.joined, length-append old more.more)

pub extended_numbered : (old new : List Modifier) (entries : List Entry) → Extends old new → AreNumbered old entries →
    AreNumbered new entries
extended_numbered old new entries more numbered =
    let long = extended_long old new more in
    record {
      first = extended_first old new no_modifier more numbered.first;
      named = All-weaker (λ (entry : Entry). entry.modifier < length old) (λ (entry : Entry). entry.modifier < length
          new) (λ entry less. omega arith) entries numbered.named;
    }

pub range_all : (P : Entry → Type 0) (entries : List Entry) (first last : ℕ) → All P entries →
    All P (slice_range entries first last)
range_all P entries first last all = All-take P (last - first) (drop first entries) (All-drop P first entries all)

pub renewed : (old_modifiers new_modifiers : List Modifier) (by : Modifier) (numbers : List ℕ) (old cut : List Entry)
    (from to first last : ℕ) → AreNumbered old_modifiers old → ArePieces (map (text_piece old_modifiers) old) →
    IsCutTwice old cut from to first last → from ≤ to → Extends old_modifiers new_modifiers → IsFormedModifier by →
    HaveComposed by new_modifiers numbers → All (λ entry. slice_index numbers entry.modifier ≢ 0) (slice_range cut
    first last) → IsRenewed old_modifiers new_modifiers by from to old (splice cut first last
    (map (renumbered_entry numbers) (slice_range cut first last)))
renewed old_modifiers new_modifiers by numbers old cut from to first last numbered are twice low more formed have all =
    let middle = slice_range cut first last in
    let made = map (renumbered_entry numbers) middle in
    let new = splice cut first last made in
    let view = text_piece new_modifiers in
    let P : Entry → Type 0 = λ entry. IsTextPiece (view entry) in
    let N : Entry → Type 0 = λ entry. entry.modifier < length new_modifiers in
    let long = extended_long old_modifiers new_modifiers more in
    let named_old = twice.keeps.named (length old_modifiers) numbered.named in
    let named : All N cut = All-weaker (λ (entry : Entry). entry.modifier < length old_modifiers) N (λ entry less.
    omega arith) cut named_old in
    let seen = seen-extended old_modifiers new_modifiers cut more named_old in
    let sound_seen : All IsTextPiece (map view cut) = subst (λ l. All IsTextPiece l) (sym seen) (twice.keeps.sound
    old_modifiers are.each) in
    let sound = All-seen view IsTextPiece cut sound_seen in
    let flat_old : flat_entries new_modifiers cut ≡ flat_entries old_modifiers old = ap flat_pieces seen ∙
    twice.keeps.flat old_modifiers in
    let parts = split_between cut first last twice.order in
    let behind = drop last cut in
    let joined : flat_entries new_modifiers cut ≡ flat_entries new_modifiers (take first cut) ++ (flat_entries
    new_modifiers middle ++ flat_entries new_modifiers behind) =
    ap (flat_entries new_modifiers) parts ∙ (flat_entries-append new_modifiers (take first cut) (middle ++ behind) ∙
    ap (λ l. flat_entries new_modifiers (take first cut) ++ l) (flat_entries-append new_modifiers middle behind)) in
    let joined_new : flat_entries new_modifiers new ≡ flat_entries new_modifiers (take first cut) ++ (flat_entries
    new_modifiers made ++ flat_entries new_modifiers behind) =
    flat_entries-append new_modifiers (take first cut) (made ++ behind) ∙ ap (λ l. flat_entries new_modifiers
    (take first cut) ++ l) (flat_entries-append new_modifiers made behind) in
    let begins = twice.begins.units in
    let ends = twice.ends.units in
    let units_kept = twice.keeps.units in
    let U : Entry → ℕ = λ entry. entry.piece.len in
    let sums : from + entry_units middle ≡ to = omega (
      arith,
      ap entry_units parts,
      sum_by-append U (take first cut)
          (middle ++ behind),
      sum_by-append U middle behind,
      sum_by-take-drop U cut last,
    ) in
    let middle_units = units_renumbered numbers middle in
    let total : entry_units new ≡ entry_units old = omega (
      arith,
      splice_units cut made from to first last
          twice.begins twice.ends,
    ) in
    let within = twice.ends.within in
    let most = are.total in
    let seams = range_seams numbers cut from to first last twice.order twice.begins twice.ends in
    record {
      named = record {
        first = extended_first old_modifiers new_modifiers no_modifier more numbered.first;
        named = splice_all N cut made first last named (made_named by new_modifiers numbers middle have all);
      };
      pieces = are_pieces new_modifiers new (All-map IsTextPiece view new (splice_all P cut made first last sound
          (made_sound by new_modifiers numbers middle formed have all (range_all P cut first last sound))))
          (omega (arith, total_length-seen old_modifiers old));
      total = total;
      flat = changed_middle by (flat_entries old_modifiers old) (flat_entries new_modifiers new) (flat_entries
          new_modifiers (take first cut)) (flat_entries new_modifiers middle) (flat_entries new_modifiers made)
          (flat_entries new_modifiers behind) from to (sym flat_old ∙ joined) joined_new (length-flat_entries
          new_modifiers (take first cut) ∙ begins) (omega (arith, length-flat_entries new_modifiers middle))
          (renumbered_places by new_modifiers numbers middle have all);
      count = let count = twice.count in omega (
        arith,
        length-splice cut made first last twice.order within,
        length-map middle (renumbered_entry numbers),
        length-between cut first last within,
      );
      begins = seam_begins new_modifiers new from first seams.0;
      ends = seam_begins new_modifiers new to last seams.1;
    }

-- ---- copied modifiers

-- the entries are seen as before
pub seen-copied : (old new : List Modifier) (numbers : List ℕ) (entries : List Entry) → slice_get old 0 ≡ Some
    no_modifier → HaveCopied old new numbers → All (λ entry. entry.modifier ≢ 0 → slice_index numbers entry.modifier ≢
    0) entries → map (text_piece new) (map (renumbered_entry numbers) entries) ≡ map (text_piece old) entries
seen-copied old new numbers [] first have all = refl
seen-copied old new numbers (entry ∷ entries) first have all =
    let Q : Entry → Type 0 = λ entry. entry.modifier ≢ 0 → slice_index numbers entry.modifier ≢ 0 in
    let number = entry.modifier in
    let same : slice_index_or new (slice_index numbers number) no_modifier ≡ slice_index_or old number no_modifier =
    elim (same_or_apart number 0) [
      | inl e ↦
          let z : slice_index numbers number ≡ 0 = ap (slice_index numbers) e ∙ have.none in
          ap (λ n. slice_index_or new n no_modifier) z ∙ (get_or_from_slice_get new 0 no_modifier no_modifier
          have.first ∙ (sym (get_or_from_slice_get old 0 no_modifier no_modifier first) ∙ ap (λ n. slice_index_or
          old n no_modifier) (sym e)))
      | inr some ↦ (have.each number (All-head Q entry entries all some)).same
    ] in
    let head : text_piece new (renumbered_entry numbers entry) ≡ text_piece old entry = ap
    (λ m. record { at = entry.piece.at; wide = entry.piece.wide; len = entry.piece.len; modifier = m }) same in
    cc (head, seen-copied old new numbers entries first have (All-tail Q entry entries all))

pub copied_named : (old new : List Modifier) (numbers : List ℕ) (entries : List Entry) → HaveCopied old new numbers →
    AreNumbered new (map (renumbered_entry numbers) entries)
copied_named old new numbers entries have =
    let some = slice_get_within new 0 no_modifier have.first in
    record {
      first = have.first;
      named = All-map (λ (entry : Entry). entry.modifier < length new) (renumbered_entry numbers) entries
          (λ k d low. within_any (get_or entries k d).modifier);
    }
  where
    within_any : (number : ℕ) → slice_index numbers number < length new
    within_any number = elim (same_or_apart (slice_index numbers number) 0) [
      | inl z ↦ let some = slice_get_within new 0 no_modifier have.first in omega arith
      | inr some ↦ (have.each number some).within
    ]

-- ---- a loop that gives new numbers

pub renumber_more : (f : Entry → Entry) (old new : List Entry) (first k : ℕ) (d : Entry) → first ≤ k →
    k < length old → new ≡ take first old ++ (map f (slice_range old first k) ++ drop k old) → slice_set new k
    (f (get_or new k d)) ≡ take first old ++ (map f (slice_range old first (k + 1)) ++ drop (k + 1) old)
renumber_more f old new first k d low within is =
    let x = get_or old k d in
    let middle = map f (slice_range old first k) in
    let rest = drop (k + 1) old in
    let before = take first old ++ middle in
    let long : length before ≡ k = omega (
      arith,
      length-append (take first old) middle,
      length-take-le first old
          (omega arith),
      length-map (slice_range old first k) f,
      length-between old first k (omega arith),
    ) in
    let seam : new ≡ before ++ (x ∷ rest) = is ∙ (ap (λ l. take first old ++ (middle ++ l)) (drop_more old k d within)
    ∙ sym (append_assoc (take first old) middle (x ∷ rest))) in
    let here : get_or new k d ≡ x = ap (λ l. get_or l k d) seam ∙ (ap (λ n. get_or (before ++ (x ∷ rest)) n d)
    (sym long) ∙ get_or-append_seam before x rest d) in
    let more : map f (slice_range old first (k + 1)) ≡ middle ++ (f x ∷ []) = ap (map f) (between_more old first k d
    low within) ∙ map-append f (slice_range old first k) (x ∷ []) in
    let set : slice_set new k (f (get_or new k d)) ≡ before ++ (f x ∷ rest) =
    ap (λ y. slice_set new k (f y)) here ∙ (ap (λ l. slice_set l k (f x)) seam ∙
    (ap (λ n. slice_set (before ++ (x ∷ rest)) n (f x)) (sym long) ∙ set-append_seam before x rest (f x))) in
    set ∙ (append_assoc (take first old) middle (f x ∷ rest) ∙ ap (λ l. take first old ++ l) (sym (append_assoc middle
    (f x ∷ []) rest) ∙ ap (λ l. l ++ rest) (sym more)))

-- the whole list as a range
pub whole_range : (f : Entry → Entry) (entries : List Entry) (count : ℕ) → count ≡ length entries → splice entries 0
    count (map f (slice_range entries 0 count)) ≡ map f entries
whole_range f entries count all =
    let none : count - 0 ≡ count = omega arith in
    let mid : slice_range entries 0 count ≡ entries = ap (λ n. take n entries) none ∙ take_all count entries
    (omega arith) in
    let end : drop count entries ≡ [] = drop_all count entries (omega arith) in
    rw (mid, end) (append-nil (map f entries))
