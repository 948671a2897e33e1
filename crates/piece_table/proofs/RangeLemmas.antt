-- The entries that a range of CPs meets.
use Rattle.std.proofs.Common.{◌≡◌, ℕ, ◌+◌, ◌-◌, ◌<◌, ◌≤◌, List, length, take, drop, get_or, All, inl, inr, sym, subst}
use Rattle.std.proofs.Common.{ap, ◌∙◌, ◌≢◌, map, slice_index, arith, length-drop}
use Rattle.std.specs.Prelude.{slice_range}
use Rattle.std.specs.List.{splice}
use Rattle.std.proofs.lemmas.Bool.{cases_lt}
use Rattle.std.proofs.lemmas.List.{length-take-le, get_or-take, get_or-drop, get_or_default}
use Rattle.std.proofs.lemmas.List.Elements.{All-get_or}
use Rattle.std.proofs.lemmas.List.Sums.{sum_by_more}
use Rattle.chunked_list.specs.declared.places.Spot.{Spot as Place}
use Rattle.chunked_list.specs.Blocks.{IsSpotOf}
use Rattle.std.proofs.lemmas.Option.{slice_get_within, get_or_from_slice_get}
use Rattle.prop_map.specs.declared.modifiers.Modifier.{Modifier}
use Rattle.prop_map.specs.Modifiers.{IsFormedModifier}
use Rattle.piece_table.specs.declared.pieces.Entry.{Entry}
use Rattle.piece_table.specs.Piece.{IsPiece, ArePieces}
use Rattle.piece_table.specs.Numbering.{AreNumbered, Extends, text_piece}
use Rattle.piece_table.specs.Renumbering.{HaveComposed}
use Rattle.piece_table.specs.Cuts.{entry_units, empty_entry, entry_at, renumbered_entry, IsCutTwice, AreMetEntries}
use Rattle.piece_table.proofs.CutLemmas.{units_rise, entries_sound}
use Rattle.piece_table.proofs.RenumberLemmas.{IsRenewed, renewed}
use Rattle.piece_table.proofs.BlockLemmas.{units-entries}

abbrev units : Entry → ℕ
units entry = entry.piece.len

-- an entry of a range
range_at : (entries : List Entry) (first last k : ℕ) (d : Entry) → k < last - first →
    get_or (slice_range entries first last) k d ≡ get_or entries (first + k) d
range_at entries first last k d low =
    get_or-take (last - first) (drop first entries) k d low ∙ get_or-drop first entries k d

-- the spots of the first and the last CP tell the entries
pub met_told : (entries : List Entry) (from to : ℕ) (begin end : Place) → from < to →
    IsSpotOf units entries from begin → IsSpotOf units entries (to - 1) end
    → (begin.item ≤ end.item + 1) × ((end.item + 1 ≤ length entries)
    × ((entry_units (take begin.item entries) ≤ from) × (to ≤ entry_units (take (end.item + 1) entries))))
met_told entries from to begin end order first last =
    let low = slice_get_within entries end.item last.item last.there in
    let len = ap units (get_or_from_slice_get entries end.item last.item last.item last.there) in
    let more = sum_by_more units entries end.item last.item low in
    let here = first.here in
    let there = last.here in
    let inside = last.inside in
    let starts : entry_units (take begin.item entries) ≤ from =
    omega (arith, units-entries (take begin.item entries)) in
    let stops : to ≤ entry_units (take (end.item + 1) entries) =
    omega (arith, units-entries (take end.item entries)) in
    let rising : begin.item ≤ end.item + 1 = elim (cases_lt (end.item + 1) begin.item) [
      | inl less ↦ absurd (omega (arith, units_rise entries (end.item + 1) begin.item (omega arith)))
      | inr le ↦ le
    ] in
    (rising, (omega arith, (starts, stops)))

-- what holds of the modifiers of all entries that a range meets holds of those of its entries after the cuts
pub range_parts : (Q : ℕ → Type 0) (old cut met : List Entry) (from to first last : ℕ) →
    All (λ (entry : Entry). IsPiece entry.piece) cut → IsCutTwice old cut from to first last → AreMetEntries old from to
    met
    → All (λ (entry : Entry). Q entry.modifier) met → All (λ (entry : Entry). Q entry.modifier) (slice_range cut first
    last)
range_parts Q old cut met from to first last sound twice are all = λ k d low.
    let within = twice.ends.within in
    let short : last - first ≤ length (drop first cut) = omega (arith, length-drop first cut) in
    let less : k < last - first = omega (arith, length-take-le (last - first) (drop first cut) short, low) in
    let j = first + k in
    let there : j < length cut = omega arith in
    let part = twice.keeps.parts j there in
    let place = part.place in
    let inside = part.there in
    let some = (All-get_or (λ (e : Entry). IsPiece e.piece) cut j empty_entry there sound).some in
    let begins = twice.begins.units in
    let ends = twice.ends.units in
    let starts = part.begin in
    let stops = part.end in
    let met_begin = are.begin in
    let met_end = are.end in
    let rises = units_rise cut first j (omega arith) in
    let falls = units_rise cut (j + 1) last (omega arith) in
    let more = sum_by_more units cut j empty_entry there in
    let from_first : are.first ≤ place = elim (cases_lt place are.first) [
      | inl before ↦ absurd (omega (arith, units_rise old (place + 1) are.first (omega arith)))
      | inr le ↦ le
    ] in
    let to_last : place < are.last = elim (cases_lt place are.last) [
      | inl before ↦ before
      | inr behind ↦ absurd (omega (arith, units_rise old are.last place behind))
    ] in
    let old_within = are.within in
    let old_short : are.last - are.first ≤ length (drop are.first old) = omega (arith, length-drop are.first old) in
    let index : place - are.first < are.last - are.first = omega arith in
    let size = ap length are.range in
    let there_met : place - are.first < length met =
    omega (arith, size, length-take-le (are.last - are.first) (drop are.first old) old_short) in
    let back : are.first + (place - are.first) ≡ place = omega arith in
    let is : get_or met (place - are.first) empty_entry ≡ entry_at old place =
    ap (λ (l : List Entry). get_or l (place - are.first) empty_entry) are.range
    ∙ range_at old are.first are.last (place - are.first) empty_entry index
    ∙ ap (λ (n : ℕ). get_or old n empty_entry) back in
    let now : get_or (slice_range cut first last) k d ≡ entry_at cut j =
    range_at cut first last k d less ∙ get_or_default cut j d empty_entry there in
    subst Q (ap (λ (e : Entry). e.modifier) is ∙ sym part.modifier ∙ sym (ap (λ (e : Entry). e.modifier) now))
    (all (place - are.first) empty_entry there_met)

-- the list after the modifiers of the entries that a range meets were composed, the entries cut and numbered anew
pub renewed_met : (old_modifiers new_modifiers : List Modifier) (by : Modifier) (numbers : List ℕ) (old cut met : List
    Entry) (from to first last : ℕ) → AreNumbered old_modifiers old → ArePieces (map (text_piece old_modifiers) old) →
    IsCutTwice old cut from to first last → from < to → Extends old_modifiers new_modifiers → IsFormedModifier by →
    HaveComposed by new_modifiers numbers → AreMetEntries old from to met → All (λ entry. slice_index numbers
    entry.modifier ≢
    0) met → IsRenewed old_modifiers new_modifiers by from to old (splice cut first last (map (renumbered_entry numbers)
    (slice_range cut first last)))
renewed_met old_modifiers new_modifiers by numbers old cut met from to first last numbered are twice order more formed
    have range all =
    let sound = twice.keeps.pieces (entries_sound old_modifiers old are) in
    let le : from ≤ to = omega arith in
    renewed old_modifiers new_modifiers by numbers old cut from to first last numbered are twice le more formed
    have (range_parts (λ (n : ℕ). slice_index numbers n ≢ 0) old cut met from to first last sound twice range all)
