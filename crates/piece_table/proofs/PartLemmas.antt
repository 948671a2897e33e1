-- Entries that are parts of others: where each came from when a list was cut.
use Rattle.std.proofs.Common.{◌≡◌, ℕ, ◌+◌, ◌-◌, ◌<◌, ◌≤◌, List, [], ◌∷◌, ◌++◌, length, take, drop, slice_get}
use Rattle.std.proofs.Common.{Some, refl, inl, inr, sym, ap, ◌∙◌, arith, append_assoc, length-append, length-drop}
use Rattle.std.proofs.lemmas.Bool.{cases_lt}
use Rattle.std.proofs.lemmas.List.{take-append-drop, take-append-le, take-take, take_at, take_all, drop_more}
use Rattle.std.proofs.lemmas.List.{length-take-le, get_or_append_left, get_or-take, get_or-drop, get_or_at}
use Rattle.std.proofs.lemmas.List.{get_or-append_right}
use Rattle.std.proofs.lemmas.List.Sums.{sum_by-cons, sum_by-append, sum_by_more}
use Rattle.std.proofs.lemmas.Option.{slice_get_within, get_or_from_slice_get}
use Rattle.chunked_list.proofs.Public.{take-append}
use Rattle.piece_table.specs.declared.pieces.Entry.{Entry}
use Rattle.piece_table.specs.Cuts.{entry_units, front_entry, back_entry, empty_entry, entry_at, IsEntryPart}

abbrev units : Entry → ℕ
units entry = entry.piece.len

-- an entry is a part of itself
pub part_of_itself : (entries : List Entry) (j : ℕ) → j < length entries → IsEntryPart entries entries j
part_of_itself entries j low = record {
  place = j;
  there = low;
  modifier = refl;
  begin = omega arith;
  end = omega arith;
}

-- a part of a part
pub part_on : (a b c : List Entry) (j : ℕ) → (part : IsEntryPart b c j) → IsEntryPart a b part.place → IsEntryPart a c j
part_on a b c j part whole = record {
  place = whole.place;
  there = whole.there;
  modifier = part.modifier ∙ whole.modifier;
  begin = let p = part.begin in let q = whole.begin in omega arith;
  end = let p = part.end in let q = whole.end in omega arith;
}

-- ---- one cut

-- an entry that was cut, between those before it and those behind it
pub record IsHere (entries : List Entry) (number : ℕ) (entry : Entry) : Type 0 where
  pub low : number < length entries
  pub whole : entries ≡ take number entries ++ (entry ∷ drop (number + 1) entries)
  pub read : entry_at entries number ≡ entry

pub here_is : (entries : List Entry) (number : ℕ) (entry : Entry) → slice_get entries number ≡ Some entry →
    IsHere entries number entry
here_is entries number entry there =
    let low = slice_get_within entries number entry there in
    record {
      low = low;
      whole = sym (take-append-drop number entries)
          ∙ ap (λ (l : List Entry). take number entries ++ l) (drop_more entries number entry low
          ∙ ap (λ (e : Entry). e ∷ drop (number + 1) entries) (get_or_from_slice_get entries number entry entry there));
      read = get_or_from_slice_get entries number entry empty_entry there;
    }

-- a front of the list before the entry
front_same : (entries ys : List Entry) (number n : ℕ) → number ≤ length entries → n ≤ number →
    take n (take number entries ++ ys) ≡ take n entries
front_same entries ys number n within low =
    let short : n ≤ length (take number entries) = omega (arith, length-take-le number entries within) in
    take-append-le n (take number entries) ys short ∙ take-take n number entries low

-- a front with all of a first part
front_long : (first rest : List Entry) (size m : ℕ) → length first ≡ size → size ≤ m →
    take m (first ++ rest) ≡ first ++ take (m - size) rest
front_long first rest size m long le =
    let all : length first ≤ m = omega arith in
    take-append m first rest
    ∙ ap (λ (l : List Entry). l ++ take (m - length first) rest) (take_all m first all)
    ∙ ap (λ (n : ℕ). first ++ take (m - n) rest) long

-- behind the two parts the units are those behind the entry
behind_same : (entries : List Entry) (number inside m : ℕ) (entry : Entry) → IsHere entries number entry →
    inside ≤ entry.piece.len → number + 2 ≤ m →
    entry_units (take m (take number entries ++ (front_entry entry inside ∷ (back_entry entry inside ∷ drop (number + 1)
    entries)))) ≡ entry_units (take (m - 1) entries)
behind_same entries number inside m entry here some le =
    let front = take number entries in
    let rest = drop (number + 1) entries in
    let a = front_entry entry inside in
    let b = back_entry entry inside in
    let two = a ∷ (b ∷ []) in
    let one = entry ∷ [] in
    let low = here.low in
    let within : number ≤ length entries = omega arith in
    let long = length-take-le number entries within in
    let long_two : length (front ++ two) ≡ number + 2 = omega (arith, length-append front two) in
    let long_one : length (front ++ one) ≡ number + 1 = omega (arith, length-append front one) in
    let less : number + 1 ≤ m - 1 = omega arith in
    let index : m - (number + 2) ≡ m - 1 - (number + 1) = omega arith in
    let new = ap (take m) (sym (append_assoc front two rest)) ∙ front_long (front ++ two) rest (number + 2) m long_two
    le in
    let old = ap (take (m - 1)) (here.whole ∙ sym (append_assoc front one rest))
    ∙ front_long (front ++ one) rest (number + 1) (m - 1) long_one less in
    omega (
      arith,
      ap entry_units new,
      sum_by-append units (front ++ two) (take (m - (number + 2)) rest),
      sum_by-append units front two,
      sum_by-cons units a (b ∷ []),
      sum_by-cons units b [],
      ap entry_units old,
      sum_by-append units (front ++ one) (take (m - 1 - (number + 1)) rest),
      sum_by-append units front one,
      sum_by-cons units entry [],
      ap (λ (n : ℕ). entry_units (take n rest)) index,
    )

-- each entry after a cut is a part of one before it
pub cut_parts : (entries : List Entry) (number inside : ℕ) (entry : Entry) → IsHere entries number entry →
    inside ≤ entry.piece.len → (j : ℕ) →
    j < length (take number entries ++ (front_entry entry inside ∷ (back_entry entry inside ∷ drop (number + 1)
    entries))) → IsEntryPart entries (take number entries ++ (front_entry entry inside ∷ (back_entry entry inside ∷ drop
    (number + 1) entries))) j
cut_parts entries number inside entry here some j low =
    let front = take number entries in
    let rest = drop (number + 1) entries in
    let a = front_entry entry inside in
    let b = back_entry entry inside in
    let new = front ++ (a ∷ (b ∷ rest)) in
    let there = here.low in
    let within : number ≤ length entries = omega arith in
    let long = length-take-le number entries within in
    let same_number : number ≤ number = omega arith in
    let before : take number new ≡ front = front_same entries (a ∷ (b ∷ rest)) number number within same_number in
    let units_here = sum_by_more units entries number empty_entry there in
    let len : units (entry_at entries number) ≡ entry.piece.len = ap units here.read in
    let long_a : length (front ++ a ∷ []) ≡ number + 1 = omega (arith, length-append front (a ∷ [])) in
    let apart : new ≡ (front ++ a ∷ []) ++ (b ∷ rest) = sym (append_assoc front (a ∷ []) (b ∷ rest)) in
    let first : take (number + 1) new ≡ front ++ a ∷ [] =
    ap (take (number + 1)) apart ∙ take_at (front ++ a ∷ []) (b ∷ rest) (number + 1) long_a in
    let first_units : entry_units (take (number + 1) new) ≡ entry_units front + inside =
    omega (arith, ap entry_units first, sum_by-append units front (a ∷ []), sum_by-cons units a []) in
    elim (cases_lt j number) [
      | inl less ↦
          let short : j < length front = omega arith in
          let le : j ≤ number = omega arith in
          let next : j + 1 ≤ number = omega arith in
          record {
            place = j;
            there = omega arith;
            modifier = ap (λ (e : Entry). e.modifier)
                (get_or_append_left front (a ∷ (b ∷ rest)) empty_entry j short
                ∙ get_or-take number entries j empty_entry less);
            begin = omega (arith, ap entry_units (front_same entries (a ∷ (b ∷ rest)) number j within le));
            end = omega (arith, ap entry_units (front_same entries (a ∷ (b ∷ rest)) number (j + 1) within next));
          }
      | inr more ↦ elim (cases_lt number j) [
        | inr equal ↦
            let same : j ≡ number = omega arith in
            record {
              place = number;
              there = there;
              modifier = ap (λ (n : ℕ). (entry_at new n).modifier) same
                  ∙ ap (λ (e : Entry). e.modifier) (get_or_at front a (b ∷ rest) empty_entry number long)
                  ∙ sym (ap (λ (e : Entry). e.modifier) here.read);
              begin = omega (arith, ap (λ (n : ℕ). entry_units (take n new)) same, ap entry_units before);
              end = omega (
                arith,
                ap (λ (n : ℕ). entry_units (take (n + 1) new)) same,
                first_units,
                units_here,
                len,
              );
            }
        | inl behind ↦ elim (cases_lt (number + 1) j) [
          | inr next ↦
              let same : j ≡ number + 1 = omega arith in
              let two : number + 2 ≤ number + 2 = omega arith in
              let one_less : number + 2 - 1 ≡ number + 1 = omega arith in
              let after : number + 1 + 1 ≡ number + 2 = omega arith in
              record {
                place = number;
                there = there;
                modifier = ap (λ (n : ℕ). (entry_at new n).modifier) same
                    ∙ ap (λ (l : List Entry). (entry_at l (number + 1)).modifier) apart
                    ∙ ap (λ (e : Entry). e.modifier) (get_or_at (front ++ a ∷ []) b rest empty_entry (number + 1)
                    long_a)
                    ∙ sym (ap (λ (e : Entry). e.modifier) here.read);
                begin = omega (arith, ap (λ (n : ℕ). entry_units (take n new)) same, first_units);
                end = omega (
                  arith,
                  ap (λ (n : ℕ). entry_units (take (n + 1) new)) same,
                  ap (λ (n : ℕ). entry_units (take n new)) after,
                  behind_same entries number inside (number + 2) entry here some two,
                  ap (λ (n : ℕ). entry_units (take n entries)) one_less,
                );
              }
          | inl beyond ↦
              let two = a ∷ (b ∷ []) in
              let long_two : length (front ++ two) ≡ number + 2 = omega (arith, length-append front two) in
              let le : number + 2 ≤ j = omega arith in
              let le_next : number + 2 ≤ j + 1 = omega arith in
              let last : number + 1 + (j - (number + 2)) ≡ j - 1 = omega arith in
              let one_less : j + 1 - 1 ≡ j - 1 + 1 = omega arith in
              record {
                place = j - 1;
                there = omega (
                  arith,
                  length-append front (a ∷ (b ∷ rest)),
                  length-drop (number + 1) entries,
                  low,
                );
                modifier = ap (λ (l : List Entry). (entry_at l j).modifier) (sym (append_assoc front two rest))
                    ∙ ap (λ (e : Entry). e.modifier)
                    (get_or-append_right (front ++ two) rest (number + 2) j empty_entry long_two le
                    ∙ get_or-drop (number + 1) entries (j - (number + 2)) empty_entry)
                    ∙ ap (λ (n : ℕ). (entry_at entries n).modifier) last;
                begin = omega (arith, behind_same entries number inside j entry here some le);
                end = omega (
                  arith,
                  behind_same entries number inside (j + 1) entry here some le_next,
                  ap (λ (n : ℕ). entry_units (take n entries)) one_less,
                );
              }
        ]
      ]
    ]
