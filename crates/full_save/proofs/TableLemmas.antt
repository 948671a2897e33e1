-- A table stream that grows part by part.
use Rattle.std.proofs.Common.{◌≡◌, ◌+◌, ◌∙◌, ap, refl, sym, ℕ, List, [], ◌∷◌, ◌++◌, length, arith, map, take, get_or}
use Rattle.std.proofs.Common.{◌<◌, ◌≤◌, subst}
use Rattle.std.proofs.lemmas.List.{append_assoc, length-append, append-nil, map_more, take_all, take-map, length-map}
use Rattle.std.proofs.lemmas.List.{get_or-map}
use Rattle.std.proofs.lemmas.List.Folds.{length-flat_map-take}
use Rattle.std.specs.Borrow.{Bor}
use Rattle.fib_form.specs.declared.table_parts.TablePart.{TablePart}
use Rattle.fib_form.specs.FibFields.{empty_pairs}
use Rattle.fib_form.specs.TableEntries.{TableEntry}
use Rattle.full_save.specs.declared.table_parts.TableParts.{TableParts}
use Rattle.full_save.specs.TableStream.{table_entry_bytes, entries_bytes, named_entry, WritesPart, WritesParts}
use Rattle.full_save.specs.TableStream.{put_pair}
use Rattle.full_save.specs.TableStream.{pairs_from, AreWritten}

-- the pairs with one part more
pairs_more :
    (at : ℕ) (pairs : List (ℕ × ℕ)) (parts : List TableEntry) (part : TableEntry) →
    pairs_from at pairs (parts ++ part ∷ []) ≡ put_pair (at + length (entries_bytes parts)) part (pairs_from at pairs
    parts)
unfolding pairs_from
pairs_more at pairs [] part = let e : at ≡ at + 0 = omega arith in ap (λ (n : ℕ). put_pair n part pairs) e
pairs_more at pairs (first ∷ parts) part =
    let next = at + length (table_entry_bytes first) in
    let put = put_pair at first pairs in
    let e : next + length (entries_bytes parts) ≡ at + length (table_entry_bytes first ++ entries_bytes parts) =
    omega (arith, length-append (table_entry_bytes first) (entries_bytes parts)) in
    pairs_more next put parts part ∙ ap (λ (n : ℕ). put_pair n part (pairs_from next put parts)) e

-- the bytes with one part more
bytes_more : (parts : List TableEntry) (part : TableEntry) → entries_bytes (parts ++ part ∷ []) ≡ entries_bytes parts
    ++ table_entry_bytes part
bytes_more [] part = append-nil (table_entry_bytes part)
bytes_more (first ∷ parts) part =
    ap (λ (bytes : List ℕ). table_entry_bytes first ++ bytes) (bytes_more parts part)
    ∙ sym (append_assoc (table_entry_bytes first) (entries_bytes parts) (table_entry_bytes part))

-- one part more is written
pub written_more :
    (parts : List TableEntry) (part : TableEntry) (old new : TableParts) →
    new.bytes ≡ old.bytes ++ table_entry_bytes part → new.pairs ≡ put_pair (length old.bytes) part old.pairs →
    AreWritten parts old → AreWritten (parts ++ part ∷ []) new
written_more parts part old new bytes pairs written = record {
  bytes_are = bytes ∙ (ap (λ (front : List ℕ). front ++ table_entry_bytes part) written.bytes_are ∙ sym (bytes_more
      parts
      part));
  pairs_are =
      let at : length old.bytes ≡ 0 + length (entries_bytes parts) = let e = ap length written.bytes_are in
      omega (arith, e) in
      pairs
      ∙ (ap (λ (n : ℕ). put_pair n part old.pairs) at
      ∙ (ap (λ (front : List (ℕ × ℕ)). put_pair (0 + length (entries_bytes parts)) part front) written.pairs_are
      ∙ sym (pairs_more 0 empty_pairs parts part)));
}

-- the bytes of parts, part by part
abbrev pub sizes : List TableEntry → ℕ
sizes [] = 0
sizes (part ∷ parts) = length part.bytes + (length part.behind + sizes parts)

pub length-entries : (parts : List TableEntry) → length (entries_bytes parts) ≡ sizes parts
length-entries [] = refl
length-entries (part ∷ parts) =
    let rest = length-entries parts in
    omega (
      arith,
      length-append (table_entry_bytes part) (entries_bytes parts),
      length-append part.bytes part.behind,
      rest,
    )

-- how far parts are written one by one
pub record AreWrittenUpTo (parts : List (TablePart × Bor (List ℕ))) (count : ℕ) (old new : TableParts) : Type 0 where
  pub written : WritesParts (map named_entry (take count parts)) old new
  pub len : length new.bytes ≡ length old.bytes + length (entries_bytes (map named_entry (take count parts)))

-- one part more fits, where all of them do
pub part_fits :
    (parts : List (TablePart × Bor (List ℕ))) (count : ℕ) (d : TablePart × Bor (List ℕ)) → count < length parts →
    length (entries_bytes (map named_entry (take count parts))) + length (get_or parts count d).1.now
    ≤ length (entries_bytes (map named_entry parts))
part_fits parts count d within =
    let here : count < length (map named_entry parts) = omega (arith, length-map parts named_entry) in
    let fits = length-flat_map-take table_entry_bytes (map named_entry parts) count (named_entry d) here in
    let front = ap (λ (xs : List TableEntry). length (entries_bytes xs)) (take-map named_entry count parts) in
    let part = ap (λ (x : TableEntry). length (table_entry_bytes x)) (get_or-map named_entry parts count d (named_entry
    d)
    within) in
    let bytes = ap length (append-nil (get_or parts count d).1.now) in
    omega (arith, fits, front, part, bytes)

-- one part more
pub up_to_next :
    (parts : List (TablePart × Bor (List ℕ))) (count : ℕ) (d : TablePart × Bor (List ℕ)) (old now new : TableParts) →
    count < length parts → WritesPart (named_entry (get_or parts count d)) now new →
    length new.bytes ≡ length now.bytes + length (get_or parts count d).1.now → AreWrittenUpTo parts count old now →
    AreWrittenUpTo parts (count + 1) old new
up_to_next parts count d old now new within writes len before =
    let named = map named_entry (take count parts) in
    let part = named_entry (get_or parts count d) in
    let more : named ++ part ∷ [] ≡ map named_entry (take (count + 1) parts) = sym (map_more named_entry parts count d
    within) in
    record {
      written = λ front are. subst (λ (all : List TableEntry). AreWritten all new)
          (append_assoc front named (part ∷ []) ∙ ap (λ (xs : List TableEntry). front ++ xs) more)
          (writes (front ++ named) (before.written front are));
      len =
          let all = ap (λ (xs : List TableEntry). length (entries_bytes xs)) more in
          let last = ap length (bytes_more named part) in
          let bytes = ap length (append-nil (get_or parts count d).1.now) in
          omega (arith, all, last, bytes, before.len, length-append (entries_bytes named) (table_entry_bytes part));
    }

-- all of them
pub up_to_all : (parts : List (TablePart × Bor (List ℕ))) (count : ℕ) (old new : TableParts) → length parts ≤ count →
    AreWrittenUpTo parts count old new → WritesParts (map named_entry parts) old new
up_to_all parts count old new all before =
    subst (λ (some : List (TablePart × Bor (List ℕ))). WritesParts (map named_entry some) old new) (take_all count
    parts all) before.written
