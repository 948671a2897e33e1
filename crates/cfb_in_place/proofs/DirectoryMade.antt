-- The sectors of the directory that are written.
use Rattle.std.proofs.Common.{◌≡◌, inl, inr, ℕ, ◌+◌, ◌-◌, ◌*◌, ◌/◌, ◌%◌, ◌<◌, List}
use Rattle.std.proofs.Common.{◌++◌, length, take, slice_index, slice_range, sym}
use Rattle.std.proofs.Common.{ap}
use Rattle.std.proofs.Common.{◌∙◌, subst, arith, length-append, length-take, nat_eq}
use Rattle.std.proofs.Common.{if◌then◌else◌}
use Rattle.std.specs.List.{flat_map, range_with_len}
use Rattle.std.proofs.lemmas.Bool.{cases_lt, cases_eq, eq-eqb, ne_eqb, cond-true, cond-false}
use Rattle.std.proofs.lemmas.List.{get_or_append_left, get_or-append_right, get_or-take}
use Rattle.doc_bits.specs.Number.{number_bytes}
use Rattle.doc_bits.proofs.Public.{length-number_bytes, range_index, length-range}
use Rattle.cfb_sectors.specs.Header.{sector_count}
use Rattle.cfb_directory.specs.Directory.{entry_start}
use Rattle.cfb_directory.specs.Reach.{entry_place}
use Rattle.cfb_in_place.specs.Change.{grown_bytes, fresh_from}
use Rattle.cfb_in_place.specs.Roles.{IsSectorAt}
use Rattle.cfb_in_place.specs.Sources.{NewHead, headed, four_entries, Sources, old_sector}
use Rattle.cfb_in_place.specs.Sources.{part_sector_bytes}
use Rattle.cfb_in_place.specs.Sources.{entry_after as entry_with}
use Rattle.cfb_in_place.specs.declared.roles.Part.TheVariants.{Directory}
use Rattle.cfb_in_place.proofs.PickLemmas.{pick, pick_low, pick_high}
use Rattle.cfb_in_place.proofs.FileAfter.{Before, added_of}
use Rattle.cfb_in_place.proofs.FileAfter.{size_byte, directory_byte}
use Rattle.cfb_in_place.proofs.TablesThere.{entry_byte}
use Rattle.cfb_in_place.proofs.TablesThere.{byte_front, byte_other, byte_grown, byte_table}
use Rattle.cfb_in_place.proofs.SliceLemmas.{blocks_in, length_blocks, spelled_back}
use Rattle.cfb_in_place.proofs.TablesMade.{AreOf, parts_of, IsMade, moved}

-- an entry of the directory with its new start and size
pub headed_is : (head : NewHead) (xs : List ℕ) (o : ℕ) → length xs ≡ 128 → o < 128 →
    slice_index (headed head xs) o ≡ pick o
    116 (slice_index xs o) (pick o 120 (slice_index (number_bytes 4 head.start) (o - 116)) (size_byte head.size o))
unfolding size_byte
headed_is head xs o len h =
    let start = number_bytes 4 head.start in
    let size = number_bytes 4 head.size in
    let upper = number_bytes 4 0 in
    let front = length-take 116 xs in
    let a = length-number_bytes 4 head.start in
    let c = length-number_bytes 4 head.size in
    elim (cases_lt o 116) [
      | inl low ↦ get_or_append_left (take 116 xs) (start ++ (size ++ upper)) 0 o (omega arith) ∙ (get_or-take 116 xs
          o 0
          low ∙ sym (pick_low o 116 _ _ low))
      | inr high ↦
          get_or-append_right (take 116 xs) (start ++ (size ++ upper)) 116 o 0 (omega arith) high
          ∙ (elim (cases_lt o 120) [
            | inl low ↦ get_or_append_left start (size ++ upper) 0 (o - 116) (omega arith) ∙ sym (pick_low o 120 _ _
                low)
            | inr more ↦
                get_or-append_right start (size ++ upper) 4 (o - 116) 0 a (omega arith)
                ∙ (elim (cases_lt o 124) [
                  | inl low ↦
                      let place : o - 116 - 4 ≡ o - 120 = omega arith in
                      get_or_append_left size upper 0 (o - 116 - 4) (omega arith) ∙ (ap (λ n. slice_index size n) place
                      ∙ sym (pick_low o 124 _ _ low))
                  | inr last ↦
                      let place : o - 116 - 4 - 4 ≡ o - 124 = omega arith in
                      get_or-append_right size upper 4 (o - 116 - 4) 0 c (omega arith) ∙ (ap (λ n. slice_index upper n)
                      place ∙ sym (pick_high o 124 _ _ last))
                ] ∙ sym (pick_high o 120 _ _ more))
          ] ∙ sym (pick_high o 116 _ _ high))
    ]

pub length_headed : (head : NewHead) (xs : List ℕ) → length xs ≡ 128 → length (headed head xs) ≡ 128
length_headed head xs len =
    let start = number_bytes 4 head.start in
    let size = number_bytes 4 head.size in
    let upper = number_bytes 4 0 in
    let front = length-take 116 xs in
    let a = length-number_bytes 4 head.start in
    let c = length-number_bytes 4 head.size in
    let d = length-number_bytes 4 0 in
    let e = length-append (take 116 xs) (start ++ (size ++ upper)) in
    let f = length-append start (size ++ upper) in
    let g = length-append size upper in
    omega arith

-- the two heads
abbrev pub grown_head_of : Before → NewHead
grown_head_of b = record {
  entry = b.chains.grown_entry;
  start = entry_start b.old (entry_place b.has.parts.directory b.chains.grown_entry);
  size = length (grown_bytes b.change b.chains.bytes);
}

abbrev pub table_head_of : Before → NewHead
table_head_of b = record {
  entry = b.chains.table_entry;
  start = fresh_from (added_of b);
  size = length b.change.table;
}

-- an old entry with the bytes of the file
pub record IsOldEntry (b : Before) (k : ℕ) (xs : List ℕ) : Type 0 where
  pub len : length xs ≡ 128
  pub each : (o : ℕ) → o < 128 → slice_index xs o ≡ slice_index b.old (entry_place b.has.parts.directory k + o)

pub record IsNewEntry (b : Before) (k : ℕ) (xs new : List ℕ) : Type 0 where
  pub len : length new ≡ 128
  pub each : (o : ℕ) → o < 128 → slice_index new o ≡ directory_byte b k o (slice_index xs o)

pub grown_entry_made : (b : Before) (xs : List ℕ) → IsOldEntry b b.chains.grown_entry xs →
    IsNewEntry b b.chains.grown_entry
    xs (headed (grown_head_of b) xs)
grown_entry_made b xs old =
    let k = b.chains.grown_entry in
    let at = entry_place b.has.parts.directory k in
    let size = length (grown_bytes b.change b.chains.bytes) in
    record {
      len = length_headed (grown_head_of b) xs old.len;
      each = λ o h.
          headed_is (grown_head_of b) xs o old.len h
          ∙ elim (cases_lt o 116) [
            | inl low ↦ pick_low o 116 _ _ low ∙ sym (byte_front b k o (slice_index xs o) low)
            | inr high ↦
                pick_high o 116 _ _ high
                ∙ (elim (cases_lt o 120) [
                  | inl low ↦
                      let place : at + 116 + (o - 116) ≡ at + o = omega arith in
                      pick_low o 120 _ _ low
                      ∙ (spelled_back b.old (at + 116) (o - 116) b.bytes (omega arith)
                      ∙ (ap (λ n. slice_index b.old n) place ∙ (sym (old.each o h) ∙ sym (pick_low o 120 (slice_index xs
                      o) (size_byte size o) low))))
                  | inr more ↦ pick_high o 120 _ _ more ∙ sym (pick_high o 120 (slice_index xs o) (size_byte size o)
                      more)
                ] ∙ sym (byte_grown b o (slice_index xs o) high))
          ];
    }

pub table_entry_made : (b : Before) (xs : List ℕ) → IsOldEntry b b.chains.table_entry xs →
    IsNewEntry b b.chains.table_entry
    xs (headed (table_head_of b) xs)
table_entry_made b xs old =
    let k = b.chains.table_entry in
    record {
      len = length_headed (table_head_of b) xs old.len;
      each = λ o h.
          headed_is (table_head_of b) xs o old.len h
          ∙ elim (cases_lt o 116) [
            | inl low ↦ pick_low o 116 _ _ low ∙ sym (byte_front b k o (slice_index xs o) low)
            | inr high ↦ pick_high o 116 _ _ high ∙ sym (byte_table b o (slice_index xs o) high)
          ];
    }

pub entry_made : (b : Before) (k : ℕ) (xs : List ℕ) → IsOldEntry b k xs →
    IsNewEntry b k xs (entry_with (grown_head_of b)
    (table_head_of b) k xs)
entry_made b k xs old = elim (cases_eq k b.chains.grown_entry) [
  | inl e ↦
      let same = sym (cond-true (nat_eq k b.chains.grown_entry) (headed (grown_head_of b) xs) (if nat_eq k
      b.chains.table_entry then headed (table_head_of b) xs else xs) (eq-eqb k b.chains.grown_entry e)) in
      subst (λ (new : List ℕ). IsNewEntry b k xs new) same (subst (λ n. IsNewEntry b n xs (headed (grown_head_of b) xs))
      (sym e) (grown_entry_made b xs (subst (λ n. IsOldEntry b n xs) e old)))
  | inr ne ↦
      let first = sym (cond-false (nat_eq k b.chains.grown_entry) (headed (grown_head_of b) xs) (if nat_eq k
      b.chains.table_entry then headed (table_head_of b) xs else xs) (ne_eqb k b.chains.grown_entry ne)) in
      subst (λ (new : List ℕ). IsNewEntry b k xs new) first (elim (cases_eq k b.chains.table_entry) [
        | inl e ↦
            let same = sym (cond-true (nat_eq k b.chains.table_entry) (headed (table_head_of b) xs) xs (eq-eqb k
            b.chains.table_entry e)) in
            subst (λ (new : List ℕ). IsNewEntry b k xs new) same (subst (λ n. IsNewEntry b n xs (headed (table_head_of
            b) xs)) (sym e) (table_entry_made b xs (subst (λ n. IsOldEntry b n xs) e old)))
        | inr another ↦
            let same = sym (cond-false (nat_eq k b.chains.table_entry) (headed (table_head_of b) xs) xs (ne_eqb k
            b.chains.table_entry another)) in
            subst (λ (new : List ℕ). IsNewEntry b k xs new) same (record {
              len = old.len;
              each = λ o h. sym (byte_other b k o (slice_index xs o) ne another);
            })
      ])
]

-- a sector of the directory
pub directory_made : (b : Before) (sources : Sources) (s index : ℕ) → AreOf b sources → s < sector_count b.old →
    IsSectorAt
    (parts_of b).entries s index → IsMade b s (part_sector_bytes b.old sources s index Directory)
unfolding four_entries
directory_made b sources s index are low of =
    let directory = b.has.parts.directory in
    let inside = of.inside in
    let here = of.here in
    let bytes = old_sector b.old s in
    let whole = length-range b.old ((s + 1) * 512) ((s + 1) * 512 + 512) (omega arith) in
    let f : ℕ → List ℕ = λ k. entry_with (grown_head_of b) (table_head_of b) (4 * index + k) (slice_range bytes (128 *
    k)
    (128 * k + 128)) in
    let old : (k : ℕ) → k < 4 → IsOldEntry b (4 * index + k) (slice_range bytes (128 * k) (128 * k + 128)) = λ k h.
    record {
      len = (let len = length-range bytes (128 * k) (128 * k + 128) (omega arith) in omega arith);
      each = λ o less.
          let sector : slice_index directory ((4 * index + k) / 4) ≡ s = ap (λ n. slice_index directory n) (let e : (4 *
          index + k) / 4 ≡ index = omega arith in e) ∙ here in
          let place : (s + 1) * 512 + (128 * k + o) ≡ entry_place directory (4 * index + k) + o = omega arith in
          range_index bytes (128 * k) (128 * k + 128) o (omega arith)
          ∙ (range_index b.old ((s + 1) * 512) ((s + 1) * 512 + 512) (128 * k + o) (omega arith) ∙ ap (λ n. slice_index
          b.old n) place);
    } in
    let made : (k : ℕ) → k < 4 → IsNewEntry b (4 * index + k) (slice_range bytes (128 * k) (128 * k + 128)) (f k) = λ k
    h. entry_made b (4 * index + k) (slice_range bytes (128 * k) (128 * k + 128)) (old k h) in
    let same : part_sector_bytes b.old sources s index Directory ≡ flat_map f (range_with_len 0 4) = ap (λ g.
    four_entries g
    sources.table_head (4 * index) bytes) are.grown_head ∙ ap (λ t. four_entries (grown_head_of b) t (4 * index) bytes)
    are.table_head in
    subst (λ (new : List ℕ). IsMade b s new) (sym same) (record {
      len = length_blocks f 128 0 4 (λ j h. (made j (omega arith)).len);
      each = λ o h.
          let k = o / 128 in
          let x = o % 128 in
          let sector : slice_index directory ((4 * index + k) / 4) ≡ s = ap (λ n. slice_index directory n) (let e : (4 *
          index + k) / 4 ≡ index = omega arith in e) ∙ here in
          let place : 128 * ((4 * index + k) % 4) + x ≡ o = omega arith in
          blocks_in f 128 0 4 k x o k (λ j low2. (made j (omega arith)).len) (omega arith) (omega arith) (omega arith)
          (omega arith)
          ∙ ((made k (omega arith)).each x (omega arith)
          ∙ (ap (λ n. directory_byte b (4 * index + k) x n) ((old k (omega arith)).each x (omega arith))
          ∙ moved b (slice_index directory ((4 * index + k) / 4)) s (128 * ((4 * index + k) % 4) + x) o
          (directory_byte b
          (4 * index + k) x (slice_index b.old (entry_place directory (4 * index + k) + x))) (entry_byte b (4 * index +
          k) x (omega arith) (omega arith)) sector place));
    })
