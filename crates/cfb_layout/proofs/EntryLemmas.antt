-- An entry that is written is read as it is.
use Rattle.std.proofs.Common.{◌≡◌, ℕ, ◌+◌, ◌-◌, ◌*◌, ◌^◌, ◌<◌, ◌≤◌, List, ◌++◌, length, take, drop, replicate}
use Rattle.std.proofs.Common.{slice_index, refl, sym, ap, ◌∙◌, arith, length-append}
use Rattle.std.specs.List.{flat_map}
use Rattle.std.proofs.lemmas.List.{get_or_append_left, get_or-append_right}
use Rattle.doc_bits.specs.Number.{number_at, number_bytes}
use Rattle.doc_bits.proofs.Public.{number_at-after, number_at-before, number_at-same}
use Rattle.cfb_layout.specs.Sectors.{filled}
use Rattle.cfb_layout.specs.Fields.{fields_bytes}
use Rattle.cfb_layout.specs.Entries.{Entry, link_fields, place_fields, entry_name_bytes, entry_bytes}
use Rattle.cfb_layout.proofs.BytesLemmas.{length-table, length-fields_bytes, length-filled, entry_at, field_at}
use Rattle.cfb_layout.proofs.BytesLemmas.{range_is}
use Rattle.cfb_layout.proofs.Image.{IsEntryAt}

-- an entry of 128 bytes
pub record IsWhole (entry : Entry) : Type 0 where
  pub few : length entry.name ≤ 32
  pub clsid : length entry.clsid ≡ 16

-- an entry whose numbers fit their fields
pub record IsWritable (entry : Entry) : Type 0 where
  pub whole : IsWhole entry
  pub units : (i : ℕ) → slice_index entry.name i < 2 ^ 16
  pub long : entry.fields.name_length < 2 ^ 16
  pub kind : entry.fields.kind < 2 ^ 8
  pub left : entry.fields.left < 2 ^ 32
  pub right : entry.fields.right < 2 ^ 32
  pub child : entry.fields.child < 2 ^ 32
  pub start : entry.fields.start < 2 ^ 32
  pub size : entry.fields.size < 2 ^ 32

pub length-name_bytes : (units : List ℕ) → length units ≤ 32 → length (entry_name_bytes units) ≡ 64
unfolding entry_name_bytes
length-name_bytes units few =
    let len = length-table 2 units in
    length-filled 64 0 (flat_map (number_bytes 2) units) (omega arith)

pub length-entry_bytes : (entry : Entry) → IsWhole entry → length (entry_bytes entry) ≡ 128
unfolding entry_bytes
length-entry_bytes entry whole =
    let name = length-name_bytes entry.name whole.few in
    let links : length (fields_bytes (link_fields entry.fields)) ≡ 16 = length-fields_bytes (link_fields entry.fields)
    in
    let clsid = whole.clsid in
    let places : length (fields_bytes (place_fields entry.fields)) ≡ 32 = length-fields_bytes (place_fields
    entry.fields) in
    let a = length-append (entry_name_bytes entry.name) (fields_bytes (link_fields entry.fields) ++ (entry.clsid ++
    fields_bytes (place_fields entry.fields))) in
    let b = length-append (fields_bytes (link_fields entry.fields)) (entry.clsid ++ fields_bytes (place_fields
    entry.fields)) in
    let c = length-append entry.clsid (fields_bytes (place_fields entry.fields)) in
    omega arith

-- a unit of the name
unit_in : (entry : Entry) (i : ℕ) → IsWritable entry → i < length entry.name → number_at (entry_bytes entry) (2 * i) 2
    ≡ slice_index entry.name i
unfolding entry_bytes entry_name_bytes filled
unit_in entry i w h =
    let few = w.whole.few in
    let len = length-table 2 entry.name in
    let name = length-name_bytes entry.name w.whole.few in
    let low = w.units i in
    number_at-before (entry_name_bytes entry.name) (fields_bytes (link_fields entry.fields) ++ (entry.clsid ++
    fields_bytes
    (place_fields entry.fields))) (2 * i) 2 (omega arith)
    ∙ (number_at-before (flat_map (number_bytes 2) entry.name) (replicate (64 - length (flat_map (number_bytes 2)
    entry.name)) 0) (2 * i) 2 (omega arith)
    ∙ entry_at 2 entry.name i (2 * i) h (omega arith) refl)

-- a number of the links, and one behind the CLSID
link_in : (entry : Entry) (at width : ℕ) → IsWhole entry → at + width ≤ 16 → number_at (entry_bytes entry) (64 + at)
    width ≡ number_at (fields_bytes (link_fields entry.fields)) at width
unfolding entry_bytes
link_in entry at width whole room =
    let name = length-name_bytes entry.name whole.few in
    let links : length (fields_bytes (link_fields entry.fields)) ≡ 16 = length-fields_bytes (link_fields entry.fields)
    in
    let rest = fields_bytes (link_fields entry.fields) ++ (entry.clsid ++ fields_bytes (place_fields entry.fields)) in
    let place : 64 + at ≡ length (entry_name_bytes entry.name) + at = omega arith in
    ap (λ k. number_at (entry_name_bytes entry.name ++ rest) k width) place
    ∙ (number_at-after (entry_name_bytes entry.name) rest at width
    ∙ number_at-before (fields_bytes (link_fields entry.fields)) (entry.clsid ++ fields_bytes (place_fields
    entry.fields)) at width (omega arith))

place_in_entry : (entry : Entry) (at width : ℕ) → IsWhole entry → number_at (entry_bytes entry) (96 + at) width ≡
    number_at (fields_bytes (place_fields entry.fields)) at width
unfolding entry_bytes
place_in_entry entry at width whole =
    let name = length-name_bytes entry.name whole.few in
    let clsid = whole.clsid in
    let links : length (fields_bytes (link_fields entry.fields)) ≡ 16 = length-fields_bytes (link_fields entry.fields)
    in
    let places = fields_bytes (place_fields entry.fields) in
    let first : 96 + at ≡ length (entry_name_bytes entry.name) + (32 + at) = omega arith in
    let second : 32 + at ≡ length (fields_bytes (link_fields entry.fields)) + (16 + at) = omega arith in
    let third : 16 + at ≡ length entry.clsid + at = omega arith in
    ap (λ k. number_at (entry_name_bytes entry.name ++ (fields_bytes (link_fields entry.fields) ++ (entry.clsid ++
    places)))
    k width) first
    ∙ (number_at-after (entry_name_bytes entry.name) (fields_bytes (link_fields entry.fields) ++ (entry.clsid ++
    places))
    (32 + at) width
    ∙ (ap (λ k. number_at (fields_bytes (link_fields entry.fields) ++ (entry.clsid ++ places)) k width) second
    ∙ (number_at-after (fields_bytes (link_fields entry.fields)) (entry.clsid ++ places) (16 + at) width
    ∙ (ap (λ k. number_at (entry.clsid ++ places) k width) third ∙ number_at-after entry.clsid places at width))))

-- a byte of the CLSID
clsid_in : (entry : Entry) (i : ℕ) → IsWhole entry → i < 16 → slice_index (entry_bytes entry) (80 + i) ≡ slice_index
    entry.clsid i
unfolding entry_bytes
clsid_in entry i whole h =
    let name = length-name_bytes entry.name whole.few in
    let clsid = whole.clsid in
    let links : length (fields_bytes (link_fields entry.fields)) ≡ 16 = length-fields_bytes (link_fields entry.fields)
    in
    let places = fields_bytes (place_fields entry.fields) in
    let first : 80 + i - 64 ≡ 16 + i = omega arith in
    let second : 16 + i - 16 ≡ i = omega arith in
    get_or-append_right (entry_name_bytes entry.name) (fields_bytes (link_fields entry.fields) ++ (entry.clsid ++
    places))
    64 (80 + i) 0 name (omega arith)
    ∙ (ap (λ k. slice_index (fields_bytes (link_fields entry.fields) ++ (entry.clsid ++ places)) k) first
    ∙ (get_or-append_right (fields_bytes (link_fields entry.fields)) (entry.clsid ++ places) 16 (16 + i) 0 links
    (omega arith)
    ∙ (ap (λ k. slice_index (entry.clsid ++ places) k) second ∙ get_or_append_left entry.clsid places 0 i
    (omega arith))))

-- the bytes of the entry are at the offset
pub record HasEntry (file : List ℕ) (entry : Entry) (at : ℕ) : Type 0 where
  pub room : at + 128 ≤ length file
  pub bytes : (x : ℕ) → x < 128 → slice_index file (at + x) ≡ slice_index (entry_bytes entry) x

number_of : (file : List ℕ) (entry : Entry) (at offset width : ℕ) → HasEntry file entry at → offset + width ≤ 128 →
    number_at file (at + offset) width ≡ number_at (entry_bytes entry) offset width
number_of file entry at offset width has room = number_at-same file (entry_bytes entry) (at + offset) offset width
    (λ i h.
    let place : at + offset + i ≡ at + (offset + i) = omega arith in
    ap (λ k. slice_index file k) place ∙ has.bytes (offset + i) (omega arith))

byte_at : (xs : List ℕ) (at : ℕ) → number_at xs at 1 ≡ slice_index xs at
unfolding number_at
byte_at xs at =
    let place : at + 0 ≡ at = omega arith in
    let here = ap (λ k. slice_index xs k) place in omega arith

pub entry_reads : (file : List ℕ) (entry : Entry) (at : ℕ) → HasEntry file entry at → IsWritable entry →
    IsEntryAt file entry at
entry_reads file entry at has w =
    let whole = w.whole in
    let few = whole.few in
    let length_low : entry.fields.name_length < 256 ^ 2 = let h = w.long in omega arith in
    let kind_low : entry.fields.kind < 256 ^ 1 = let h = w.kind in omega arith in
    let left_low : entry.fields.left < 256 ^ 4 = let h = w.left in omega arith in
    let right_low : entry.fields.right < 256 ^ 4 = let h = w.right in omega arith in
    let child_low : entry.fields.child < 256 ^ 4 = let h = w.child in omega arith in
    let start_low : entry.fields.start < 256 ^ 4 = let h = w.start in omega arith in
    let size_low : entry.fields.size < 256 ^ 4 = let h = w.size in omega arith in
    let unit_room : (i : ℕ) → i < length entry.name → 2 * i + 2 ≤ 128 = λ i h. omega arith in
    record {
      units = λ i h. number_of file entry at (2 * i) 2 has (unit_room i h) ∙ unit_in entry i w h;
      long = number_of file entry at 64 2 has (omega arith) ∙ (link_in entry 0 2 whole (omega arith) ∙ field_at
          (link_fields entry.fields) 0 0 (omega arith) refl length_low);
      kind = sym (byte_at file (at + 66)) ∙ (number_of file entry at 66 1 has (omega arith) ∙ (link_in entry 2 1 whole
          (omega arith) ∙ field_at (link_fields entry.fields) 1 2 (omega arith) refl kind_low));
      left = number_of file entry at 68 4 has (omega arith) ∙ (link_in entry 4 4 whole (omega arith) ∙ field_at
          (link_fields entry.fields) 3 4 (omega arith) refl left_low);
      right = number_of file entry at 72 4 has (omega arith) ∙ (link_in entry 8 4 whole (omega arith) ∙ field_at
          (link_fields entry.fields) 4 8 (omega arith) refl right_low);
      child = number_of file entry at 76 4 has (omega arith) ∙ (link_in entry 12 4 whole (omega arith) ∙ field_at
          (link_fields entry.fields) 5 12 (omega arith) refl child_low);
      clsid =
          let clsid_len = whole.clsid in
          let size : at + 96 - (at + 80) ≡ length entry.clsid = omega arith in
          let room = has.room in
          ap (λ n. take n (drop (at + 80) file)) size ∙ range_is file entry.clsid (at + 80) (omega arith) (λ i h.
          let place : at + 80 + i ≡ at + (80 + i) = omega arith in
          ap (λ k. slice_index file k) place ∙ (has.bytes (80 + i) (omega arith) ∙ clsid_in entry i whole
          (omega arith)));
      start = number_of file entry at 116 4 has (omega arith) ∙ (place_in_entry entry 20 4 whole ∙ field_at
          (place_fields entry.fields) 5 20 (omega arith) refl start_low);
      size = number_of file entry at 120 4 has (omega arith) ∙ (place_in_entry entry 24 4 whole ∙ field_at
          (place_fields entry.fields) 6 24 (omega arith) refl size_low);
    }
