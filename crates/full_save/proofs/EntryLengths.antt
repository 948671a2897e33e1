-- How long the tables of the table stream are that have a CP beside each entry.
use Rattle.std.specs.List.{flat_map}
use Rattle.std.proofs.Common.{ℕ, ◌+◌, ◌*◌, ◌≤◌, List, [], ◌∷◌, ◌++◌, length, map, arith, length-append}
use Rattle.std.proofs.lemmas.List.{length-map}
use Rattle.doc_bits.specs.Number.{number_bytes, u32_list_bytes}
use Rattle.doc_bits.specs.Plc.{printed_plc}
use Rattle.doc_bits.proofs.Public.{length-number_bytes, length-numbers}
use Rattle.doc_parts.specs.Table.{EntryForm, printed_entries}

-- entries of so many bytes at most
length-entries : {E : Type 0} (bytes_of : E → List ℕ) (size : ℕ) (list : List E) →
    ((e : E) → length (bytes_of e) ≤ size) → size ≤ 12 →
    length (flat_map (λ bytes. bytes) (map bytes_of list)) ≤ 12 * length list
length-entries bytes_of size [] each small = omega arith
length-entries bytes_of size (e ∷ list) each small =
    let first = each e in
    let rest = length-entries bytes_of size list each small in
    omega (arith, first, rest, small, length-append (bytes_of e) (flat_map (λ bytes. bytes) (map bytes_of list)))

length-plc : (cps : List ℕ) (end : ℕ) (entries : List (List ℕ)) →
    length (printed_plc cps end entries) ≤ 4 * length cps + 4 + length (flat_map (λ bytes. bytes) entries)
length-plc [] end entries = omega arith
length-plc (cp ∷ cps) end entries =
    let rest = number_bytes 4 end ++ flat_map (λ bytes. bytes) entries in
    let a = length-append (u32_list_bytes (cp ∷ cps)) rest in
    let b = length-append (number_bytes 4 end) (flat_map (λ bytes. bytes) entries) in
    omega (arith, a, b, length-numbers (cp ∷ cps), length-number_bytes 4 end)

-- a table of such entries
pub length-printed : {E : Type 0} (form : EntryForm E) (size : ℕ) (list : List E) (end : ℕ) →
    ((e : E) → length (form.bytes_of e) ≤ size) → size ≤ 12 →
    length (printed_entries form list end) ≤ 16 * length list + 4
length-printed form size list end each small =
    let count = length-map list form.cp_of in
    let plc = length-plc (map form.cp_of list) end (map form.bytes_of list) in
    omega (arith, count, plc, length-entries form.bytes_of size list each small)
