-- The header that is written.
use Rattle.std.proofs.Common.{◌≡◌, inl, inr, ℕ, ◌+◌, ◌-◌, ◌*◌, ◌/◌, ◌%◌, ◌<◌}
use Rattle.std.proofs.Common.{◌++◌, length, take, slice_index, slice_range, sym}
use Rattle.std.proofs.Common.{ap}
use Rattle.std.proofs.Common.{◌∙◌, arith, length-append, length-take}
use Rattle.std.specs.List.{flat_map, range_with_len}
use Rattle.std.proofs.lemmas.Bool.{cases_lt}
use Rattle.std.proofs.lemmas.List.{get_or_append_left, get_or-append_right, get_or-take}
use Rattle.std.proofs.lemmas.List.FromFn.{length-range_with_len, get_or-range_with_len}
use Rattle.doc_bits.specs.Number.{number_bytes}
use Rattle.doc_bits.proofs.Public.{length-number_bytes, range_index, length-range}
use Rattle.cfb_sectors.specs.Header.{fat_sector_count}
use Rattle.cfb_layout.proofs.Public.{length-table}
use Rattle.cfb_in_place.specs.Change.{fat_from}
use Rattle.cfb_in_place.specs.Sources.{header_after}
use Rattle.cfb_in_place.proofs.FileAfter.{Before, added_of, before_accepted, sizes_of}
use Rattle.cfb_in_place.proofs.FileAfter.{header_byte}
use Rattle.cfb_in_place.proofs.FileAfter.{header_front, header_count, header_middle, header_list, header_rest}
use Rattle.cfb_in_place.proofs.SliceLemmas.{numbers_at}

-- the header
pub length_header : (b : Before) → length (header_after b.old (added_of b)) ≡ 512
unfolding header_after
length_header b =
    let nf = fat_sector_count b.old in
    let few = (sizes_of b).few in
    let least = (before_accepted b).whole.least in
    let a = take 44 b.old in
    let c = number_bytes 4 (nf + (added_of b).fat) in
    let d = slice_range b.old 48 (76 + 4 * nf) in
    let e = flat_map (number_bytes 4) (range_with_len (fat_from (added_of b)) (added_of b).fat) in
    let f = slice_range b.old (76 + 4 * (nf + (added_of b).fat)) 512 in
    let la = length-take 44 b.old in
    let lc = length-number_bytes 4 (nf + (added_of b).fat) in
    let ld = length-range b.old 48 (76 + 4 * nf) (omega arith) in
    let le = length-table 4 (range_with_len (fat_from (added_of b)) (added_of b).fat) in
    let lr = length-range_with_len (fat_from (added_of b)) (added_of b).fat in
    let lf = length-range b.old (76 + 4 * (nf + (added_of b).fat)) 512 (omega arith) in
    let one = length-append a (c ++ (d ++ (e ++ f))) in
    let two = length-append c (d ++ (e ++ f)) in
    let three = length-append d (e ++ f) in
    let four = length-append e f in
    omega arith

pub header_is : (b : Before) (at : ℕ) → at < 512 → slice_index (header_after b.old (added_of b)) at ≡ header_byte b at
unfolding header_after
header_is b at h =
    let nf = fat_sector_count b.old in
    let more = (added_of b).fat in
    let few = (sizes_of b).few in
    let least = (before_accepted b).whole.least in
    let row = range_with_len (fat_from (added_of b)) more in
    let a = take 44 b.old in
    let c = number_bytes 4 (nf + more) in
    let d = slice_range b.old 48 (76 + 4 * nf) in
    let e = flat_map (number_bytes 4) row in
    let f = slice_range b.old (76 + 4 * (nf + more)) 512 in
    let la = length-take 44 b.old in
    let lc = length-number_bytes 4 (nf + more) in
    let ld = length-range b.old 48 (76 + 4 * nf) (omega arith) in
    let le = length-table 4 row in
    let lr = length-range_with_len (fat_from (added_of b)) more in
    elim (cases_lt at 44) [
      | inl low ↦ get_or_append_left a (c ++ (d ++ (e ++ f))) 0 at (omega arith) ∙ (get_or-take 44 b.old at 0 low ∙ sym
          (header_front b at low))
      | inr first ↦
          get_or-append_right a (c ++ (d ++ (e ++ f))) 44 at 0 (omega arith) first
          ∙ elim (cases_lt at 48) [
            | inl low ↦
                let place : 44 + (at - 44) ≡ at = omega arith in
                get_or_append_left c (d ++ (e ++ f)) 0 (at - 44) (omega arith) ∙ (sym (header_count b (at - 44)
                (omega arith)) ∙ ap (λ n. header_byte b n) place)
            | inr second ↦
                let p = at - 44 - 4 in
                get_or-append_right c (d ++ (e ++ f)) 4 (at - 44) 0 lc (omega arith)
                ∙ elim (cases_lt at (76 + 4 * nf)) [
                  | inl low ↦
                      let place : 48 + p ≡ at = omega arith in
                      get_or_append_left d (e ++ f) 0 p (omega arith) ∙ (range_index b.old 48 (76 + 4 * nf) p
                      (omega arith) ∙ (ap (λ n. slice_index b.old n) place ∙ sym (header_middle b at second low)))
                  | inr third ↦
                      let q = p - (28 + 4 * nf) in
                      get_or-append_right d (e ++ f) (28 + 4 * nf) p 0 (omega arith) (omega arith)
                      ∙ elim (cases_lt at (76 + 4 * (nf + more))) [
                        | inl low ↦
                            let place : 76 + 4 * (nf + q / 4) + q % 4 ≡ at = omega arith in
                            get_or_append_left e f 0 q (omega arith)
                            ∙ (numbers_at row (q / 4) (q % 4) q (omega arith) (omega arith) (omega arith)
                            ∙ (ap (λ n. slice_index (number_bytes 4 n) (q % 4)) (get_or-range_with_len (fat_from
                            (added_of b)) more (q / 4) 0 (omega arith))
                            ∙ (sym (header_list b (q / 4) (q % 4) (omega arith) (omega arith)) ∙ ap (λ n. header_byte b
                            n) place)))
                        | inr fourth ↦
                            let place : 76 + 4 * (nf + more) + (q - 4 * more) ≡ at = omega arith in
                            get_or-append_right e f (4 * more) q 0 (omega arith) (omega arith)
                            ∙ (range_index b.old (76 + 4 * (nf + more)) 512 (q - 4 * more) (omega arith)
                            ∙ (ap (λ n. slice_index b.old n) place ∙ sym (header_rest b at fourth)))
                      ]
                ]
          ]
    ]
