-- What is read of a PlcPcd that was printed.
use Rattle.std.proofs.Common.{◌≡◌, ℕ, ◌+◌, ◌*◌, ◌/◌, ◌%◌, ◌^◌, ◌<◌, ◌≤◌, List, [], ◌∷◌, ◌++◌, length, map, flat_map}
use Rattle.std.proofs.Common.{take, All, slice_index_or, Bool, true, false, refl, inl, inr, sym, ap, subst, ◌∙◌}
use Rattle.std.proofs.Common.{arith, append_assoc, length-append}
use Rattle.std.specs.List.{range_with_len, sum}
use Rattle.std.proofs.lemmas.Bool.{cases_lt}
use Rattle.std.proofs.lemmas.List.{append-nil}
use Rattle.std.proofs.lemmas.List.Elements.{All-from_get_or}
use Rattle.std.proofs.lemmas.List.FromFn.{length-map-range_with_len, get_or-map-range_with_len, map-range_with_len_more}
use Rattle.std.proofs.lemmas.Grind.{flat_map-append}
use Rattle.std.proofs.lemmas.Option.{get_or_from_slice_get}
use Rattle.doc_bits.specs.Number.{number_bytes, number_at}
use Rattle.doc_bits.specs.Plc.{PlcPart, plc_cp, plc_entry}
use Rattle.doc_bits.proofs.Public.{number_at-read_back, length-number_bytes, printed-HasPlc}
use Rattle.doc_bits.specs.Plc.{printed_plc, HasPlc}
use Rattle.piece_table.specs.declared.pieces.Piece.{Piece}
use Rattle.piece_table.specs.Clx.{IsPlcPcd, fc_compressed, pcd_fc, prm_word}
use Rattle.piece_table.specs.Printing.{cps_of, plc_bytes, pcd_bytes, fc_number}
use Rattle.piece_table.proofs.PieceLemmas.{pcd_number}
use Rattle.piece_table.proofs.PlcPrintLemmas.{sum_front, length-plc_bytes}

-- the table of these lengths and Pcds
abbrev pub printed_part : List ℕ → List (List ℕ) → PlcPart
printed_part lens pcds = record { bytes = plc_bytes lens pcds; size = 8; count = length lens }

printed_some : (starts : List ℕ) (end : ℕ) (parts : List (List ℕ)) → 0 < length starts → printed_plc starts end parts
    ≡ flat_map (number_bytes 4) starts ++ (number_bytes 4 end ++ flat_map (λ part. part) parts)
printed_some [] end parts some = absurd (omega arith)
printed_some (cp ∷ cps) end parts some = refl

abbrev pub starts_of : List ℕ → List ℕ
starts_of lens = map (λ k. sum (take k lens)) (range_with_len 0 (length lens))

-- it is printed as the tables of other parts are
plc_is : (lens : List ℕ) (pcds : List (List ℕ)) → 0 < length lens → plc_bytes lens pcds ≡ printed_plc (starts_of lens)
    (sum (take (length lens) lens)) pcds
plc_is lens pcds some =
    let f : ℕ → ℕ = λ k. sum (take k lens) in
    let n = length lens in
    let starts = starts_of lens in
    let end = f n in
    let parts = flat_map (λ pcd. pcd) pcds in
    let cps : cps_of lens ≡ starts ++ end ∷ [] = map-range_with_len_more f 0 n n (omega arith) in
    let nums : flat_map (number_bytes 4) (cps_of lens) ≡ flat_map (number_bytes 4) starts ++ number_bytes 4 end =
    ap (flat_map (number_bytes 4)) cps ∙ (flat_map-append (number_bytes 4) starts (end ∷ []) ∙ ap (λ l. flat_map
    (number_bytes 4) starts ++ l) (append-nil (number_bytes 4 end))) in
    ap (λ l. l ++ parts) nums ∙ (append_assoc (flat_map (number_bytes 4) starts) (number_bytes 4 end) parts ∙ sym
    (printed_some starts end pcds (omega (arith, length-map-range_with_len f 0 n))))

has_plc : (lens : List ℕ) (pcds : List (List ℕ)) → 0 < length lens → sum lens < 2 ^ 32 → length pcds ≡ length lens →
    All (λ pcd. length pcd ≡ 8) pcds → HasPlc (plc_bytes lens pcds) 8 (starts_of lens) (sum (take (length lens) lens))
    pcds
has_plc lens pcds some small count sized =
    let f : ℕ → ℕ = λ k. sum (take k lens) in
    let starts = starts_of lens in
    let len = length-map-range_with_len f 0 (length lens) in
    let low : All (λ cp. cp < 2 ^ 32) starts = All-from_get_or (λ cp. cp < 2 ^ 32) starts 0
    (λ k h. rw (get_or-map-range_with_len f 0 (length lens) k k 0 (omega (arith, len)) (omega arith))
    (omega (arith, sum_front lens k))) in
    rw (plc_is lens pcds some) (printed-HasPlc 8 starts (f (length lens)) pcds (omega (arith, len)) (omega (
      arith,
      len,
    )) low (omega (arith, sum_front lens (length lens))) sized)

-- the CPs are the sums of the lengths
pub cp_back : (lens : List ℕ) (pcds : List (List ℕ)) (k : ℕ) → 0 < length lens → sum lens < 2 ^ 32 →
    length pcds ≡ length lens → All (λ pcd. length pcd ≡ 8) pcds → k ≤ length lens → plc_cp (plc_bytes lens pcds) k ≡
    sum (take k lens)
cp_back lens pcds k some small count sized low =
    let f : ℕ → ℕ = λ k. sum (take k lens) in
    let has = has_plc lens pcds some small count sized in
    let len = length-map-range_with_len f 0 (length lens) in
    elim (cases_lt k (length lens)) [
      | inl less ↦ has.cps k (omega (arith, len)) ∙ get_or-map-range_with_len f 0 (length lens) k k 0 less (omega arith)
      | inr most ↦
          let e : k ≡ length (starts_of lens) = omega (arith, len) in
          let end : length lens ≡ k = omega arith in
          ap (plc_cp (plc_bytes lens pcds)) e ∙ (has.last ∙ ap f end)
    ]

pub plc_table : (lens : List ℕ) (pcds : List (List ℕ)) → 0 < length lens → length lens ≤ 16384 → length pcds ≡ length
    lens → All (λ pcd. length pcd ≡ 8) pcds → IsPlcPcd (printed_part lens pcds)
plc_table lens pcds some few count sized = record {
  size = refl;
  table = omega (arith, length-plc_bytes lens pcds count sized);
  some = omega arith;
  fits = omega (arith, length-plc_bytes lens pcds count sized);
}

-- a Pcd is in its place
entry_back : (lens : List ℕ) (pcds : List (List ℕ)) (k : ℕ) → 0 < length lens → sum lens < 2 ^ 32 →
    length pcds ≡ length lens → All (λ pcd. length pcd ≡ 8) pcds → k < length lens → plc_entry (printed_part lens
    pcds) k ≡ slice_index_or pcds k []
entry_back lens pcds k some small count sized low =
    let f : ℕ → ℕ = λ k. sum (take k lens) in
    let has = has_plc lens pcds some small count sized in
    let len = length-map-range_with_len f 0 (length lens) in
    let there = has.entries k (omega (arith, len)) in
    let part : PlcPart = record { bytes = plc_bytes lens pcds; size = 8; count = length (starts_of lens) } in
    ap (λ n. plc_entry (record { bytes = plc_bytes lens pcds; size = 8; count = n }) k) (sym len) ∙ sym
    (get_or_from_slice_get pcds k (plc_entry part k) [] there)

-- the numbers of a Pcd
fc_back : (piece : Piece) (prm : ℕ) → fc_number piece < 2 ^ 32 → number_at (pcd_bytes piece prm) 2 4 ≡ fc_number piece
fc_back piece prm small =
    subst (λ at. number_at (pcd_bytes piece prm) at 4 ≡ fc_number piece) (length-number_bytes 2 0)
    (number_at-read_back 4 (fc_number piece) (number_bytes 2 0) (number_bytes 2 prm) small)

prm_back : (piece : Piece) (prm : ℕ) → prm < 2 ^ 16 → number_at (pcd_bytes piece prm) 6 2 ≡ prm
prm_back piece prm small =
    let fc = number_bytes 4 (fc_number piece) in
    let before = number_bytes 2 0 ++ fc in
    let long : length before ≡ 6 = omega (
      arith,
      length-append (number_bytes 2 0) fc,
      length-number_bytes 2 0,
      length-number_bytes 4 (fc_number piece),
    ) in
    let word = number_bytes 2 prm in
    let joined : before ++ (word ++ []) ≡ pcd_bytes piece prm = ap (λ l. before ++ l) (append-nil word) ∙ append_assoc
    (number_bytes 2 0) fc word in
    subst (λ at. number_at (pcd_bytes piece prm) at 2 ≡ prm) long (subst (λ l. number_at l (length before) 2 ≡ prm)
    joined (number_at-read_back 2 prm before [] small))

pub fc_compressed-fc_number : (at len : ℕ) (wide : Bool) → at < 2 ^ 29 → (fc_number (record {
  at = at;
  wide = wide;
  len = len;
}) < 2 ^ 32) × (fc_compressed (fc_number (record { at = at; wide = wide; len = len })) ≡ record {
  at =
      at;
  wide = wide;
})
fc_compressed-fc_number at len true low =
    let bit : at / 2 ^ 30 % 2 ≡ 0 = omega arith in
    let fc : at % 2 ^ 30 ≡ at = omega arith in
    (omega arith, rw (bit, fc) refl)
fc_compressed-fc_number at len false low =
    let bit : (2 * at + 2 ^ 30) / 2 ^ 30 % 2 ≡ 1 = omega arith in
    let fc : (2 * at + 2 ^ 30) % 2 ^ 30 / 2 ≡ at = omega arith in
    (omega arith, rw (bit, fc) refl)

-- what is read of a Pcd that was printed
pub pcd_back : (lens : List ℕ) (pcds : List (List ℕ)) (k : ℕ) (piece : Piece) (prm : ℕ) → 0 < length lens →
    sum lens < 2 ^ 32 → length lens ≤ 16384 → length pcds ≡ length lens → All (λ pcd. length pcd ≡ 8) pcds →
    k < length lens → piece.at < 2 ^ 29 → prm < 2 ^ 16 → slice_index_or pcds k [] ≡ pcd_bytes piece prm →
    (pcd_fc (printed_part lens pcds) k ≡ record { at = piece.at; wide = piece.wide }) × (prm_word (printed_part lens
    pcds) k ≡ prm)
pcd_back lens pcds k piece prm some small few count sized low place word is =
    let part = printed_part lens pcds in
    let table = plc_table lens pcds some few count sized in
    let entry : plc_entry part k ≡ pcd_bytes piece prm = entry_back lens pcds k some small count sized low ∙ is in
    let fc = fc_compressed-fc_number piece.at piece.len piece.wide place in (
      ap fc_compressed (sym (pcd_number part k 2 4 table (omega arith)) ∙ (ap (λ l. number_at l 2 4) entry ∙ fc_back
          piece prm fc.0)) ∙ fc.1,
      sym (pcd_number part k 6 2 table (omega arith)) ∙ (ap (λ l. number_at l 6 2) entry ∙ prm_back piece prm word),
    )
