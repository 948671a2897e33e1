-- Each turn appends the sum of the lengths before it.
use Rattle.std.proofs.Common.{◌≡◌, ℕ, ◌+◌, ◌<◌, List, ◌++◌, ◌∙◌, false, take, get_or, map, flat_map, length, refl}
use Rattle.std.proofs.Common.{sym, ap, arith, append_assoc}
use Rattle.std.specs.List.{range_with_len, sum}
use Rattle.std.proofs.Math.ListN.{length-map}
use Rattle.doc_bits.specs.Number.{number_bytes}
use Rattle.piece_table.specs.declared.pieces.Entry.{Entry}
use Rattle.piece_table.specs.PrintSteps.{lens_of}
use Rattle.piece_table.proofs.PlcPrintLemmas.{sum_more, sum_front, seen_at, numbers_more}
use Rattle.piece_table.proofs.printing.push_cps.Goals as goal

abbrev none : Entry
none = record { piece = record { at = 0; wide = false; len = 0 }; modifier = 0 }

-- the sum with the length of one entry more
with_next : (entries : List Entry) (k : ℕ) → k < length entries → sum (take (k + 1) (lens_of entries)) ≡ sum
    (take k (lens_of entries)) + (get_or entries k none).piece.len
with_next entries k low =
    let entry = get_or entries k none in
    sum_more (lens_of entries) k entry.piece.len (omega (arith, length-map entries (λ (e : Entry). e.piece.len)))
    (seen_at (λ (e : Entry). e.piece.len) entries k entry none low refl)

pub overflow_add-cp : goal.overflow_add-cp
overflow_add-cp c =
    let entries = c.args.entries.now in
    let k = c.loop-k.k in
    let low = c.loop-k-test.true in
    let cp = c.loop-k.invariant.1 in
    omega (arith, with_next entries k low, sum_front (lens_of entries) (k + 1), c.requires)

pub loop-k-preserved : goal.loop-k-preserved
loop-k-preserved c =
    let entries = c.args.entries.now in
    let k = c.loop-k.k in
    let low = c.loop-k-test.true in
    let f : ℕ → ℕ = λ j. sum (take j (lens_of entries)) in
    let old = c.args.bytes.now in
    let nums = flat_map (number_bytes 4) (map f (range_with_len 0 k)) in
    let cp = c.loop-k.invariant.1 in (
      c.in_ok-push32.ensures.ok ∙ (ap (λ l. l ++ number_bytes 4 c.loop-k.cp) c.loop-k.invariant.0
          ∙ (append_assoc old nums (number_bytes 4 c.loop-k.cp)
          ∙ ap (λ l. old ++ l) (ap (λ x. nums ++ number_bytes 4 x) cp ∙ sym (numbers_more f k)))),
      omega (arith, with_next entries k low),
    )

pub returns : goal.returns
returns c =
    let entries = c.args.entries.now in
    let k = c.loop-k.k in
    let ended = c.loop-k-test.false in
    let f : ℕ → ℕ = λ j. sum (take j (lens_of entries)) in
    let old = c.args.bytes.now in
    let nums = flat_map (number_bytes 4) (map f (range_with_len 0 k)) in
    let all : k ≡ length (lens_of entries) = omega (arith, length-map entries (λ (e : Entry). e.piece.len)) in
    c.in_ok-push32-2.ensures.ok ∙ (ap (λ l. l ++ number_bytes 4 c.loop-k.cp) c.loop-k.invariant.0
    ∙ (append_assoc old nums (number_bytes 4 c.loop-k.cp)
    ∙ ap (λ l. old ++ l) (ap (λ x. nums ++ number_bytes 4 x) c.loop-k.invariant.1 ∙ (sym (numbers_more f k) ∙ ap
    (λ n. flat_map (number_bytes 4) (map f (range_with_len 0 (n + 1)))) all))))
