use Rattle.std.proofs.Common.{◌≡◌, ◌∙◌, ◌+◌, ℕ, List, [], ◌∷◌, ◌++◌, take, sym, ap, arith}
use Rattle.std.specs.Prelude.{sum_by}
use Rattle.std.proofs.lemmas.List.{take_more}
use Rattle.std.proofs.lemmas.List.Sums.{sum_by_push}
use Rattle.doc_bits.specs.Number.{number_bytes}
use Rattle.summary_set.specs.declared.values.Property.{Property}
use Rattle.summary_set.specs.Written.{first_offset, padded_len, pair_bytes}
use Rattle.summary_set.proofs.WriteLemmas.{pair_bytes-push, joined_four}
use Rattle.summary_set.proofs.written.print_pairs.Goals as goal

pub loop-property-preserved : goal.loop-property-preserved
loop-property-preserved c =
    let values = c.args.values.now in
    let i : ℕ = c.loop-property.property-index in
    let x : Property = c.property-item.result in
    let before : List Property = take i values in
    let from : ℕ = first_offset values in
    let more : take (i + 1) values ≡ before ++ x ∷ [] = take_more values i x c.loop-property-test.true
    ∙ ap (λ y. before ++ y ∷ []) (sym c.property-item.is) in
    let sum : sum_by padded_len (take (i + 1) values) ≡ sum_by padded_len before + padded_len x = ap (λ xs. sum_by
    padded_len xs) more ∙ sum_by_push padded_len before x in
    let at : c.loop-property.offset ≡ from + sum_by padded_len before = c.loop-property.invariant.offset in
    let first : c.push32.new.self ≡ c.loop-property.bytes ++ number_bytes 4 x.id = c.in_ok-push32.ensures.ok in
    let second : c.push32-in-loop-property.new.self ≡ c.push32.new.self ++ number_bytes 4 c.loop-property.offset =
    c.in_ok-push32-2.ensures.ok in
    let pairs : pair_bytes from (take (i + 1) values) ≡ pair_bytes from before ++ (number_bytes 4 x.id ++ number_bytes 4
    (from + sum_by padded_len before)) = ap (pair_bytes from) more ∙ pair_bytes-push from before x in
    record {
      offset = omega (arith, sum, at, c.padded_len-offset.ensures);
      printed = second
          ∙ (ap (λ b. b ++ number_bytes 4 c.loop-property.offset) (first ∙ ap (λ b. b ++ number_bytes 4 x.id)
          c.loop-property.invariant.printed)
          ∙ (ap (λ n. ((c.args.bytes.now ++ pair_bytes from before) ++ number_bytes 4 x.id) ++ number_bytes 4 n) at
          ∙ (joined_four c.args.bytes.now (pair_bytes from before) (number_bytes 4 x.id) (number_bytes 4
          (from + sum_by padded_len before))
          ∙ ap (λ b. c.args.bytes.now ++ b) (sym pairs))));
    }
