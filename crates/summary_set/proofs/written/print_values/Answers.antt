use Rattle.std.proofs.Common.{◌≡◌, ◌∙◌, ◌+◌, ◌≤◌, ℕ, List, [], ◌∷◌, ◌++◌, length, take, sym, ap, arith}
use Rattle.std.specs.Prelude.{flat_map}
use Rattle.std.proofs.lemmas.List.{take_more}
use Rattle.doc_bits.specs.Number.{zeros}
use Rattle.summary_set.specs.declared.values.Property.{Property}
use Rattle.summary_set.specs.Written.{padded_value, pad_len}
use Rattle.summary_set.proofs.WriteLemmas.{values-push, joined_four, some_zeros}
use Rattle.summary_set.proofs.written.print_values.Goals as goal

pub loop-property-preserved : goal.loop-property-preserved
loop-property-preserved c =
    let values = c.args.values.now in
    let i : ℕ = c.loop-property.property-index in
    let x : Property = c.property-item.result in
    let before : List Property = take i values in
    let more : take (i + 1) values ≡ before ++ x ∷ [] = take_more values i x c.loop-property-test.true
    ∙ ap (λ y. before ++ y ∷ []) (sym c.property-item.is) in
    let value : c.as_slice-value.result.now ≡ x.value = c.as_slice-value.ensures in
    let pad : c.pad_len.result ≡ pad_len (length x.value) = c.pad_len.ensures ∙ ap (λ v. pad_len (length v)) value in
    let few : c.pad_len.result ≤ 3 = omega arith in
    let first : c.push_all.new.self ≡ c.loop-property.bytes ++ x.value = c.in_ok-push_all.ensures.ok ∙ ap (λ v.
    c.loop-property.bytes ++ v) value in
    let second : c.push_all-in-loop-property.new.self ≡ c.push_all.new.self ++ take c.pad_len.result (0 ∷ 0 ∷ 0 ∷ []) =
    c.in_ok-push_all-2.ensures.ok in
    let spelled : flat_map (λ (p : Property). padded_value p.value) (take (i + 1) values) ≡ flat_map (λ (p : Property).
    padded_value
    p.value) before ++ (x.value ++ zeros (pad_len (length x.value))) = ap (flat_map (λ (p : Property). padded_value
    p.value))
    more
    ∙ values-push before x in
    second
    ∙ (ap (λ z. c.push_all.new.self ++ z) (some_zeros c.pad_len.result few ∙ ap zeros pad)
    ∙ (ap (λ b. b ++ zeros (pad_len (length x.value))) (first ∙ ap (λ b. b ++ x.value) c.loop-property.invariant)
    ∙ (joined_four c.args.bytes.now (flat_map (λ (p : Property). padded_value p.value) before) x.value (zeros (pad_len
    (length
    x.value)))
    ∙ ap (λ b. c.args.bytes.now ++ b) (sym spelled))))
