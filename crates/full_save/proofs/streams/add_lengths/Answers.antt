use Rattle.std.proofs.Common.{◌<◌, ◌++◌, ℕ, List, [], ◌∷◌, length, get_or, ap, sym, ◌∙◌, arith}
use Rattle.std.specs.Prelude.{slice_range}
use Rattle.std.proofs.lemmas.List.{append_assoc}
use Rattle.cfb_streams.specs.Contents.{NamedBytes}
use Rattle.cfb_layout.specs.Layout.{lengths_of, no_stream}
use Rattle.cfb_layout.proofs.Public.{bytes_are}
use Rattle.full_save.proofs.PlaceLemmas.{range_next, lengths-append}
use Rattle.full_save.proofs.streams.add_lengths.Goals as goal

pub loop-i-preserved : goal.loop-i-preserved
loop-i-preserved c =
    let others = c.args.carried.now in
    let i = c.loop-i.i in
    let within = c.requires.within in
    let test = c.loop-i-test.true in
    let below : i < length others = omega arith in
    let size = ap length (sym (bytes_are others i c.bytes.result.now below c.bytes.ensures)) in
    let part = slice_range others c.args.from i in
    c.in_ok-push.ensures.items
    ∙ (ap (λ (front : List ℕ). front ++ length c.bytes.result.now ∷ []) c.loop-i.invariant
    ∙ (append_assoc c.args.lengths.now.items (lengths_of part) (length c.bytes.result.now ∷ [])
    ∙ (ap (λ (n : ℕ). c.args.lengths.now.items ++ (lengths_of part ++ n ∷ [])) size
    ∙ (ap (λ (xs : List ℕ). c.args.lengths.now.items ++ xs) (sym (lengths-append part (get_or others i no_stream ∷ [])))
    ∙ ap (λ (xs : List NamedBytes). c.args.lengths.now.items ++ lengths_of xs) (sym (range_next others c.args.from i
    no_stream c.loop-i.auto.i below))))))
