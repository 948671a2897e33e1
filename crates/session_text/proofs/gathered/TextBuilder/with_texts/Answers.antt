use Rattle.std.proofs.Common.{◌∙◌, ◌++◌, ◌+◌, sym, ap, length, take, append_assoc, arith}
use Rattle.std.proofs.lemmas.List.{length-append}
use Rattle.doc_model.specs.Collected.{joined_texts}
use Rattle.doc_model.proofs.Public.{text_joined, first_joined}
use Rattle.session_text.proofs.gathered.TextBuilder.with_texts.Goals as goal

pub with_text-requires : goal.with_text-requires
with_text-requires c =
    let texts = c.args.texts.now in
    let k = c.loop-k.k in
    let text = c.get.result.now in
    omega (
      arith,
      ap length (text_joined texts k text c.get.ensures),
      first_joined texts (k + 1),
      length-append (joined_texts (take k texts)) text,
      ap length c.loop-k.invariant,
      length-append c.args.self (joined_texts (take k texts)),
      c.requires,
    )

pub loop-k-preserved : goal.loop-k-preserved
loop-k-preserved c =
    let texts = c.args.texts.now in
    let so_far = joined_texts (take c.loop-k.k texts) in
    c.in_ok-made.ensures
    ∙ (ap (λ l. l ++ c.get.result.now) c.loop-k.invariant
    ∙ (append_assoc c.args.self so_far c.get.result.now
    ∙ ap (λ l. c.args.self ++ l) (sym (text_joined texts c.loop-k.k c.get.result.now c.get.ensures))))
