use Rattle.std.proofs.Common.{◌+◌, ap, length, take, arith}
use Rattle.std.proofs.lemmas.List.{length-append}
use Rattle.doc_model.specs.Collected.{joined_texts}
use Rattle.doc_model.proofs.Public.{text_joined, first_joined}
use Rattle.session_text.proofs.stories.begin_of_text.Goals as goal

pub overflow_add-begin : goal.overflow_add-begin
overflow_add-begin c =
    let texts = c.args.texts.now in
    let k = c.loop-k.k in
    let text = c.get.result.now in
    omega (
      arith,
      ap length (text_joined texts k text c.get.ensures),
      first_joined texts (k + 1),
      length-append (joined_texts (take k texts)) text,
      c.loop-k.invariant,
      c.len-begin.ensures.len,
      c.requires.few,
    )

pub loop-k-preserved : goal.loop-k-preserved
loop-k-preserved c =
    let texts = c.args.texts.now in
    let k = c.loop-k.k in
    let text = c.get.result.now in
    omega (
      arith,
      ap length (text_joined texts k text c.get.ensures),
      length-append (joined_texts (take k texts)) text,
      c.loop-k.invariant,
      c.len-begin.ensures.len,
    )

pub returns-clause-within : goal.returns-clause-within
returns-clause-within c = omega (arith, first_joined c.args.texts.now c.loop-k.k, c.loop-k.invariant)
