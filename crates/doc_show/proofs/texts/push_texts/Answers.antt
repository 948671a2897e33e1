use Rattle.std.proofs.Common.{arith, ◌++◌, []}
use Rattle.std.proofs.lemmas.Option.{get_or_from_slice_get}
use Rattle.std.specs.Fmt.{decimal}
use Rattle.doc_show.specs.Listing.{text_lines}
use Rattle.doc_show.proofs.NumberedLemmas.{numbered_on, numbered_all}
use Rattle.doc_show.proofs.texts.push_texts.Goals as goal

pub loop-k-preserved : goal.loop-k-preserved
loop-k-preserved c =
    numbered_on (λ numbered. text_lines (c.args.word.now ++ decimal numbered.0) numbered.1) c.args.texts.now
    c.loop-k.k [] c.get.result.now c.args.text.now c.loop-k.text c.push_numbered.new.text
    (omega arith) (get_or_from_slice_get c.args.texts.now c.loop-k.k c.get.result.now [] c.get.ensures)
    c.loop-k.invariant
    c.in_ok-push_numbered.ensures

pub returns : goal.returns
returns c =
    numbered_all (λ numbered. text_lines (c.args.word.now ++ decimal numbered.0) numbered.1) c.args.texts.now
    c.loop-k.k c.args.text.now c.loop-k.text (omega arith) c.loop-k.invariant
