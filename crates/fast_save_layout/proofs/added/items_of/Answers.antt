use Rattle.std.proofs.Common.{◌≡◌, ◌<◌, ◌+◌, [], length, take, get_or, ap, arith}
use Rattle.std.proofs.lemmas.List.{length-append}
use Rattle.std.proofs.lemmas.Option.{get_or_from_slice_get}
use Rattle.doc_model.specs.Collected.{joined_texts}
use Rattle.full_save.proofs.Public.{joined_next}
use Rattle.fast_save_layout.proofs.added.items_of.Goals as goal
use Rattle.doc_model.proofs.Public.{first_joined}

pub overflow_add-count : goal.overflow_add-count
overflow_add-count c =
    let texts = c.args.texts.now in
    let k = c.loop-k.k in
    let end = c.len-k-end.ensures.len in
    let low : k < length texts = let test = c.loop-k-test.true in omega arith in
    let here = get_or_from_slice_get texts k c.get.result.now [] c.get.ensures in
    let size = ap length here in
    let own = c.len.ensures.len in
    let next = ap length (joined_next texts k low) in
    let front = first_joined texts (k + 1) in
    let count = c.loop-k.invariant in
    let small = c.requires in
    omega (arith, length-append (joined_texts (take k texts)) (get_or texts k []))

pub loop-k-preserved : goal.loop-k-preserved
loop-k-preserved c =
    let texts = c.args.texts.now in
    let k = c.loop-k.k in
    let end = c.len-k-end.ensures.len in
    let low : k < length texts = let test = c.loop-k-test.true in omega arith in
    let here = get_or_from_slice_get texts k c.get.result.now [] c.get.ensures in
    let size = ap length here in
    let own = c.len.ensures.len in
    let next = ap length (joined_next texts k low) in
    let count = c.loop-k.invariant in
    let sum : c.loop-k.count + c.len.result ≡ length (joined_texts (take (k + 1) texts)) =
    omega (arith, length-append (joined_texts (take k texts)) (get_or texts k [])) in
    sum
