use Rattle.std.proofs.Common.{slice_get, refl}
use Rattle.file_mends.proofs.PlaceLemmas.{no_part, pairs_placed}
use Rattle.file_mends.proofs.part_places.place_in.Goals as goal

pub returns-in_default-part_of_rule : goal.returns-in_default-part_of_rule
returns-in_default-part_of_rule c =
    no_part (slice_get c.args.container.now.streams c.args.i) c.bytes.result.now c.args.file_len c.args.rule
    c.args.offset c.bytes.ensures c.in_default-part_of_rule.ensures.part

pub returns : goal.returns
returns c =
    let contents = c.args.container.now in
    pairs_placed contents c.args.i c.name.result.now c.bytes.result.now c.in-Some.sectors.now
    c.in-Some-part_of_rule.pair c.args.file_len c.args.rule c.args.offset c.pairs_at.result
    (record { name_is = c.name.ensures; bytes_are = c.bytes.ensures; chain_is = c.in-Some.ensures.chain })
    (rw c.word_document.ensures at (c.if-not-equal_names.ensures.relation.0 refl))
    c.in-Some-part_of_rule.ensures.part c.pairs_at.ensures
