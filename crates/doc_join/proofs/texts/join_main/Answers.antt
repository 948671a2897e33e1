use Rattle.std.proofs.Common.{◌∙◌, ◌++◌, length, List, ap, arith}
use Rattle.std.proofs.lemmas.List.{length-map}
use Rattle.doc_model.specs.declared.item.Item.{Item}
use Rattle.doc_join.specs.Texts.{renumbered_item, renumbered_text, section_ended}
use Rattle.doc_join.proofs.ColumnLemmas.{splice_end}
use Rattle.doc_join.proofs.SoundLemmas.{length-ended}
use Rattle.doc_join.proofs.texts.join_main.Goals as goal

pub end_section-requires : goal.end_section-requires
end_section-requires c =
    let some = c.requires.some in
    omega (
      arith,
      some,
      ap length c.in_ok-front.ensures.made,
      length-map c.args.first.now (renumbered_item c.args.first_maps.now.numbers),
    )

pub splice-requires-clause-few : goal.splice-requires-clause-few
splice-requires-clause-few c =
    let few = c.requires.few in
    let front = c.in_ok-front.front in
    omega (
      arith,
      few,
      ap length c.in_ok-ended.ensures,
      length-ended front,
      ap length c.in_ok-front.ensures.made,
      ap length c.in_ok-back.ensures.made,
      length-map c.args.first.now (renumbered_item c.args.first_maps.now.numbers),
      length-map c.args.second.now (renumbered_item c.args.second_maps.now.numbers),
    )

pub returns-clause-made : goal.returns-clause-made
returns-clause-made c =
    let first_maps = c.args.first_maps.now.numbers in
    let second_maps = c.args.second_maps.now.numbers in
    c.in_ok-made.ensures
    ∙ (splice_end c.in_ok-ended.ended c.in_ok-back.back c.len-len.result c.len-len.ensures.len
    ∙ (ap (λ (front : List Item). front ++ c.in_ok-back.back)
    (c.in_ok-ended.ensures ∙ ap section_ended c.in_ok-front.ensures.made)
    ∙ ap (λ (back : List Item). section_ended (renumbered_text first_maps c.args.first.now) ++ back)
    c.in_ok-back.ensures.made))
