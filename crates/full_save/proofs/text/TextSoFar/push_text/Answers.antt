use Rattle.std.proofs.Common.{◌≡◌, ◌+◌, ◌*◌, length, ap, arith}
use Rattle.std.proofs.lemmas.List.{length-map, length-append}
use Rattle.run_lists.proofs.Public.{length-spread}
use Rattle.doc_model.specs.declared.item.Item.{Item}
use Rattle.doc_columns.specs.Attached.{attached_of}
use Rattle.full_save.specs.WordDocument.{text_offset}
use Rattle.full_save.proofs.text.TextSoFar.push_text.Goals as goal

pub push_runs-requires : goal.push_runs-requires
push_runs-requires c =
    let small = c.requires in
    omega (
      arith,
      small,
      length-spread c.chps.result.now,
      ap length c.chps.ensures,
      length-map c.args.text.now (λ (item : Item). item.chp),
    )

pub push_runs-requires-2 : goal.push_runs-requires-2
push_runs-requires-2 c =
    let small = c.requires in
    omega (
      arith,
      small,
      length-spread c.attachments.result.now,
      ap length c.attachments.ensures,
      length-map c.args.text.now attached_of,
    )

pub returns-clause-text : goal.returns-clause-text
returns-clause-text c = λ done so.
    let text = c.args.text.now in
    let long = so.long in
    let len = c.len.ensures.len in
    let start : 1024 + 2 * c.args.self.now.len ≡ text_offset + 2 * length done = omega (arith, long) in
    record {
      long = omega (arith, long, len, length-append done text);
      characters = c.in_ok-push_runs.ensures text_offset done text start c.chps.ensures so.characters;
      paragraphs = c.in_ok-push_runs-2.ensures text_offset done text start c.attachments.ensures so.paragraphs;
    }
