use Rattle.std.proofs.Common.{◌≡◌, [], length, ap, arith}
use Rattle.std.proofs.lemmas.List.{length-map}
use Rattle.std.proofs.lemmas.Result.{IfOk-weaker}
use Rattle.fkp_pages.specs.declared.kind.PageKind.TheVariants.{Chpx}
use Rattle.run_lists.proofs.Public.{length-spread}
use Rattle.doc_model.specs.declared.item.Item.{Item}
use Rattle.full_save.specs.Runs.{text_runs}
use Rattle.full_save.proofs.runs.character_runs.Goals as goal

pub push_runs-requires : goal.push_runs-requires
push_runs-requires c =
    let room = c.requires in
    omega (
      arith,
      room,
      length-spread c.chps.result.now,
      ap length c.chps.ensures,
      length-map c.args.text.now (λ (item : Item). item.chp),
    )

pub returns : goal.returns
returns c =
    let base = c.args.base in
    let text = c.args.text.now in
    let len = c.len-len.ensures.len in
    IfOk-weaker c.finish.result _ (λ runs. runs ≡ text_runs Chpx base text)
    (λ runs all. all base text (omega (arith, len))
    (c.in_ok-push_runs.ensures base [] text (omega arith) c.chps.ensures c.new-runs.ensures))
    c.finish.ensures
