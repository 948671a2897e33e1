use Rattle.std.proofs.Common.{◌++◌, sym, ap, ◌∙◌}
use Rattle.fkp_pages.specs.Fkp.{spelled_list}
use Rattle.fkp_pages.proofs.WrittenLemmas.{written-bare, written-listed, run_list_within}
use Rattle.fkp_pages.proofs.written.write_run.Goals as goal

pub returns-then-is_bare : goal.returns-then-is_bare
returns-then-is_bare c = c.new-bytes.ensures ∙ sym (written-bare c.args.kind c.args.run.now (sym c.is_bare.ensures ∙
    c.if-is_bare.true))

pub push_list-requires : goal.push_list-requires
push_list-requires c = rw (c.as_slice.ensures ∙ c.in_ok-list.ensures) (run_list_within c.args.kind c.args.run.now
    c.requires)

pub returns : goal.returns
returns c =
    let list = c.as_slice.ensures ∙ c.in_ok-list.ensures in
    let all = written-listed c.args.kind c.args.run.now (sym c.is_bare.ensures ∙ c.if-is_bare.false) in
    let start = c.new-bytes.ensures in
    c.in_ok-push_list.ensures ∙ (ap (λ l. l ++ spelled_list c.args.kind c.as_slice.result.now) start ∙
    (ap (spelled_list c.args.kind) list ∙ sym all))
