use Rattle.std.proofs.Common.{◌≡◌, ◌++◌, length, ap, ◌∙◌}
use Rattle.std.proofs.lemmas.Result.{err_from_is_err_and}
use Rattle.std.proofs.lemmas.List.{append_assoc}
use Rattle.std.proofs.Math.Seq.{take-append_seam, take-length}
use Rattle.fib_form.specs.TableEntries.{TableEntry}
use Rattle.full_save.specs.TableStream.{put_pair}
use Rattle.full_save.proofs.TableLemmas.{written_more}
use Rattle.full_save.proofs.table_parts.TableParts.put_lists.Goals as goal

pub returns-clause-part : goal.returns-clause-part
returns-clause-part c = λ parts written.
    let lists = c.args.lists.now in
    let levels = c.args.levels.now in
    let part : TableEntry = record { number = 73; bytes = lists; behind = levels } in
    let old = c.args.self.now in
    let at : length c.as_slice-at.result.now ≡ length old.bytes = ap length c.as_slice-at.ensures in
    written_more parts part old (record { bytes = c.push_all-2.new.self; pairs = c.put_pair.new.pairs })
    (c.in_ok-push_all-2.ensures.ok
    ∙ (ap (λ xs. xs ++ levels) c.in_ok-push_all.ensures.ok ∙ append_assoc old.bytes lists levels))
    (c.put_pair.ensures ∙ ap (λ n. put_pair n part old.pairs) at) written

pub returns-in_err-push_all-clause-front : goal.returns-in_err-push_all-clause-front
returns-in_err-push_all-clause-front c =
    let p = err_from_is_err_and c.from_residual.result c.from_residual.ensures.1 in
    rw (p.1, c.in_err-push_all.ensures.err) (take-length c.args.self.now.bytes)

pub returns-in_err-push_all-2-clause-front : goal.returns-in_err-push_all-2-clause-front
returns-in_err-push_all-2-clause-front c =
    let p = err_from_is_err_and c.from_residual-in_err-push_all-2.result c.from_residual-in_err-push_all-2.ensures.1 in
    rw (p.1, c.in_err-push_all-2.ensures.err ∙ c.in_ok-push_all.ensures.ok) (take-append_seam c.args.self.now.bytes _)
