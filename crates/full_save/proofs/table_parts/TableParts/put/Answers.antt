use Rattle.std.proofs.Common.{◌≡◌, ◌++◌, length, ap, sym, ◌∙◌}
use Rattle.std.proofs.lemmas.List.{append-nil}
use Rattle.fib_form.specs.TableParts.{pair_number}
use Rattle.fib_form.specs.TableEntries.{entry}
use Rattle.full_save.specs.TableStream.{put_pair}
use Rattle.full_save.proofs.TableLemmas.{written_more}
use Rattle.full_save.proofs.table_parts.TableParts.put.Goals as goal

pub returns-clause-part : goal.returns-clause-part
returns-clause-part c = λ parts written.
    let bytes = c.args.bytes.now in
    let part = entry (pair_number c.args.part) bytes in
    let old = c.args.self.now in
    let at : length c.as_slice-at.result.now ≡ length old.bytes = ap length c.as_slice-at.ensures in
    written_more parts part old (record { bytes = c.push_all.new.self; pairs = c.put_pair.new.pairs })
    (c.in_ok-push_all.ensures.ok ∙ ap (λ xs. old.bytes ++ xs) (sym (append-nil bytes)))
    (c.put_pair.ensures ∙ ap (λ n. put_pair n part old.pairs) at) written
