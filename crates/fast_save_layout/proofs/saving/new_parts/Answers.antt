use Rattle.std.proofs.Common.{◌∙◌, ◌+◌, List, ℕ, length, sym, ap, subst, arith}
use Rattle.cfb_layout.specs.Sectors.{filled}
use Rattle.fib_form.specs.FibBytes.{written_fib}
use Rattle.fib_form.specs.FibFields.{AreFibCcps, ArePairs}
use Rattle.full_save.specs.declared.table_text.TableText.{TableText}
use Rattle.full_save.specs.TableText.{table_entries}
use Rattle.full_save.specs.TableStream.{entries_bytes, entries_pairs}
use Rattle.full_save.proofs.Public.{entries_are_pairs, table_allowed, fit_parts, few_items}
use Rattle.fast_save_layout.specs.Saves.{FastSave, fast_save_of}
use Rattle.fast_save_layout.specs.Appended.{old_wd, least_beside, fast_text, fast_entries, fast_table}
use Rattle.fast_save_layout.proofs.FilledTable.{parts_within}
use Rattle.fast_save_layout.proofs.ReadyLemmas.{ready, is_valid}
use Rattle.fast_save_layout.proofs.WrittenLemmas.{counts_by}
use Rattle.fast_save_layout.proofs.AppendSteps.{added_short, fib_made}
use Rattle.fast_save_layout.proofs.saving.new_parts.Goals as goal

pub write_table-requires-clause-sheet : goal.write_table-requires-clause-sheet
write_table-requires-clause-sheet c =
    let save : FastSave = fast_save_of c.args.old.now c.args.document.now c.args.text.now in
    let body = c.in_ok-body.ensures in
    let r = ready save c.requires c.columns_are_formed.ensures body.items in
    (is_valid r).writable

pub write_table-requires-clause-notes : goal.write_table-requires-clause-notes
write_table-requires-clause-notes c =
    let save : FastSave = fast_save_of c.args.old.now c.args.document.now c.args.text.now in
    let body = c.in_ok-body.ensures in
    let r = ready save c.requires c.columns_are_formed.ensures body.items in
    let few = few_items save.document (is_valid r) in
    let n = few.notes in
    omega (arith, n)

pub write_table-requires-clause-heads : goal.write_table-requires-clause-heads
write_table-requires-clause-heads c =
    let save : FastSave = fast_save_of c.args.old.now c.args.document.now c.args.text.now in
    let body = c.in_ok-body.ensures in
    let r = ready save c.requires c.columns_are_formed.ensures body.items in
    let few = few_items save.document (is_valid r) in
    let n = few.heads in
    omega (arith, n)

pub write_table-requires-clause-marks : goal.write_table-requires-clause-marks
write_table-requires-clause-marks c =
    let save : FastSave = fast_save_of c.args.old.now c.args.document.now c.args.text.now in
    let body = c.in_ok-body.ensures in
    let r = ready save c.requires c.columns_are_formed.ensures body.items in
    fit_parts save.document (is_valid r)

pub write_table-requires-clause-small : goal.write_table-requires-clause-small
write_table-requires-clause-small c =
    let save : FastSave = fast_save_of c.args.old.now c.args.document.now c.args.text.now in
    let body = c.in_ok-body.ensures in
    let r = ready save c.requires c.columns_are_formed.ensures body.items in
    let clx = c.in_ok-body.body.text.clx in
    let same = ap (λ (t : TableText). length (entries_bytes (table_entries save.document t))) body.text in
    let small = r.can.table clx body.printed in
    omega (arith, same, small, parts_within save clx)

pub overflow_cast-cb_mac : goal.overflow_cast-cb_mac
overflow_cast-cb_mac c =
    let save : FastSave = fast_save_of c.args.old.now c.args.document.now c.args.text.now in
    let body = c.in_ok-body.ensures in
    let r = ready save c.requires c.columns_are_formed.ensures body.items in
    let len = ap length (c.as_slice.ensures ∙ body.bytes) in
    let short = added_short r in
    omega (arith, len, short)

pub overflow_add-cb_mac : goal.overflow_add-cb_mac
overflow_add-cb_mac c =
    let save : FastSave = fast_save_of c.args.old.now c.args.document.now c.args.text.now in
    let body = c.in_ok-body.ensures in
    let r = ready save c.requires c.columns_are_formed.ensures body.items in
    let len = ap length (c.as_slice.ensures ∙ body.bytes) in
    let short = added_short r in
    omega (arith, len, short)

pub next_fib-requires-clause-counts : goal.next_fib-requires-clause-counts
next_fib-requires-clause-counts c =
    let save : FastSave = fast_save_of c.args.old.now c.args.document.now c.args.text.now in
    let body = c.in_ok-body.ensures in
    let r = ready save c.requires c.columns_are_formed.ensures body.items in
    subst AreFibCcps (sym (ap (λ (t : TableText). t.counts) body.text)) (counts_by r)

pub next_fib-requires-clause-pairs : goal.next_fib-requires-clause-pairs
next_fib-requires-clause-pairs c =
    let save : FastSave = fast_save_of c.args.old.now c.args.document.now c.args.text.now in
    let body = c.in_ok-body.ensures in
    let clx = c.in_ok-body.body.text.clx in
    let pairs = c.in_ok-made.ensures.pairs_are
    ∙ ap (λ (t : TableText). entries_pairs (table_entries save.document t)) body.text in
    subst ArePairs (sym pairs)
    (entries_are_pairs (fast_entries save clx) (table_allowed save.document (fast_text save clx)))

pub returns : goal.returns
unfolding fast_table
returns c =
    let save : FastSave = fast_save_of c.args.old.now c.args.document.now c.args.text.now in
    let body = c.in_ok-body.ensures in
    let clx = c.in_ok-body.body.text.clx in
    let mac = ap (λ (b : List ℕ). save.base + length b) (c.as_slice.ensures ∙ body.bytes) in
    let pairs = c.in_ok-made.ensures.pairs_are
    ∙ ap (λ (t : TableText). entries_pairs (table_entries save.document t)) body.text in
    let fib = fib_made save clx c.in_ok-next.next _ _ _ c.in_ok-next.ensures.1 mac
    (ap (λ (t : TableText). t.counts) body.text) pairs in
    let table = c.in_ok-made.ensures.bytes_are
    ∙ ap (λ (t : TableText). entries_bytes (table_entries save.document t)) body.text in
    record {
      formed = c.columns_are_formed.ensures;
      items = body.items;
      clx = clx;
      printed = body.printed;
      few_saves = c.in_ok-next.ensures.0;
      fib = c.in_ok-fib.ensures.bytes ∙ ap written_fib fib;
      added = body.bytes;
      table = c.in_ok-table.ensures ∙ ap (filled (least_beside (length (old_wd save))) 0) table;
    }
