use Rattle.doc_model.specs.declared.document.Document.{Document}
use Rattle.std.proofs.Common.{◌+◌, List, ℕ, false, length, ap, sym, subst, ◌∙◌, arith}
use Rattle.fib_form.specs.declared.form.Form.TheVariants.{Early}
use Rattle.fib_form.specs.FibFields.{AreFibCcps, ArePairs}
use Rattle.full_save.specs.declared.table_text.TableText.{TableText}
use Rattle.full_save.specs.WordDocument.{text_offset, full_fib, full_entries}
use Rattle.full_save.proofs.EntriesFound.{entries_are_pairs}
use Rattle.full_save.proofs.TextLaidOut.{counts_are}
use Rattle.full_save.proofs.StreamLengths.{short_body}
use Rattle.full_save.proofs.LaidOut.{allowed}
use Rattle.full_save.proofs.saving.fib_of.Goals as goal

pub cb_mac-requires : goal.cb_mac-requires
cb_mac-requires c =
    let short = short_body c.args.document.now c.requires.formed c.requires.right in
    let same = ap length c.requires.body.bytes in
    omega arith

pub made-requires-clause-counts : goal.made-requires-clause-counts
made-requires-clause-counts c =
    subst AreFibCcps (sym (ap (λ (t : TableText). t.counts) c.requires.body.text))
    (counts_are c.args.document.now c.requires.right)

pub made-requires-clause-pairs : goal.made-requires-clause-pairs
unfolding full_fib
made-requires-clause-pairs c =
    subst ArePairs (sym c.requires.pairs)
    (entries_are_pairs (full_entries c.args.document.now) (allowed c.args.document.now))

pub returns : goal.returns
unfolding full_fib
returns c =
    let mac = c.cb_mac.ensures ∙ ap (λ (bytes : List ℕ). text_offset + length bytes) c.requires.body.bytes in
    let counts = ap (λ (t : TableText). t.counts) c.requires.body.text in
    let carried = ap (λ (x : Document). x.carried) c.document.view_is in
    c.made.ensures ∙ (λ i. record {
      form = Early;
      kept = record { lid = (carried i).lid; lid_fe = (carried i).lid_fe; flags = (carried i).flags };
      quick_saves = 0;
      complex = false;
      which_table = 1;
      cb_mac = mac i;
      ccps = counts i;
      pairs = c.requires.pairs i;
    })
