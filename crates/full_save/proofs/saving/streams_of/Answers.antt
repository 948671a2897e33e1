use Rattle.std.proofs.Common.{◌≡◌, ap, sym, subst, List, length, ◌∙◌, arith}
use Rattle.std.specs.Prelude.{IfOk}
use Rattle.doc_model.specs.declared.document.Document.{Document}
use Rattle.cfb_streams.specs.Contents.{NamedBytes, AreStreams}
use Rattle.full_save.specs.declared.table_text.TableText.{TableText}
use Rattle.full_save.specs.TableText.{table_entries}
use Rattle.full_save.specs.TableStream.{entries_bytes, entries_pairs}
use Rattle.full_save.specs.WordDocument.{table_stream, wd_stream, full_fib}
use Rattle.full_save.specs.Streams.{saved_streams}
use Rattle.full_save.specs.Layout.{layout_streams}
use Rattle.full_save.proofs.TextLaidOut.{few_items}
use Rattle.full_save.proofs.LayoutLemmas.{layout_are, fits_short, wd_of}
use Rattle.full_save.proofs.MarkLengths.{fit_parts}
use Rattle.full_save.proofs.saving.streams_of.Goals as goal

pub write_table-requires-clause-notes : goal.write_table-requires-clause-notes
write_table-requires-clause-notes c =
    let d = c.args.document.now in
    let formed = c.requires.formed in
    let right = c.requires.right in
    let few = few_items d right in
    let n = few.notes in
    omega arith

pub write_table-requires-clause-heads : goal.write_table-requires-clause-heads
write_table-requires-clause-heads c =
    let d = c.args.document.now in
    let formed = c.requires.formed in
    let right = c.requires.right in
    let few = few_items d right in
    let n = few.heads in
    omega arith

pub write_table-requires-clause-marks : goal.write_table-requires-clause-marks
write_table-requires-clause-marks c =
    fit_parts c.args.document.now c.requires.right

pub write_table-requires-clause-small : goal.write_table-requires-clause-small
unfolding table_stream
write_table-requires-clause-small c =
    let d = c.args.document.now in
    let formed = c.requires.formed in
    let right = c.requires.right in
    let table = ap (λ (t : TableText). length (entries_bytes (table_entries d t))) c.requires.body.text in
    let short = fits_short d formed right c.requires.fits in
    omega (arith, short, table)

pub fib_of-fib-requires-clause-pairs : goal.fib_of-fib-requires-clause-pairs
unfolding full_fib
fib_of-fib-requires-clause-pairs c =
    let d = c.args.document.now in
    let formed = c.requires.formed in
    let right = c.requires.right in
    c.in_ok-table.ensures.pairs_are ∙ ap (λ (t : TableText). entries_pairs (table_entries d t)) c.requires.body.text

pub streams_with-requires : goal.streams_with-requires
unfolding table_stream wd_stream layout_streams
streams_with-requires c =
    let d = c.args.document.now in
    let formed = c.requires.formed in
    let right = c.requires.right in
    let table : c.as_slice.result.now ≡ table_stream d =
    c.as_slice.ensures
    ∙ (c.in_ok-table.ensures.bytes_are ∙ ap (λ (t : TableText). entries_bytes (table_entries d t))
    c.requires.body.text) in
    let wd : c.as_slice-2.result.now ≡ wd_stream d =
    c.as_slice-2.ensures
    ∙ (c.in_ok-wd.ensures ∙ (λ i. wd_of (c.fib_of-fib.ensures i) (c.requires.body.bytes i))) in
    let carried = ap (λ (x : Document). x.carried) c.document.view_is in
    let saved : saved_streams c.as_slice.result.now c.as_slice-2.result.now c.document.inside.carried.streams
    ≡ layout_streams d =
    (λ i. saved_streams (table i) (wd i) (carried i).streams) in
    subst AreStreams (sym saved) (layout_are d formed right).are

pub returns : goal.returns
unfolding table_stream wd_stream layout_streams
returns c =
    let d = c.args.document.now in
    let table : c.as_slice.result.now ≡ table_stream d =
    c.as_slice.ensures
    ∙ (c.in_ok-table.ensures.bytes_are ∙ ap (λ (t : TableText). entries_bytes (table_entries d t))
    c.requires.body.text) in
    let wd : c.as_slice-2.result.now ≡ wd_stream d =
    c.as_slice-2.ensures
    ∙ (c.in_ok-wd.ensures ∙ (λ i. wd_of (c.fib_of-fib.ensures i) (c.requires.body.bytes i))) in
    let carried = ap (λ (x : Document). x.carried) c.document.view_is in
    let saved : saved_streams c.as_slice.result.now c.as_slice-2.result.now c.document.inside.carried.streams
    ≡ layout_streams d =
    (λ i. saved_streams (table i) (wd i) (carried i).streams) in
    subst (λ (all : List NamedBytes). IfOk c.streams_with.result (λ streams. streams ≡ all)) saved
    c.streams_with.ensures
