use Rattle.std.proofs.Common.{◌≡◌, sum, ap, sym, subst, List, ◌∙◌, arith}
use Rattle.fkp_pages.specs.declared.kind.PageKind.TheVariants.{Chpx, Papx}
use Rattle.fkp_pages.specs.declared.lists.Run.{Run}
use Rattle.fkp_pages.specs.Runs.{AreRuns}
use Rattle.cfb_layout.specs.Counts.{sectors_needed}
use Rattle.cfb_layout.specs.Layout.{lengths_of}
use Rattle.doc_model.specs.declared.document.Document.{Document}
use Rattle.full_save.specs.WordDocument.{table_stream, wd_stream}
use Rattle.full_save.specs.Streams.{saved_streams}
use Rattle.full_save.specs.Layout.{layout_streams}
use Rattle.full_save.proofs.TextLaidOut.{few_items, runs_are}
use Rattle.full_save.proofs.BodyLemmas.{length-units}
use Rattle.full_save.proofs.LayoutLemmas.{layout_are, total_short}
use Rattle.full_save.proofs.LengthLemmas.{runs_counted}
use Rattle.full_save.proofs.saving.sectors_with.Goals as goal

pub of-pages-requires-clause-characters : goal.of-pages-requires-clause-characters
of-pages-requires-clause-characters c =
    subst (λ (runs : List Run). AreRuns Chpx runs) (sym c.requires.text.characters)
    (runs_are Chpx c.args.document.now c.requires.formed c.requires.right).right

pub of-pages-requires-clause-paragraphs : goal.of-pages-requires-clause-paragraphs
of-pages-requires-clause-paragraphs c =
    subst (λ (runs : List Run). AreRuns Papx runs) (sym c.requires.text.paragraphs)
    (runs_are Papx c.args.document.now c.requires.formed c.requires.right).right

pub table_len_with-requires-clause-pages : goal.table_len_with-requires-clause-pages
table_len_with-requires-clause-pages c =
    c.of-pages.ensures ∙ runs_counted c.args.document.now c.args.text.now c.requires.text

pub wd_len-wd-requires-clause-pages : goal.wd_len-wd-requires-clause-pages
wd_len-wd-requires-clause-pages c =
    c.of-pages.ensures ∙ runs_counted c.args.document.now c.args.text.now c.requires.text

pub wd_len-wd-requires-clause-units : goal.wd_len-wd-requires-clause-units
wd_len-wd-requires-clause-units c =
    let few = few_items c.args.document.now c.requires.right in
    let units = length-units c.args.document.now c.args.text.now c.requires.text in
    let all = few.all in
    omega (arith, all, units)

pub sectors_needed-requires : goal.sectors_needed-requires
unfolding layout_streams
sectors_needed-requires c =
    let d = c.args.document.now in
    let formed = c.requires.formed in
    let right = c.requires.right in
    let are : c.in_ok-lengths.lengths.items ≡ lengths_of (layout_streams d) =
    c.in_ok-lengths.ensures (table_stream d) (wd_stream d) (sym c.in_ok-table.ensures) (sym c.wd_len-wd.ensures)
    ∙ ap (λ (x : Document). lengths_of (saved_streams (table_stream d) (wd_stream d) x.carried.streams))
    c.document.view_is in
    let total = total_short (layout_streams d) (layout_are d formed right).are in
    let same = ap sum (c.deref.ensures.value ∙ are) in
    omega arith

pub returns : goal.returns
unfolding layout_streams
returns c =
    let d = c.args.document.now in
    let are : c.in_ok-lengths.lengths.items ≡ lengths_of (layout_streams d) =
    c.in_ok-lengths.ensures (table_stream d) (wd_stream d) (sym c.in_ok-table.ensures) (sym c.wd_len-wd.ensures)
    ∙ ap (λ (x : Document). lengths_of (saved_streams (table_stream d) (wd_stream d) x.carried.streams))
    c.document.view_is in
    c.sectors_needed.ensures ∙ ap sectors_needed (c.deref.ensures.value ∙ are)
