-- The document of the table stream that is read is that of the table stream.
use Rattle.std.proofs.Common.{◌<◌, ◌^◌, sym, subst, length, List, ℕ}
use Rattle.std.proofs.lemmas.Result.{MatchResult-weaker}
use Rattle.fib_form.specs.FibFields.{FibFields}
use Rattle.fib_versions.specs.Early.{early_pairs}
use Rattle.cfb_streams.specs.Names.{wd_name}
use Rattle.file_rules.specs.FileRules.{table_stream_name}
use Rattle.file_rules.proofs.Public.{refused-given}
use Rattle.doc_meaning.specs.Apart.{IsReadTable, ReadsClx}
use Rattle.doc_lift.specs.LiftedRules.{lifted_table_rules, read_table_rules}
use Rattle.doc_lift.proofs.LiftLemmas.{stream_small, early_same, lifted_under}
use Rattle.doc_lift.proofs.text_lifting.lift_text.Goals as goal

pub early_fib-early-requires : goal.early_fib-early-requires
early_fib-early-requires c =
    subst (λ (w : List ℕ). length w < 2 ^ 32) (sym c.requires.same)
    (stream_small c.args.container.now wd_name c.args.wd.now c.requires.bounds c.requires.there)

pub clx_skipped-requires : goal.clx_skipped-requires
clx_skipped-requires c =
    stream_small c.args.container.now (table_stream_name c.args.wd.now) c.args.table.now c.requires.bounds
    c.requires.named

pub lift_read-requires-clause-reads : goal.lift_read-requires-clause-reads
lift_read-requires-clause-reads c =
    let wd = c.args.wd.now in
    let table = c.args.table.now in
    let early_is = early_same wd c.args.fib.now c.early_fib-early.result c.requires.same c.early_fib-early.ensures in
    let clx : ReadsClx (early_pairs wd) table c.in_ok-read.read.items =
    subst (λ (f : FibFields). ReadsClx f.pairs table c.in_ok-read.read.items) early_is c.in_ok-read.ensures in
    subst (IsReadTable c.args.container.now wd) (sym c.deref.ensures.value) (record {
      has_wd = c.requires.there;
      own = table;
      has_table = c.requires.named;
      clx = clx;
    })

pub returns : goal.returns
returns c =
    let wd = c.args.wd.now in
    let table = c.args.table.now in
    let contents = c.args.container.now in
    let read = c.deref.result.now in
    let early_is = early_same wd c.args.fib.now c.early_fib-early.result c.requires.same c.early_fib-early.ensures in
    let copied : ReadsClx (early_pairs wd) table c.in_ok-read.read.items =
    subst (λ (f : FibFields). ReadsClx f.pairs table c.in_ok-read.read.items) early_is c.in_ok-read.ensures in
    let clx : ReadsClx (early_pairs wd) table read =
    subst (ReadsClx (early_pairs wd) table) (sym c.deref.ensures.value) copied in
    MatchResult-weaker c.lift_read.result c.lift_read.ensures
    (λ lifted h. lifted_under (lifted_table_rules wd table) (read_table_rules wd read) contents lifted
    (read, (clx, h.hold)) h)
    (λ refusal h. refused-given (ReadsClx (early_pairs wd) table) (read_table_rules wd) read refusal clx h)
