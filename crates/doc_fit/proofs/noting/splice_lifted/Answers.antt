use Rattle.std.proofs.Common.{◌≡◌, ◌∙◌, ◌<◌, ◌^◌, ap, sym, subst, ℕ, List, length, Option}
use Rattle.std.specs.Prelude.{MatchOption}
use Rattle.std.proofs.lemmas.Result.{IfOk-weaker}
use Rattle.doc_bits.specs.Rules.{Hold}
use Rattle.cfb_streams.specs.Contents.{HasNamed}
use Rattle.cfb_streams.specs.Names.{wd_name}
use Rattle.fib_versions.specs.VersionRules.{version_rules}
use Rattle.file_rules.specs.FileRules.{table_stream_name}
use Rattle.file_rules.proofs.Public.{streams-small, named_one}
use Rattle.further_notes.specs.declared.splicing.Spliced.{Spliced}
use Rattle.further_notes.specs.Noted.{IsSpliced, HasNoSplice}
use Rattle.doc_fit.specs.Noted.{HasTwoStreams, HasNoSpliceOf, IsSplicedOf}
use Rattle.doc_fit.proofs.NotedLemmas.{spliced_of}
use Rattle.doc_fit.proofs.noting.splice_lifted.Goals as goal

pub fib_of-fib-requires : goal.fib_of-fib-requires
fib_of-fib-requires c =
    let streams = c.requires.streams in
    subst (λ (w : List ℕ). Hold (version_rules w))
    (named_one streams.file c.args.lifted.now.outer.container wd_name streams.wd c.main_stream-wd.result.now
    streams.has_contents streams.named c.main_stream-wd.ensures) streams.fib

pub table_stream-table-requires : goal.table_stream-table-requires
table_stream-table-requires c =
    let streams = c.requires.streams in
    let contents = c.args.lifted.now.outer.container in
    let wd = named_one streams.file contents wd_name streams.wd c.main_stream-wd.result.now streams.has_contents
    streams.named c.main_stream-wd.ensures in
    let same : streams.wd ≡ c.fib_of-fib.result = wd ∙ sym c.fib_of-fib.ensures in
    record {
      table = streams.table;
      named = subst (λ (w : List ℕ). HasNamed contents.streams (table_stream_name w) streams.table) same
          streams.named_table;
    }

pub with_further_notes-requires-clause-version : goal.with_further_notes-requires-clause-version
with_further_notes-requires-clause-version c =
    let streams = c.requires.streams in
    subst (λ (w : List ℕ). Hold (version_rules w))
    (named_one streams.file c.args.lifted.now.outer.container wd_name streams.wd c.main_stream-wd.result.now
    streams.has_contents streams.named c.main_stream-wd.ensures) streams.fib

pub with_further_notes-requires-clause-small : goal.with_further_notes-requires-clause-small
with_further_notes-requires-clause-small c =
    let streams = c.requires.streams in
    let named = c.main_stream-wd.ensures in
    subst (λ (b : List ℕ). length b < 2 ^ 32) (sym named.same)
    (streams-small streams.file c.args.lifted.now.outer.container c.requires.bytes streams.has_contents named.index
    named.stream named.here)

pub returns : goal.returns
returns c =
    let lifted = c.args.lifted.now in
    let stories = c.args.stories in
    let wd = c.main_stream-wd.result.now in
    let table = c.table_stream-table.result.now in
    let two : HasTwoStreams lifted = record {
      wd = wd;
      named = c.main_stream-wd.ensures;
      table = table;
      named_table = subst (λ (w : List ℕ). HasNamed lifted.outer.container.streams (table_stream_name w) table)
          c.fib_of-fib.ensures c.table_stream-table.ensures;
    } in
    IfOk-weaker c.with_further_notes.result
    (λ (found : Option Spliced). MatchOption found (HasNoSplice stories wd table lifted.document)
    (λ spliced. IsSpliced stories wd table lifted.document spliced.document spliced.made.items))
    (λ (found : Option Spliced). MatchOption found (HasNoSpliceOf stories lifted) (IsSplicedOf stories lifted))
    (λ found is. spliced_of stories lifted two found is) c.with_further_notes.ensures
