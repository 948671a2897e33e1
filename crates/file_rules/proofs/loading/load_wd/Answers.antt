use Rattle.std.proofs.Common.{◌≡◌, ◌∙◌, ap, inl, inr}
use Rattle.std.proofs.lemmas.Result.{MatchResult-weaker}
use Rattle.doc_bits.specs.declared.places.Where.TheVariants.{Wd}
use Rattle.doc_bits.specs.Rules.{rule, given, ◌then◌}
use Rattle.doc_bits.specs.Places.{rules_in}
use Rattle.doc_bits.proofs.Public.{hold_in, first_in}
use Rattle.fib_form.specs.FibRules.{fib_rules}
use Rattle.fib_form.specs.FibFields.{FibFields}
use Rattle.cfb_streams.specs.Names.{table_name}
use Rattle.cfb_streams.specs.Contents.{HasNamed, HasNoNamed}
use Rattle.file_rules.specs.FileRules.{HasNoStream, table_stream_name, table_rules}
use Rattle.file_rules.proofs.RefusalLemmas.{refused-next, refused-given, stream-missing, stream-there}
use Rattle.file_rules.proofs.TextLemmas.{is-text_of}
use Rattle.file_rules.proofs.loading.load_wd.Goals as goal

pub returns-in-Err : goal.returns-in-Err
returns-in-Err c =
    inl (first_in Wd (fib_rules c.args.wd.now) c.in-Err.fault.rule c.in-Err.fault.offset c.in-Err.ensures)

pub returns-in_default : goal.returns-in_default
returns-in_default c =
    let wd = c.args.wd.now in
    let contents = c.args.container.now in
    let name : c.table_name.result.now ≡ table_stream_name wd = c.table_name.ensures ∙ ap table_name
    (c.which_table.ensures.value ∙ ap (λ (f : FibFields). f.which_table) c.in-Ok.ensures.1) in
    let none : HasNoNamed contents.streams (table_stream_name wd) = rw name at c.in_default.ensures in
    inr (
      hold_in Wd (fib_rules wd) c.in-Ok.ensures.0,
      inl (stream-missing Wd contents (table_stream_name wd) 25 10
          none),
    )

pub returns : goal.returns
returns c =
    let wd = c.args.wd.now in
    let table = c.in-Some.table.now in
    let contents = c.args.container.now in
    let name : c.table_name.result.now ≡ table_stream_name wd = c.table_name.ensures ∙ ap table_name
    (c.which_table.ensures.value ∙ ap (λ (f : FibFields). f.which_table) c.in-Ok.ensures.1) in
    let named : HasNamed contents.streams (table_stream_name wd) table = rw name at c.in-Some.ensures in
    let fib = hold_in Wd (fib_rules wd) c.in-Ok.ensures.0 in
    let there = stream-there Wd contents (table_stream_name wd) table 25 10 named in
    let is = HasNamed contents.streams (table_stream_name wd) in
    let missing = rules_in Wd (rule 25 (HasNoStream contents (table_stream_name wd) 10)) in
    MatchResult-weaker c.load_table.result c.load_table.ensures
    (λ text h. ((fib, (there, (table, (named, h.0)))), is-text_of contents wd table text named h.1 h.2 h.3))
    (λ refusal h. refused-next (rules_in Wd (fib_rules wd)) (missing then given is (table_rules wd)) refusal fib
    (refused-next missing (given is (table_rules wd)) refusal there (refused-given is (table_rules wd) table
    refusal named h)))
