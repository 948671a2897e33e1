use Rattle.std.proofs.Common.{◌≡◌, ◌∙◌, ap, inl, inr}
use Rattle.std.proofs.lemmas.Result.{MatchResult-weaker}
use Rattle.doc_bits.specs.declared.places.Where.TheVariants.{Wd}
use Rattle.doc_bits.specs.Rules.{rule, given, ◌then◌}
use Rattle.doc_bits.specs.Places.{rules_in}
use Rattle.doc_bits.proofs.Public.{hold_in, first_in}
use Rattle.fib_form.specs.Fib.{fib_which_table}
use Rattle.fib_versions.specs.VersionRules.{version_rules}
use Rattle.cfb_streams.specs.Names.{table_name}
use Rattle.cfb_streams.specs.Contents.{HasNamed, HasNoNamed}
use Rattle.file_rules.specs.FileRules.{HasNoStream, table_stream_name}
use Rattle.file_rules.proofs.Public.{refused-next, refused-given, stream-missing, stream-there}
use Rattle.doc_lift.specs.LiftedRules.{lifted_table_rules, lifted_wd_rules}
use Rattle.doc_lift.proofs.LiftLemmas.{lifted_under}
use Rattle.doc_lift.proofs.lifting.lift_wd.Goals as goal

pub returns-in-Err : goal.returns-in-Err
returns-in-Err c =
    inl (first_in Wd (version_rules c.args.wd.now) c.in-Err.fault.rule c.in-Err.fault.offset c.in-Err.ensures)

pub returns-in_default : goal.returns-in_default
returns-in_default c =
    let wd = c.args.wd.now in
    let contents = c.args.container.now in
    let name : c.table_name.result.now ≡ table_stream_name wd = c.table_name.ensures ∙ ap table_name
    (c.which_table.ensures.value ∙ ap fib_which_table c.in-Ok.ensures.0) in
    let none : HasNoNamed contents.streams (table_stream_name wd) = rw name at c.in_default.ensures in
    inr (
      hold_in Wd (version_rules wd) c.in-Ok.ensures.1,
      inl (stream-missing Wd contents (table_stream_name wd) 25 10
          none),
    )

pub lift_text-requires-clause-same : goal.lift_text-requires-clause-same
lift_text-requires-clause-same c = c.in-Ok.ensures.0

pub lift_text-requires-clause-named : goal.lift_text-requires-clause-named
lift_text-requires-clause-named c =
    let name : c.table_name.result.now ≡ table_stream_name c.args.wd.now = c.table_name.ensures ∙ ap table_name
    (c.which_table.ensures.value ∙ ap fib_which_table c.in-Ok.ensures.0) in
    rw name at c.in-Some.ensures

pub returns : goal.returns
returns c =
    let wd = c.args.wd.now in
    let table = c.in-Some.table.now in
    let contents = c.args.container.now in
    let name : c.table_name.result.now ≡ table_stream_name wd = c.table_name.ensures ∙ ap table_name
    (c.which_table.ensures.value ∙ ap fib_which_table c.in-Ok.ensures.0) in
    let named : HasNamed contents.streams (table_stream_name wd) table = rw name at c.in-Some.ensures in
    let fib = hold_in Wd (version_rules wd) c.in-Ok.ensures.1 in
    let there = stream-there Wd contents (table_stream_name wd) table 25 10 named in
    let is = HasNamed contents.streams (table_stream_name wd) in
    let missing = rules_in Wd (rule 25 (HasNoStream contents (table_stream_name wd) 10)) in
    MatchResult-weaker c.lift_text.result c.lift_text.ensures
    (λ lifted h. lifted_under (lifted_wd_rules contents wd) (lifted_table_rules wd table) contents lifted
    (fib, (there, (table, (named, h.hold)))) h)
    (λ refusal h. refused-next (rules_in Wd (version_rules wd)) (missing then given is (lifted_table_rules wd)) refusal
    fib
    (refused-next missing (given is (lifted_table_rules wd)) refusal there
    (refused-given is (lifted_table_rules wd) table refusal named h)))
