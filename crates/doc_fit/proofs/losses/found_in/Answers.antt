use Rattle.std.proofs.Common.{◌≡◌, ◌≤◌, ◌∙◌, ◌++◌, ap, sym, subst, arith, ℕ, List, map, length}
use Rattle.doc_bits.specs.Rules.{Hold}
use Rattle.cfb_streams.specs.Contents.{HasNamed}
use Rattle.cfb_streams.specs.Names.{wd_name}
use Rattle.fib_versions.specs.VersionRules.{version_rules}
use Rattle.fib_versions.proofs.Public.{long_enough}
use Rattle.file_rules.specs.FileRules.{table_stream_name}
use Rattle.file_rules.proofs.Public.{named_one}
use Rattle.loss_report.specs.Losses.{losses}
use Rattle.loss_report.specs.Lines.{feature_line}
use Rattle.text_losses.specs.Lines.{feature_line as line_of_feature}
use Rattle.text_losses.specs.declared.features.TextFeature.{TextFeature}
use Rattle.doc_losses.specs.Marks.{AreFileMarks}
use Rattle.doc_fit.specs.Losses.{AreLossLines, other_losses}
use Rattle.doc_fit.proofs.LossLemmas.{lines_joined}
use Rattle.doc_fit.proofs.losses.found_in.Goals as goal

pub main_stream-wd-requires : goal.main_stream-wd-requires
main_stream-wd-requires c = record { wd = c.requires.wd; named = c.requires.named }

pub fib_of-fib-requires : goal.fib_of-fib-requires
fib_of-fib-requires c =
    let streams = c.requires in
    subst (λ (w : List ℕ). Hold (version_rules w))
    (named_one streams.file c.args.lifted.now.outer.container wd_name streams.wd c.main_stream-wd.result.now
    streams.has_contents streams.named c.main_stream-wd.ensures) streams.fib

pub table_stream-table-requires : goal.table_stream-table-requires
table_stream-table-requires c =
    let streams = c.requires in
    let contents = c.args.lifted.now.outer.container in
    let wd = named_one streams.file contents wd_name streams.wd c.main_stream-wd.result.now streams.has_contents
    streams.named c.main_stream-wd.ensures in
    let same : streams.wd ≡ c.fib_of-fib.result = wd ∙ sym c.fib_of-fib.ensures in
    record {
      table = streams.table;
      named = subst (λ (w : List ℕ). HasNamed contents.streams (table_stream_name w) streams.table) same
          streams.named_table;
    }

pub text_losses_of-requires-clause-version : goal.text_losses_of-requires-clause-version
text_losses_of-requires-clause-version c =
    let streams = c.requires in
    subst (λ (w : List ℕ). Hold (version_rules w))
    (named_one streams.file c.args.lifted.now.outer.container wd_name streams.wd c.main_stream-wd.result.now
    streams.has_contents streams.named c.main_stream-wd.ensures) streams.fib

pub story_begins-requires : goal.story_begins-requires
story_begins-requires c =
    let streams = c.requires in
    let wd = named_one streams.file c.args.lifted.now.outer.container wd_name streams.wd c.main_stream-wd.result.now
    streams.has_contents streams.named c.main_stream-wd.ensures in
    let long : 900 ≤ length c.main_stream-wd.result.now = subst (λ (w : List ℕ). 900 ≤ length w) wd
    (long_enough streams.wd streams.fib) in
    omega (arith, long)

pub returns : goal.returns
returns c =
    let lifted = c.args.lifted.now in
    let contents = lifted.outer.container in
    let wd = c.main_stream-wd.result.now in
    let table = c.table_stream-table.result.now in
    let fib = c.fib_of-fib.ensures in
    let told = λ (w units : List ℕ).
    map feature_line (losses (record { outer = lifted.outer; wd = w; units = units })) in
    let lists = c.deref-2.result.now in
    let texts = c.deref-3.result.now in
    let front = told wd lifted.units.items in
    let found : texts ≡ other_losses wd table =
    c.deref-3.ensures.value
    ∙ (c.in_ok-others.ensures ∙ ap (λ (w : List ℕ). other_losses w table) fib) in
    let lines : AreLossLines lifted c.add_features-2.new.lines = record {
      wd = wd;
      named = c.main_stream-wd.ensures;
      table = table;
      named_table = subst (λ (w : List ℕ). HasNamed contents.streams (table_stream_name w) table) fib
          c.table_stream-table.ensures;
      texts = c.in_ok-lists.lists.items;
      texts_are = c.in_ok-lists.ensures;
      are = c.in_ok-add_features-2.ensures
          ∙ (ap (λ (l : List (List ℕ)). l ++ map line_of_feature texts)
          (c.in_ok-add_features.ensures
          ∙ (ap (λ (l : List (List ℕ)). l ++ map line_of_feature lists)
          (c.in_ok-losses.ensures
          ∙ (ap (λ (w : List ℕ). told w c.deref.result.now) fib
          ∙ ap (λ (u : List ℕ). told wd u) c.deref.ensures.value))
          ∙ ap (λ (t : List TextFeature). front ++ map line_of_feature t) c.deref-2.ensures.value))
          ∙ (ap (λ (t : List TextFeature). (front ++ map line_of_feature c.in_ok-lists.lists.items) ++ map line_of_feature t)
          found ∙ lines_joined front c.in_ok-lists.lists.items (other_losses wd table)));
    } in
    record {
      losses = lines;
      marks = subst (λ (w : List ℕ). AreFileMarks w table c.in_ok-marks.marks) fib c.in_ok-marks.ensures;
      begins = c.story_begins.ensures;
    }
