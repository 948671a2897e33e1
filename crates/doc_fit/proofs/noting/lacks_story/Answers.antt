use Rattle.std.proofs.Common.{◌≡◌, ◌∙◌, ap, sym, subst, ℕ, List}
use Rattle.doc_bits.specs.Rules.{Hold}
use Rattle.cfb_streams.specs.Contents.{HasNamed}
use Rattle.cfb_streams.specs.Names.{wd_name}
use Rattle.fib_versions.specs.VersionRules.{version_rules}
use Rattle.file_rules.specs.FileRules.{table_stream_name}
use Rattle.file_rules.proofs.Public.{named_one}
use Rattle.doc_fit.specs.Noted.{lacks_some}
use Rattle.doc_fit.proofs.noting.lacks_story.Goals as goal

pub fib_of-fib-requires : goal.fib_of-fib-requires
fib_of-fib-requires c =
    let streams = c.requires in
    subst (λ (w : List ℕ). Hold (version_rules w))
    (named_one streams.file c.args.lifted.now.outer.container wd_name streams.wd c.main_stream.result.now
    streams.has_contents streams.named c.main_stream.ensures) streams.fib

pub returns : goal.returns
returns c =
    let streams = c.requires in
    let contents = c.args.lifted.now.outer.container in
    let wd = c.main_stream.result.now in
    let same : streams.wd ≡ wd =
    named_one streams.file contents wd_name streams.wd wd streams.has_contents streams.named c.main_stream.ensures in
    λ on. record {
      streams = record {
        wd = wd;
        named = c.main_stream.ensures;
        table = streams.table;
        named_table = subst (λ (w : List ℕ). HasNamed contents.streams (table_stream_name w) streams.table) same
            streams.named_table;
      };
      lacks = sym (c.lacks_some.ensures ∙ ap (lacks_some c.args.stories) c.fib_of-fib.ensures) ∙ on;
    }
