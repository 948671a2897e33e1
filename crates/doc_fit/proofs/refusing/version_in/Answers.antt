use Rattle.std.proofs.Common.{◌≤◌, ℕ, List, length, subst, arith}
use Rattle.cfb_streams.specs.Names.{wd_name}
use Rattle.file_rules.proofs.Public.{named_one}
use Rattle.doc_fit.proofs.refusing.version_in.Goals as goal

pub main_stream-wd-requires : goal.main_stream-wd-requires
main_stream-wd-requires c = record { wd = c.requires.wd; named = c.requires.named }

pub get16-requires : goal.get16-requires
get16-requires c =
    let one = c.requires in
    let same = named_one one.file c.args.outer.now.container wd_name one.wd c.main_stream-wd.result.now one.has
    one.named c.main_stream-wd.ensures in
    let long = subst (λ (w : List ℕ). 4 ≤ length w) same one.long in
    omega (arith, long)

pub get16-requires-2 : goal.get16-requires-2
get16-requires-2 c =
    let one = c.requires in
    let same = named_one one.file c.args.outer.now.container wd_name one.wd c.main_stream-wd.result.now one.has
    one.named c.main_stream-wd.ensures in
    let long = subst (λ (w : List ℕ). 4 ≤ length w) same one.long in
    omega (arith, long)

pub returns : goal.returns
returns c =
    let one = c.requires in
    let same = named_one one.file c.args.outer.now.container wd_name one.wd c.main_stream-wd.result.now one.has
    one.named c.main_stream-wd.ensures in
    record {
      wd = c.main_stream-wd.result.now;
      named = c.main_stream-wd.ensures;
      long = subst (λ (w : List ℕ). 4 ≤ length w) same one.long;
      ident = c.get16.ensures;
      version = c.get16-2.ensures;
    }
