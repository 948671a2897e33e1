use Rattle.std.proofs.Common.{◌≡◌, true, false, ap}
use Rattle.std.specs.Prelude.{codes}
use Rattle.std.specs.Str.{bytes_eq}
use Rattle.docbin_c.specs.Calls.{CallFiles, given_files}
use Rattle.doc_outer.specs.Held.{file_at}
use Rattle.docbin_c.proofs.GivenLemmas.{first_there, none_there, second_there, second_only}
use Rattle.docbin_c.proofs.given.GivenFiles.find.Goals as goal

pub returns-in-None : goal.returns-in-None
returns-in-None c =
    let same : bytes_eq c.args.name.now (codes "second") ≡ true = cc in
    let view = ap (λ (g : CallFiles). file_at (given_files g) c.args.name.now) c.self.view_is in
    let not_first = second_only c.args.name.now same in
    let there = second_there c.self.inside.first c.self.inside.second c.args.name.now same not_first in
    cc

pub returns-in-Some : goal.returns-in-Some
returns-in-Some c =
    let same : bytes_eq c.args.name.now (codes "second") ≡ true = cc in
    let view = ap (λ (g : CallFiles). file_at (given_files g) c.args.name.now) c.self.view_is in
    let not_first = second_only c.args.name.now same in
    let there = second_there c.self.inside.first c.self.inside.second c.args.name.now same not_first in
    cc

pub returns-then-eq-2 : goal.returns-then-eq-2
returns-then-eq-2 c =
    let other : bytes_eq c.args.name.now (codes "second") ≡ false = cc in
    let same : bytes_eq c.args.name.now (codes "first") ≡ true = cc in
    let view = ap (λ (g : CallFiles). file_at (given_files g) c.args.name.now) c.self.view_is in
    let there = first_there c.self.inside.first c.self.inside.second c.args.name.now same other in
    cc

pub returns : goal.returns
returns c =
    let other : bytes_eq c.args.name.now (codes "second") ≡ false = cc in
    let neither : bytes_eq c.args.name.now (codes "first") ≡ false = cc in
    let view = ap (λ (g : CallFiles). file_at (given_files g) c.args.name.now) c.self.view_is in
    let there = none_there c.self.inside.first c.self.inside.second c.args.name.now neither other in
    cc
