-- The bytes of a path, one by one.
use Rattle.std.proofs.Common.{◌+◌, ◌<◌, ◌++◌, ℕ, List, length, take, ap, subst, arith}
use Rattle.std.specs.Prelude.{slice_index}
use Rattle.std.proofs.lemmas.List.{take_all}
use Rattle.page_out.specs.Printed.{Prints}
use Rattle.page_out.proofs.Public.{put_none, put_then}
use Rattle.html_text.specs.Tokens.{escaped_text}
use Rattle.html_page.specs.Images.{path_byte, path_url}
use Rattle.html_page.proofs.PathLemmas.{path-on}
use Rattle.html_page.proofs.PutLemmas.{put_as}
use Rattle.html_page.proofs.images.push_path.Goals as goal

pub loop-byte-init : goal.loop-byte-init
loop-byte-init g c = put_none g.K.Sink c.args.out.now c.args.page.now

pub loop-byte-preserved : goal.loop-byte-preserved
loop-byte-preserved g c =
    let path = c.args.path.now in
    let old = c.loop-byte in
    let i = old.byte-index in
    let put = c.push_byte in
    let within : i < length path = omega arith in
    let front = escaped_text (path_url (take i path)) in
    let next = escaped_text (path_byte (slice_index path i)) in
    put_as g.K.Sink c.args.out.now put.new.out c.args.page.now put.new.page (front ++ next)
    (escaped_text (path_url (take (i + 1) path))) (path-on path i within)
    (put_then g.K.Sink c.args.out.now old.out put.new.out c.args.page.now old.page put.new.page front next old.invariant
    put.ensures)

pub returns : goal.returns
returns g c =
    let path = c.args.path.now in
    let old = c.loop-byte in
    subst (λ (bytes : List ℕ). Prints g.K.Sink c.args.out.now c.args.page.now old.out old.page
    (escaped_text (path_url bytes))) (take_all old.byte-index path (omega arith)) old.invariant
