use Rattle.std.proofs.Common.{◌≡◌, ◌∙◌, ◌+◌, ap, sym, cond, drop, Some, true, false}
use Rattle.std.specs.List.{find}
use Rattle.document_bookmarks.specs.Names.{is_named}
use Rattle.edit_ops.proofs.bookmarks.find_bookmark.Goals as goal
use Rattle.run_lists.proofs.Public.{run_and_rest}

pub returns-then-is_named : goal.returns-then-is_named
returns-then-is_named c =
    let name = c.args.name.now in
    let here = c.get-bookmark.result.now in
    let rest = drop (c.loop-i.i + 1) c.args.list.now in
    let has : is_named name here ≡ true = sym c.is_named.ensures ∙ c.if-is_named.true in
    c.loop-i.invariant
    ∙ ap (find (is_named name)) (run_and_rest c.args.list.now c.loop-i.i here c.get-bookmark.ensures)
    ∙ ap (λ b. cond b (Some here) (find (is_named name) rest)) has

pub loop-i-preserved : goal.loop-i-preserved
loop-i-preserved c =
    let name = c.args.name.now in
    let here = c.get-bookmark.result.now in
    let rest = drop (c.loop-i.i + 1) c.args.list.now in
    let other : is_named name here ≡ false = sym c.is_named.ensures ∙ c.if-is_named.false in
    c.loop-i.invariant
    ∙ ap (find (is_named name)) (run_and_rest c.args.list.now c.loop-i.i here c.get-bookmark.ensures)
    ∙ ap (λ b. cond b (Some here) (find (is_named name) rest)) other
