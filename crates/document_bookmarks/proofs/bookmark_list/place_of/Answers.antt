use Rattle.std.proofs.Common.{rules, arith, ◌≡◌, true, false, get_or}
use Rattle.std.specs.Ordering.{is_le}
use Rattle.document_bookmarks.specs.Bookmarks.{bookmark_cmp}
use Rattle.document_bookmarks.proofs.OrderLemmas.{passed_next, passed_here, passed_all}
use Rattle.document_bookmarks.proofs.bookmark_list.place_of.Goals as goal

pub returns-then-is_le-clause-put : goal.returns-then-is_le-clause-put
returns-then-is_le-clause-put c =
    let b = c.args.bookmark.now in
    let y = c.index-list-i.result in
    let before : is_le (bookmark_cmp b (get_or c.args.list.now c.loop-i.i y)) ≡ true = search rules in
    passed_here bookmark_cmp b y c.args.list.now c.loop-i.i (search rules) before c.loop-i.invariant

pub loop-i-preserved : goal.loop-i-preserved
loop-i-preserved c =
    let b = c.args.bookmark.now in
    let y = c.index-list-i.result in
    let later : is_le (bookmark_cmp b (get_or c.args.list.now c.loop-i.i y)) ≡ false = search rules in
    passed_next bookmark_cmp b y c.args.list.now c.loop-i.i (search rules) later c.loop-i.invariant

pub returns-clause-put : goal.returns-clause-put
returns-clause-put c =
    passed_all bookmark_cmp c.args.bookmark.now c.args.list.now _ (omega arith) (search rules)
