use Rattle.std.proofs.Common.{◌<◌, ◌≤◌, length, arith}
use Rattle.doc_model.specs.Marks.{most_bookmarks}
use Rattle.doc_model.proofs.Public.{wrong_count, wrong_names}
use Rattle.doc_columns.proofs.checking.wrong_bookmarks.Goals as goal

pub returns-then-len-gt-MAX_BOOKMARKS : goal.returns-then-len-gt-MAX_BOOKMARKS
returns-then-len-gt-MAX_BOOKMARKS c =
    let many : most_bookmarks < length c.args.bookmarks.now =
    omega (arith, c.len.ensures.len, c.if-len-gt-MAX_BOOKMARKS.true) in
    wrong_count c.args.bookmarks.now many

pub returns : goal.returns
returns c =
    let few : length c.args.bookmarks.now ≤ most_bookmarks =
    omega (arith, c.len.ensures.len, c.if-len-gt-MAX_BOOKMARKS.false) in
    wrong_names c.args.bookmarks.now c.in_ok-same.same few c.in_ok-same.ensures
