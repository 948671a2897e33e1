use Rattle.std.proofs.Common.{◌≤◌, length, refl, arith}
use Rattle.doc_model.specs.Marks.{most_bookmarks}
use Rattle.doc_columns.proofs.RightLemmas.{right_marks}
use Rattle.doc_columns.proofs.sound.are_valid.Goals as goal

pub returns : goal.returns
returns c = λ sound.
    let few : length c.args.bookmarks.now ≤ most_bookmarks =
    omega (arith, c.len.ensures.len, c.if-len-gt-MAX_BOOKMARKS.false) in
    right_marks c.args.len c.args.bookmarks.now c.in_ok-same.same c.is_none.result
    (c.if-not-are_formed.ensures.0 refl) few c.in_ok-same.ensures c.is_none.ensures sound
