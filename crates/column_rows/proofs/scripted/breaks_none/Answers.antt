use Rattle.std.proofs.Common.{refl}
use Rattle.column_rows.proofs.scripted.breaks_none.Goals as goal

pub returns : goal.returns
returns c = λ ok. record {
  rules = c.keeps_rules.ensures ok;
  bookmarks = c.if-not-has_formed_bookmarks.ensures refl;
}
