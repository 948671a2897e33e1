use Rattle.std.proofs.Common.{refl}
use Rattle.docbin_rows.proofs.document.is_sound.Goals as goal

pub returns : goal.returns
returns c = λ ok. record {
  rules = c.keeps_rules.ensures ok;
  bookmarks = c.if-not-has_formed_bookmarks.ensures refl;
}
