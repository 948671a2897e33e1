use Rattle.std.proofs.Common.{ℕ, List, ap}
use Rattle.json.specs.Print.{escape_byte}
use Rattle.serde_json.specs.Written.{compact_text}
use Rattle.json_values.specs.Digits.{units_json}
use Rattle.json_values.proofs.Public.{Adds-same}
use Rattle.json_doc.proofs.WrittenLemmas.{where_ok, adds}
use Rattle.json_doc.proofs.documents.write_bookmark.Goals as goal

pub returns : goal.returns
unfolding escape_byte
returns c = where_ok c.push-5.result
    (λ last. adds c.in_ok-push.ensures.ok
    (adds
    (Adds-same _ _ _ _ (ap (λ (units : List ℕ). compact_text (units_json units)) c.as_slice.ensures)
    c.in_ok-write_units.ensures)
    (adds c.in_ok-push-2.ensures.ok
    (adds c.in_ok-write_place.ensures
    (adds c.in_ok-push-3.ensures.ok
    (adds c.in_ok-write_place-2.ensures (adds c.in_ok-push-4.ensures.ok (adds c.in_ok-write_short.ensures last))))))))
    c.push-5.ensures.ok
