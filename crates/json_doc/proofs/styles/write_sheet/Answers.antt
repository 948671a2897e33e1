use Rattle.json.specs.Print.{escape_byte}
use Rattle.json_doc.proofs.WrittenLemmas.{where_ok, adds}
use Rattle.json_doc.proofs.styles.write_sheet.Goals as goal

pub returns : goal.returns
unfolding escape_byte
returns c = where_ok c.push-3.result
    (λ last. adds c.in_ok-push.ensures.ok
    (adds c.in_ok-write_head.ensures (adds c.in_ok-push-2.ensures.ok (adds c.in_ok-write_slots.ensures last))))
    c.push-3.ensures.ok
