use Rattle.json.specs.Print.{escape_byte}
use Rattle.json_doc.proofs.WrittenLemmas.{where_ok, adds}
use Rattle.json_doc.proofs.carried_parts.write_carried.Goals as goal

pub returns : goal.returns
unfolding escape_byte
returns c = where_ok c.push-12.result
    (λ last. adds c.in_ok-push.ensures.ok
    (adds c.in_ok-write_part.ensures
    (adds c.in_ok-push-2.ensures.ok
    (adds c.in_ok-write_bytes.ensures
    (adds c.in_ok-push-3.ensures.ok
    (adds c.in_ok-write_part-2.ensures
    (adds c.in_ok-push-4.ensures.ok
    (adds c.in_ok-write_short.ensures
    (adds c.in_ok-push-5.ensures.ok
    (adds c.in_ok-write_part-3.ensures
    (adds c.in_ok-push-6.ensures.ok
    (adds c.in_ok-write_part-4.ensures
    (adds c.in_ok-push-7.ensures.ok
    (adds c.in_ok-write_part-5.ensures
    (adds c.in_ok-push-8.ensures.ok
    (adds c.in_ok-write_short-2.ensures
    (adds c.in_ok-push-9.ensures.ok
    (adds c.in_ok-write_short-3.ensures
    (adds c.in_ok-push-10.ensures.ok
    (adds c.in_ok-write_part-6.ensures
    (adds c.in_ok-push-11.ensures.ok (adds c.in_ok-write_streams.ensures last)))))))))))))))))))))) c.push-12.ensures.ok
