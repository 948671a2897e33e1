use Rattle.std.proofs.Common.{length, drop, take, ◌-◌, subst, refl}
use Rattle.std.proofs.lemmas.List.{take_rest}
use Rattle.sprm_table.specs.Cursor.{SprmCursor, IsPrlAt}
use Rattle.sprm_table.proofs.Public.{prl_moved}
use Rattle.overlapping_grpprls.proofs.walk.entry_at.Goals as goal

pub returns : goal.returns
returns c =
    let stream = c.args.lists.now.stream.now in
    let at = c.args.at in
    let code = c.in_ok-code.code.0 in
    let from = c.in_ok-code.from in
    let to = c.in_ok-code.to in
    let here = subst (λ (s : SprmCursor). IsPrlAt s.bytes s.at code from to) c.new-prls.ensures
    c.in_ok-code.ensures.given.entry in
    record {
      place = refl;
      here = prl_moved stream (take (length stream - at) (drop at stream)) at code from to (take_rest stream at) here;
      accepted = λ is_refused. let is = c.if-is_refused.ensures.1 is_refused in absurd (cc (is));
    }
