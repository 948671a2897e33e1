use Rattle.std.proofs.Common.{◌≡◌, ◌++◌, encode_utf8}
use Rattle.std.specs.String.{string_bytes}
use Rattle.text_codes.specs.Shown.{pair_code}
use Rattle.text_codes.proofs.ShownLemmas.{completed-pair, completed-apart}
use Rattle.text_codes.proofs.showing.ShownText.push.Goals as goal

pub returns-in-Some-pair-clause-ok : goal.returns-in-Some-pair-clause-ok
returns-in-Some-pair-clause-ok c =
    let grown : string_bytes c.push.new.self ≡ string_bytes c.self.inside.text ++ encode_utf8
    (pair_code c.in-Some.first c.args.unit) = rw c.in-Some-pair.ensures.1 at c.in_ok-push.ensures.bytes in
    λ units. rw (← c.self.view_is, c.in-Some.is)
    (completed-pair c.self.inside.lines _ _ c.in-Some.first c.args.unit units c.in-Some-pair.ensures.0 grown)

pub returns-clause-ok : goal.returns-clause-ok
returns-clause-ok c =
    λ units. rw (← c.self.view_is, c.in-Some.is)
    (completed-apart c.self.inside.lines _ _ c.in-Some.first c.args.unit units c.in_default-pair.ensures
    c.in_ok-push_alone.ensures.ok)
