use Rattle.std.proofs.Common.{◌≡◌, ◌∙◌, ap, [], false, ◌&&◌, nat_le, nat_lt}
use Rattle.std.specs.Prelude.{option_to_list}
use Rattle.text_codes.specs.Shown.{Showing}
use Rattle.text_codes.proofs.ShownLemmas.{completed-first}
use Rattle.text_codes.proofs.showing.ShownText.push_first.Goals as goal

pub returns-clause-ok : goal.returns-clause-ok
returns-clause-ok c =
    let none : option_to_list c.self.inside.waiting ≡ [] = ap (λ (s : Showing). s.waiting) c.self.view_is
    ∙ c.requires in
    let low : (nat_le 0xD800 c.args.unit && nat_lt c.args.unit 0xDC00) ≡ false = cc
    (c.is_high.ensures, c.if-is_high.false) in
    λ units. rw (← c.self.view_is, none)
    (completed-first c.self.inside.lines _ _ c.args.unit units low c.in_ok-push_alone.ensures.ok)
