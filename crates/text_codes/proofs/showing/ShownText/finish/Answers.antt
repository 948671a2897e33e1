use Rattle.std.proofs.Common.{◌∙◌}
use Rattle.std.specs.String.{string_bytes}
use Rattle.std.proofs.lemmas.List.{append-nil}
use Rattle.text_codes.proofs.ShownLemmas.{shown-nil, shown-last}
use Rattle.text_codes.proofs.showing.ShownText.finish.Goals as goal

pub returns-in_default : goal.returns-in_default
returns-in_default c =
    rw (← c.self.view_is, c.in_default.is, shown-nil c.self.inside.lines, append-nil (string_bytes c.self.inside.text))
    c.from_string.ensures

pub returns : goal.returns
returns c =
    rw (← c.self.view_is, c.in-Some.is, shown-last c.self.inside.lines c.in-Some.last)
    (c.from_string-2.ensures ∙ c.in_ok-push_alone.ensures.ok)
