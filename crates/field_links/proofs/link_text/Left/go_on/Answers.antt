use Rattle.std.proofs.Common.{sym, ◌∙◌}
use Rattle.field_links.specs.Kept.{word_units}
use Rattle.field_links.proofs.StepLemmas.{all_taken, fragment_begins, some_character}
use Rattle.field_links.proofs.link_text.Left.go_on.Goals as goal

pub returns-in-Some-clause-some : goal.returns-in-Some-clause-some
returns-in-Some-clause-some c = λ none.
    absurd (some_character c.args.self.now.manner c.in-Some.character (sym c.put.ensures ∙ none))

pub returns-then-not-is_empty-clause-same : goal.returns-then-not-is_empty-clause-same
returns-then-not-is_empty-clause-same c =
    let left = c.args.self.now in
    fragment_begins left.waiting c.push.new.self left.manner (word_units left.word) (word_units left.fragment)
    (word_units c.end-self.result) c.requires c.push.ensures c.in_default.ensures c.end-self.ensures
    (sym c.is_empty.ensures ∙ c.if-not-is_empty.true)

pub returns-else-not-is_empty-clause-some : goal.returns-else-not-is_empty-clause-some
returns-else-not-is_empty-clause-some c = λ none.
    let left = c.args.self.now in
    all_taken left.waiting left.manner (word_units left.word) (word_units left.fragment) none c.in_default.ensures
    (sym c.is_empty.ensures ∙ c.if-not-is_empty.false)
