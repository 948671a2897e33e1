use Rattle.std.proofs.Common.{◌∙◌, sym}
use Rattle.page_copies.proofs.PageLemmas.{alike, first_alone, second_alone}
use Rattle.page_copies.proofs.pages.marked_kind.Goals as goal

pub returns-then-characters-paragraphs : goal.returns-then-characters-paragraphs
returns-then-characters-paragraphs c =
    λ named other first second. sym (alike named other (sym first ∙ (c.if-characters-paragraphs.true ∙ second)))

pub returns-then-characters-eq1 : goal.returns-then-characters-eq1
returns-then-characters-eq1 c =
    λ named other first second.
    sym (first_alone named other (λ e. c.if-characters-paragraphs.false (first ∙ (e ∙ sym second)))
    (sym first ∙ c.if-characters-eq1.true))

pub returns-else-characters-eq1 : goal.returns-else-characters-eq1
returns-else-characters-eq1 c =
    λ named other first second.
    sym (second_alone named other (λ e. c.if-characters-paragraphs.false (first ∙ (e ∙ sym second)))
    (λ e. c.if-characters-eq1.false (first ∙ e)))
