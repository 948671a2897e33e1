use Rattle.std.proofs.Common.{sym, ◌∙◌}
use Rattle.field_links.proofs.WordLemmas.{end_elsewhere, end_in_quotes}
use Rattle.field_links.proofs.word.FieldWord.behind_end.Goals as goal

pub returns-then-is_quoted-clause-rest : goal.returns-then-is_quoted-clause-rest
returns-then-is_quoted-clause-rest c =
    c.without_first.ensures
    ∙ end_in_quotes c.args.self.now.extent c.args.self.now.rest.now (sym c.is_quoted.ensures ∙ c.if-is_quoted.true)
    c.requires

pub returns-else-is_quoted-clause-rest : goal.returns-else-is_quoted-clause-rest
returns-else-is_quoted-clause-rest c =
    end_elsewhere c.args.self.now.extent c.args.self.now.rest.now (sym c.is_quoted.ensures ∙ c.if-is_quoted.false)
    c.requires
