use Rattle.std.proofs.Common.{sym, ◌∙◌}
use Rattle.field_links.proofs.WordLemmas.{quoted_at, quoted_at_last, quoted_at_quote, quoted_at_second}
use Rattle.field_links.proofs.word.quoted_place.Goals as goal

pub returns-then-is_quote : goal.returns-then-is_quote
returns-then-is_quote c = quoted_at_quote c.args.rest.now c.requires (sym c.is_quote.ensures ∙ c.if-is_quote.true)

pub returns-then-not-is_solidus : goal.returns-then-not-is_solidus
returns-then-not-is_solidus c =
    quoted_at c.args.rest.now c.requires (sym c.is_quote.ensures ∙ c.if-is_quote.false)
    (sym c.is_solidus.ensures ∙ c.if-not-is_solidus.true)

pub returns-then-rest-lt2 : goal.returns-then-rest-lt2
returns-then-rest-lt2 c =
    quoted_at_last c.args.rest.now c.requires (sym c.is_quote.ensures ∙ c.if-is_quote.false)
    (sym c.is_solidus.ensures ∙ c.if-not-is_solidus.false) c.if-rest-lt2.true

pub returns : goal.returns
returns c =
    quoted_at_second c.args.rest.now (sym c.is_quote.ensures ∙ c.if-is_quote.false)
    (sym c.is_solidus.ensures ∙ c.if-not-is_solidus.false) c.if-rest-lt2.false
