use Rattle.std.proofs.Common.{ap, ◌∙◌, ◌∷◌, [], sym}
use Rattle.json.specs.Print.{escape_byte}
use Rattle.json_values.proofs.DigitLemmas.{plain_digit}
use Rattle.json_values.proofs.digits.digit.Goals as goal

pub returns-clause-plain : goal.returns-clause-plain
returns-clause-plain c =
    ap escape_byte c.hex_digit.ensures.value ∙ plain_digit c.args.number c.requires
    ∙ ap (λ d. d ∷ []) (sym c.hex_digit.ensures.value)
