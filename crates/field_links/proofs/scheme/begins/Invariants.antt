use Rattle.std.proofs.Common.{◌≡◌, drop}
use Rattle.field_links.specs.Urls.{begins}
use Rattle.field_links.specs.Kept.{word_units}
use Rattle.field_links.proofs.scheme.begins.Given as goal

-- the letters so far are those of the address
abbrev pub invariant-loop-letter : goal.invariant-loop-letter
invariant-loop-letter l = begins (drop l.letter-index l.scheme) (word_units l.rest) ≡ begins l.scheme (word_units
    l.address)
