use Rattle.std.proofs.Common.{◌≡◌, get_or, length, eqb-true, arith}
use Rattle.std.proofs.lemmas.List.Elements.{All-from_get_or}
use Rattle.doc_columns.specs.Specials.{IsPlainUnit}
use Rattle.doc_columns.proofs.SpecialLemmas.{plain_unit}
use Rattle.doc_columns.proofs.judge.are_plain.Goals as goal

pub returns : goal.returns
returns c = λ same.
    let all : c.bare_len.result ≡ length c.args.units.now = eqb-true _ _ same in
    All-from_get_or IsPlainUnit c.args.units.now 0
    (λ i h. plain_unit (get_or c.args.units.now i 0) (c.bare_len.ensures.bare i (omega (arith, h, all))))
