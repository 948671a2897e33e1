use Rattle.std.specs.Prelude.{replicate}
use Rattle.std.proofs.Common.{◌≡◌, ◌+◌, ◌-◌, ◌*◌, ◌/◌, ◌++◌, ℕ, List, length, ap, sym, ◌∙◌, arith}
use Rattle.std.proofs.lemmas.List.{append_assoc}
use Rattle.cfb_layout.specs.Sectors.{padded_to_unit}
use Rattle.cfb_layout.proofs.Public.{length-table}
use Rattle.full_save.specs.WordDocument.{units_bytes}
use Rattle.full_save.proofs.word_document.append_text.Goals as goal

pub returns : goal.returns
unfolding padded_to_unit
returns c =
    let units = c.args.units.now in
    let bytes = units_bytes units in
    let len : length bytes ≡ 2 * length units = omega (arith, length-table 2 units) in
    let fill : ℕ → List ℕ = λ n. replicate ((n + 511) / 512 * 512 - n) 0 in
    c.in_ok-push_fill.ensures
    ∙ (ap (λ (front : List ℕ). front ++ fill (2 * length units)) c.in_ok-append_units.ensures.ok
    ∙ (append_assoc c.args.out.now bytes (fill (2 * length units))
    ∙ ap (λ (n : ℕ). c.args.out.now ++ (bytes ++ fill n)) (sym len)))
