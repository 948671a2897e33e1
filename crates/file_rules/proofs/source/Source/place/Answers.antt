use Rattle.std.proofs.Common.{◌≡◌, inl, inr, ℕ, ap, length, arith}
use Rattle.std.proofs.lemmas.Bool.{cases_lt}
use Rattle.fib_form.specs.Fib.{fib_pair}
use Rattle.fib_form.specs.TableParts.{pair_number}
use Rattle.file_rules.specs.Source.{part_place, table_part_bytes}
use Rattle.file_rules.proofs.PartLemmas.{length-range_within}
use Rattle.file_rules.proofs.source.Source.place.Goals as goal

pub returns-clause-addressed : goal.returns-clause-addressed
returns-clause-addressed c =
    let source = c.args.self.now in
    let part = c.args.part in
    let at : c.pair.result.0 ≡ part_place source part = ap (λ (pair : ℕ × ℕ). pair.0) c.pair.ensures.pair in
    elim (cases_lt 0 (length (table_part_bytes source part))) [
      | inl some ↦
          let within = length-range_within source.table (part_place source part) (fib_pair source.wd (pair_number
          part)).1
          some in
          omega (arith, at, within, c.pair.ensures.small)
      | inr none ↦ omega (arith, none)
    ]
