use Rattle.std.proofs.Common.{◌++◌, ap, ◌∙◌}
use Rattle.std.specs.List.{flat_map}
use Rattle.std.proofs.lemmas.List.{take_all}
use Rattle.doc_bits.specs.Number.{number_bytes}
use Rattle.cfb_layout.proofs.JoinLemmas.{name_join}
use Rattle.cfb_layout.proofs.entries.push_name.Goals as goal

pub returns : goal.returns
returns c =
    let all = c.loop-unit.invariant ∙ ap (λ units. c.args.out.now ++ flat_map (number_bytes 2) units)
    (take_all c.loop-unit.unit-index c.args.name.now c.loop-unit-test.false) in
    name_join c.args.out.now c.loop-unit.out c.push_zeros.new.out c.args.name.now all c.in_ok-push_zeros.ensures
