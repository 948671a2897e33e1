use Rattle.std.proofs.Common.{◌++◌, sym, ap, ◌∙◌, subst}
use Rattle.prop_map.specs.Printing.{IsPrintOf, printed_list}
use Rattle.prop_map.proofs.PrintLemmas.{print_is}
use Rattle.prop_map.proofs.map.PropMap.print.Goals as goal

pub returns-clause-print : goal.returns-clause-print
returns-clause-print c =
    let bytes = c.in_ok-print_to.ensures ∙ ap (λ b. b ++ printed_list c.args.self.now) c.new-bytes.ensures in
    subst (IsPrintOf c.args.self.now) (sym bytes) (print_is c.args.self.now c.requires)
