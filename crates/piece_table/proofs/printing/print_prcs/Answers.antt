use Rattle.std.proofs.Common.{refl}
use Rattle.piece_table.specs.PrcLists.{prm_of_list}
use Rattle.piece_table.proofs.PrcPrintLemmas.{printed_none}
use Rattle.piece_table.proofs.printing.print_prcs.Goals as goal

pub loop-k-init : goal.loop-k-init
loop-k-init c =
    printed_none c.args.modifiers.now c.args.entries.now (record {
      count = 0;
      prms = c.in_ok-zeros.field-0.items;
      bytes = c.new.result;
      found = prm_of_list c.new-2.result.prms.entries (λ key. key.items);
    }) refl
    c.in_ok-zeros.ensures.len c.in_ok-zeros.ensures.zeros c.new.ensures c.new-2.ensures
