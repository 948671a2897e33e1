use Rattle.std.proofs.Common.{sym, subst}
use Rattle.piece_table.specs.PrmLists.{IsPrmModifier}
use Rattle.piece_table.proofs.SprmModifierLemmas.{none_formed}
use Rattle.piece_table.proofs.modifier_table.modifier_of.Goals as goal

pub returns-in-Nothing-clause-formed : goal.returns-in-Nothing-clause-formed
returns-in-Nothing-clause-formed c = rw c.none.ensures none_formed

pub returns-in_ok-modifier-in-Prc-clause-does : goal.returns-in_ok-modifier-in-Prc-clause-does
returns-in_ok-modifier-in-Prc-clause-does c =
    let list = c.list.result.now in
    let accepted = c.requires.readable c.in-Prc.number list c.in-Prc.is c.list.ensures in
    subst (λ prm. IsPrmModifier c.args.prcs.now prm c.in_ok-modifier-in-Prc.modifier) (sym c.in-Prc.is)
    (record {
      sprms = accepted.list;
      named = (list, (c.list.ensures, accepted.spelt));
      does = c.in_ok-modifier-in-Prc.ensures.parts accepted.list accepted.spelt;
    })
