use Rattle.std.proofs.Common.{◌≡◌, sym, subst}
use Rattle.plain_doc.specs.Sound.{IsSound}
use Rattle.edit_ops.proofs.applying.apply_plain.Goals as goal

pub returns-clause-sound : goal.returns-clause-sound
returns-clause-sound c =
    let edit = c.in_ok-made.ensures in
    let here : c.replace.new.dest ≡ c.in_ok-made.made = cc in
    subst IsSound (sym here) (subst IsSound (sym edit.1) edit.0.sound)
