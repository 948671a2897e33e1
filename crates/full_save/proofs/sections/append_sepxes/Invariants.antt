use Rattle.std.specs.Prelude.{◌≡◌, take}
use Rattle.run_lists.specs.Spread.{total_len}
use Rattle.full_save.specs.Sections.{AreSepxesUpTo}
use Rattle.full_save.proofs.sections.append_sepxes.Given as goal

abbrev pub invariant-loop-run : goal.invariant-loop-run
invariant-loop-run l =
    (l.place ≡ total_len (take l.run-index l.run-items)) × AreSepxesUpTo l.fn.main l.fn.base l.fn.out l.place
    (record { start = l.sections.start; out = l.out; seds = l.sections.seds })
