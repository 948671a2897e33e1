use Rattle.std.specs.Prelude.{◌≡◌, take}
use Rattle.run_lists.specs.Spread.{total_len}
use Rattle.fast_save_layout.specs.PlannedSections.{ArePlannedUpTo}
use Rattle.fast_save_layout.proofs.sections.append_sections.Given as goal

abbrev pub invariant-loop-run : goal.invariant-loop-run
invariant-loop-run l =
    (l.place ≡ total_len (take l.run-index l.run-items))
    × ArePlannedUpTo l.fn.main l.plan.places.now l.plan.base l.fn.out l.place
    (record { number = l.sections.number; start = l.sections.start; out = l.out; seds = l.sections.seds })
