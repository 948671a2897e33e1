use Rattle.part_skips.proofs.SheetLemmas.{slot_put}
use Rattle.part_skips.proofs.sheets.skip_slot.Goals as goal

pub returns-then-from-to : goal.returns-then-from-to
returns-then-from-to c =
    slot_put c.args.base c.args.place c.get16.result c.args.stsh.now c.skip_std.new.std c.requires.slot.within
    c.get16.ensures c.skip_std.ensures c.skip_std.auto.std
