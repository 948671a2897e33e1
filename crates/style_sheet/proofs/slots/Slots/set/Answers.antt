use Rattle.std.proofs.lemmas.List.{map-set}
use Rattle.style_sheet.proofs.slots.Slots.set.Goals as goal

pub returns : goal.returns
returns c = rw map-set
