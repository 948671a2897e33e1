use Rattle.plain_doc.proofs.LawLemmas.{sound_sheet_writable}
use Rattle.plain_doc.proofs.laws.sound_sheet_is_writable.Goals as goal

pub returns : goal.returns
returns c = sound_sheet_writable
