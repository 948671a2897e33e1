use Rattle.std.proofs.Common.{refl}
use Rattle.file_mends.proofs.SheetLemmas.{sheet_found}
use Rattle.file_mends.proofs.sheet_places.sheet_by.Goals as goal

pub returns : goal.returns
returns c =
    sheet_found c.args.container.now c.args.i c.name.result.now c.bytes-wd.result.now c.sheet_for.result
    c.name.ensures c.bytes-wd.ensures
    (rw c.word_document.ensures at (c.if-not-equal_names.ensures.relation.0 refl)) c.if-wd-lt-EARLY_SIZE.false
    c.sheet_for.ensures
