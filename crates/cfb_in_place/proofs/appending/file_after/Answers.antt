use Rattle.std.proofs.Common.{◌≡◌, arith}
use Rattle.cfb_in_place.specs.Appended.{IsSavedBehind}
use Rattle.cfb_in_place.specs.Sources.{written_sectors}
use Rattle.cfb_in_place.proofs.ReadyLemmas.{asked_of}
use Rattle.cfb_in_place.proofs.InPlaceLemmas.{has_all_parts, saved_is, ok_more}
use Rattle.cfb_in_place.proofs.appending.file_after.Goals as goal

pub write-file-requires-clause-few : goal.write-file-requires-clause-few
write-file-requires-clause-few c =
    (asked_of c.args.old.now c.args.layout.now.parts c.args.chains.now c.args.change.now.change c.args.added.now
    c.requires (λ i. let byte = c.type_inv.old i in omega arith)).few

pub write-file-requires-clause-parts : goal.write-file-requires-clause-parts
write-file-requires-clause-parts c =
    has_all_parts c.args.old.now c.args.layout.now.parts c.args.chains.now c.args.change.now.change c.args.added.now
    c.requires (λ i. let byte = c.type_inv.old i in omega arith) c.in_ok-sources.sources c.in_ok-sources.ensures

pub returns : goal.returns
returns c =
    ok_more c.write-file.result (λ file. file ≡ written_sectors c.args.old.now c.args.added.now c.in_ok-sources.sources)
    (λ new. IsSavedBehind c.args.old.now new c.args.layout.now.parts c.args.chains.now c.args.added.now
    c.args.change.now.change) (λ new is. saved_is c.args.old.now new c.args.layout.now.parts c.args.chains.now
    c.args.change.now.change c.args.added.now c.requires (λ i. let byte = c.type_inv.old i in omega arith)
    c.in_ok-sources.sources c.in_ok-sources.ensures is) c.write-file.ensures
