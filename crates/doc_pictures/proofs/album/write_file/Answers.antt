use Rattle.std.proofs.Common.{◌≡◌, ◌∙◌, Option, ap, subst}
use Rattle.std.proofs.lemmas.Result.{IfOk-weaker}
use Rattle.doc_outer.specs.Held.{Files, OthersStay, held_with}
use Rattle.doc_outer.proofs.Public.{Rose-after, count_on}
use Rattle.doc_pictures.specs.Album.{IsWritten}
use Rattle.doc_pictures.proofs.AlbumLemmas.{stays-same}
use Rattle.doc_pictures.proofs.album.write_file.Goals as goal

pub returns-in-Ok-clause-written : goal.returns-in-Ok-clause-written
returns-in-Ok-clause-written g c =
    let held = g.S.Shelf.held in
    let path = c.args.path.now in
    let bytes = c.args.bytes.now in
    let before = held c.args.shelf.now in
    let mid = held c.find_free.new.shelf in
    let after = held c.put_file.new.shelf in
    IfOk-weaker c.put_file.result (λ done. after ≡ held_with mid path bytes)
    (λ done. IsWritten c.args.force path bytes before after)
    (λ done put. record {
      may = c.in-Ok.ensures.free;
      held = put ∙ ap (λ (h : Option Files). held_with h path bytes) c.in-Ok.ensures.kept;
    }) c.put_file.ensures.written

pub returns-in-Ok-clause-others : goal.returns-in-Ok-clause-others
returns-in-Ok-clause-others g c =
    let held = g.S.Shelf.held in
    subst (λ (h : Option Files). OthersStay c.args.path.now h (held c.put_file.new.shelf)) c.in-Ok.ensures.kept
    c.put_file.ensures.others

pub returns-in-Ok-clause-there : goal.returns-in-Ok-clause-there
returns-in-Ok-clause-there g c = λ there. absurd (c.put_file.ensures.there there)

pub returns-in-Ok-clause-failed : goal.returns-in-Ok-clause-failed
returns-in-Ok-clause-failed g c = λ failed.
    let faults = g.S.Shelf.faults in
    Rose-after (faults c.args.shelf.now) (faults c.find_free.new.shelf) (faults c.put_file.new.shelf)
    c.in-Ok.ensures.faults (c.put_file.ensures.failed failed)

pub returns-in-Ok-clause-faults : goal.returns-in-Ok-clause-faults
returns-in-Ok-clause-faults g c =
    let faults = g.S.Shelf.faults in
    count_on (faults c.args.shelf.now) (faults c.find_free.new.shelf) (faults c.put_file.new.shelf)
    c.in-Ok.ensures.faults c.put_file.ensures.faults

pub returns-in-Ok-clause-missed : goal.returns-in-Ok-clause-missed
returns-in-Ok-clause-missed g c =
    let missed = g.S.Shelf.missed in
    count_on (missed c.args.shelf.now) (missed c.find_free.new.shelf) (missed c.put_file.new.shelf)
    c.in-Ok.ensures.missed c.put_file.ensures.missed

pub returns-in-Err-clause-others : goal.returns-in-Err-clause-others
returns-in-Err-clause-others g c =
    let held = g.S.Shelf.held in
    stays-same (held c.args.shelf.now) (held c.find_free.new.shelf) c.in-Err.ensures.kept c.args.path.now
