use Rattle.std.proofs.Common.{◌≡◌, ℕ, List, inr, subst, sym}
use Rattle.file_mends.specs.Mends.{bytes_read}
use Rattle.file_rules.specs.Faults.{IsReadFault}
use Rattle.doc_fit.specs.Rules.{fit_rules}
use Rattle.docview_run.specs.Endings.{RunEnds, ShowsHeld}
use Rattle.docview_run.specs.Pictured.{LeavesHeld}
use Rattle.docview_run.specs.Viewed.{IsFaultStatus, IsViewed}
use Rattle.docview_run.proofs.ViewLemmas.{found_lifted, found_opened, found_refused, unopened_after, unopened_some}
use Rattle.docview_run.proofs.PictureLemmas.{page_after, refused_ends, same_leaves, viewed_ends, viewed_leaves}
use Rattle.docview_run.proofs.pictures.show_found.Goals as goal

pub show_opened-requires : goal.show_opened-requires
show_opened-requires g c =
    let file = c.args.taken.now.file.now in
    let fit = found_opened file c.args.found.now c.in-Ok.opened c.requires.opened c.in-Ok.is in
    fit.sound

pub returns-in-Ok-clause-ends : goal.returns-in-Ok-clause-ends
returns-in-Ok-clause-ends g c =
    let taken = c.args.taken.now in
    let asked = taken.asked in
    let file = taken.file.now in
    let held = g.S.Shelf.held c.args.shelf.now in
    let document = c.in-Ok.opened.lifted.document in
    let read = bytes_read file c.args.found.now.mended in
    let viewed : IsViewed asked.view.strict file read document =
    inr (
      c.requires.lifts,
      found_lifted file c.args.found.now c.in-Ok.opened c.requires.refused c.requires.opened c.in-Ok.is,
    ) in
    viewed_ends g.K.Sink c.args.out.now c.show_opened.new.out asked.view asked.album.force asked.album.folder.now
    asked.name.now file read document held c.show_opened.result viewed
    (subst (λ (r : List ℕ). RunEnds (ShowsHeld asked.view asked.album.force asked.album.folder.now r document held)
    g.K.Sink c.args.out.now c.show_opened.new.out c.show_opened.result) c.bytes-read.ensures c.show_opened.ensures.ends)

pub returns-in-Ok-clause-leaves : goal.returns-in-Ok-clause-leaves
returns-in-Ok-clause-leaves g c =
    let taken = c.args.taken.now in
    let asked = taken.asked in
    let file = taken.file.now in
    let before = g.S.Shelf.held c.args.shelf.now in
    let after = g.S.Shelf.held c.show_opened.new.shelf in
    let document = c.in-Ok.opened.lifted.document in
    let read = bytes_read file c.args.found.now.mended in
    let viewed : IsViewed asked.view.strict file read document =
    inr (
      c.requires.lifts,
      found_lifted file c.args.found.now c.in-Ok.opened c.requires.refused c.requires.opened c.in-Ok.is,
    ) in
    viewed_leaves asked.view.strict asked.album.force asked.album.folder.now file read document c.show_opened.result
    before after viewed
    (subst (λ (r : List ℕ). LeavesHeld asked.album.force asked.album.folder.now r document c.show_opened.result before
    after) c.bytes-read.ensures c.show_opened.ensures.leaves)

pub tell_read_fault-requires : goal.tell_read_fault-requires
tell_read_fault-requires g c =
    let file = c.args.taken.now.file.now in
    subst (λ (read : List ℕ). IsReadFault (fit_rules read) c.in-Err.fault) (sym c.bytes-read.ensures)
    (found_refused file c.args.found.now c.in-Err.fault c.requires.opened c.in-Err.is)

pub returns-in-Err-clause-ends : goal.returns-in-Err-clause-ends
returns-in-Err-clause-ends g c =
    let taken = c.args.taken.now in
    let asked = taken.asked in
    let file = taken.file.now in
    let found = c.args.found.now in
    let opened = c.requires.opened in
    let read = bytes_read file found.mended in
    refused_ends g.K.Sink c.args.out.now asked.view asked.album.force asked.album.folder.now asked.name.now file read
    found.mended.mends (g.S.Shelf.held c.args.shelf.now) c.tell_read_fault.result c.requires.refused c.requires.lifts
    opened.read_as
    (subst (λ (r : List ℕ). IsFaultStatus r c.tell_read_fault.result) c.bytes-read.ensures c.tell_read_fault.ensures)

pub returns-in-Err-clause-leaves : goal.returns-in-Err-clause-leaves
returns-in-Err-clause-leaves g c =
    let taken = c.args.taken.now in
    let asked = taken.asked in
    same_leaves asked.view.strict asked.album.force asked.album.folder.now taken.file.now c.tell_read_fault.result
    (g.S.Shelf.held c.args.shelf.now)
    (unopened_some c.bytes-read.result.now c.tell_read_fault.result c.tell_read_fault.ensures)

pub returns-in-Err-clause-failed : goal.returns-in-Err-clause-failed
returns-in-Err-clause-failed g c = λ four.
    absurd ((page_after c.tell_read_fault.result
    (unopened_after c.bytes-read.result.now c.tell_read_fault.result c.tell_read_fault.ensures)).1 four)

pub returns-in-Err-clause-after : goal.returns-in-Err-clause-after
returns-in-Err-clause-after g c =
    (page_after c.tell_read_fault.result
    (unopened_after c.bytes-read.result.now c.tell_read_fault.result c.tell_read_fault.ensures)).0
