use Rattle.std.proofs.Common.{◌≡◌, ◌≢◌, ◌⊎◌, ◌<◌, Err, ℕ, ap, subst, sym}
use Rattle.docview_run.specs.Endings.{RunEnds, ShowsHeld}
use Rattle.docview_run.proofs.PictureLemmas.{fault_after, fault_ends, fault_leaves, fault_not_shown, fault_rose}
use Rattle.docview_run.proofs.PictureLemmas.{page_after, page_ends, pictures_are, written_leaves}
use Rattle.docview_run.proofs.pictures.show_held.Goals as goal

pub returns-in-Ok-clause-ends : goal.returns-in-Ok-clause-ends
returns-in-Ok-clause-ends g c =
    let taken = c.args.taken.now in
    let asked = taken.asked in
    let document = c.args.document.now in
    let pictures = c.in-Ok.pictures in
    let before = g.S.Shelf.held c.args.shelf.now in
    let after = g.S.Shelf.held c.write_pictures_of.new.shelf in
    page_ends g.K.Sink c.args.out.now c.show_images.new.out asked.view asked.album.force asked.album.folder.now
    taken.file.now document pictures before c.show_images.result
    (pictures_are asked.album.force asked.album.folder.now taken.file.now document pictures before after
    c.in-Ok.ensures.written) c.show_images.ensures.ends

pub returns-in-Ok-clause-leaves : goal.returns-in-Ok-clause-leaves
returns-in-Ok-clause-leaves g c =
    let taken = c.args.taken.now in
    let asked = taken.asked in
    written_leaves asked.album.force asked.album.folder.now taken.file.now c.args.document.now c.in-Ok.pictures
    c.show_images.result (g.S.Shelf.held c.args.shelf.now) (g.S.Shelf.held c.write_pictures_of.new.shelf)
    c.in-Ok.ensures.others c.in-Ok.ensures.written

pub returns-in-Ok-clause-failed : goal.returns-in-Ok-clause-failed
returns-in-Ok-clause-failed g c = λ four. absurd ((page_after c.show_images.result c.show_images.ensures.after).1 four)

pub returns-in-Ok-clause-after : goal.returns-in-Ok-clause-after
returns-in-Ok-clause-after g c = (page_after c.show_images.result c.show_images.ensures.after).0

pub returns-in-Err-clause-ends : goal.returns-in-Err-clause-ends
returns-in-Err-clause-ends g c =
    let taken = c.args.taken.now in
    let asked = taken.asked in
    let document = c.args.document.now in
    let held = g.S.Shelf.held c.args.shelf.now in
    subst (λ (status : ℕ). RunEnds (ShowsHeld asked.view asked.album.force asked.album.folder.now taken.file.now document
    held) g.K.Sink c.args.out.now c.args.out.now status) (sym c.tell_fault.ensures)
    (fault_ends g.K.Sink c.args.out.now asked.view asked.album.force asked.album.folder.now taken.file.now document held
    c.in-Err.fault (λ is. c.in-Err.ensures.there (ap Err is)))

pub returns-in-Err-clause-leaves : goal.returns-in-Err-clause-leaves
returns-in-Err-clause-leaves g c =
    let taken = c.args.taken.now in
    let asked = taken.asked in
    fault_leaves asked.album.force asked.album.folder.now taken.file.now c.args.document.now c.tell_fault.result
    (g.S.Shelf.held c.args.shelf.now) (g.S.Shelf.held c.write_pictures_of.new.shelf)
    (subst (λ (status : ℕ). status ≢ 0) (sym c.tell_fault.ensures) (fault_not_shown c.in-Err.fault))
    c.in-Err.ensures.others c.in-Err.ensures.cut

pub returns-in-Err-clause-failed : goal.returns-in-Err-clause-failed
returns-in-Err-clause-failed g c = λ four.
    fault_rose c.in-Err.fault (g.S.Shelf.faults c.args.shelf.now) (g.S.Shelf.faults c.write_pictures_of.new.shelf)
    (λ is. c.in-Err.ensures.failed (ap Err is)) (subst (λ (status : ℕ). status ≡ 4) c.tell_fault.ensures four)

pub returns-in-Err-clause-after : goal.returns-in-Err-clause-after
returns-in-Err-clause-after g c =
    subst (λ (status : ℕ). (status < 2) ⊎ (3 < status)) (sym c.tell_fault.ensures) (fault_after c.in-Err.fault)
