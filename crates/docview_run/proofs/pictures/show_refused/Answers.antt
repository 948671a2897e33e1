use Rattle.std.proofs.Common.{◌≡◌, ◌≢◌, ◌⊎◌, ◌<◌, ℕ, subst, sym, arith}
use Rattle.docview_run.specs.Endings.{RunEnds, ShowsTaken}
use Rattle.docview_run.specs.Pictured.{LeavesTaken}
use Rattle.docview_run.proofs.PictureLemmas.{none_strict, page_after, same_leaves, unviewed_ends, unviewed_leaves}
use Rattle.docview_run.proofs.pictures.show_refused.Goals as goal

-- a strict view

pub returns-then-asked-clause-ends : goal.returns-then-asked-clause-ends
returns-then-asked-clause-ends g c =
    let asked = c.args.asked.now in
    unviewed_ends g.K.Sink c.args.out.now c.show_file.new.out asked.view asked.album.force asked.album.folder.now
    asked.name.now c.args.file.now (g.S.Shelf.held c.args.shelf.now) c.show_file.result
    (λ read document viewed. none_strict asked.view.strict c.args.file.now read document c.requires c.if-asked.true viewed)
    c.show_file.ensures.ends

pub returns-then-asked-clause-leaves : goal.returns-then-asked-clause-leaves
returns-then-asked-clause-leaves g c =
    let asked = c.args.asked.now in
    unviewed_leaves g.K.Sink c.args.out.now c.show_file.new.out asked.view asked.album.force asked.album.folder.now
    asked.name.now c.args.file.now c.show_file.result (g.S.Shelf.held c.args.shelf.now)
    (λ read document viewed. none_strict asked.view.strict c.args.file.now read document c.requires c.if-asked.true viewed)
    c.show_file.ensures.ends

pub returns-then-asked-clause-failed : goal.returns-then-asked-clause-failed
returns-then-asked-clause-failed g c = λ four.
    absurd ((page_after c.show_file.result c.show_file.ensures.after).1 four)

pub returns-then-asked-clause-after : goal.returns-then-asked-clause-after
returns-then-asked-clause-after g c = (page_after c.show_file.result c.show_file.ensures.after).0

-- what was opened in place of the file

pub show_found-status-requires-clause-opened : goal.show_found-status-requires-clause-opened
show_found-status-requires-clause-opened g c = c.in-Ok.ensures

pub show_found-status-requires-clause-lifts : goal.show_found-status-requires-clause-lifts
show_found-status-requires-clause-lifts g c = c.if-asked.false

pub returns-clause-ends : goal.returns-clause-ends
returns-clause-ends g c =
    let asked = c.args.asked.now in
    let held = g.S.Shelf.held c.args.shelf.now in
    let shown = c.show_found-status in
    subst (λ (status : ℕ). RunEnds (ShowsTaken asked.view asked.album.force asked.album.folder.now asked.name.now held
    c.args.file.now) g.K.Sink c.args.out.now shown.new.out status) (sym c.drop_then.ensures) shown.ensures.ends

pub returns-clause-leaves : goal.returns-clause-leaves
returns-clause-leaves g c =
    let asked = c.args.asked.now in
    let before = g.S.Shelf.held c.args.shelf.now in
    let after = g.S.Shelf.held c.show_found-status.new.shelf in
    subst (λ (status : ℕ). LeavesTaken asked.view.strict asked.album.force asked.album.folder.now c.args.file.now status
    before after) (sym c.drop_then.ensures) c.show_found-status.ensures.leaves

pub returns-clause-failed : goal.returns-clause-failed
returns-clause-failed g c = rw c.drop_then.ensures c.show_found-status.ensures.failed

pub returns-clause-after : goal.returns-clause-after
returns-clause-after g c =
    subst (λ (status : ℕ). (status < 2) ⊎ (3 < status)) (sym c.drop_then.ensures) c.show_found-status.ensures.after

pub returns-in_default-clause-leaves : goal.returns-in_default-clause-leaves
returns-in_default-clause-leaves g c =
    let asked = c.args.asked.now in
    same_leaves asked.view.strict asked.album.force asked.album.folder.now c.args.file.now 6
    (g.S.Shelf.held c.args.shelf.now) (λ six. absurd (omega (arith, six)))
