use Rattle.std.proofs.Common.{◌≡◌, ◌≢◌, ◌⊎◌, ◌<◌, ℕ, subst, sym, arith}
use Rattle.doc_model.specs.declared.document.Document.{Document}
use Rattle.plain_doc.specs.Sound.{IsSound}
use Rattle.docview_run.specs.Endings.{RunEnds, ShowsTaken}
use Rattle.docview_run.specs.Pictured.{LeavesTaken}
use Rattle.docview_run.specs.Viewed.{IsViewed}
use Rattle.docview_run.proofs.PictureLemmas.{held_viewed, refused_by, same_leaves, viewed_ends, viewed_leaves}
use Rattle.docview_run.proofs.pictures.show_taken.Goals as goal

pub show_held-status-requires : goal.show_held-status-requires
show_held-status-requires g c = subst (λ (d : Document). IsSound d) (sym c.document.ensures) c.in-Ok.ensures.sound

pub returns-in-Ok-clause-ends : goal.returns-in-Ok-clause-ends
returns-in-Ok-clause-ends g c =
    let asked = c.args.asked.now in
    let held = g.S.Shelf.held c.args.shelf.now in
    let file = c.args.file.now in
    let shown = c.show_held-status in
    let document = c.document.result.now in
    let viewed = subst (λ (d : Document). IsViewed asked.view.strict file file d) (sym c.document.ensures)
    (held_viewed asked.view.strict file c.in-Ok.opened c.in-Ok.ensures) in
    subst (λ (status : ℕ). RunEnds (ShowsTaken asked.view asked.album.force asked.album.folder.now asked.name.now held file)
    g.K.Sink c.args.out.now shown.new.out status) (sym c.drop_then.ensures)
    (viewed_ends g.K.Sink c.args.out.now shown.new.out asked.view asked.album.force asked.album.folder.now asked.name.now
    file file document held shown.result viewed shown.ensures.ends)

pub returns-in-Ok-clause-leaves : goal.returns-in-Ok-clause-leaves
returns-in-Ok-clause-leaves g c =
    let asked = c.args.asked.now in
    let before = g.S.Shelf.held c.args.shelf.now in
    let after = g.S.Shelf.held c.show_held-status.new.shelf in
    let file = c.args.file.now in
    let shown = c.show_held-status in
    let document = c.document.result.now in
    let viewed = subst (λ (d : Document). IsViewed asked.view.strict file file d) (sym c.document.ensures)
    (held_viewed asked.view.strict file c.in-Ok.opened c.in-Ok.ensures) in
    subst (λ (status : ℕ). LeavesTaken asked.view.strict asked.album.force asked.album.folder.now file status before after)
    (sym c.drop_then.ensures)
    (viewed_leaves asked.view.strict asked.album.force asked.album.folder.now file file document shown.result before after
    viewed shown.ensures.leaves)

pub returns-in-Ok-clause-failed : goal.returns-in-Ok-clause-failed
returns-in-Ok-clause-failed g c = rw c.drop_then.ensures c.show_held-status.ensures.failed

pub returns-in-Ok-clause-after : goal.returns-in-Ok-clause-after
returns-in-Ok-clause-after g c =
    subst (λ (status : ℕ). (status < 2) ⊎ (3 < status)) (sym c.drop_then.ensures) c.show_held-status.ensures.after

pub returns-in-Ok-clause-bytes : goal.returns-in-Ok-clause-bytes
returns-in-Ok-clause-bytes g c = λ i. let byte = c.type_inv.file i in omega arith

pub returns-in-Err-Memory-clause-leaves : goal.returns-in-Err-Memory-clause-leaves
returns-in-Err-Memory-clause-leaves g c =
    let asked = c.args.asked.now in
    same_leaves asked.view.strict asked.album.force asked.album.folder.now c.args.file.now 6
    (g.S.Shelf.held c.args.shelf.now) (λ six. absurd (omega (arith, six)))

pub show_refused-requires : goal.show_refused-requires
show_refused-requires g c =
    let refused = c.in-Err-Refused in
    refused_by c.args.file.now refused.field-0 (λ memory. absurd (cc (refused.field-0-is, memory))) refused.ensures
