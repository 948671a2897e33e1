use Rattle.std.proofs.Common.{◌≢◌, ◌∙◌, ℕ, List, Some, arith, subst, sym}
use Rattle.run_stages.specs.Leaves.{IsCaused}
use Rattle.run_stages.specs.Reading.{IsFoundFile}
use Rattle.docview_run.specs.Endings.{RunEnds, ShowsFile, ShowsPictured}
use Rattle.docview_run.proofs.EndLemmas.{stopped_ends, stopped_status}
use Rattle.docview_run.proofs.PictureLemmas.{named_ends, read_leaves, stopped_not_shown, taken_asked, taken_caused}
use Rattle.docview_run.proofs.PictureLemmas.{taken_ends, taken_leaves}
use Rattle.docview_run.proofs.pictures.show_pictured.Goals as goal

pub returns-in-Ok-Go-clause-ends : goal.returns-in-Ok-Go-clause-ends
returns-in-Ok-Go-clause-ends g c =
    let asked = c.args.asked.now in
    let held = g.S.Shelf.held c.args.shelf.now in
    let taken = rw c.in-Ok-Go.field-0-is at c.in-Ok-Go.ensures.is in
    taken_ends g.K.Sink c.args.out.now c.show_taken.new.out asked.view asked.album.force asked.album.folder.now
    asked.name.now held (g.S.Shelf.held c.take_file.new.shelf) c.as_slice.result.now c.show_taken.result
    c.in-Ok-Go.ensures.read.kept
    (subst (λ (bytes : List ℕ). IsFoundFile asked.name.now held bytes) (sym c.as_slice.ensures) taken)
    c.show_taken.ensures.bytes c.show_taken.ensures.ends

pub returns-in-Ok-Go-clause-leaves : goal.returns-in-Ok-Go-clause-leaves
returns-in-Ok-Go-clause-leaves g c =
    let asked = c.args.asked.now in
    let held = g.S.Shelf.held c.args.shelf.now in
    let taken = rw c.in-Ok-Go.field-0-is at c.in-Ok-Go.ensures.is in
    taken_leaves g.S.Shelf asked.view.strict asked.album.force asked.album.folder.now asked.name.now
    c.as_slice.result.now c.show_taken.result c.args.shelf.now c.take_file.new.shelf c.show_taken.new.shelf
    c.in-Ok-Go.ensures.read
    (subst (λ (bytes : List ℕ). IsFoundFile asked.name.now held bytes) (sym c.as_slice.ensures) taken)
    c.show_taken.ensures.leaves

pub returns-in-Ok-Go-clause-cause : goal.returns-in-Ok-Go-clause-cause
returns-in-Ok-Go-clause-cause g c =
    let shelf = g.S.Shelf in
    let before = c.args.shelf.now in
    let mid = c.take_file.new.shelf in
    let now = c.show_taken.new.shelf in
    taken_caused c.show_taken.result (shelf.missed before) (shelf.missed now) (shelf.faults before) (shelf.faults mid)
    (shelf.faults now) c.show_taken.ensures.after c.in-Ok-Go.ensures.read.faults c.show_taken.ensures.failed

pub returns-in-Ok-Go-clause-asked : goal.returns-in-Ok-Go-clause-asked
returns-in-Ok-Go-clause-asked g c = taken_asked c.show_taken.result c.show_taken.ensures.after

pub returns-in-Ok-Stop-clause-ends : goal.returns-in-Ok-Stop-clause-ends
returns-in-Ok-Stop-clause-ends g c =
    let asked = c.args.asked.now in
    let name = asked.name.now in
    let held = g.S.Shelf.held c.args.shelf.now in
    let stopped = rw c.in-Ok-Stop.field-0-is at c.in-Ok-Stop.ensures.is in
    subst (λ (status : ℕ). RunEnds (ShowsPictured asked.view asked.album.force asked.album.folder.now name held) g.K.Sink c.args.out.now
    c.args.out.now status) (sym c.status.ensures)
    (named_ends g.K.Sink c.args.out.now c.args.out.now asked.view asked.album.force asked.album.folder.now name held
    c.in-Ok-Stop.ending.status (stopped_ends g.K.Sink c.args.out.now name held
    (ShowsFile asked.view (Some asked.album.folder.now) name) c.in-Ok-Stop.ending stopped))

pub returns-in-Ok-Stop-clause-leaves : goal.returns-in-Ok-Stop-clause-leaves
returns-in-Ok-Stop-clause-leaves g c =
    let asked = c.args.asked.now in
    let name = asked.name.now in
    let held = g.S.Shelf.held c.args.shelf.now in
    let stopped = rw c.in-Ok-Stop.field-0-is at c.in-Ok-Stop.ensures.is in
    read_leaves g.S.Shelf asked.view.strict asked.album.force asked.album.folder.now name c.status.result
    c.args.shelf.now c.take_file.new.shelf c.in-Ok-Stop.ensures.read
    (subst (λ (status : ℕ). status ≢ 0) (sym c.status.ensures) (stopped_not_shown name held c.in-Ok-Stop.ending stopped))

pub returns-in-Ok-Stop-clause-cause : goal.returns-in-Ok-Stop-clause-cause
returns-in-Ok-Stop-clause-cause g c =
    let caused = rw c.in-Ok-Stop.field-0-is at c.in-Ok-Stop.ensures.cause in
    subst (λ (status : ℕ). IsCaused g.S.Shelf c.args.shelf.now c.take_file.new.shelf status) (sym c.status.ensures) caused

pub returns-in-Ok-Stop-clause-asked : goal.returns-in-Ok-Stop-clause-asked
returns-in-Ok-Stop-clause-asked g c =
    let name = c.args.asked.now.name.now in
    let held = g.S.Shelf.held c.args.shelf.now in
    let stopped = rw c.in-Ok-Stop.field-0-is at c.in-Ok-Stop.ensures.is in
    λ two. stopped_status name held c.in-Ok-Stop.ending stopped (sym c.status.ensures ∙ two)

pub returns-in-Err-clause-leaves : goal.returns-in-Err-clause-leaves
returns-in-Err-clause-leaves g c =
    let asked = c.args.asked.now in
    read_leaves g.S.Shelf asked.view.strict asked.album.force asked.album.folder.now asked.name.now 6
    c.args.shelf.now c.take_file.new.shelf c.in-Err.ensures.read (λ six. absurd (omega (arith, six)))
