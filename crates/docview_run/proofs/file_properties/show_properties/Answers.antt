use Rattle.std.proofs.Common.{◌≡◌, ◌∙◌, ℕ, List, sym, subst}
use Rattle.run_stages.specs.Leaves.{IsCaused}
use Rattle.run_stages.specs.Reading.{IsFoundFile}
use Rattle.docview_run.specs.Endings.{RunEnds}
use Rattle.docview_run.specs.FileProperties.{PropertiesOf, ShowsProperties}
use Rattle.docview_run.proofs.EndLemmas.{file_asked, file_caused, file_ends, stopped_ends, stopped_status}
use Rattle.docview_run.proofs.file_properties.show_properties.Goals as goal

pub returns-in-Ok-Go-clause-ends : goal.returns-in-Ok-Go-clause-ends
returns-in-Ok-Go-clause-ends g c =
    let name = c.args.name.now in
    let held = g.S.Shelf.held c.args.shelf.now in
    let taken = rw c.in-Ok-Go.field-0-is at c.in-Ok-Go.ensures.is in
    file_ends g.K.Sink c.args.out.now c.show_taken.new.out name held (PropertiesOf name) c.as_slice.result.now
    c.show_taken.result
    (subst (λ (bytes : List ℕ). IsFoundFile name held bytes) (sym c.as_slice.ensures) taken) c.show_taken.ensures.bytes
    c.show_taken.ensures.ends

pub returns-in-Ok-Go-clause-cause : goal.returns-in-Ok-Go-clause-cause
returns-in-Ok-Go-clause-cause g c =
    let shelf = g.S.Shelf in
    let before = c.args.shelf.now in
    let after = c.take_file.new.shelf in
    file_caused c.show_taken.result (shelf.missed before) (shelf.missed after) (shelf.faults before)
    (shelf.faults after) c.show_taken.ensures.after

pub returns-in-Ok-Go-clause-asked : goal.returns-in-Ok-Go-clause-asked
returns-in-Ok-Go-clause-asked g c = file_asked c.show_taken.result c.show_taken.ensures.after

pub returns-in-Ok-Stop-clause-ends : goal.returns-in-Ok-Stop-clause-ends
returns-in-Ok-Stop-clause-ends g c =
    let name = c.args.name.now in
    let held = g.S.Shelf.held c.args.shelf.now in
    let stopped = rw c.in-Ok-Stop.field-0-is at c.in-Ok-Stop.ensures.is in
    subst (λ (status : ℕ). RunEnds (ShowsProperties name held) g.K.Sink c.args.out.now c.args.out.now status)
    (sym c.status.ensures)
    (stopped_ends g.K.Sink c.args.out.now name held (PropertiesOf name) c.in-Ok-Stop.ending stopped)

pub returns-in-Ok-Stop-clause-cause : goal.returns-in-Ok-Stop-clause-cause
returns-in-Ok-Stop-clause-cause g c =
    let caused = rw c.in-Ok-Stop.field-0-is at c.in-Ok-Stop.ensures.cause in
    subst (λ (status : ℕ). IsCaused g.S.Shelf c.args.shelf.now c.take_file.new.shelf status) (sym c.status.ensures)
    caused

pub returns-in-Ok-Stop-clause-asked : goal.returns-in-Ok-Stop-clause-asked
returns-in-Ok-Stop-clause-asked g c =
    let name = c.args.name.now in
    let held = g.S.Shelf.held c.args.shelf.now in
    let stopped = rw c.in-Ok-Stop.field-0-is at c.in-Ok-Stop.ensures.is in
    λ two. stopped_status name held c.in-Ok-Stop.ending stopped (sym c.status.ensures ∙ two)
