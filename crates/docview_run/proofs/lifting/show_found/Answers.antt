use Rattle.std.proofs.Common.{sym, subst, ℕ, List}
use Rattle.file_mends.specs.Mends.{bytes_read}
use Rattle.file_rules.specs.Faults.{IsReadFault}
use Rattle.doc_fit.specs.Rules.{fit_rules}
use Rattle.std.proofs.Common.{None}
use Rattle.docview_run.specs.Viewed.{IsFaultStatus}
use Rattle.docview_run.proofs.ViewLemmas.{found_lifted, found_opened, found_refused, lifted_ends, unopened_after}
use Rattle.docview_run.proofs.ViewLemmas.{unopened_ends}
use Rattle.docview_run.proofs.lifting.show_found.Goals as goal

pub show_opened-requires : goal.show_opened-requires
show_opened-requires g c =
    let file = c.args.shown.now.file.now in
    let fit = found_opened file c.args.found.now c.in-Ok.opened c.requires.opened c.in-Ok.is in
    fit.sound

pub returns-in-Ok-clause-ends : goal.returns-in-Ok-clause-ends
returns-in-Ok-clause-ends g c =
    let shown = c.args.shown.now in
    let file = shown.file.now in
    let found = c.args.found.now in
    let opened = c.in-Ok.opened in
    lifted_ends g.K.Sink c.args.out.now c.show_opened.new.out shown.name.now file (bytes_read file found.mended)
    shown.view opened.lifted.document c.show_opened.result c.requires.lifts
    (found_lifted file found opened c.requires.refused c.requires.opened c.in-Ok.is) c.show_opened.ensures.ends

pub tell_read_fault-requires : goal.tell_read_fault-requires
tell_read_fault-requires g c =
    let file = c.args.shown.now.file.now in
    subst (λ (read : List ℕ). IsReadFault (fit_rules read) c.in-Err.fault) (sym c.bytes-read.ensures)
    (found_refused file c.args.found.now c.in-Err.fault c.requires.opened c.in-Err.is)

pub returns-in-Err-clause-ends : goal.returns-in-Err-clause-ends
returns-in-Err-clause-ends g c =
    let shown = c.args.shown.now in
    let file = shown.file.now in
    let found = c.args.found.now in
    let opened = c.requires.opened in
    let read = bytes_read file found.mended in
    unopened_ends g.K.Sink c.args.out.now None shown.name.now file read found.mended.mends shown.view
    c.tell_read_fault.result c.requires.refused c.requires.lifts opened.read_as
    (subst (λ (r : List ℕ). IsFaultStatus r c.tell_read_fault.result) c.bytes-read.ensures c.tell_read_fault.ensures)

pub returns-in-Err-clause-after : goal.returns-in-Err-clause-after
returns-in-Err-clause-after g c = unopened_after c.bytes-read.result.now c.tell_read_fault.result c.tell_read_fault.ensures
