use Rattle.std.proofs.Common.{Option, map, refl, subst, sym}
use Rattle.std.specs.String.{string_bytes}
use Rattle.docview_run.specs.Requests.{Request, help, page, pictured, properties, requested, version}
use Rattle.docview_run.specs.Pictured.{Leaves}
use Rattle.docview_run.proofs.EndLemmas.{asked_ends, file_asked, file_caused, printed_after, usage_apart, usage_ends}
use Rattle.docview_run.proofs.PictureLemmas.{asked_leaves, unread}
use Rattle.docview_run.proofs.SafeLemmas.{run_safe}
use Rattle.docview_run.proofs.run.docview_run.Goals as goal

pub returns-in-None-clause-ends : goal.returns-in-None-clause-ends
returns-in-None-clause-ends g c =
    usage_ends g.K.Sink c.args.out.now (g.S.Shelf.held c.args.shelf.now)
    (requested (map string_bytes c.args.words.now)) c.in-None.ensures

pub returns-in-None-clause-usage : goal.returns-in-None-clause-usage
returns-in-None-clause-usage g c = (λ two. c.in-None.ensures, λ none. refl)

pub returns-in-Some-Help-clause-ends : goal.returns-in-Some-Help-clause-ends
returns-in-Some-Help-clause-ends g c =
    let asked = rw c.in-Some-Help.field-0-is at c.in-Some-Help.ensures in
    asked_ends g.K.Sink c.args.out.now c.print.new.out (g.S.Shelf.held c.args.shelf.now)
    (requested (map string_bytes c.args.words.now)) help c.print.result asked c.print.ensures.ends

pub returns-in-Some-Help-clause-usage : goal.returns-in-Some-Help-clause-usage
returns-in-Some-Help-clause-usage g c =
    let asked = rw c.in-Some-Help.field-0-is at c.in-Some-Help.ensures in
    usage_apart c.print.result (requested (map string_bytes c.args.words.now)) help asked
    (file_asked c.print.result (printed_after c.print.result c.print.ensures.status))

pub returns-in-Some-Help-clause-cause : goal.returns-in-Some-Help-clause-cause
returns-in-Some-Help-clause-cause g c =
    let shelf = g.S.Shelf in
    let now = c.args.shelf.now in
    file_caused c.print.result (shelf.missed now) (shelf.missed now) (shelf.faults now) (shelf.faults now)
    (printed_after c.print.result c.print.ensures.status)

pub returns-in-Some-Version-clause-ends : goal.returns-in-Some-Version-clause-ends
returns-in-Some-Version-clause-ends g c =
    let asked = rw c.in-Some-Version.field-0-is at c.in-Some-Version.ensures in
    asked_ends g.K.Sink c.args.out.now c.print-in-Some-Version.new.out (g.S.Shelf.held c.args.shelf.now)
    (requested (map string_bytes c.args.words.now)) version c.print-in-Some-Version.result asked c.print-in-Some-Version.ensures.ends

pub returns-in-Some-Version-clause-usage : goal.returns-in-Some-Version-clause-usage
returns-in-Some-Version-clause-usage g c =
    let asked = rw c.in-Some-Version.field-0-is at c.in-Some-Version.ensures in
    usage_apart c.print-in-Some-Version.result (requested (map string_bytes c.args.words.now)) version asked
    (file_asked c.print-in-Some-Version.result (printed_after c.print-in-Some-Version.result c.print-in-Some-Version.ensures.status))

pub returns-in-Some-Version-clause-cause : goal.returns-in-Some-Version-clause-cause
returns-in-Some-Version-clause-cause g c =
    let shelf = g.S.Shelf in
    let now = c.args.shelf.now in
    file_caused c.print-in-Some-Version.result (shelf.missed now) (shelf.missed now) (shelf.faults now) (shelf.faults now)
    (printed_after c.print-in-Some-Version.result c.print-in-Some-Version.ensures.status)

pub returns-in-Some-Page-clause-ends : goal.returns-in-Some-Page-clause-ends
returns-in-Some-Page-clause-ends g c =
    let asked = rw c.in-Some-Page.field-0-is at c.in-Some-Page.ensures in
    asked_ends g.K.Sink c.args.out.now c.show_name.new.out (g.S.Shelf.held c.args.shelf.now)
    (requested (map string_bytes c.args.words.now)) (page c.in-Some-Page.view c.in-Some-Page.file.now) c.show_name.result asked c.show_name.ensures.ends

pub returns-in-Some-Page-clause-usage : goal.returns-in-Some-Page-clause-usage
returns-in-Some-Page-clause-usage g c =
    let asked = rw c.in-Some-Page.field-0-is at c.in-Some-Page.ensures in
    usage_apart c.show_name.result (requested (map string_bytes c.args.words.now)) (page c.in-Some-Page.view c.in-Some-Page.file.now) asked
    c.show_name.ensures.asked

pub returns-in-Some-Properties-clause-ends : goal.returns-in-Some-Properties-clause-ends
returns-in-Some-Properties-clause-ends g c =
    let asked = rw c.in-Some-Properties.field-0-is at c.in-Some-Properties.ensures in
    asked_ends g.K.Sink c.args.out.now c.show_properties.new.out (g.S.Shelf.held c.args.shelf.now)
    (requested (map string_bytes c.args.words.now))
    (properties c.in-Some-Properties.form c.in-Some-Properties.file.now) c.show_properties.result asked
    c.show_properties.ensures.ends

pub returns-in-Some-Properties-clause-usage : goal.returns-in-Some-Properties-clause-usage
returns-in-Some-Properties-clause-usage g c =
    let asked = rw c.in-Some-Properties.field-0-is at c.in-Some-Properties.ensures in
    usage_apart c.show_properties.result (requested (map string_bytes c.args.words.now))
    (properties c.in-Some-Properties.form c.in-Some-Properties.file.now) asked
    c.show_properties.ensures.asked

pub returns-in-None-clause-safe : goal.returns-in-None-clause-safe
returns-in-None-clause-safe g c =
    run_safe g.K.Sink c.args.out.now c.args.out.now (map string_bytes c.args.words.now)
    (g.S.Shelf.held c.args.shelf.now) 2 (returns-in-None-clause-ends g c)

pub returns-in-Some-Help-clause-safe : goal.returns-in-Some-Help-clause-safe
returns-in-Some-Help-clause-safe g c =
    run_safe g.K.Sink c.args.out.now c.print.new.out (map string_bytes c.args.words.now)
    (g.S.Shelf.held c.args.shelf.now) c.print.result (returns-in-Some-Help-clause-ends g c)

pub returns-in-Some-Version-clause-safe : goal.returns-in-Some-Version-clause-safe
returns-in-Some-Version-clause-safe g c =
    run_safe g.K.Sink c.args.out.now c.print-in-Some-Version.new.out (map string_bytes c.args.words.now)
    (g.S.Shelf.held c.args.shelf.now) c.print-in-Some-Version.result (returns-in-Some-Version-clause-ends g c)

pub returns-in-Some-Page-clause-safe : goal.returns-in-Some-Page-clause-safe
returns-in-Some-Page-clause-safe g c =
    run_safe g.K.Sink c.args.out.now c.show_name.new.out (map string_bytes c.args.words.now)
    (g.S.Shelf.held c.args.shelf.now) c.show_name.result (returns-in-Some-Page-clause-ends g c)

pub returns-in-Some-Properties-clause-safe : goal.returns-in-Some-Properties-clause-safe
returns-in-Some-Properties-clause-safe g c =
    run_safe g.K.Sink c.args.out.now c.show_properties.new.out (map string_bytes c.args.words.now)
    (g.S.Shelf.held c.args.shelf.now) c.show_properties.result (returns-in-Some-Properties-clause-ends g c)

pub returns-in-None-clause-leaves : goal.returns-in-None-clause-leaves
returns-in-None-clause-leaves g c =
    let shelf = c.args.shelf.now in
    subst (λ (asked : Option Request). Leaves g.S.Shelf asked 2 shelf shelf) (sym c.in-None.ensures)
    (unread g.S.Shelf shelf)

pub returns-in-Some-Help-clause-leaves : goal.returns-in-Some-Help-clause-leaves
returns-in-Some-Help-clause-leaves g c =
    let asked = rw c.in-Some-Help.field-0-is at c.in-Some-Help.ensures in
    asked_leaves g.S.Shelf c.args.shelf.now c.args.shelf.now (requested (map string_bytes c.args.words.now)) help
    c.print.result asked (unread g.S.Shelf c.args.shelf.now)

pub returns-in-Some-Version-clause-leaves : goal.returns-in-Some-Version-clause-leaves
returns-in-Some-Version-clause-leaves g c =
    let asked = rw c.in-Some-Version.field-0-is at c.in-Some-Version.ensures in
    asked_leaves g.S.Shelf c.args.shelf.now c.args.shelf.now (requested (map string_bytes c.args.words.now)) version
    c.print-in-Some-Version.result asked (unread g.S.Shelf c.args.shelf.now)

pub returns-in-Some-Page-clause-leaves : goal.returns-in-Some-Page-clause-leaves
returns-in-Some-Page-clause-leaves g c =
    let asked = rw c.in-Some-Page.field-0-is at c.in-Some-Page.ensures in
    asked_leaves g.S.Shelf c.args.shelf.now c.show_name.new.shelf (requested (map string_bytes c.args.words.now))
    (page c.in-Some-Page.view c.in-Some-Page.file.now) c.show_name.result asked c.show_name.ensures.read

pub returns-in-Some-Pictured-clause-leaves : goal.returns-in-Some-Pictured-clause-leaves
returns-in-Some-Pictured-clause-leaves g c =
    let one = c.in-Some-Pictured in
    let asked = rw one.field-0-is at one.ensures in
    asked_leaves g.S.Shelf c.args.shelf.now c.show_pictured.new.shelf (requested (map string_bytes c.args.words.now))
    (pictured one.view one.album.folder.now one.album.force one.file.now) c.show_pictured.result asked
    c.show_pictured.ensures.leaves

pub returns-in-Some-Properties-clause-leaves : goal.returns-in-Some-Properties-clause-leaves
returns-in-Some-Properties-clause-leaves g c =
    let asked = rw c.in-Some-Properties.field-0-is at c.in-Some-Properties.ensures in
    asked_leaves g.S.Shelf c.args.shelf.now c.show_properties.new.shelf (requested (map string_bytes c.args.words.now))
    (properties c.in-Some-Properties.form c.in-Some-Properties.file.now) c.show_properties.result asked
    c.show_properties.ensures.read

pub returns-in-Some-Pictured-clause-ends : goal.returns-in-Some-Pictured-clause-ends
returns-in-Some-Pictured-clause-ends g c =
    let one = c.in-Some-Pictured in
    let asked = rw one.field-0-is at one.ensures in
    asked_ends g.K.Sink c.args.out.now c.show_pictured.new.out (g.S.Shelf.held c.args.shelf.now)
    (requested (map string_bytes c.args.words.now))
    (pictured one.view one.album.folder.now one.album.force one.file.now) c.show_pictured.result asked
    c.show_pictured.ensures.ends

pub returns-in-Some-Pictured-clause-usage : goal.returns-in-Some-Pictured-clause-usage
returns-in-Some-Pictured-clause-usage g c =
    let one = c.in-Some-Pictured in
    let asked = rw one.field-0-is at one.ensures in
    usage_apart c.show_pictured.result (requested (map string_bytes c.args.words.now))
    (pictured one.view one.album.folder.now one.album.force one.file.now) asked c.show_pictured.ensures.asked

pub returns-in-Some-Pictured-clause-safe : goal.returns-in-Some-Pictured-clause-safe
returns-in-Some-Pictured-clause-safe g c =
    run_safe g.K.Sink c.args.out.now c.show_pictured.new.out (map string_bytes c.args.words.now)
    (g.S.Shelf.held c.args.shelf.now) c.show_pictured.result (returns-in-Some-Pictured-clause-ends g c)
