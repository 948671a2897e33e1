use Rattle.std.proofs.Common.{◌≡◌, ◌∙◌, ap, sym, subst, map}
use Rattle.std.specs.String.{string_bytes}
use Rattle.doc_outer.specs.Held.{StaysAt}
use Rattle.doc_outer.proofs.Public.{StaysAt-refl}
use Rattle.run_stages.specs.Outcomes.{PutFile}
use Rattle.docfit_run.proofs.PutLemmas.{ending_calm, ending_puts, stays_by_put}
use Rattle.docfit_run.proofs.run.ending_after_put.Goals as goal

pub returns-in_err-shelf_fault_line-clause-kept : goal.returns-in_err-shelf_fault_line-clause-kept
returns-in_err-shelf_fault_line-clause-kept g c name never =
    let held = g.S.Shelf.held c.args.shelf.now in
    subst (λ h. StaysAt name held h) (sym c.in_ok-ending.ensures.read.kept) (StaysAt-refl name held)

pub returns-in-Ok-clause-kept : goal.returns-in-Ok-clause-kept
returns-in-Ok-clause-kept g c name never =
    let held = g.S.Shelf.held in
    let file = c.in-Some.file.now in
    let at : c.as_str.result.now ≡ file.name = c.as_str.ensures ∙ ap (λ (f : PutFile). f.name) c.file-2.view_is in
    stays_by_put (map string_bytes c.args.words.now) (held c.args.shelf.now) (held c.ending_of.new.shelf)
    (held c.put.new.self) c.in_ok-ending.ending file c.as_str.result.now name c.in_ok-ending.ensures.ending
    (sym c.in-Some.ensures) c.in_ok-ending.ensures.read.kept at c.put.ensures.others never

pub returns-in-Ok-clause-unchanged : goal.returns-in-Ok-clause-unchanged
returns-in-Ok-clause-unchanged g c other told =
    let puts =
    ending_puts (map string_bytes c.args.words.now) _ c.in_ok-ending.ending c.in-Some.file.now
    c.in_ok-ending.ensures.ending (sym c.in-Some.ensures) in
    absurd (other puts.1)

pub returns-in-Err-Failed-clause-kept : goal.returns-in-Err-Failed-clause-kept
returns-in-Err-Failed-clause-kept g c name never =
    let held = g.S.Shelf.held in
    let file = c.in-Some.file.now in
    let at : c.as_str.result.now ≡ file.name = c.as_str.ensures ∙ ap (λ (f : PutFile). f.name) c.file-2.view_is in
    stays_by_put (map string_bytes c.args.words.now) (held c.args.shelf.now) (held c.ending_of.new.shelf)
    (held c.put.new.self) c.in_ok-ending.ending file c.as_str.result.now name c.in_ok-ending.ensures.ending
    (sym c.in-Some.ensures) c.in_ok-ending.ensures.read.kept at c.put.ensures.others never

pub returns-clause-kept : goal.returns-clause-kept
returns-clause-kept g c name never =
    let held = g.S.Shelf.held in
    let file = c.in-Some.file.now in
    let at : c.as_str.result.now ≡ file.name = c.as_str.ensures ∙ ap (λ (f : PutFile). f.name) c.file-2.view_is in
    stays_by_put (map string_bytes c.args.words.now) (held c.args.shelf.now) (held c.ending_of.new.shelf)
    (held c.put.new.self) c.in_ok-ending.ending file c.as_str.result.now name c.in_ok-ending.ensures.ending
    (sym c.in-Some.ensures) c.in_ok-ending.ensures.read.kept at c.put.ensures.others never

pub returns-in_default-clause-status : goal.returns-in_default-clause-status
returns-in_default-clause-status g c =
    ending_calm (map string_bytes c.args.words.now) (g.S.Shelf.held c.args.shelf.now) c.in_ok-ending.ending
    c.in_ok-ending.ensures.ending

pub returns-in-Ok-clause-status : goal.returns-in-Ok-clause-status
returns-in-Ok-clause-status g c =
    ending_calm (map string_bytes c.args.words.now) (g.S.Shelf.held c.args.shelf.now) c.in_ok-ending.ending
    c.in_ok-ending.ensures.ending
