use Rattle.std.proofs.Common.{◌≡◌, ◌∙◌, ℕ, List, OnOk, subst}
use Rattle.doc_outer.specs.Held.{OthersStay}
use Rattle.doc_outer.proofs.Public.{StaysAt-refl, count_stays}
use Rattle.doc_pictures.specs.Album.{IsHeld, IsWritten, file_bytes}
use Rattle.doc_pictures.specs.Names.{picture_path}
use Rattle.doc_pictures.proofs.album.write_picture.Goals as goal

pub returns-in-Ok-clause-written : goal.returns-in-Ok-clause-written
returns-in-Ok-clause-written g c =
    let held = g.S.Shelf.held in
    let path : c.as_str.result.now ≡ picture_path c.args.album.now.folder.now c.args.number c.args.picture.file.kind =
    c.as_str.ensures ∙ c.in-Ok.ensures in
    subst (λ (name : List ℕ). OnOk c.write_file.result (IsWritten c.args.album.now.force name (file_bytes c.args.stream.now
    c.args.picture) (held c.args.shelf.now) (held c.write_file.new.shelf))) path c.write_file.ensures.written

pub returns-in-Ok-clause-others : goal.returns-in-Ok-clause-others
returns-in-Ok-clause-others g c =
    let held = g.S.Shelf.held in
    let path : c.as_str.result.now ≡ picture_path c.args.album.now.folder.now c.args.number c.args.picture.file.kind =
    c.as_str.ensures ∙ c.in-Ok.ensures in
    subst (λ (name : List ℕ). OthersStay name (held c.args.shelf.now) (held c.write_file.new.shelf)) path
    c.write_file.ensures.others

pub returns-in-Ok-clause-there : goal.returns-in-Ok-clause-there
returns-in-Ok-clause-there g c = λ there.
    let held = g.S.Shelf.held in
    let path : c.as_str.result.now ≡ picture_path c.args.album.now.folder.now c.args.number c.args.picture.file.kind =
    c.as_str.ensures ∙ c.in-Ok.ensures in
    subst (λ (name : List ℕ). IsHeld c.args.album.now.force name (held c.args.shelf.now)) path
    (c.write_file.ensures.there there)

pub returns-in-Err-clause-others : goal.returns-in-Err-clause-others
returns-in-Err-clause-others g c = λ other apart. StaysAt-refl other (g.S.Shelf.held c.args.shelf.now)

pub returns-in-Err-clause-faults : goal.returns-in-Err-clause-faults
returns-in-Err-clause-faults g c = count_stays (g.S.Shelf.faults c.args.shelf.now)

pub returns-in-Err-clause-missed : goal.returns-in-Err-clause-missed
returns-in-Err-clause-missed g c = count_stays (g.S.Shelf.missed c.args.shelf.now)
