use Rattle.std.proofs.Common.{◌≡◌, ◌⊎◌, Err, List, ap, inr, subst, sym}
use Rattle.doc_pictures.specs.declared.pictures.Picture.{Picture}
use Rattle.doc_pictures.specs.Album.{AreWithinStream, IsCutShort, WritesPictures}
use Rattle.doc_pictures.specs.Places.{picture_places}
use Rattle.doc_pictures.proofs.Public.{pictures-within}
use Rattle.docview_run.proofs.PictureLemmas.{path_named, same_fault, taken_there}
use Rattle.docview_run.proofs.pictures.write_pictures_in.Goals as goal

pub write_pictures-requires : goal.write_pictures-requires
write_pictures-requires g c =
    subst (λ (pictures : List Picture). AreWithinStream c.args.stream.now pictures) (sym c.as_slice.ensures.is)
    (pictures-within c.args.stream.now (picture_places c.args.document.now) c.in-Ok.pictures c.in-Ok.ensures)

pub returns-in-Ok-write_pictures-clause-written : goal.returns-in-Ok-write_pictures-clause-written
returns-in-Ok-write_pictures-clause-written g c =
    let held = g.S.Shelf.held in
    record {
      are = c.in-Ok.ensures;
      writes =
          subst (λ (all : List Picture). WritesPictures c.args.album.now.force c.args.album.now.folder.now
          c.args.stream.now 1 all
          (held c.args.shelf.now) (held c.write_pictures.new.shelf)) c.as_slice.ensures.is c.in-Ok-write_pictures.ensures.written;
    }

pub returns-in-Ok-write_pictures-clause-others : goal.returns-in-Ok-write_pictures-clause-others
returns-in-Ok-write_pictures-clause-others g c = λ other apart.
    c.in-Ok-write_pictures.ensures.others other (path_named c.args.album.now.folder.now c.as_slice.result.now other apart)

pub returns-in-Err-write_pictures-clause-cut : goal.returns-in-Err-write_pictures-clause-cut
returns-in-Err-write_pictures-clause-cut g c =
    let held = g.S.Shelf.held in
    inr (record {
      pictures = c.in-Ok.pictures;
      are = c.in-Ok.ensures;
      cut =
          subst (λ (all : List Picture). IsCutShort c.args.album.now.force c.args.album.now.folder.now c.args.stream.now all
          (held c.args.shelf.now) (held c.write_pictures.new.shelf)) c.as_slice.ensures.is c.in-Err-write_pictures.ensures.cut;
    })

pub returns-in-Err-write_pictures-clause-others : goal.returns-in-Err-write_pictures-clause-others
returns-in-Err-write_pictures-clause-others g c = λ other apart.
    c.in-Err-write_pictures.ensures.others other (path_named c.args.album.now.folder.now c.as_slice.result.now other apart)

pub returns-in-Err-write_pictures-clause-there : goal.returns-in-Err-write_pictures-clause-there
returns-in-Err-write_pictures-clause-there g c = λ there.
    taken_there c.args.album.now.force c.args.album.now.folder.now c.as_slice.result.now
    (g.S.Shelf.held c.args.shelf.now)
    (c.in-Err-write_pictures.ensures.there (ap Err (same_fault c.in-Err-write_pictures.fault there)))
