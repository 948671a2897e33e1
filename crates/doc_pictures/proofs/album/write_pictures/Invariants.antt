use Rattle.std.proofs.Common.{◌≡◌, ℕ, ◌+◌, ◌≤◌, List, take, Some, slice_get}
use Rattle.doc_outer.specs.Counts.{CountGoesOn}
use Rattle.doc_outer.specs.Held.{StaysAt}
use Rattle.doc_pictures.specs.declared.pictures.Picture.{Picture}
use Rattle.doc_pictures.specs.Names.{picture_path}
use Rattle.doc_pictures.specs.Album.{IsPicturePath, WritesPictures}
use Rattle.doc_pictures.proofs.album.write_pictures.Given as goal

-- the files so far were written
abbrev pub invariant-loop-k : goal.invariant-loop-k
invariant-loop-k g l =
    let held = g.S.Shelf.held in
    record {
      written : WritesPictures l.album.force l.album.folder.now l.stream 1 (take l.k l.pictures) (held l.fn.shelf) (held
          l.shelf);
      others : (name : List ℕ) → ¬ (IsPicturePath l.album.folder.now l.pictures name) →
          StaysAt name (held l.fn.shelf) (held l.shelf);
      ahead : (j : ℕ) (picture : Picture) → l.k ≤ j → slice_get l.pictures j ≡ Some picture →
          StaysAt (picture_path l.album.folder.now (j + 1) picture.file.kind) (held l.fn.shelf) (held l.shelf);
      faults : CountGoesOn (g.S.Shelf.faults l.fn.shelf) (g.S.Shelf.faults l.shelf);
      missed : CountGoesOn (g.S.Shelf.missed l.fn.shelf) (g.S.Shelf.missed l.shelf);
    }
