-- The pictures, one by one.
use Rattle.std.proofs.Common.{◌+◌, ◌<◌, List, refl, subst, arith}
use Rattle.std.proofs.lemmas.List.{take_all}
use Rattle.doc_bits.proofs.Public.{All_at}
use Rattle.doc_outer.proofs.Public.{Rose-after, count_stays, count_on, StaysAt-refl}
use Rattle.doc_pictures.specs.declared.pictures.Picture.{Picture}
use Rattle.doc_pictures.specs.Names.{picture_path}
use Rattle.doc_pictures.specs.Album.{IsWithinStream, WritesPictures}
use Rattle.doc_pictures.proofs.ApartLemmas.{paths-apart, there-before}
use Rattle.doc_pictures.proofs.AlbumLemmas.{none-written, stays-by, stays-on}
use Rattle.doc_pictures.proofs.AlbumLemmas.{within-length, writes-on}
use Rattle.doc_pictures.proofs.album.write_pictures.Goals as goal

pub loop-k-init : goal.loop-k-init
loop-k-init g c =
    let shelf = g.S.Shelf in
    let now = c.args.shelf.now in
    record {
      written = none-written c.args.album.now.force c.args.album.now.folder.now c.args.stream.now 1 (shelf.held now);
      others = λ name apart. StaysAt-refl name (shelf.held now);
      ahead = λ j picture from here.
          StaysAt-refl (picture_path c.args.album.now.folder.now (j + 1) picture.file.kind) (shelf.held now);
      faults = count_stays (shelf.faults now);
      missed = count_stays (shelf.missed now);
    }

pub write_picture-requires : goal.write_picture-requires
write_picture-requires g c =
    All_at (IsWithinStream c.args.stream.now) c.args.pictures.now c.loop-k.k c.nth-picture.result c.requires
    c.nth-picture.ensures

pub loop-k-preserved : goal.loop-k-preserved
loop-k-preserved g c =
    let shelf = g.S.Shelf in
    let first = c.args.shelf.now in
    let mid = c.loop-k.shelf in
    let now = c.write_picture.new.shelf in
    let pictures = c.args.pictures.now in
    let old = c.loop-k.invariant in
    let put = c.in-Ok.ensures in
    record {
      written =
          writes-on c.args.album.now.force c.args.album.now.folder.now c.args.stream.now pictures c.loop-k.k c.nth-picture.result
          (shelf.held first) (shelf.held mid) (shelf.held now) c.nth-picture.ensures (omega arith) old.written
          put.written;
      others = λ name apart.
          stays-by c.args.album.now.folder.now pictures c.loop-k.k c.nth-picture.result (shelf.held first) (shelf.held mid)
          (shelf.held now) name c.nth-picture.ensures apart (old.others name apart) put.others;
      ahead = λ j picture from here.
          let folder = c.args.album.now.folder.now in
          let few = within-length pictures j picture here in
          let path = picture_path folder (j + 1) picture.file.kind in
          stays-on path (shelf.held first) (shelf.held mid) (shelf.held now)
          (old.ahead j picture (omega (arith, from)) here)
          (put.others path (paths-apart folder (j + 1) (c.loop-k.k + 1) picture.file.kind c.nth-picture.result.file.kind
          (omega (arith, few)) (omega arith) (λ same. absurd (omega (arith, from, same)))));
      faults = count_on (shelf.faults first) (shelf.faults mid) (shelf.faults now) old.faults put.faults;
      missed = count_on (shelf.missed first) (shelf.missed mid) (shelf.missed now) old.missed put.missed;
    }

pub returns-in-Err-clause-cut : goal.returns-in-Err-clause-cut
returns-in-Err-clause-cut g c = record {
  k = c.loop-k.k;
  picture = c.nth-picture.result;
  there = c.nth-picture.ensures;
  mid = g.S.Shelf.held c.loop-k.shelf;
  written = c.loop-k.invariant.written;
  others = c.in-Err.ensures.others;
}

pub returns-in-Err-clause-there : goal.returns-in-Err-clause-there
returns-in-Err-clause-there g c = λ there.
    let held = g.S.Shelf.held in
    let folder = c.args.album.now.folder.now in
    let picture = c.nth-picture.result in
    let path = picture_path folder (c.loop-k.k + 1) picture.file.kind in
    let taken = c.in-Err.ensures.there there in
    record {
      name = path;
      path = record { k = c.loop-k.k; picture = picture; there = c.nth-picture.ensures; path = refl };
      holds = record {
        keeps = taken.keeps;
        there =
            there-before path (held c.args.shelf.now) (held c.loop-k.shelf)
            (c.loop-k.invariant.ahead c.loop-k.k picture (omega arith) c.nth-picture.ensures) taken.there;
      };
    }

pub returns-in-Err-clause-others : goal.returns-in-Err-clause-others
returns-in-Err-clause-others g c = λ name apart.
    let held = g.S.Shelf.held in
    stays-by c.args.album.now.folder.now c.args.pictures.now c.loop-k.k c.nth-picture.result (held c.args.shelf.now)
    (held c.loop-k.shelf) (held c.write_picture.new.shelf) name c.nth-picture.ensures apart
    (c.loop-k.invariant.others name apart) c.in-Err.ensures.others

pub returns-in-Err-clause-failed : goal.returns-in-Err-clause-failed
returns-in-Err-clause-failed g c = λ failed.
    let faults = g.S.Shelf.faults in
    Rose-after (faults c.args.shelf.now) (faults c.loop-k.shelf) (faults c.write_picture.new.shelf)
    c.loop-k.invariant.faults (c.in-Err.ensures.failed failed)

pub returns-in-Err-clause-faults : goal.returns-in-Err-clause-faults
returns-in-Err-clause-faults g c =
    let faults = g.S.Shelf.faults in
    count_on (faults c.args.shelf.now) (faults c.loop-k.shelf) (faults c.write_picture.new.shelf)
    c.loop-k.invariant.faults c.in-Err.ensures.faults

pub returns-in-Err-clause-missed : goal.returns-in-Err-clause-missed
returns-in-Err-clause-missed g c =
    let missed = g.S.Shelf.missed in
    count_on (missed c.args.shelf.now) (missed c.loop-k.shelf) (missed c.write_picture.new.shelf)
    c.loop-k.invariant.missed c.in-Err.ensures.missed

pub returns-clause-written : goal.returns-clause-written
returns-clause-written g c =
    let held = g.S.Shelf.held in
    subst (λ (all : List Picture). WritesPictures c.args.album.now.force c.args.album.now.folder.now c.args.stream.now 1
    all
    (held c.args.shelf.now) (held c.loop-k.shelf)) (take_all c.loop-k.k c.args.pictures.now (omega arith))
    c.loop-k.invariant.written
