use Rattle.std.proofs.Common.{◌≡◌, ◌⊎◌, inl, inr, subst, sym}
use Rattle.std.proofs.lemmas.Result.{IfOk-weaker}
use Rattle.cfb_streams.specs.Container.{HasContents}
use Rattle.cfb_streams.specs.Contents.{Contents}
use Rattle.docview_run.specs.Pictured.{CutsIn, CutsOf, WritesIn, WritesOf}
use Rattle.docview_run.proofs.PictureLemmas.{cut_weaker}
use Rattle.docview_run.proofs.pictures.write_pictures_of.Goals as goal

pub returns-in-Ok-clause-written : goal.returns-in-Ok-clause-written
returns-in-Ok-clause-written g c =
    let held = g.S.Shelf.held in
    let before = held c.args.shelf.now in
    let after = held c.write_pictures_in.new.shelf in
    let force = c.args.album.now.force in
    let folder = c.args.album.now.folder.now in
    let stream = c.data_of-stream.result.now in
    let document = c.args.document.now in
    IfOk-weaker c.write_pictures_in.result (λ pictures. WritesIn force folder stream document pictures before after)
    (λ pictures. WritesOf force folder c.args.file.now document pictures before after)
    (λ pictures writes. record {
      stream = stream;
      is = record {
        contents = c.container.result.now;
        has = subst (λ (k : Contents). HasContents c.args.file.now k) (sym c.container.ensures) c.in-Ok.ensures.1.0;
        there = c.data_of-stream.ensures;
      };
      writes = writes;
    }) c.write_pictures_in.ensures.written

pub returns-in-Ok-clause-cut : goal.returns-in-Ok-clause-cut
returns-in-Ok-clause-cut g c =
    let held = g.S.Shelf.held in
    cut_weaker c.args.album.now.force c.args.album.now.folder.now c.args.file.now c.data_of-stream.result.now
    c.args.document.now (held c.args.shelf.now) (held c.write_pictures_in.new.shelf) c.write_pictures_in.result
    (record {
      contents = c.container.result.now;
      has = subst (λ (k : Contents). HasContents c.args.file.now k) (sym c.container.ensures) c.in-Ok.ensures.1.0;
      there = c.data_of-stream.ensures;
    }) c.write_pictures_in.ensures.cut
