use Rattle.std.proofs.Common.{Bool, Err, ap, subst, sym}
use Rattle.doc_pictures.specs.Album.{MayWrite}
use Rattle.doc_pictures.proofs.ApartLemmas.{told-there}
use Rattle.doc_pictures.proofs.album.find_free.Goals as goal

pub returns-then-force-clause-free : goal.returns-then-force-clause-free
returns-then-force-clause-free g c =
    subst (λ (force : Bool). MayWrite force c.args.path.now (g.S.Shelf.held c.args.shelf.now)) (sym c.if-force.true) tt

pub returns-in-Err-Missing-clause-free : goal.returns-in-Err-Missing-clause-free
returns-in-Err-Missing-clause-free g c =
    subst (λ (force : Bool). MayWrite force c.args.path.now (g.S.Shelf.held c.args.shelf.now)) (sym c.if-force.false)
    (c.in-Err-Missing.ensures.absent (ap Err c.in-Err-Missing.field-0-is))

pub returns-in-Ok-clause-there : goal.returns-in-Ok-clause-there
returns-in-Ok-clause-there g c = λ there.
    let held = g.S.Shelf.held c.args.shelf.now in
    record {
      keeps = c.if-force.false;
      there = told-there held c.args.path.now c.in-Ok.field-0 c.read_at.new.buf c.in-Ok.ensures.bytes;
    }
