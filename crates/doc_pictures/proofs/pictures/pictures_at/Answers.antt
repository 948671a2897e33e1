-- The places, one by one.
use Rattle.std.proofs.Common.{List, sym, subst, arith}
use Rattle.doc_pictures.specs.declared.pictures.Picture.{Picture}
use Rattle.doc_pictures.proofs.StepLemmas.{AreUpTo, all-done, none-yet, one-more}
use Rattle.doc_pictures.proofs.pictures.pictures_at.Goals as goal

pub loop-i-init : goal.loop-i-init
loop-i-init c =
    subst (λ (pictures : List Picture). AreUpTo c.args.stream.now c.args.places.now 0 0 pictures)
    (sym c.new-pictures.ensures.items) (none-yet c.args.stream.now c.args.places.now)

pub loop-i-preserved : goal.loop-i-preserved
loop-i-preserved c =
    one-more c.args.stream.now c.args.places.now c.loop-i.i c.loop-i.end c.in_ok-behind.behind c.loop-i.pictures.items
    c.push_picture.new.pictures.items c.requires (omega arith) c.loop-i.invariant c.in_ok-behind.ensures

pub returns : goal.returns
returns c =
    all-done c.args.stream.now c.args.places.now c.loop-i.i c.loop-i.end c.loop-i.pictures.items (omega arith)
    c.loop-i.invariant
