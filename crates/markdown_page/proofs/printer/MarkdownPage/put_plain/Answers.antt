-- Units that are written as they are.
use Rattle.std.proofs.Common.{◌≡◌, ◌<◌, ℕ, List, length, refl, subst, sym, ap, ◌∙◌, arith}
use Rattle.std.proofs.lemmas.Bool.{eqb-false, eqb-true}
use Rattle.glyph_units.specs.Glyphs.{leaves}
use Rattle.markdown_page.specs.declared.context.Context.{Context}
use Rattle.markdown_page.specs.declared.context.Seam.{Seam}
use Rattle.markdown_page.specs.Printed.{PutsEvents}
use Rattle.markdown_page.proofs.PutLemmas.{none_put}
use Rattle.markdown_page.proofs.RunLemmas.{open_within, run_put}
use Rattle.markdown_page.proofs.printer.MarkdownPage.put_plain.Goals as goal
use Rattle.doc_bits.proofs.Public.{nil_from_length}

pub returns-then-is_empty : goal.returns-then-is_empty
returns-then-is_empty g c =
    let old = c.args.self.now in
    subst (λ (units : List ℕ). PutsEvents g.K.Sink c.args.out.now old c.args.out.now old (leaves old.path units) old.path)
    (sym (nil_from_length c.args.units.now (eqb-true (length c.args.units.now) 0 (sym c.if-is_empty.ensures))))
    (none_put g.K.Sink c.args.out.now old old refl refl refl)

pub put_plain-requires-clause-within : goal.put_plain-requires-clause-within
put_plain-requires-clause-within g c =
    open_within c.args.self.now.pen.line c.args.self.now.context c.requires.line

pub returns : goal.returns
returns g c =
    let old = c.args.self.now in
    let put = c.put_plain in
    let some = eqb-false (length c.args.units.now) 0 (sym c.if-is_empty.ensures) in
    run_put g.K.Sink c.args.out.now put.new.out old (record old {
      pen = put.new.self;
      context = record old.context { seam = c.character_seam-self.result };
    }) c.args.units.now c.requires.line c.requires.characters c.requires.plain (omega (arith, some)) put.ensures refl refl
    (ap (λ (seam : Seam). record old.context { seam = seam }) c.character_seam-self.ensures)
