use Rattle.std.proofs.Common.{◌≡◌, ◌++◌, ◌∷◌, [], List, ap, subst, sym, ◌∙◌, length, take, ℕ}
use Rattle.std.proofs.Math.Seq.{take-append_seam}
use Rattle.view_places.specs.declared.element.Element.{Element}
use Rattle.view_places.specs.declared.element.Element.TheVariants.{Anchor}
use Rattle.doc_places.specs.Places.{bare_place}
use Rattle.form_page.specs.Forms.{PutsPlaces}
use Rattle.doc_html.proofs.anchors.write_anchor.Goals as goal

pub returns-clause-path : goal.returns-clause-path
returns-clause-path g c =
    let old = c.args.writer.now.path in
    let depth : c.len-depth.result ≡ length old = c.len-depth.ensures.len in
    c.truncate.ensures ∙ ap (λ (n : ℕ). take n c.push.new.self) depth ∙ ap (take (length old)) c.push.ensures ∙
    take-append_seam old (Anchor c.args.number ∷ [])

pub returns-clause-puts : goal.returns-clause-puts
returns-clause-puts g c =
    subst (λ (path : List Element). PutsPlaces g.K.Sink c.args.out.now c.args.writer.now.page c.put.new.out
    c.put.new.self (bare_place path ∷ [])) c.push.ensures c.put.ensures
