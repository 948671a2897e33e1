use Rattle.std.proofs.Common.{◌≡◌, ◌∙◌, [], ℕ, List, Option, None, ap, subst}
use Rattle.doc_model.specs.declared.document.Document.{Document}
use Rattle.glyph_units.specs.Units.{units_text}
use Rattle.doc_places.specs.Places.{document_places}
use Rattle.form_page.specs.Forms.{Begins}
use Rattle.form_page.proofs.Public.{fresh_half, whole_put}
use Rattle.html_page.specs.Sources.{page_source_of}
use Rattle.doc_html.specs.Head.{page_head, language_of, document_title}
use Rattle.doc_html.proofs.view.Shown.write.Goals as goal

pub begin-requires : goal.begin-requires
begin-requires g c = fresh_half c.args.page [] (page_source_of c.args.self.now.source) c.requires.fresh

pub returns : goal.returns
returns g c = λ formats are.
    let document = c.args.self.now.source.document.now in
    let options = c.args.self.now.options in
    let language : c.language_of-language.result ≡ language_of document.sheet =
    c.language_of-language.ensures ∙ ap (λ (d : Document). language_of d.sheet) c.document.view_is in
    let title : c.as_slice.result.now ≡ document_title formats options document =
    c.as_slice.ensures ∙ c.requires.title formats are in
    let said = subst (λ (l : Option ℕ). Begins g.K.Sink c.args.out.now c.args.page c.begin.new.out c.begin.new.self
    (record { language = l; title = units_text None c.as_slice.result.now })) language c.begin.ensures in
    let front = subst (λ (t : List ℕ). Begins g.K.Sink c.args.out.now c.args.page c.begin.new.out c.begin.new.self
    (record { language = language_of document.sheet; title = units_text None t })) title said in
    whole_put g.K.Sink c.args.out.now c.begin.new.out c.write_places.new.out c.end.new.out c.args.page c.begin.new.self
    c.write_places.new.writer.page c.end.new.self [] (page_source_of c.args.self.now.source) (page_head formats options
    document)
    (document_places formats c.args.self.now.values.now options document) c.requires.fresh front
    (c.write_places.ensures formats are) c.end.ensures
