use Rattle.std.proofs.Common.{◌∙◌, ap, subst, ℕ, List, map}
use Rattle.style_sheet.specs.Sheet.{Sheet}
use Rattle.doc_model.specs.declared.document.Document.{Document}
use Rattle.doc_mends.specs.declared.mends.Mend.TheVariants.{DropBase}
use Rattle.doc_mends.specs.Bases.{DropsBases}
use Rattle.doc_mends.proofs.bases.drop_bases.Goals as goal

pub returns-clause-ok : goal.returns-clause-ok
returns-clause-ok c =
    let own = c.document.inside in
    let made : Sheet → Document = λ sheet. record {
      main = own.main;
      notes = own.notes;
      heads = own.heads;
      sheet = sheet;
      carried = own.carried;
      bookmarks = own.bookmarks;
    } in
    subst (λ (d : Document). DropsBases d (made c.drop_from.new.sheet) c.in_ok-mends.mends.items) c.document.view_is
    (record {
      istds = c.in_ok-istds.istds.items;
      drop = c.in_ok-istds.ensures.drop;
      document = ap made c.in_ok-istds.ensures.sheet;
      named = c.in_ok-mends.ensures ∙ ap (λ (l : List ℕ). map DropBase l) c.deref.ensures.value;
    })
