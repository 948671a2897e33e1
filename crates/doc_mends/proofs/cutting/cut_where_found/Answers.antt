use Rattle.std.proofs.Common.{◌≡◌, ◌∙◌, ap, sym, length, List}
use Rattle.std.proofs.lemmas.Bool.{eqb-true}
use Rattle.text_losses.specs.declared.features.Reference.{Reference}
use Rattle.doc_model.specs.declared.item.Item.{Item}
use Rattle.doc_model.specs.declared.document.Document.{Document}
use Rattle.doc_losses.specs.References.{Names}
use Rattle.doc_losses.specs.Marks.{names_of_marks}
use Rattle.doc_mends.specs.Cuts.{cut_heads}
use Rattle.doc_mends.proofs.UncutLemmas.{uncut}
use Rattle.doc_mends.proofs.cutting.cut_where_found.Goals as goal
use Rattle.doc_bits.proofs.Public.{nil_from_length}

pub returns-then-is_empty-clause-ok : goal.returns-then-is_empty-clause-ok
returns-then-is_empty-clause-ok c =
    let found : List Reference = c.args.found.now in
    let none : length found ≡ 0 =
    eqb-true (length found) 0 (sym c.is_empty.ensures ∙ c.if-is_empty.true) in
    sym (uncut (names_of_marks c.args.marks.now) c.args.document.now c.requires.formed
    (sym c.requires.found ∙ nil_from_length found none))

pub returns-clause-ok : goal.returns-clause-ok
returns-clause-ok c =
    let names : Names = names_of_marks c.args.marks.now in
    let document : Document = c.args.document.now in
    let inside : Document = record {
      main = c.document.inside.main;
      notes = c.document.inside.notes;
      heads = c.document.inside.heads;
      sheet = c.document.inside.sheet;
      carried = c.document.inside.carried;
      bookmarks = c.document.inside.bookmarks;
    } in
    let main = c.document.view_is ∙ c.in_ok-cut_main.ensures.ok in
    let heads : c.cut_heads.new.heads ≡ cut_heads names document.heads =
    c.in_ok-cut_heads.ensures ∙ ap (λ (d : Document). cut_heads names d.heads) main in
    ap (λ (h : List (List Item)). record inside { heads = h }) heads
    ∙ ap (λ (d : Document). record d { heads = cut_heads names document.heads }) main
