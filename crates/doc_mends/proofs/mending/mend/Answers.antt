use Rattle.std.proofs.Common.{◌≡◌, ◌∙◌, ◌++◌, ap, sym, subst, List, map, append_assoc}
use Rattle.std.proofs.lemmas.List.{append-nil}
use Rattle.doc_model.specs.declared.document.Document.{Document}
use Rattle.doc_model.specs.Marks.{HasFormedBookmarks}
use Rattle.doc_losses.specs.References.{Names, references}
use Rattle.doc_losses.specs.Marks.{names_of_marks}
use Rattle.doc_mends.specs.declared.mends.Mend.{Mend}
use Rattle.doc_mends.specs.declared.mends.Mend.TheVariants.{CutReference, EndText}
use Rattle.doc_mends.specs.Cuts.{references_cut}
use Rattle.doc_mends.specs.Ends.{with_ends, open_stories}
use Rattle.doc_mends.specs.Mending.{mended_in_place, mends_in_place, mends_of_texts}
use Rattle.doc_mends.proofs.BookmarkLemmas.{placed_formed}
use Rattle.doc_mends.proofs.SoundLemmas.{right_stays}
use Rattle.doc_mends.proofs.mending.mend.Goals as goal

pub cut_references-requires : goal.cut_references-requires
cut_references-requires c =
    subst HasFormedBookmarks (sym c.in_ok-placed.ensures.document)
    (placed_formed c.args.document.now c.drop_bases.new.document c.in_ok-mends.mends.items c.requires
    c.in_ok-mends.ensures.ok)

pub returns-then-right-clause-ok : goal.returns-then-right-clause-ok
returns-then-right-clause-ok c =
    let based : Document = c.drop_bases.new.document in
    let bases : List Mend = c.in_ok-mends.mends.items in
    let right = c.in_ok-right.ensures c.if-right.true in
    let stays = right_stays (names_of_marks c.args.marks.now) based right.0 right.1 in
    record {
      based = based;
      bases = bases;
      drops = c.in_ok-mends.ensures.ok;
      document_is = stays.0;
      mends_are = sym (append-nil bases) ∙ ap (λ (l : List Mend). bases ++ l) (sym stays.1);
    }

pub returns-clause-ok : goal.returns-clause-ok
returns-clause-ok c =
    let names : Names = names_of_marks c.args.marks.now in
    let based : Document = c.drop_bases.new.document in
    let placed : Document = mended_in_place based in
    let bases : List Mend = c.in_ok-mends.mends.items in
    let first : List Mend = c.deref.result.now in
    let cuts : List Mend = c.deref-2.result.now in
    let ends : List Mend = c.deref-3.result.now in
    let first_are : first ≡ mends_in_place based = c.deref.ensures.value ∙ c.in_ok-placed.ensures.mends in
    let cuts_are : cuts ≡ map CutReference (references names placed) =
    c.deref-2.ensures.value
    ∙ (c.in_ok-cuts.ensures.mends
    ∙ ap (λ (d : Document). map CutReference (references names d)) c.in_ok-placed.ensures.document) in
    let cut : c.cut_references.new.document ≡ references_cut names placed =
    c.in_ok-cuts.ensures.document ∙ ap (references_cut names) c.in_ok-placed.ensures.document in
    let ends_are : ends ≡ map EndText (open_stories (references_cut names placed)) =
    c.deref-3.ensures.value
    ∙ (c.in_ok-ends.ensures.mends ∙ ap (λ (d : Document). map EndText (open_stories d)) cut) in
    let texts_are : cuts ++ ends ≡ mends_of_texts names placed =
    ap (λ (l : List Mend). l ++ ends) cuts_are
    ∙ ap (λ (l : List Mend). map CutReference (references names placed) ++ l) ends_are in
    record {
      based = based;
      bases = bases;
      drops = c.in_ok-mends.ensures.ok;
      document_is = c.in_ok-ends.ensures.document ∙ ap with_ends cut;
      mends_are = c.in_ok-extend_from_slice-3.ensures.items
          ∙ (ap (λ (l : List Mend). l ++ ends) (c.in_ok-extend_from_slice-2.ensures.items
          ∙ ap (λ (l : List Mend). l ++ cuts) c.in_ok-extend_from_slice.ensures.items)
          ∙ (append_assoc (bases ++ first) cuts ends
          ∙ (append_assoc bases first (cuts ++ ends)
          ∙ (ap (λ (l : List Mend). bases ++ (l ++ (cuts ++ ends))) first_are
          ∙ ap (λ (l : List Mend). bases ++ (mends_in_place based ++ l)) texts_are))));
    }
