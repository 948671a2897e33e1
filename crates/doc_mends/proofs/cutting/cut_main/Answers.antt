use Rattle.std.proofs.Common.{◌≡◌, ◌∙◌, ap, arith, Bool, List, length}
use Rattle.doc_bits.specs.declared.places.Story.TheVariants.{Main}
use Rattle.document_bookmarks.specs.declared.bookmark_order.Bookmark.{Bookmark}
use Rattle.doc_model.specs.declared.item.Item.{Item}
use Rattle.doc_model.specs.declared.document.Document.{Document}
use Rattle.doc_losses.specs.References.{Names}
use Rattle.doc_losses.specs.Marks.{names_of_marks}
use Rattle.doc_mends.specs.Cuts.{reference_flags, unflagged, cut_text, bookmarks_left}
use Rattle.doc_mends.proofs.UncutLemmas.{length-flags}
use Rattle.doc_mends.proofs.cutting.cut_main.Goals as goal

pub cut_text-requires : goal.cut_text-requires
cut_text-requires c =
    ap length (c.deref.ensures.value ∙ c.in_ok-flags.ensures)
    ∙ length-flags (names_of_marks c.args.marks.now) Main 0 c.document.inside.main

pub move_bookmarks-requires : goal.move_bookmarks-requires
move_bookmarks-requires c =
    let few = c.len-len.ensures.formed.few in
    let long : length c.deref-2.result.now ≡ length c.document.inside.main =
    ap length (c.deref-2.ensures.value ∙ c.in_ok-flags.ensures)
    ∙ length-flags (names_of_marks c.args.marks.now) Main 0 c.document.inside.main in
    omega (arith, few, long)

pub returns-clause-ok : goal.returns-clause-ok
returns-clause-ok c =
    let names : Names = names_of_marks c.args.marks.now in
    let inside : Document = record {
      main = c.document.inside.main;
      notes = c.document.inside.notes;
      heads = c.document.inside.heads;
      sheet = c.document.inside.sheet;
      carried = c.document.inside.carried;
      bookmarks = c.document.inside.bookmarks;
    } in
    let flags : List Bool = reference_flags names Main 0 inside.main in
    let made : c.in_ok-made.made ≡ unflagged flags inside.main =
    c.in_ok-made.ensures
    ∙ ap (λ (l : List Bool). unflagged l inside.main) (c.deref.ensures.value ∙ c.in_ok-flags.ensures) in
    let list : c.move_bookmarks.new.list ≡ bookmarks_left flags inside.bookmarks =
    c.in_ok-move_bookmarks.ensures
    ∙ ap (λ (l : List Bool). bookmarks_left l inside.bookmarks) (c.deref-2.ensures.value ∙ c.in_ok-flags.ensures) in
    ap (λ (t : List Item). record inside { main = t; bookmarks = c.move_bookmarks.new.list }) made
    ∙ (ap (λ (l : List Bookmark). record inside { main = unflagged flags inside.main; bookmarks = l }) list
    ∙ ap (λ (d : Document). record d {
      main = cut_text names Main 0 d.main;
      bookmarks = bookmarks_left (reference_flags names Main 0 d.main) d.bookmarks;
    }) c.document.view_is)
