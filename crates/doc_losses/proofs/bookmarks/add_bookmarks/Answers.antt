use Rattle.std.proofs.Common.{◌≡◌, ◌∙◌, ap, sym, arith, ◌++◌, ℕ, [], ◌∷◌, List, append_assoc, map}
use Rattle.std.proofs.lemmas.List.{append-nil}
use Rattle.doc_bits.specs.Number.{u16_at}
use Rattle.document_bookmarks.specs.declared.bookmark_order.Bookmark.{Bookmark}
use Rattle.doc_parts.specs.BookmarkParts.{parts_at, bookmark_at, bookmark_name_place}
use Rattle.doc_parts.specs.Tabulated.{tabulate}
use Rattle.doc_parts.proofs.Public.{first_place, name_place-next}
use Rattle.text_losses.specs.declared.features.TextFeature.{TextFeature}
use Rattle.doc_losses.specs.Bookmarks.{bookmark_feature}
use Rattle.doc_losses.specs.Losses.{lost_features}
use Rattle.doc_losses.proofs.BookmarkLemmas.{dropped_more}
use Rattle.doc_losses.proofs.bookmarks.add_bookmarks.Goals as goal

pub loop-k-init : goal.loop-k-init
unfolding tabulate
loop-k-init c = record {
  list = sym (append-nil c.args.list.now.items);
  place = sym (first_place c.args.parts.names.now);
  low = omega arith;
}

pub loop-k-preserved : goal.loop-k-preserved
loop-k-preserved c =
    let names = c.args.parts.names.now in
    let k = c.loop-k.k in
    let before = c.loop-k.invariant in
    let front : List TextFeature = c.args.list.now.items in
    let lost : List TextFeature → List TextFeature = lost_features c.args.main_len in
    let f : ℕ → Bookmark = bookmark_at (parts_at names c.args.parts.starts.now c.args.parts.ends.now []) in
    let len : c.word_at.result ≡ u16_at names (bookmark_name_place names k) =
    c.word_at.ensures ∙ ap (u16_at names) before.place in
    record {
      list = c.in_ok-add_bookmark.ensures
          ∙ (ap (λ (l : List TextFeature). l ++ lost (bookmark_feature (f k) ∷ [])) before.list
          ∙ (append_assoc front (lost (map bookmark_feature (tabulate f k))) (lost (bookmark_feature (f k) ∷ []))
          ∙ ap (λ (l : List TextFeature). front ++ l) (sym (dropped_more c.args.main_len f k))));
      place = omega (arith, before.place, len, name_place-next names k);
      low = omega (arith, before.low, c.word_at.type_inv);
    }
