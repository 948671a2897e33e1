-- Bookmarks that do not fit, one after the other.
use Rattle.std.proofs.Common.{◌≡◌, ◌∙◌, ap, ℕ, ◌+◌, List, [], ◌∷◌, ◌++◌, map}
use Rattle.std.proofs.lemmas.List.{map-append}
use Rattle.std.proofs.lemmas.List.Elements.{filter-append}
use Rattle.std.specs.Prelude.{not}
use Rattle.document_bookmarks.specs.declared.bookmark_order.Bookmark.{Bookmark}
use Rattle.doc_parts.specs.Tabulated.{tabulate}
use Rattle.doc_parts.proofs.Public.{tabulate-next}
use Rattle.text_losses.specs.declared.features.TextFeature.{TextFeature}
use Rattle.doc_losses.specs.Bookmarks.{bookmark_feature}
use Rattle.doc_losses.specs.Losses.{is_read_feature, lost_features}

pub left_out-append : (main_len : ℕ) (one more : List TextFeature) → lost_features main_len (one ++ more) ≡
    lost_features main_len one ++ lost_features main_len more
left_out-append main_len one more = filter-append (λ (feature : TextFeature). not (is_read_feature main_len feature))
    one more

pub dropped_more : (main_len : ℕ) (f : ℕ → Bookmark) (k : ℕ) → lost_features main_len (map bookmark_feature (tabulate f
    (k + 1))) ≡ lost_features main_len (map bookmark_feature (tabulate f k)) ++ lost_features main_len (bookmark_feature
    (f k) ∷ [])
dropped_more main_len f k =
    ap (λ (l : List Bookmark). lost_features main_len (map bookmark_feature l)) (tabulate-next f k)
    ∙ (ap (lost_features main_len) (map-append bookmark_feature (tabulate f k) (f k ∷ []))
    ∙ left_out-append main_len (map bookmark_feature (tabulate f k)) (bookmark_feature (f k) ∷ []))
