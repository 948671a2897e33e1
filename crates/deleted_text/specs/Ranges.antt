-- The ranges of a document that a reviser deleted, by flags of its CPs: of each range all items are deleted, and
-- neither the one before it nor the one behind it.
use Rattle.std.specs.Prelude.{ℕ, ◌+◌, ◌-◌, ◌==◌, Bool, false, ◌&&◌, ◌||◌, not, if◌then◌else◌, Option, Some, None}
use Rattle.std.specs.Prelude.{List, [], ◌++◌, length, take, drop, sum_by, slice_get, slice_index_or}
use Rattle.std.specs.Option.{unwrap_or}
use Rattle.std.specs.List.{filter_map, flat_map, prefix_len}
use Rattle.doc_bits.specs.declared.places.Story.{Story}
use Rattle.doc_bits.specs.declared.places.Story.TheVariants.{Main}
use Rattle.fib_form.specs.Fib.{fib_ccp_text, fib_ccp_ftn}
use Rattle.doc_parts.specs.Tabulated.{tabulate}
use Rattle.doc_model.specs.declared.item.Item.{Item}
use Rattle.doc_model.specs.declared.document.Document.{Document}
use Rattle.plain_doc.specs.declared.rules_texts.Side.{Side}
use Rattle.plain_doc.specs.declared.rules_texts.Side.TheVariants.{Notes, Heads}
use Rattle.doc_mends.specs.declared.mends.DeletedRange.{DeletedRange}
use Rattle.doc_mends.specs.Sides.{side_name}
use Rattle.deleted_text.specs.declared.ranges.StoryBegins.{StoryBegins}

abbrev pub is_deleted : List Bool → ℕ → Bool
is_deleted flags at = slice_index_or flags at false

-- it is deleted, and the one before it is not
abbrev pub begins_at : List Bool → ℕ → Bool
begins_at flags at = is_deleted flags at && (at == 0 || not (is_deleted flags (at - 1)))

-- the first place from one on that is not deleted
abbrev pub run_end : List Bool → ℕ → ℕ
run_end flags at = at + prefix_len (λ flag. flag) (drop at flags)

abbrev pub range_at : Story → List Bool → ℕ → Option DeletedRange
range_at story flags at =
    if begins_at flags at then Some (record { story = story; from = at; to = run_end flags at }) else None

-- those of a text
abbrev pub text_ranges : Story → List Bool → List DeletedRange
text_ranges story flags = filter_map (λ range. range) (tabulate (range_at story flags) (length flags))

-- how many items are before a text of a story
abbrev pub items_before : List (List Item) → ℕ → ℕ
items_before texts number = sum_by (λ text. length text) (take number texts)

-- the flags of a text, of those of the story: each text begins where the one before it ends
abbrev pub text_flags : List Bool → List (List Item) → ℕ → List Bool
text_flags flags texts number =
    take (length (unwrap_or (slice_get texts number) [])) (drop (items_before texts number) flags)

-- the ranges of the notes, or of the header texts
abbrev pub texts_ranges : Side → List Bool → List (List Item) → List DeletedRange
texts_ranges side flags texts =
    flat_map (λ ranges. ranges)
    (tabulate (λ number. text_ranges (side_name side number) (text_flags flags texts number)) (length texts))

-- those of a document
abbrev pub document_ranges : StoryBegins → List Bool → Document → List DeletedRange
document_ranges begins flags document =
    text_ranges Main (take (length document.main) flags)
    ++ (texts_ranges Notes (drop begins.notes flags) document.notes
    ++ texts_ranges Heads (drop begins.heads flags) document.heads)

-- [MS-DOC] ccpText, ccpFtn: the stories of the notes and of the header texts are behind the main text
abbrev pub begins_of : List ℕ → StoryBegins
begins_of wd = record { notes = fib_ccp_text wd; heads = fib_ccp_text wd + fib_ccp_ftn wd }
