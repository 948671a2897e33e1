-- What of a file is left out by its bookmarks and its style sheet: each of these features that this profile has no
-- meaning for, and no other. References to stories that are left out are cut, and named as mends.
use Rattle.std.specs.Prelude.{ℕ, Bool, false, ◌&&◌, not, List, ◌++◌, filter, nat_le}
use Rattle.fib_form.specs.Fib.{fib_ccp_text, table_part}
use Rattle.fib_form.specs.TableParts.{pair_number}
use Rattle.fib_form.specs.declared.table_parts.TablePart.TheVariants.{Stshf}
use Rattle.text_losses.specs.declared.features.TextFeature.{TextFeature}
use Rattle.text_losses.specs.declared.features.TextFeature.TheVariants as has
use Rattle.doc_losses.specs.Bookmarks.{file_bookmark_parts, bookmark_features}
use Rattle.doc_losses.specs.Sheets.{sheet_features}

-- WordDocument and the table stream
pub record DocInventory : Type 0 where
  pub wd : List ℕ
  pub table : List ℕ

-- the features of a file by them
abbrev pub text_features : DocInventory → List TextFeature
text_features inventory =
    bookmark_features (file_bookmark_parts inventory.wd inventory.table)
    ++ sheet_features (table_part inventory.wd inventory.table (pair_number Stshf))

-- this profile has a meaning for it: a bookmark of a main text of this length is read
abbrev pub is_read_feature : ℕ → TextFeature → Bool
is_read_feature main_len (has.Skipped kind code count) = false
is_read_feature main_len (has.Repeated kind code count) = false
is_read_feature main_len (has.Deleted story from to) = false
is_read_feature main_len (has.Bookmark name from to) = nat_le from to && nat_le to main_len
is_read_feature main_len (has.SheetBeyond len) = false

abbrev pub lost_features : ℕ → List TextFeature → List TextFeature
lost_features main_len all = filter (λ feature. not (is_read_feature main_len feature)) all

abbrev pub losses : DocInventory → List TextFeature
losses inventory = lost_features (fib_ccp_text inventory.wd) (text_features inventory)
