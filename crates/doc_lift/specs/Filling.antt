-- Streams of a text on their way to be filled.
use Rattle.std.specs.Prelude.{◌≡◌, ◌<◌, ◌≤◌, ◌^◌, ℕ, List, length}
use Rattle.fib_form.specs.Fib.{form_size}
use Rattle.fib_form.specs.FibFields.{ArePairs, fib_fields}
use Rattle.fib_form.specs.declared.form.Form.TheVariants.{Early}
use Rattle.fib_versions.specs.Early.{early_pairs, early_fields}
use Rattle.fkp_pages.specs.Bin.{IsBinTable}
use Rattle.fkp_pages.specs.declared.kind.PageKind.{PageKind}
use Rattle.page_copies.specs.Pages.{bin_table_of}
use Rattle.doc_meaning.specs.Skipped.{bin_tables_of}
use Rattle.doc_lift.specs.declared.gap_filling.FilledStreams.{FilledStreams}
use Rattle.doc_lift.specs.FilledTexts.{AreFilledStreams}

-- streams with the early FIB of a WordDocument in front, that are short, and whose bin tables are tables
pub record AreReadStreams (wd old_wd old_table : List ℕ) : Type 0 where
  pub own : length wd < 2 ^ 32
  pub long : form_size Early ≤ length old_wd
  pub short : length old_wd ≤ 7143936
  pub table_short : length old_table ≤ 7143936
  pub fields : fib_fields old_wd ≡ early_fields wd (early_pairs wd)
  pub bins : (kind : PageKind) → IsBinTable (bin_table_of kind (bin_tables_of old_wd old_table))

-- they are filled, and the FIB in front has these pairs
pub record HasFilled (wd old_wd old_table : List ℕ) (filled : FilledStreams) : Type 0 where
  pub are : AreFilledStreams wd old_wd old_table filled.wd.items filled.table.items
  pub pairs : ArePairs filled.pairs
  pub fields : fib_fields filled.wd.items ≡ early_fields wd filled.pairs
