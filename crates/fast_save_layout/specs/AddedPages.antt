-- How many pages a text takes behind a file, before a save of it is made.
use Rattle.std.specs.Prelude.{◌≡◌, ℕ, ◌+◌, ◌*◌, ◌^◌, ◌<◌, List, length, All}
use Rattle.cfb_streams.specs.Contents.{Contents}
use Rattle.cfb_streams.specs.Names.{wd_name, table_name}
use Rattle.fib_form.specs.Fib.{table_part}
use Rattle.fib_form.specs.FibFields.{FibFields}
use Rattle.fib_form.specs.TableParts.{pair_number}
use Rattle.fib_form.specs.declared.table_parts.TablePart.TheVariants.{PlcfBtePapx}
use Rattle.fkp_pages.specs.declared.kind.PageKind.TheVariants.{Chpx, Papx}
use Rattle.fkp_pages.specs.Bin.{IsBinTable}
use Rattle.doc_model.specs.declared.item.Item.{Item}
use Rattle.plain_doc.specs.RulesOfItems.{HasShortProperties}
use Rattle.full_save.specs.Runs.{text_runs}
use Rattle.save_laws.specs.SharedPages.{pages_taken}
use Rattle.fast_save_layout.specs.OldParts.{StaysWithin, named_part}
use Rattle.fast_save_layout.specs.RenewedStreams.{bytes_named}
use Rattle.fast_save_layout.specs.MarkRuns.{mark_runs}

-- the table stream of a file with this FIB, and its bin table of paragraphs
abbrev pub table_stream_of : FibFields → Contents → List ℕ
table_stream_of fib contents = bytes_named contents.streams (table_name fib.which_table)

abbrev pub paragraph_bins : FibFields → Contents → List ℕ
paragraph_bins fib contents =
    table_part (bytes_named contents.streams wd_name) (table_stream_of fib contents) (pair_number PlcfBtePapx)

-- the file has that bin table, where its FIB says so
pub record HasParagraphBins (fib : FibFields) (contents : Contents) : Type 0 where
  pub within : StaysWithin fib (table_stream_of fib contents) PlcfBtePapx
  pub named : named_part fib (table_stream_of fib contents) PlcfBtePapx ≡ paragraph_bins fib contents
  pub table : IsBinTable (paragraph_bins fib contents)

-- the pages of items whose units are from a byte on, behind the ranges of a table
abbrev pub pages_behind : List ℕ → ℕ → List Item → ℕ
pages_behind table base items =
    pages_taken Chpx (text_runs Chpx base items) + pages_taken Papx (mark_runs table base items)

-- items that pages can be written of, from a byte on
pub record HavePages (base : ℕ) (items : List Item) : Type 0 where
  pub short : All HasShortProperties items
  pub small : base + 2 * length items + 2 < 2 ^ 32
