use Rattle.std.proofs.Common.{◌∙◌, ap, ◌++◌, List, ℕ}
use Rattle.fib_form.specs.Fib.{fib_ccp_text, table_part}
use Rattle.fib_form.specs.TableParts.{pair_number}
use Rattle.fib_form.specs.declared.table_parts.TablePart.TheVariants.{Stshf}
use Rattle.doc_losses.specs.Bookmarks.{bookmark_features, file_bookmark_parts}
use Rattle.doc_losses.specs.Sheets.{sheet_features}
use Rattle.doc_losses.proofs.LossLemmas.{all_lost, behind_none}
use Rattle.doc_losses.proofs.losses.doc_losses.Goals as goal

pub returns : goal.returns
returns c =
    let wd = c.args.fib.now in
    let table = c.args.table.now in
    all_lost (fib_ccp_text wd) (bookmark_features (file_bookmark_parts wd table)) (table_part wd table (pair_number
    Stshf))
    c.add_file_bookmarks.new.list.items c.add_sheet.new.list.items
    (behind_none c.new-list.result.items c.add_file_bookmarks.new.list.items _ c.new-list.ensures.items
    c.in_ok-add_file_bookmarks.ensures)
    (c.in_ok-add_sheet.ensures ∙ ap (λ (part : List ℕ). c.add_file_bookmarks.new.list.items ++ sheet_features part)
    c.part.ensures)
