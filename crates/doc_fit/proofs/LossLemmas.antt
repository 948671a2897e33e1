-- What is left out of what was lifted is what is left out of the file.
use Rattle.std.proofs.Common.{◌≡◌, ◌∙◌, refl, sym, ap, subst, ℕ, List, ◌++◌, map, append_assoc}
use Rattle.std.proofs.lemmas.List.{map-append}
use Rattle.cfb_streams.specs.Contents.{HasNamed}
use Rattle.cfb_streams.specs.Names.{wd_name}
use Rattle.file_rules.specs.FileRules.{table_stream_name}
use Rattle.file_rules.proofs.Public.{named_one}
use Rattle.doc_lift.specs.declared.lifting.Lifted.{Lifted}
use Rattle.doc_lift.specs.LiftedFiles.{IsLifted}
use Rattle.loss_report.specs.Features.{Inventory}
use Rattle.text_losses.specs.declared.features.TextFeature.{TextFeature}
use Rattle.text_losses.specs.Lines.{feature_line}
use Rattle.doc_fit.specs.Losses.{HasInventory, AreFitLines, AreLossLines, AreTextLosses, fit_lines, other_losses}

-- the lines of two lists of features are those of both
pub lines_joined : (front : List (List ℕ)) (lists texts : List TextFeature) →
    (front ++ map feature_line lists) ++ map feature_line texts ≡ front ++ map feature_line (lists ++ texts)
lines_joined front lists texts =
    append_assoc front (map feature_line lists) (map feature_line texts)
    ∙ ap (λ (l : List (List ℕ)). front ++ l) (sym (map-append feature_line lists texts))

-- what a file has
abbrev pub inventory_of : Lifted → List ℕ → Inventory
inventory_of lifted wd = record { outer = lifted.outer; wd = wd; units = lifted.units.items }

abbrev pub lifted_inventory : (file : List ℕ) (lifted : Lifted) → (is : IsLifted file lifted) →
    HasInventory file (inventory_of lifted is.text.wd)
lifted_inventory file lifted is = record {
  has_contents = is.has_contents;
  storages = is.storages;
  text = is.text;
  has_text = is.has_text;
  wd = refl;
  units = is.units;
}

-- the streams are those that the text names
pub wd_same : (file : List ℕ) (lifted : Lifted) (lines : List (List ℕ)) → (is : IsLifted file lifted) →
    (are : AreLossLines lifted lines) → are.wd ≡ is.text.wd
wd_same file lifted lines is are =
    named_one file lifted.outer.container wd_name are.wd is.text.wd is.has_contents are.named is.has_text.has_wd

pub table_same : (file : List ℕ) (lifted : Lifted) (lines : List (List ℕ)) → (is : IsLifted file lifted) →
    (are : AreLossLines lifted lines) → are.table ≡ is.text.table
table_same file lifted lines is are =
    let there : HasNamed lifted.outer.container.streams (table_stream_name is.text.wd) are.table =
    subst (λ (w : List ℕ). HasNamed lifted.outer.container.streams (table_stream_name w) are.table)
    (wd_same file lifted lines is are) are.named_table in
    named_one file lifted.outer.container (table_stream_name is.text.wd) are.table is.text.table is.has_contents there
    is.has_text.has_table

-- the lines that are printed are those of the text that the streams name
pub lines_fit : (file : List ℕ) (lifted : Lifted) (lines : List (List ℕ)) → (is : IsLifted file lifted) →
    AreLossLines lifted lines → AreFitLines is.text (inventory_of lifted is.text.wd) lines
lines_fit file lifted lines is are =
    let wd = wd_same file lifted lines is are in
    let table = table_same file lifted lines is are in
    record {
      texts = are.texts;
      texts_are = subst (λ (t : List ℕ). AreTextLosses is.text.wd t are.texts) table
          (subst (λ (w : List ℕ). AreTextLosses w are.table are.texts) wd are.texts_are);
      are = are.are
          ∙ (ap (λ (w : List ℕ). fit_lines (inventory_of lifted w) (are.texts ++ other_losses w are.table)) wd
          ∙ ap (λ (t : List ℕ). fit_lines (inventory_of lifted is.text.wd) (are.texts ++ other_losses is.text.wd t))
          table);
    }
