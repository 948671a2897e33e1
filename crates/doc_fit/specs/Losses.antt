-- What of a file is left out of its document: a line for each feature.
use Rattle.std.specs.Prelude.{◌≡◌, ℕ, List, ◌++◌, map}
use Rattle.doc_bits.specs.Rules.{Hold}
use Rattle.cfb_streams.specs.Contents.{HasNamed}
use Rattle.cfb_streams.specs.Container.{HasContents, ListsStorages}
use Rattle.cfb_streams.specs.Names.{wd_name}
use Rattle.fib_form.specs.Fib.{table_part}
use Rattle.fib_form.specs.TableParts.{pair_number}
use Rattle.fib_form.specs.declared.table_parts.TablePart.TheVariants.{PlcfBteChpx, PlcfBtePapx, Clx}
use Rattle.fib_versions.specs.VersionRules.{version_rules}
use Rattle.file_rules.specs.Units.{text_units}
use Rattle.file_rules.specs.FileRules.{FileText, HasFileText, table_stream_name}
use Rattle.doc_lift.specs.declared.lifting.Lifted.{Lifted}
use Rattle.loss_report.specs.Features.{Inventory}
use Rattle.loss_report.specs.Losses.{losses}
use Rattle.loss_report.specs.Lines.{feature_line}
use Rattle.text_losses.specs.declared.features.TextFeature.{TextFeature}
use Rattle.text_losses.specs.Lines.{feature_line as line_of_feature}
use Rattle.code_losses.specs.Losses.{ListParts, AreCodeLosses}
use Rattle.doc_losses.specs.Losses.{losses as document_losses}

-- what a file has: the streams and storages of its root, WordDocument, and the units of all its CPs
pub record HasInventory (file : List ℕ) (inventory : Inventory) : Type 0 where
  pub has_contents : HasContents file inventory.outer.container
  pub storages : ListsStorages file inventory.outer.storages
  pub text : FileText
  pub has_text : HasFileText inventory.outer.container text
  pub wd : inventory.wd ≡ text.wd
  pub units : inventory.units ≡ text_units text.wd text.pieces

-- where the lists of a file are
abbrev pub list_parts : (wd table : List ℕ) → ListParts
list_parts wd table = record {
  wd = wd;
  characters = table_part wd table (pair_number PlcfBteChpx);
  paragraphs = table_part wd table (pair_number PlcfBtePapx);
  clx = table_part wd table (pair_number Clx);
}

-- what of its lists is left out
abbrev pub AreTextLosses : (wd table : List ℕ) → List TextFeature → Type 0
AreTextLosses wd table texts = AreCodeLosses (list_parts wd table) texts

-- the line of each feature that is left out
abbrev pub fit_lines : Inventory → List TextFeature → List (List ℕ)
fit_lines inventory texts = map feature_line (losses inventory) ++ map line_of_feature texts

-- what of its bookmarks and its style sheet is left out
abbrev pub other_losses : (wd table : List ℕ) → List TextFeature
other_losses wd table = document_losses (record { wd = wd; table = table })

-- these are the lines of a text
pub record AreFitLines (text : FileText) (inventory : Inventory) (lines : List (List ℕ)) : Type 0 where
  pub texts : List TextFeature
  pub texts_are : AreTextLosses text.wd text.table texts
  pub are : lines ≡ fit_lines inventory (texts ++ other_losses text.wd text.table)

-- what is lifted out of a file has the streams that the report is made of
pub record HasLiftedStreams (lifted : Lifted) : Type 0 where
  pub file : List ℕ
  pub has_contents : HasContents file lifted.outer.container
  pub wd : List ℕ
  pub named : HasNamed lifted.outer.container.streams wd_name wd
  pub fib : Hold (version_rules wd)
  pub table : List ℕ
  pub named_table : HasNamed lifted.outer.container.streams (table_stream_name wd) table

-- the lines of what is left out of it
pub record AreLossLines (lifted : Lifted) (lines : List (List ℕ)) : Type 0 where
  pub wd : List ℕ
  pub named : HasNamed lifted.outer.container.streams wd_name wd
  pub table : List ℕ
  pub named_table : HasNamed lifted.outer.container.streams (table_stream_name wd) table
  pub texts : List TextFeature
  pub texts_are : AreTextLosses wd table texts
  pub are :
      lines
      ≡ fit_lines (record { outer = lifted.outer; wd = wd; units = lifted.units.items })
      (texts ++ other_losses wd table)
