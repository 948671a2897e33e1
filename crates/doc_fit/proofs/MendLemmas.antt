-- What a reviser deleted of what is lifted is struck, and its rows get their cells.
use Rattle.std.proofs.Common.{◌≡◌, ◌∙◌, sym, ap, subst, ℕ, List, Bool, Option}
use Rattle.cfb_streams.specs.Contents.{HasNamed}
use Rattle.cfb_streams.specs.Names.{wd_name}
use Rattle.doc_model.specs.declared.document.Document.{Document}
use Rattle.file_rules.specs.FileRules.{table_stream_name}
use Rattle.file_rules.proofs.Public.{named_one}
use Rattle.doc_lift.specs.declared.lifting.Lifted.{Lifted}
use Rattle.doc_mends.specs.declared.mends.Mend.{Mend}
use Rattle.deleted_text.specs.declared.ranges.StoryBegins.{StoryBegins}
use Rattle.deleted_text.specs.Ranges.{document_ranges, begins_of}
use Rattle.deleted_text.specs.Texts.{AreTextDeletions}
use Rattle.huge_papx.specs.Defined.{IsDefined, IsStruckThenDefined}
use Rattle.huge_papx.specs.Texts.{AreTextOffsets, IsStruckDefined}
use Rattle.doc_fit.specs.declared.losses.Found.{Found}
use Rattle.doc_fit.specs.Opened.{HasDeletions, AreFoundLosses}

-- the streams of the report are those of the text
pub main_same : (before : Lifted) (found : Found) → (has : HasDeletions before) → (is : AreFoundLosses before found) →
    is.losses.wd ≡ has.text.wd
main_same before found has is =
    named_one has.file before.outer.container wd_name is.losses.wd has.text.wd has.has_contents is.losses.named
    has.has_text.has_wd

pub own_table : (before : Lifted) (found : Found) → (has : HasDeletions before) → (is : AreFoundLosses before found) →
    is.losses.table ≡ has.text.table
own_table before found has is =
    let container = before.outer.container in
    let there : HasNamed container.streams (table_stream_name has.text.wd) is.losses.table =
    subst (λ (w : List ℕ). HasNamed container.streams (table_stream_name w) is.losses.table)
    (main_same before found has is) is.losses.named_table in
    named_one has.file container (table_stream_name has.text.wd) is.losses.table has.text.table has.has_contents there
    has.has_text.has_table

pub struck_text : (before : Lifted) (found : Found) (struck : Document) (flags : List Bool)
    (offsets : List (Option ℕ)) (mends : List Mend) → (has : HasDeletions before) → AreFoundLosses before found →
    flags ≡ before.deleted.items → offsets ≡ before.offsets.items →
    IsStruckThenDefined found.begins (flags, offsets) before.document struck mends →
    IsStruckDefined has.text before.document struck mends
struck_text before found struck flags offsets mends has is flags_are offsets_are by =
    let begins : found.begins ≡ begins_of has.text.wd =
    is.begins ∙ ap begins_of (main_same before found has is) in
    record {
      struck = by.struck;
      strikes = by.strikes;
      struck_is = record {
        ranges = document_ranges found.begins flags before.document;
        deleted = record {
          flags = flags;
          deletions = subst (AreTextDeletions has.text) (sym flags_are) has.deleted;
          are = ap (λ (b : StoryBegins). document_ranges b flags before.document) begins;
        };
        is = by.struck_is;
      };
      definitions = by.definitions;
      defined_is = record {
        offsets = offsets;
        named = subst (AreTextOffsets has.text) (sym offsets_are) has.offsets;
        is = subst (λ (b : StoryBegins). IsDefined b offsets by.struck struck by.definitions) begins by.defined_is;
      };
      mends_are = by.mends_are;
    }
