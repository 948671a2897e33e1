-- The units of the mended document of a file are those of what the file means, but for what is printed of its mends.
use Rattle.std.proofs.Common.{◌≡◌, ◌∙◌, ap, sym, ℕ, List, ◌++◌, map, take, append_assoc, Some, None}
use Rattle.std.specs.Prelude.{option_map}
use Rattle.doc_bits.proofs.Public.{map-map}
use Rattle.doc_model.specs.declared.document.Document.{Document}
use Rattle.file_rules.specs.FileRules.{FileText}
use Rattle.doc_losses.specs.References.{names_of}
use Rattle.doc_mends.specs.declared.mends.DeletedRange.{DeletedRange}
use Rattle.doc_mends.specs.declared.mends.RowMark.{RowMark}
use Rattle.doc_mends.specs.declared.mends.Mend.{Mend}
use Rattle.doc_mends.specs.declared.mends.Mend.TheVariants.{StrikeDeleted, KeepDeleted, DefineRow}
use Rattle.doc_mends.specs.Mends.{kept_ranges, struck_ranges}
use Rattle.doc_mends.specs.UnitsStay.{units_left}
use Rattle.doc_mends.proofs.Public.{units_stay}
use Rattle.huge_papx.specs.Defined.{most_defined}
use Rattle.huge_papx.specs.Texts.{IsStruckDefined}
use Rattle.huge_papx.proofs.Public.{struck_defined_units}
use Rattle.further_notes.specs.declared.stories.NotedStories.{NotedStories}
use Rattle.further_notes.proofs.Public.{stories_are_held}
use Rattle.doc_fit.specs.Noted.{IsMendedOf, IsNotedOf}
use Rattle.doc_fit.specs.UnitsStay.{AreBehindProperties, FitUnitsStay, LeavesNotedUnits, LeavesPlainUnits}

-- definitions of rows are mends of marks
pub record HasMarks (definitions : List Mend) : Type 0 where
  pub marks : List RowMark
  pub are : definitions ≡ map DefineRow marks

marks_by : {A : Type 0} (rows : List A) (mark : A → RowMark) (definitions : List Mend) →
    definitions ≡ map (λ row. DefineRow (mark row)) rows → HasMarks definitions
marks_by rows mark definitions is =
    record { marks = map mark rows; are = is ∙ sym (map-map DefineRow mark rows) }

behind_strikes : (text : FileText) (meant struck : Document) (strikes others : List Mend) →
    IsStruckDefined text meant struck strikes → AreBehindProperties (strikes ++ others) others
behind_strikes text meant struck strikes others is =
    let ranges : List DeletedRange = is.struck_is.ranges in
    let rows = marks_by (take most_defined is.defined_is.is.rows)
    (λ row. record { story = row.story; at = row.at }) is.definitions is.defined_is.is.mends_are in
    let first : List Mend = map StrikeDeleted (struck_ranges meant ranges) in
    let second : List Mend = map KeepDeleted (kept_ranges meant ranges) in
    let third : List Mend = map DefineRow rows.marks in
    record {
      struck = struck_ranges meant ranges;
      kept = kept_ranges meant ranges;
      cells = rows.marks;
      mends_are =
          ap (λ (l : List Mend). l ++ others) is.mends_are
          ∙ (append_assoc is.strikes is.definitions others
          ∙ (ap (λ (l : List Mend). l ++ (is.definitions ++ others)) is.struck_is.is.mends_are
          ∙ (ap (λ (l : List Mend). (first ++ second) ++ (l ++ others)) rows.are
          ∙ append_assoc first second (third ++ others))));
    }

plain_units : (file : List ℕ) (document : Document) (mends : List Mend) → IsMendedOf file document mends →
    LeavesPlainUnits file document mends
plain_units file document mends is =
    let mended = is.mended in
    let meant : Document = mended.meant in
    let text : FileText = mended.means.parts.text in
    let by = mended.mended_is in
    let left = units_stay (names_of text.wd text.table) by.struck document by.others by.mended_is in
    let behind = behind_strikes text meant by.struck by.strikes by.others by.struck_is in
    record {
      meant = meant;
      means = mended.means;
      others = by.others;
      behind = record {
        struck = behind.struck;
        kept = behind.kept;
        cells = behind.cells;
        mends_are = is.mends_are ∙ (by.mends_are ∙ behind.mends_are);
      };
      left = record {
        lists = left.lists;
        printed = left.printed;
        units = λ story.
            left.units story
            ∙ ap (option_map (units_left left.lists story))
            (struck_defined_units text meant by.struck by.strikes story by.struck_is);
      };
    }

noted_units : (stories : NotedStories) (file : List ℕ) (document : Document) (mends : List Mend) →
    IsNotedOf stories file document mends → LeavesNotedUnits stories file document mends
noted_units stories file document mends is =
    let noted = is.noted in
    let meant : Document = noted.meant in
    let text : FileText = noted.means.parts.text in
    let by = noted.noted_is in
    record {
      meant = meant;
      means = noted.means;
      struck = by.struck;
      same = λ story. struck_defined_units text meant by.struck by.strikes story by.struck_is;
      spliced = by.spliced;
      made = by.made;
      held = stories_are_held stories text.wd text.table by.struck by.spliced by.made by.splice;
      properties = by.strikes ++ by.others;
      mends_are = is.mends_are ∙ by.mends_are;
      others = by.others;
      behind = behind_strikes text meant by.struck by.strikes by.others by.struck_is;
      left = units_stay (names_of text.wd text.table) by.spliced document by.others by.mended_is;
    }

pub fit_units_stay : FitUnitsStay
fit_units_stay (Some stories) file document mends is = noted_units stories file document mends is
fit_units_stay None file document mends is = plain_units file document mends is
