-- What a text whose rows got their cells keeps.
use Rattle.std.proofs.Common.{◌≡◌, ◌∙◌, ap, sym, subst, refl, ℕ, List, [], ◌∷◌, Option, length, take, All, arith}
use Rattle.std.proofs.lemmas.List.Elements.{All-take}
use Rattle.doc_model.specs.declared.document.Document.{Document}
use Rattle.doc_model.specs.Marks.{HasFormedBookmarks}
use Rattle.file_rules.specs.FileRules.{FileText}
use Rattle.doc_mends.specs.declared.mends.Mend.{Mend}
use Rattle.deleted_text.specs.declared.ranges.StoryBegins.{StoryBegins}
use Rattle.deleted_text.specs.Ranges.{begins_of}
use Rattle.doc_bits.specs.declared.places.Story.{Story}
use Rattle.doc_mends.specs.UnitsStay.{units_of}
use Rattle.deleted_text.proofs.Public.{struck_formed, struck_units}
use Rattle.huge_papx.specs.declared.rows.DefinedRow.{DefinedRow}
use Rattle.huge_papx.specs.Defined.{most_defined, AreRowsOf, IsDefined}
use Rattle.huge_papx.specs.Texts.{IsStruckDefined}
use Rattle.huge_papx.proofs.RowLemmas.{IsRowOf, rows_there}
use Rattle.huge_papx.proofs.DefinedLemmas.{all_formed, all_units}

-- the rows that get their cells are rows of the document
pub first_there : (begins : StoryBegins) (offsets : List (Option ℕ)) (document : Document) (rows : List DefinedRow) →
    AreRowsOf begins offsets document rows → All (IsRowOf document) (take most_defined rows)
first_there begins offsets document rows are =
    All-take (IsRowOf document) most_defined rows
    (subst (All (IsRowOf document)) (sym are.rows_are) (rows_there begins are.definitions document))

-- bookmarks stay formed
pub struck_defined_formed : (text : FileText) (meant after : Document) (mends : List Mend) → HasFormedBookmarks meant →
    IsStruckDefined text meant after mends → HasFormedBookmarks after
struck_defined_formed text meant after mends formed is =
    let defined = is.defined_is in
    subst HasFormedBookmarks (sym defined.is.document_is)
    (all_formed (take most_defined defined.is.rows) is.struck
    (first_there (begins_of text.wd) defined.offsets is.struck defined.is.rows defined.is.are)
    (struck_formed text meant is.struck is.strikes formed is.struck_is))

-- units stay
pub struck_defined_units : (text : FileText) (meant after : Document) (mends : List Mend) (story : Story) →
    IsStruckDefined text meant after mends → units_of after story ≡ units_of meant story
struck_defined_units text meant after mends story is =
    let defined = is.defined_is in
    ap (λ (d : Document). units_of d story) defined.is.document_is
    ∙ (all_units (take most_defined defined.is.rows) is.struck story
    (first_there (begins_of text.wd) defined.offsets is.struck defined.is.rows defined.is.are)
    ∙ struck_units text meant is.struck is.strikes story is.struck_is)

-- where no row gets its cells, nothing is changed
pub no_rows : (begins : StoryBegins) (offsets : List (Option ℕ)) (document : Document) (rows : List DefinedRow) →
    AreRowsOf begins offsets document rows → length rows ≡ 0 → IsDefined begins offsets document document []
no_rows begins offsets document [] are none =
    record { rows = []; are = are; document_is = refl; mends_are = refl }
no_rows begins offsets document (row ∷ rows) are none = absurd (omega (arith, none))
