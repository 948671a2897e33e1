-- A document is struck, and its rows get their cells, in one way.
use Rattle.std.specs.Prelude.{IsTrue, slice_index, slice_index_or, MatchOption}
use Rattle.std.proofs.Common.{◌≡◌, ◌∙◌, ◌↔◌, ◌++◌, sym, ap, subst, refl, ℕ, ◌<◌, List, [], ◌∷◌, length, map}
use Rattle.std.proofs.Common.{take, Option, Some, None, arith}
use Rattle.std.proofs.lemmas.List.{ext_get_or}
use Rattle.doc_bits.specs.Number.{u32_at}
use Rattle.fkp_pages.specs.declared.kind.PageKind.TheVariants.{Papx}
use Rattle.fkp_pages.specs.Bin.{IsBinTable}
use Rattle.fkp_pages.proofs.Public.{list_at_one}
use Rattle.doc_model.specs.declared.document.Document.{Document}
use Rattle.file_rules.specs.FileRules.{FileText}
use Rattle.doc_mends.specs.declared.mends.Mend.{Mend}
use Rattle.doc_patch.specs.Changes.{all_changed}
use Rattle.deleted_text.specs.declared.ranges.StoryBegins.{StoryBegins}
use Rattle.deleted_text.specs.Ranges.{begins_of}
use Rattle.deleted_text.proofs.Public.{struck_one, flag_one}
use Rattle.huge_papx.specs.declared.lists.Sought.TheVariants.{HugePapx, RowEnd, Definition}
use Rattle.huge_papx.specs.declared.definitions.RowDefinition.{RowDefinition}
use Rattle.huge_papx.specs.declared.rows.DefinedRow.{DefinedRow}
use Rattle.huge_papx.specs.Lists.{HasLastValue}
use Rattle.huge_papx.specs.Data.{data_of}
use Rattle.huge_papx.specs.Definitions.{cells_kept, IsRowDefinition, IsDefinitionOf, AreDefinitions}
use Rattle.huge_papx.specs.Offsets.{NamesOffset, IsNamedAt, IsOffsetOf, AreOffsets}
use Rattle.huge_papx.specs.Rows.{document_rows}
use Rattle.huge_papx.specs.Defined.{definition_change, definition_mend, most_defined, AreRowsOf, IsDefined}
use Rattle.huge_papx.specs.Texts.{IsDefinedText, IsStruckDefined}
use Rattle.huge_papx.proofs.ListLemmas.{last_value_one}
use Rattle.huge_papx.proofs.DataLemmas.{prc_one}

-- ---- options

option_one : {A : Type 0} (P : A → Type 0) (a b : Option A) → ((x y : A) → P x → P y → x ≡ y) →
    MatchOption a ((x : A) → ¬ P x) P → MatchOption b ((x : A) → ¬ P x) P → a ≡ b
option_one P None None one x y = refl
option_one P None (Some b) one x y = absurd (x b y)
option_one P (Some a) None one x y = absurd (y a x)
option_one P (Some a) (Some b) one x y = ap Some (one a b x y)

-- ---- offsets

names_one : (list : List ℕ) (one other : ℕ) → NamesOffset list one → NamesOffset list other → one ≡ other
names_one list one other a b =
    let value : a.value ≡ b.value = last_value_one HugePapx _ a.value b.value a.has b.has in
    a.offset_is ∙ (ap (λ (v : List ℕ). u32_at v 0) value ∙ sym b.offset_is)

named_one : (wd bin : List ℕ) (fc unit one other : ℕ) → IsBinTable bin → IsNamedAt wd bin fc unit one →
    IsNamedAt wd bin fc unit other → one ≡ other
named_one wd bin fc unit one other table a b =
    let list : a.list ≡ b.list = list_at_one Papx bin wd fc a.list b.list table a.has b.has in
    names_one b.list one other (subst (λ (l : List ℕ). NamesOffset l one) list a.names) b.names

offsets_one : (wd bin places units : List ℕ) (a b : List (Option ℕ)) → AreOffsets wd bin places units a →
    AreOffsets wd bin places units b → a ≡ b
offsets_one wd bin places units a b one other =
    ext_get_or None a b (one.len ∙ sym other.len)
    (λ k low. option_one (IsNamedAt wd bin (slice_index places k) (slice_index units k)) (slice_index_or a k None)
    (slice_index_or b k None)
    (λ x y. named_one wd bin (slice_index places k) (slice_index units k) x y one.table)
    (one.each k low) (other.each k (omega (arith, low, one.len, other.len))))

-- ---- definitions

row_definition_one : (stream : List ℕ) (at : ℕ) (one other : RowDefinition) → IsRowDefinition stream at one →
    IsRowDefinition stream at other → one ≡ other
row_definition_one stream at one other a b =
    let list : a.list ≡ b.list = prc_one stream at a.list b.list a.prc b.prc in
    let value : a.value ≡ b.value =
    last_value_one Definition b.list a.value b.value
    (subst (λ (l : List ℕ). HasLastValue Definition l a.value) list a.has) b.has in
    let cells : one.cells ≡ other.cells = a.cells_are ∙ (ap cells_kept value ∙ sym b.cells_are) in
    let ends : one.ends_row ≡ other.ends_row =
    flag_one one.ends_row other.ends_row
    (subst (λ (l : List ℕ). IsTrue one.ends_row ↔ HasLastValue RowEnd l (1 ∷ [])) list a.ends) b.ends in
    λ i. record { cells = cells i; ends_row = ends i }

definition_one : (stream : List ℕ) (offset : Option ℕ) (a b : Option RowDefinition) → IsDefinitionOf stream offset a →
    IsDefinitionOf stream offset b → a ≡ b
definition_one stream None a b one other = one ∙ sym other
definition_one stream (Some at) a b one other =
    option_one (IsRowDefinition stream at) a b (row_definition_one stream at) one other

definitions_one : (stream : List ℕ) (offsets : List (Option ℕ)) (a b : List (Option RowDefinition)) →
    AreDefinitions stream offsets a → AreDefinitions stream offsets b → a ≡ b
definitions_one stream offsets a b one other =
    ext_get_or None a b (one.len ∙ sym other.len)
    (λ k low. definition_one stream (slice_index_or offsets k None) (slice_index_or a k None) (slice_index_or b k None)
    (one.each k (omega (arith, low, one.len))) (other.each k (omega (arith, low, one.len))))

-- ---- documents

rows_one : (begins : StoryBegins) (offsets : List (Option ℕ)) (document : Document) (a b : List DefinedRow) →
    AreRowsOf begins offsets document a → AreRowsOf begins offsets document b → a ≡ b
rows_one begins offsets document a b one other =
    let same : one.definitions ≡ other.definitions =
    definitions_one (data_of document.carried.streams) offsets one.definitions other.definitions one.are other.are in
    one.rows_are
    ∙ (ap (λ (l : List (Option RowDefinition)). document_rows begins l document) same ∙ sym other.rows_are)

defined_one : (begins : StoryBegins) (offsets : List (Option ℕ)) (before a b : Document) (mends others : List Mend) →
    IsDefined begins offsets before a mends → IsDefined begins offsets before b others → (a ≡ b) × (mends ≡ others)
defined_one begins offsets before a b mends others one other =
    let rows : one.rows ≡ other.rows = rows_one begins offsets before one.rows other.rows one.are other.are in (
      one.document_is
          ∙ (ap (λ (l : List DefinedRow). all_changed (map definition_change (take most_defined l)) before) rows
          ∙ sym other.document_is),
      one.mends_are
          ∙ (ap (λ (l : List DefinedRow). map definition_mend (take most_defined l)) rows ∙ sym other.mends_are),
    )

defined_text_one : (text : FileText) (before a b : Document) (mends others : List Mend) →
    IsDefinedText text before a mends → IsDefinedText text before b others → (a ≡ b) × (mends ≡ others)
defined_text_one text before a b mends others one other =
    let offsets : one.offsets ≡ other.offsets =
    offsets_one _ _ _ _ one.offsets other.offsets one.named other.named in
    defined_one (begins_of text.wd) other.offsets before a b mends others
    (subst (λ (l : List (Option ℕ)). IsDefined (begins_of text.wd) l before a mends) offsets one.is) other.is

pub struck_defined_one : (text : FileText) (meant a b : Document) (mends others : List Mend) →
    IsStruckDefined text meant a mends → IsStruckDefined text meant b others → (a ≡ b) × (mends ≡ others)
struck_defined_one text meant a b mends others one other =
    let struck = struck_one text meant one.struck other.struck one.strikes other.strikes one.struck_is
    other.struck_is in
    let same = defined_text_one text other.struck a b one.definitions other.definitions
    (subst (λ (d : Document). IsDefinedText text d a one.definitions) struck.0 one.defined_is) other.defined_is in (
      same.0,
      one.mends_are ∙ ((λ i. struck.1 i ++ same.1 i) ∙ sym other.mends_are),
    )
