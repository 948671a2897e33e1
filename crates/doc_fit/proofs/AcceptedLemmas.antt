-- A file that docbin accepts breaks none of the rules of a fit.
-- The rules that are left ask for less or the same, and nothing of its document is struck or mended.
use Rattle.std.specs.Prelude.{if◌then◌else◌}
use Rattle.std.proofs.Common.{◌≡◌, ◌≢◌, ◌∙◌, sym, ap, subst, refl, inl, inr, ℕ, ◌+◌, ◌==◌, ◌<◌, ◌≤◌, Bool, true}
use Rattle.std.proofs.Common.{false, List, [], length, arith}
use Rattle.std.proofs.lemmas.Bool.{cases_lt, cases_eq, eqb-true, eq-eqb, true≢false}
use Rattle.doc_bits.specs.declared.places.Where.TheVariants.{File, Wd}
use Rattle.doc_bits.specs.Number.{AreBytes, u16_at}
use Rattle.doc_bits.specs.Rules.{Hold, Nowhere, Among}
use Rattle.doc_bits.specs.Places.{Place, Upto, IsFirstPlace, rules_in}
use Rattle.doc_bits.proofs.Public.{hold_in, hold_or_first}
use Rattle.cfb_streams.specs.Contents.{Contents, HasNamed}
use Rattle.cfb_streams.specs.Container.{container_rules, outer_rules, HasContents}
use Rattle.cfb_streams.specs.Names.{wd_name}
use Rattle.cfb_streams.proofs.Public.{outer_single, contents_unique}
use Rattle.fib_form.specs.declared.form.Form.{Form}
use Rattle.fib_form.specs.declared.form.Form.TheVariants.{Early, Later}
use Rattle.fib_form.specs.Fib.{FibField, CbRgFcLcb, LaterCswNew, CswNew, NFib, fib_number, field_offset, fib_form}
use Rattle.fib_form.specs.Fib.{fib_size, form_size, fib_pair_place}
use Rattle.fib_form.specs.FibFields.{fib_fields}
use Rattle.fib_form.specs.FibRules.{IsWrongField, IsTruncatedFib, IsWrongSize, IsWrongTail, HasOtherStory}
use Rattle.fib_form.specs.FibRules.{IsWrongTextLength, fib_rules}
use Rattle.fib_versions.specs.declared.further.Further.{Further}
use Rattle.fib_versions.specs.Versions.{fib_pair_count, csw_new, version_size, early_ccp, all_text_length}
use Rattle.fib_versions.specs.Early.{early_pairs, early_fields}
use Rattle.fib_versions.specs.VersionRules.{IsShortFib, HasOtherForm, HasWrongLength, version_rules}
use Rattle.fib_versions.proofs.Public.{version_rules-IsSingle}
use Rattle.doc_model.specs.declared.document.Document.{Document}
use Rattle.plain_doc.specs.Sound.{IsSound, document_rules}
use Rattle.plain_doc.proofs.Public.{document_rules-IsSingle}
use Rattle.file_rules.specs.FileRules.{FileText, HasFileText, doc_source_of, contents_rules, wd_rules, table_rules}
use Rattle.file_rules.specs.FileRules.{rules_of_pieces, table_stream_name}
use Rattle.file_rules.specs.PartRules.{part_rules}
use Rattle.file_rules.proofs.Public.{part_single, pieces_single, named_one, single_in, hold_out}
use Rattle.doc_read.specs.Holds.{FileParts, HasFileParts, HoldsDocument, IsAccepted}
use Rattle.doc_read.proofs.Public.{held_formed, held_parts, named_bytes}
use Rattle.doc_losses.specs.References.{names_of}
use Rattle.doc_losses.proofs.Public.{names_none, no_references}
use Rattle.doc_meaning.specs.Apart.{ReadsClx, IsReadTable}
use Rattle.doc_meaning.proofs.Public.{HasFront, held_is_meant, meant_is_held}
use Rattle.doc_mends.specs.declared.mends.Mend.{Mend}
use Rattle.doc_mends.specs.Mending.{IsMended}
use Rattle.doc_mends.proofs.Public.{no_mends}
use Rattle.huge_papx.specs.Texts.{IsStruckDefined}
use Rattle.huge_papx.proofs.Public.{struck_defined_none}
use Rattle.doc_lift.specs.LiftedRules.{lifted_wd, lifted_wd_rules, lifted_contents_rules, read_table_rules}
use Rattle.doc_lift.specs.LiftedFiles.{lifted_rules}
use Rattle.doc_lift.proofs.Public.{source_held}
use Rattle.doc_fit.specs.Rules.{HasMended}
use Rattle.doc_fit.specs.Laws.{AcceptedFilesBreakNone}
use Rattle.further_notes.proofs.Public.{front_fields}
use Rattle.doc_fit.proofs.PieceLemmas.{no_further, pieces_hold}

-- ---- the container

outer_holds : (file : List ℕ) → Hold (rules_in File (container_rules file)) → Hold (rules_in File (outer_rules file))
outer_holds file hold =
    let directory = hold.1.1 in
    let entries = directory.1.1.1 in (
      hold.0,
      (
        hold.1.0,
        (
          directory.0,
          (directory.1.0, (directory.1.1.0, (entries.0, (entries.1.0, (entries.1.1.0, entries.1.1.1.1))))),
        ),
      ),
    )

-- ---- the FIB

the_number : (wd : List ℕ) (field : FibField) (wanted : ℕ) → Nowhere (IsWrongField wd field wanted) →
    fib_number field wd ≡ wanted
the_number wd field wanted none = elim (cases_eq (fib_number field wd) wanted) [
  | inl same ↦ same
  | inr other ↦ absurd (none (field_offset field) (refl, other))
]

-- its size and pairs are those of the form
record HasKnownSize (wd : List ℕ) : Type 0 where
  size : version_size wd ≡ fib_size wd
  least : form_size Early ≤ fib_size wd
  pairs : 93 ≤ fib_pair_count wd

known_size : (wd : List ℕ) → Nowhere (IsWrongSize wd) → HasKnownSize wd
known_size wd none = by_form (fib_pair_count wd == 0x6C) refl
  where
    tail_of : (form : Form) → fib_form wd ≡ form → Nowhere (IsWrongTail form wd)
    tail_of form is =
        subst (λ (f : Form). Nowhere (IsWrongTail f wd)) is (λ p broken. none p (inr (inr (inr broken))))

    by_form : (is : Bool) → (fib_pair_count wd == 0x6C) ≡ is → HasKnownSize wd
    by_form true is =
        let count : fib_pair_count wd ≡ 0x6C = eqb-true (fib_pair_count wd) 0x6C is in
        let form : fib_form wd ≡ Later = ap (λ (b : Bool). if b then Later else Early) is in
        let new : csw_new wd ≡ 2 =
        ap (λ n. u16_at wd (fib_pair_place n)) count
        ∙ the_number wd LaterCswNew 2 (λ p broken. tail_of Later form p (inl broken)) in
        let whole : fib_size wd ≡ 1024 = ap form_size form in
        let size : version_size wd ≡ 1024 = λ i. fib_pair_place (count i) + (if new i == 0 then 2 else 6) in
        record { size = size ∙ sym whole; least = omega (arith, whole); pairs = omega (arith, count) }
    by_form false is =
        let other : fib_pair_count wd ≢ 0x6C = λ e. absurd (true≢false (sym (eq-eqb (fib_pair_count wd) 0x6C e) ∙ is))
        in
        let count : fib_pair_count wd ≡ 93 = elim (cases_eq (fib_pair_count wd) 93) [
          | inl same ↦ same
          | inr differs ↦ absurd (none (field_offset CbRgFcLcb) (inr (inr (inl (refl, (differs, other))))))
        ] in
        let form : fib_form wd ≡ Early = ap (λ (b : Bool). if b then Later else Early) is in
        let new : csw_new wd ≡ 0 =
        ap (λ n. u16_at wd (fib_pair_place n)) count ∙ the_number wd CswNew 0 (tail_of Early form) in
        let whole : fib_size wd ≡ 900 = ap form_size form in
        let size : version_size wd ≡ 900 = λ i. fib_pair_place (count i) + (if new i == 0 then 2 else 6) in
        record { size = size ∙ sym whole; least = omega (arith, whole); pairs = omega (arith, count) }

long_fib : (wd : List ℕ) → HasKnownSize wd → Nowhere (IsTruncatedFib wd) → Nowhere (IsShortFib wd)
long_fib wd known short = λ p broken. elim broken.1 [
  | inl low ↦ short p (broken.0, omega (arith, low, known.least))
  | inr known_fib ↦ short p (broken.0, subst (λ n. length wd < n) known.size known_fib.1)
]

known_form : (wd : List ℕ) → HasKnownSize wd → Nowhere (IsWrongSize wd) → Nowhere (HasOtherForm wd)
known_form wd known none = λ p broken. elim broken [
  | inl csw ↦ none p (inl csw)
  | inr more ↦ elim more [
    | inl cslw ↦ none p (inr (inl cslw))
    | inr few ↦ absurd (omega (arith, few.1, known.pairs))
  ]
]

few_stories : (wd : List ℕ) → Nowhere (Among 4 (HasOtherStory wd)) → Nowhere (IsWrongTextLength wd) →
    Nowhere (HasWrongLength wd)
few_stories wd stories none = λ p broken. elim broken.1 [
  | inl empty ↦ none p (broken.0, inl empty)
  | inr over ↦
      let early : 500000 < early_ccp wd =
      omega (
        arith,
        over,
        no_further wd stories 0 (omega arith),
        no_further wd stories 1 (omega arith),
        no_further wd stories 2 (omega arith),
        no_further wd stories 3 (omega arith),
      ) in
      none p (broken.0, inr early)
]

version_holds : (wd : List ℕ) → Hold (fib_rules wd) → Hold (version_rules wd)
version_holds wd (short, (ident, (nfib, (hidden, (glossary, (size, (stories, (lengths, parts)))))))) =
    let known = known_size wd size in
    let number = the_number wd NFib 0x00C1 nfib in (
      long_fib wd known short,
      (
        ident,
        (
          λ p broken. absurd (omega (arith, broken.1, number)),
          (hidden, (glossary, (known_form wd known size, few_stories wd stories lengths))),
        ),
      ),
    )

-- ---- the document

-- the rules on the FIB and on the table stream, of the WordDocument of an accepted file
pub wd_held : (file : List ℕ) (contents : Contents) (wd : List ℕ) → Hold (contents_rules contents) →
    HasContents file contents → HasNamed contents.streams wd_name wd → Hold (wd_rules contents wd)
wd_held file contents wd hold has named =
    let front = hold.0.1 in
    subst (λ (w : List ℕ). Hold (wd_rules contents w))
    (named_one file contents wd_name front.0 wd has front.1.0 named) front.1.1

-- the tables of a file that breaks none of the rules 1 to 57 name no marks
unnamed : (file : List ℕ) (document : Document) (parts : FileParts) → HoldsDocument file document →
    HasFileParts file parts → (story : Further) (cp : ℕ) → names_of parts.text.wd parts.text.table story cp ≡ false
unnamed file document parts holds has =
    let container = holds.rules.1 in
    let same : container.0 ≡ parts.contents =
    contents_unique file container.0 parts.contents container.1.0 has.has_contents in
    let held = wd_held file parts.contents parts.text.wd
    (subst (λ (c : Contents). Hold (contents_rules c)) same container.1.1) has.has_contents has.has_text.has_wd in
    names_none parts.text.wd parts.text.table (hold_out Wd (fib_rules parts.text.wd) held.0)

-- the document that an accepted file holds is sound
sound_held : (file : List ℕ) (document : Document) → IsAccepted file → HoldsDocument file document → IsSound document
sound_held file document accepted holds =
    let other = accepted.1.0 in
    let same : other ≡ document =
    meant_is_held file other document accepted.1.1.0 (held_is_meant file document holds) in
    record {
      rules = subst (λ (d : Document). Hold (document_rules d)) same accepted.1.1.1;
      bookmarks = held_formed file document holds;
    }

-- nothing of it was deleted by a reviser, and no row of it has its cells in Data
held_struck : (file : List ℕ) (document : Document) (parts : FileParts) (struck : Document) (mends : List Mend) →
    HoldsDocument file document → HasFileParts file parts → IsStruckDefined parts.text document struck mends →
    (struck ≡ document) × (mends ≡ [])
held_struck file document parts struck mends holds has is =
    struck_defined_none (record {
      text = parts.text;
      lists = parts.lists;
      hold = held_parts file parts holds.rules has;
      has = has.has_lists;
    }) document struck mends is

-- and nothing is mended
pub mended_held : (file : List ℕ) (document mended : Document) → IsAccepted file → HoldsDocument file document →
    HasMended file mended → mended ≡ document
mended_held file document mended accepted holds has =
    let parts = has.means.parts in
    let is = has.mended_is in
    let meant : document ≡ has.meant = meant_is_held file document has.meant holds has.means in
    let names = names_of parts.text.wd parts.text.table in
    let struck : is.struck ≡ document =
    (held_struck file document parts is.struck is.strikes holds has.means.has_parts
    (subst (λ (d : Document). IsStruckDefined parts.text d is.struck is.strikes) (sym meant) is.struck_is)).0 in
    (no_mends names document mended is.others (sound_held file document accepted holds)
    (no_references names document (unnamed file document parts holds has.means.has_parts))
    (subst (λ (d : Document). IsMended names d mended is.others) struck is.mended_is)).0

-- ---- all rules

-- those on the pieces hold of what is read
read_holds : (wd table read : List ℕ) → fib_fields (lifted_wd wd) ≡ early_fields wd (early_pairs wd) →
    Hold (fib_rules wd) → ReadsClx (early_pairs wd) table read → Hold (table_rules wd table) →
    Hold (rules_of_pieces (lifted_wd wd) read (all_text_length wd))
read_holds wd table read fields (short, (ident, (nfib, (hidden, (glossary, (size, (stories, rest))))))) clx hold =
    let long : fib_size wd ≤ length wd = elim (cases_lt (length wd) (fib_size wd)) [
      | inl less ↦ absurd (short (length wd) (refl, less))
      | inr enough ↦ enough
    ] in
    let known = known_size wd size in
    pieces_hold wd table read fields stories known.least long clx hold

-- and so do those on its parts
read_breaks : (file : List ℕ) (contents : Contents) (wd read : List ℕ) (text : FileText) (number : ℕ) (place : Place) →
    HasContents file contents → IsReadTable contents wd read → HasFront wd read (all_text_length wd) → AreBytes wd →
    HasFileText contents text → Hold (part_rules (doc_source_of text)) →
    IsFirstPlace (read_table_rules wd read) number place → ⊥
read_breaks file contents wd read text number place has reads front bytes has_text hold (inl pieces) =
    hold_or_first Upto (rules_of_pieces (lifted_wd wd) read (all_text_length wd)) number place
    (pieces_single (lifted_wd wd) read (all_text_length wd)) front.hold pieces
read_breaks file contents wd read text number place has reads front bytes has_text hold (inr (pieces, (source, (is, first)))) =
    hold_or_first Upto (part_rules source) number place (part_single source)
    (source_held file contents wd read text source has reads front bytes has_text hold is) first

wd_breaks : (file : List ℕ) (contents : Contents) (wd : List ℕ) (text : FileText) (number : ℕ) (place : Place) →
    AreBytes file → HasContents file contents → HasNamed contents.streams wd_name wd → Hold (wd_rules contents wd) →
    HasFileText contents text → Hold (part_rules (doc_source_of text)) →
    IsFirstPlace (lifted_wd_rules contents wd) number place → ⊥
wd_breaks file contents wd text number place bytes has named hold has_text parts (inl fib) =
    hold_or_first Upto (rules_in Wd (version_rules wd)) number place
    (single_in Wd (version_rules wd) (version_rules-IsSingle wd))
    (hold_in Wd (version_rules wd) (version_holds wd (hold_out Wd (fib_rules wd) hold.0))) fib
wd_breaks file contents wd text number place bytes has named hold has_text parts (inr (fib, inl missing)) =
    hold.1.0 place missing.1.broken
wd_breaks file contents wd text number place bytes has named hold has_text parts (inr (fib, inr (there, (table, (stands, (read, (clx, first))))))) =
    let own = hold.1.1 in
    let held : Hold (table_rules wd table) =
    subst (λ (t : List ℕ). Hold (table_rules wd t))
    (named_one file contents (table_stream_name wd) own.0 table has own.1.0 stands) own.1.1 in
    let rules = hold_out Wd (fib_rules wd) hold.0 in
    let fields = front_fields file contents wd_name wd bytes has named (version_holds wd rules) in
    let reads : IsReadTable contents wd read = record { has_wd = named; own = table; has_table = stands; clx = clx } in
    let front : HasFront wd read (all_text_length wd) = record {
      fields = fields;
      hold = read_holds wd table read fields rules clx held;
    } in
    read_breaks file contents wd read text number place has reads front
    (named_bytes file contents wd_name wd bytes has named) has_text parts first

contents_break : (file : List ℕ) (contents : Contents) (number : ℕ) (place : Place) → AreBytes file →
    Hold (contents_rules contents) → HasContents file contents →
    IsFirstPlace (lifted_contents_rules contents) number place → ⊥
contents_break file contents number place bytes hold has (inl missing) = hold.0.0 place missing.1.broken
contents_break file contents number place bytes hold has (inr (there, (wd, (named, first)))) =
    let text = hold.1 in
    wd_breaks file contents wd text.0 number place bytes has named (wd_held file contents wd hold has named) text.1.0
    text.1.1 first

lifted_break : (file : List ℕ) (number : ℕ) (place : Place) → AreBytes file → IsAccepted file →
    IsFirstPlace (lifted_rules file) number place → ⊥
lifted_break file number place bytes accepted (inl outer) =
    hold_or_first Upto (rules_in File (outer_rules file)) number place
    (single_in File (outer_rules file) (outer_single file)) (outer_holds file accepted.0.0) outer
lifted_break file number place bytes accepted (inr (outer, (contents, (has, first)))) =
    let container = accepted.0.1 in
    let same : container.0 ≡ contents = contents_unique file container.0 contents container.1.0 has in
    contents_break file contents number place bytes (subst (λ (c : Contents). Hold (contents_rules c)) same container.1.1)
    has first

pub breaks_none : AcceptedFilesBreakNone
breaks_none file number place bytes accepted (inl lifted) = lifted_break file number place bytes accepted lifted
breaks_none file number place bytes accepted (inr (lifted, (document, (lifts, first)))) =
    let held = accepted.1.0 in
    let same : document ≡ held = mended_held file held document accepted accepted.1.1.0 lifts.mended in
    hold_or_first Upto (document_rules held) number place (document_rules-IsSingle held) accepted.1.1.1
    (subst (λ (d : Document). IsFirstPlace (document_rules d) number place) same first)
