-- A file that breaks none of the rules 1 to 57 that are left means one document.
use Rattle.std.proofs.Common.{◌≡◌, ◌<◌, ◌^◌, sym, subst, ℕ, List, length}
use Rattle.doc_bits.specs.declared.places.Where.TheVariants.{Wd}
use Rattle.doc_bits.specs.Number.{AreBytes}
use Rattle.doc_bits.specs.Rules.{Hold}
use Rattle.cfb_streams.specs.Contents.{Contents, HasNamed}
use Rattle.cfb_streams.specs.Container.{HasContents}
use Rattle.cfb_streams.specs.Names.{wd_name}
use Rattle.cfb_streams.proofs.Public.{contents_stored, contents_unique}
use Rattle.fib_form.specs.FibFields.{fib_fields}
use Rattle.fib_versions.specs.Early.{early_fields, early_pairs}
use Rattle.fib_versions.specs.VersionRules.{version_rules}
use Rattle.fib_versions.proofs.Public.{early-read_back}
use Rattle.doc_model.specs.declared.document.Document.{Document}
use Rattle.file_rules.specs.BinRules.{rules_of_bins}
use Rattle.file_rules.specs.FileRules.{FileText, HasFileText, doc_source_of, table_stream_name}
use Rattle.file_rules.proofs.Public.{streams-small, named_one, hold_out}
use Rattle.doc_meaning.specs.Meaning.{MeansDocument}
use Rattle.doc_meaning.proofs.Public.{meaning_is_one}
use Rattle.doc_lift.specs.LiftedRules.{lifted_wd, lifted_table_rules}
use Rattle.doc_lift.specs.LiftedFiles.{lifted_rules}
use Rattle.doc_lift.proofs.Public.{lifted_bins}

-- the FIB of the early form in front of a stream of the file is read back
pub front_fields : (file : List ℕ) (contents : Contents) (name wd : List ℕ) → AreBytes file → HasContents file contents →
    HasNamed contents.streams name wd → Hold (version_rules wd) →
    fib_fields (lifted_wd wd) ≡ early_fields wd (early_pairs wd)
front_fields file contents name wd bytes has named hold =
    let stored = contents_stored file contents bytes has named.index named.stream named.here in
    let small : length named.stream.bytes < 2 ^ 32 =
    streams-small file contents bytes has named.index named.stream named.here in
    early-read_back wd (subst AreBytes (sym named.same) stored.small)
    (subst (λ (b : List ℕ). length b < 2 ^ 32) (sym named.same) small) hold

-- the rules on the bin tables hold of the text that the streams name
text_bins : (file : List ℕ) (contents : Contents) (wd table : List ℕ) (text : FileText) → AreBytes file →
    HasContents file contents → HasNamed contents.streams wd_name wd →
    HasNamed contents.streams (table_stream_name wd) table → HasFileText contents text → Hold (version_rules wd) →
    Hold (lifted_table_rules wd table) → Hold (rules_of_bins (doc_source_of text))
text_bins file contents wd table text bytes has named table_named has_text version hold =
    let wd_is : wd ≡ text.wd = named_one file contents wd_name wd text.wd has named has_text.has_wd in
    let there : HasNamed contents.streams (table_stream_name text.wd) table =
    subst (λ w. HasNamed contents.streams (table_stream_name w) table) wd_is table_named in
    let table_is : table ≡ text.table =
    named_one file contents (table_stream_name text.wd) table text.table has there has_text.has_table in
    lifted_bins wd table (doc_source_of text) (front_fields file contents wd_name wd bytes has named version) (sym
    wd_is)
    (sym table_is) hold

meant_bins : (file : List ℕ) (document : Document) → AreBytes file → Hold (lifted_rules file) →
    (means : MeansDocument file document) → Hold (rules_of_bins (doc_source_of means.parts.text))
meant_bins file document bytes hold means =
    let has = means.has_parts.has_contents in
    let same : hold.1.0 ≡ means.parts.contents =
    contents_unique file hold.1.0 means.parts.contents hold.1.1.0 has in
    let inner = hold.1.1.1 in
    let below = inner.1.1.1 in
    let wd = inner.1.0 in
    let table = below.1.1.0 in
    text_bins file means.parts.contents wd table means.parts.text bytes has
    (subst (λ (c : Contents). HasNamed c.streams wd_name wd) same inner.1.1.0)
    (subst (λ (c : Contents). HasNamed c.streams (table_stream_name wd) table) same below.1.1.1.0)
    means.has_parts.has_text (hold_out Wd (version_rules wd) below.0) below.1.1.1.1

pub meant_one : (file : List ℕ) (one other : Document) → AreBytes file → Hold (lifted_rules file) →
    MeansDocument file one → MeansDocument file other → one ≡ other
meant_one file one other bytes rules a b = meaning_is_one file one other a (meant_bins file one bytes rules a) b
