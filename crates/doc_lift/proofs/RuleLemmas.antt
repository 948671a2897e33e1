-- The rules that are left ascend, and each of their objects is the only one.
use Rattle.std.proofs.Common.{◌≡◌, ◌∙◌, refl, sym, ap, subst, inl, inr, ℕ, List, map, take, lit<, lit≤, arith}
use Rattle.doc_bits.specs.declared.places.Where.TheVariants.{File, Wd}
use Rattle.doc_bits.specs.Rules.{IsSingle, Ascends}
use Rattle.doc_bits.proofs.Public.{ascends_wider}
use Rattle.cfb_streams.specs.Contents.{Contents}
use Rattle.cfb_streams.specs.Container.{chain_rules, entry_rules, outer_entry_rules, outer_rules, HasContents}
use Rattle.cfb_streams.specs.Names.{wd_name}
use Rattle.cfb_streams.proofs.Public.{outer_single, container_ascends, contents_unique}
use Rattle.fib_form.specs.FibFields.{fib_fields, text_length}
use Rattle.fib_versions.specs.Versions.{all_text_length}
use Rattle.fib_versions.specs.VersionRules.{version_rules}
use Rattle.fib_versions.proofs.Public.{version_rules-IsSingle, version_rules-Ascends}
use Rattle.piece_table.specs.Piece.{UnitPlace, flat_pieces}
use Rattle.file_rules.specs.Units.{unit_at}
use Rattle.file_rules.specs.Source.{DocSource}
use Rattle.file_rules.specs.FileRules.{FileText, IsFrontOf, doc_source_of, clx_of, table_stream_name}
use Rattle.file_rules.proofs.Public.{ascends_in, part_single, part_ascends, pieces_single, pieces_ascend, named_one}
use Rattle.file_rules.proofs.Public.{single_in}
use Rattle.doc_lift.specs.LiftedRules.{IsSkippedText, IsReadFor, IsLiftedSource, lifted_wd, lifted_table_rules}
use Rattle.doc_lift.specs.LiftedRules.{read_table_rules}
use Rattle.fib_versions.specs.Early.{early_pairs}
use Rattle.doc_meaning.proofs.Public.{clx_table_one}
use Rattle.doc_lift.specs.LiftedRules.{lifted_wd_rules}
use Rattle.doc_lift.specs.LiftedFiles.{lifted_rules}
use Rattle.doc_lift.specs.FilledTexts.{IsFilledText, IsFilledRead}
use Rattle.doc_lift.proofs.SkipLemmas.{AreOneStreams, streams_one, pieces_one, units_one}
use Rattle.doc_lift.proofs.FillLemmas.{fills_one, gap_bins}

-- the source of the first places of a text
abbrev source_by : List ℕ → List ℕ → List UnitPlace → DocSource
source_by wd table places = record {
  wd = wd;
  table = table;
  text = record { places = map (λ place. place.at) places; units = map (unit_at wd) places };
}

-- that of the front is one
front_source : (wd table : List ℕ) (text : FileText) (units : List ℕ) (front : IsFrontOf wd table text units) →
    doc_source_of text ≡ source_by wd table (take (text_length (fib_fields wd).ccps) (flat_pieces front.all))
front_source wd table text units front =
    ap (λ (w : List ℕ). source_by w text.table (flat_pieces text.pieces)) front.wd_is
    ∙ (ap (λ (t : List ℕ). source_by wd t (flat_pieces text.pieces)) front.table_is
    ∙ ap (source_by wd table) front.front)

-- of two fronts of the same streams
front_one : (wd table other_wd other_table units others : List ℕ) (text other : FileText) →
    IsFrontOf wd table text units → IsFrontOf other_wd other_table other others →
    AreOneStreams wd table other_wd other_table → doc_source_of other ≡ doc_source_of text
front_one wd table other_wd other_table units others text other one two streams =
    let wd_is : other_wd ≡ wd = streams.wd_is in
    let table_is : other_table ≡ table = streams.table_is in
    let clx : clx_of other_wd other_table ≡ clx_of wd table = λ i. clx_of (wd_is i) (table_is i) in
    let all : two.all ≡ one.all =
    pieces_one wd table other_wd other_table units others text other one two clx in
    front_source other_wd other_table other others two
    ∙ ((λ i. source_by (wd_is i) (table_is i)
    (take (text_length (fib_fields (wd_is i)).ccps) (flat_pieces (all i))))
    ∙ sym (front_source wd table text units one))

-- what is read in place of a text is one
read_one : (wd table units others : List ℕ) (text other read other_read : FileText) →
    IsFrontOf (lifted_wd wd) table text units → IsFrontOf (lifted_wd wd) table other others →
    IsReadFor wd table units text read → IsReadFor wd table others other other_read → others ≡ units →
    doc_source_of other_read ≡ doc_source_of read
read_one wd table units others text other read other_read one two (inl a) (inl b) same =
    front_one read.wd read.table other_read.wd other_read.table units others read other_read a.front b.front
    (streams_one wd table read.wd read.table other_read.wd other_read.table a.streams b.streams)
read_one wd table units others text other read other_read one two (inl a) (inr b) same =
    absurd (b.0 read (subst (λ (us : List ℕ). IsSkippedText wd table us read) (sym same) a))
read_one wd table units others text other read other_read one two (inr a) (inl b) same =
    absurd (a.0 other_read (subst (λ (us : List ℕ). IsSkippedText wd table us other_read) same b))
read_one wd table units others text other read other_read one two (inr a) (inr b) same =
    let streams : AreOneStreams (lifted_wd wd) table (lifted_wd wd) table = record { wd_is = refl; table_is = refl } in
    ap doc_source_of b.1
    ∙ (front_one (lifted_wd wd) table (lifted_wd wd) table units others text other one two streams
    ∙ sym (ap doc_source_of a.1))

-- the text of filled streams is one
filled_text_one : (wd units : List ℕ) (read : DocSource) (one other : FileText) → IsFilledText wd units read one →
    IsFilledText wd units read other → doc_source_of other ≡ doc_source_of one
filled_text_one wd units read one other a b =
    let streams = fills_one wd read.wd read.table one.wd one.table other.wd other.table (gap_bins read a.gap)
    a.is.streams.fills b.is.streams.fills in
    front_one one.wd one.table other.wd other.table units units one other a.is.text.front b.is.text.front streams

-- so is what is read of a text
filled_one : (wd units others : List ℕ) (read other_read filled other : FileText) →
    doc_source_of other_read ≡ doc_source_of read → others ≡ units → IsFilledRead wd units read filled →
    IsFilledRead wd others other_read other → doc_source_of other ≡ doc_source_of filled
filled_one wd units others read other_read filled other same all (inl a) (inl b) =
    filled_text_one wd units (doc_source_of read) filled other a
    (subst (λ (s : DocSource). IsFilledText wd units s other) same
    (subst (λ (us : List ℕ). IsFilledText wd us (doc_source_of other_read) other) all b))
filled_one wd units others read other_read filled other same all (inl a) (inr b) =
    absurd (b.0 filled (subst (λ (s : DocSource). IsFilledText wd others s filled) (sym same)
    (subst (λ (us : List ℕ). IsFilledText wd us (doc_source_of read) filled) (sym all) a)))
filled_one wd units others read other_read filled other same all (inr a) (inl b) =
    absurd (a.0 other (subst (λ (s : DocSource). IsFilledText wd units s other) same
    (subst (λ (us : List ℕ). IsFilledText wd us (doc_source_of other_read) other) all b)))
filled_one wd units others read other_read filled other same all (inr a) (inr b) =
    ap doc_source_of b.1 ∙ (same ∙ sym (ap doc_source_of a.1))

source_one : (wd table : List ℕ) (one other : DocSource) → IsLiftedSource wd table one →
    IsLiftedSource wd table other → one ≡ other
source_one wd table one other a b =
    let early = lifted_wd wd in
    let streams : AreOneStreams early table early table = record { wd_is = refl; table_is = refl } in
    let units : a.units ≡ b.units =
    units_one early table early table b.units a.units b.text a.text b.front a.front streams in
    let read : doc_source_of a.read ≡ doc_source_of b.read =
    read_one wd table b.units a.units b.text a.text b.read a.read b.front a.front b.read_is a.read_is units in
    a.source_is
    ∙ (filled_one wd b.units a.units b.read a.read b.filled a.filled read units b.filled_is a.filled_is
    ∙ sym b.source_is)

read_single : (wd table : List ℕ) → IsSingle (read_table_rules wd table)
read_single wd table = (
  pieces_single (lifted_wd wd) table (all_text_length wd),
  ((λ a b ha hb. source_one wd table a b ha hb), λ source h. part_single source),
)

table_single : (wd table : List ℕ) → IsSingle (lifted_table_rules wd table)
table_single wd table = (clx_table_one (early_pairs wd) table, λ read h. read_single wd read)

wd_single : (file : List ℕ) (contents : Contents) (wd : List ℕ) → HasContents file contents →
    IsSingle (lifted_wd_rules contents wd)
wd_single file contents wd has = (
  single_in Wd (version_rules wd) (version_rules-IsSingle wd),
  (
    tt,
    ((λ x y hx hy. named_one file contents (table_stream_name wd) x y has hx hy), λ table h. table_single wd table),
  ),
)

pub lifted_single : (file : List ℕ) → IsSingle (lifted_rules file)
lifted_single file = (
  single_in File (outer_rules file) (outer_single file),
  (
    (λ x y hx hy. contents_unique file x y hx hy),
    λ contents has. (
      tt,
      ((λ x y hx hy. named_one file contents wd_name x y has hx hy), λ wd h. wd_single file contents wd has),
    ),
  ),
)

-- the rules of a container ascend without rule 10 as they do with it
entries_ascend : (file directory : List ℕ) (low high : ℕ) → Ascends (entry_rules file directory) low high →
    Ascends (outer_entry_rules file directory) low high
entries_ascend file directory low high up =
    let first = up.1.1.2 in
    let next = first.1.1.2 in
    let last = next.1.1.2 in
    let chain = ascends_wider (chain_rules file directory) last.0 high next.0 high last.1.1.0 (omega arith)
    last.1.1.2 in (
      up.0,
      (
        up.1.0,
        (
          up.1.1.0,
          up.1.1.1,
          (
            first.0,
            (
              first.1.0,
              (
                first.1.1.0,
                first.1.1.1,
                (next.0, (next.1.0, (next.1.1.0, next.1.1.1, chain))),
              ),
            ),
          ),
        ),
      ),
    )

pub outer_ascends : (file : List ℕ) → Ascends (outer_rules file) 1 15
outer_ascends file =
    let up = container_ascends file in
    let header = up.1.1.2 in
    let directory = header.1.1.2 in
    let entries = directory.1.1.2 in (
      up.0,
      (
        up.1.0,
        (
          up.1.1.0,
          up.1.1.1,
          (
            header.0,
            (
              header.1.0,
              (
                header.1.1.0,
                header.1.1.1,
                (
                  directory.0,
                  (
                    directory.1.0,
                    (
                      directory.1.1.0,
                      directory.1.1.1,
                      (entries.0, λ d is. entries_ascend file d directory.0 15 (entries.1 d is)),
                    ),
                  ),
                ),
              ),
            ),
          ),
        ),
      ),
    )

read_ascends : (wd table : List ℕ) → Ascends (read_table_rules wd table) 26 58
read_ascends wd table = (
  33,
  (
    pieces_ascend (lifted_wd wd) table (all_text_length wd),
    (lit≤ tt, lit≤ tt, (lit≤ tt, λ source h. part_ascends source)),
  ),
)

table_ascends : (wd table : List ℕ) → Ascends (lifted_table_rules wd table) 26 58
table_ascends wd table = (lit≤ tt, λ read h. read_ascends wd read)

wd_ascends : (contents : Contents) (wd : List ℕ) → Ascends (lifted_wd_rules contents wd) 16 58
wd_ascends contents wd = (
  24,
  (
    ascends_in Wd (version_rules wd) 16 24 (version_rules-Ascends wd),
    (lit≤ tt, lit≤ tt, (26, ((lit≤ tt, lit< tt), (lit≤ tt, lit≤ tt, (lit≤ tt, λ table h. table_ascends wd table))))),
  ),
)

pub lifted_ascend : (file : List ℕ) → Ascends (lifted_rules file) 1 58
lifted_ascend file = (
  15,
  (
    ascends_in File (outer_rules file) 1 15 (outer_ascends file),
    (
      lit≤ tt,
      lit≤ tt,
      (
        lit≤ tt,
        λ contents h. (16, ((lit≤ tt, lit< tt), (lit≤ tt, lit≤ tt, (lit≤ tt, λ wd there. wd_ascends contents wd)))),
      ),
    ),
  ),
)
