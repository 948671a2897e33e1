-- What a document carries along is there, and well formed.
use Rattle.std.proofs.Common.{◌≡◌, refl, sym, ap, subst, ℕ, ◌+◌, ◌-◌, ◌<◌, ◌≤◌, ◌^◌, List, [], ◌∷◌, length}
use Rattle.std.proofs.Common.{arith, length-take, length-drop}
use Rattle.std.specs.Prelude.{slice_range, All}
use Rattle.std.proofs.lemmas.List.Elements.{All-nil, All-cons}
use Rattle.doc_bits.specs.Rules.{Hold}
use Rattle.doc_bits.proofs.Public.{number_at-bound, length-range, AreBytes-range}
use Rattle.doc_bits.specs.Number.{AreBytes}
use Rattle.cfb_streams.specs.Contents.{Contents, AreStored}
use Rattle.cfb_directory.specs.Reach.{directory_head, entry_place}
use Rattle.cfb_streams.specs.Container.{container_rules, HasContents}
use Rattle.cfb_streams.proofs.Public.{chain_inside}
use Rattle.cfb_sectors.proofs.Public.{whole_length}
use Rattle.fib_form.specs.Fib.{fib_flags}
use Rattle.fib_form.specs.FibFields.{fib_fields}
use Rattle.fib_form.proofs.Public.{kept_flags-kept}
use Rattle.doc_model.specs.declared.carried.Carried.{Carried}
use Rattle.doc_model.specs.Carried.{ArePartsShort, AreListsWithLevels}
use Rattle.doc_model.specs.Formed.{IsFormedCarried}
use Rattle.fib_form.specs.declared.table_parts.TablePart.{TablePart}
use Rattle.fib_form.specs.declared.table_parts.TablePart.TheVariants.{SttbfFfn, Dop, SttbfAssoc, PlfLst, PlfLfo}
use Rattle.file_rules.specs.Source.{DocSource, table_part_bytes, part_place}
use Rattle.file_rules.specs.ListRules.{HasLevels}
use Rattle.file_rules.specs.FileRules.{FileText, HasFileText, doc_source_of}
use Rattle.doc_read.specs.CarriedParts.{carried_streams, AreWithinBounds, HoldsCarried}
use Rattle.doc_read.proofs.ExistParts.{part_bytes_are}
use Rattle.doc_read.proofs.PartLemmas.{short-cons}
use Rattle.doc_read.proofs.StreamLemmas.{carried-are_streams, carried-fit}
use Rattle.doc_read.proofs.FewLemmas.{leaves_room}

pub clsid_long : (file : List ℕ) (contents : Contents) → Hold (container_rules file) → HasContents file contents →
    length contents.clsid ≡ 16
clsid_long file contents holds has =
    let directory = has.parts.directory in
    let whole = whole_length file holds.0.0 in
    let inside = chain_inside file (directory_head file) directory whole has.directory.holds in
    let some = has.directory.holds.chain.path.some in
    let first = inside.inside 0 some in
    let at = entry_place directory 0 in
    let long : length (slice_range file (at + 80) (at + 96)) ≡ at + 96 - (at + 80) =
    length-range file (at + 80) (at + 96) (omega arith) in
    let same : length contents.clsid ≡ length (slice_range file (at + 80) (at + 96)) = ap length has.clsid in
    omega arith

pub record HasFormedCarried (contents : Contents) (source : DocSource) (levels : List ℕ) : Type 0 where
  pub carried : Carried
  pub holds : HoldsCarried contents source levels carried
  pub formed : IsFormedCarried carried

part_small : (source : DocSource) (part : TablePart) → length source.table ≤ 7143936 →
    length (table_part_bytes source part) < 2 ^ 32
part_small source part short = simp (length-take, length-drop) (omega arith)

-- the CLSID and the parts of a file of bytes are bytes
pub carried_bytes : (file : List ℕ) (contents : Contents) (source : DocSource) (levels : List ℕ) → AreBytes file →
    HasContents file contents → AreBytes source.table → HasLevels source levels
    → All AreBytes (contents.clsid ∷ table_part_bytes source SttbfFfn ∷ table_part_bytes source Dop ∷ table_part_bytes
    source SttbfAssoc
    ∷ table_part_bytes source PlfLst ∷ levels ∷ table_part_bytes source PlfLfo ∷ [])
carried_bytes file contents source levels bytes has table has_levels =
    let at = entry_place has.parts.directory 0 in
    let clsid : AreBytes contents.clsid =
    subst AreBytes (sym has.clsid) (AreBytes-range file (at + 80) (at + 96) bytes) in
    let from = part_place source PlfLst + length (table_part_bytes source PlfLst) in
    let of_levels : AreBytes levels =
    subst AreBytes (sym has_levels.bytes_are) (AreBytes-range source.table from (from + has_levels.len) table) in
    let none : List (List ℕ) = [] in
    let one : TablePart → List ℕ = table_part_bytes source in
    let is : (part : TablePart) → AreBytes (table_part_bytes source part) = λ part. part_bytes_are source part table in
    let from_lfo : List (List ℕ) = one PlfLfo ∷ none in
    let from_levels : List (List ℕ) = levels ∷ from_lfo in
    let from_lst : List (List ℕ) = one PlfLst ∷ from_levels in
    let from_assoc : List (List ℕ) = one SttbfAssoc ∷ from_lst in
    let from_dop : List (List ℕ) = one Dop ∷ from_assoc in
    let from_fonts : List (List ℕ) = one SttbfFfn ∷ from_dop in
    All-cons AreBytes contents.clsid from_fonts clsid
    (All-cons AreBytes (one SttbfFfn) from_dop (is SttbfFfn)
    (All-cons AreBytes (one Dop) from_assoc (is Dop)
    (All-cons AreBytes (one SttbfAssoc) from_lst (is SttbfAssoc)
    (All-cons AreBytes (one PlfLst) from_levels (is PlfLst)
    (All-cons AreBytes levels from_lfo of_levels
    (All-cons AreBytes (one PlfLfo) none (is PlfLfo) (All-nil AreBytes)))))))

pub carried_there : (contents : Contents) (text : FileText) (levels : List ℕ) → AreWithinBounds contents →
    HasFileText contents text → AreBytes text.wd → length contents.clsid ≡ 16
    → All AreBytes (contents.clsid ∷ table_part_bytes (doc_source_of text) SttbfFfn ∷ table_part_bytes (doc_source_of
    text) Dop ∷
    table_part_bytes (doc_source_of text) SttbfAssoc ∷ table_part_bytes (doc_source_of text) PlfLst ∷ levels ∷
    table_part_bytes
    (doc_source_of text) PlfLfo ∷ [])
    → ArePartsShort (table_part_bytes (doc_source_of text) SttbfFfn ∷ table_part_bytes (doc_source_of text) Dop ∷
    table_part_bytes
    (doc_source_of text) SttbfAssoc ∷ table_part_bytes (doc_source_of text) PlfLst ∷ levels ∷ table_part_bytes
    (doc_source_of text) PlfLfo
    ∷ []) →
    AreListsWithLevels (table_part_bytes (doc_source_of text) PlfLst) levels → AreStored (carried_streams
    contents.streams) →
    HasFormedCarried contents (doc_source_of text) levels
carried_there contents text levels bounds has bytes long are short lists stored =
    let source = doc_source_of text in
    let kept = (fib_fields text.wd).kept in
    let fit = carried-fit contents text.table bounds (leaves_room contents text bounds has) in
    let flags = kept_flags-kept (fib_flags text.wd) in
    record {
      carried = record {
        fonts = table_part_bytes source SttbfFfn;
        dop = table_part_bytes source Dop;
        assoc = table_part_bytes source SttbfAssoc;
        lst = table_part_bytes source PlfLst;
        levels = levels;
        lfo = table_part_bytes source PlfLfo;
        clsid = contents.clsid;
        lid = kept.lid;
        lid_fe = kept.lid_fe;
        flags = kept.flags;
        streams = carried_streams contents.streams;
        short = short;
        lists = lists;
        kept = flags;
        others = fit;
      };
      holds = record {
        fonts = refl;
        dop = refl;
        assoc = refl;
        lst = refl;
        levels_are = refl;
        lfo = refl;
        clsid = refl;
        lid = refl;
        lid_fe = refl;
        flags = refl;
        streams = refl;
      };
      formed = record {
        parts = short;
        bytes = are;
        lists = lists;
        clsid = long;
        languages = (number_at-bound text.wd _ 2 bytes, number_at-bound text.wd _ 2 bytes);
        flags = flags;
        ordered = carried-are_streams contents bounds;
        stored = stored;
        streams = fit;
      };
    }

pub all_short : (source : DocSource) (levels : List ℕ) → length source.table ≤ 7143936 →
    length levels ≤ length source.table →
    ArePartsShort (table_part_bytes source SttbfFfn ∷ table_part_bytes source Dop ∷ table_part_bytes source SttbfAssoc ∷
    table_part_bytes
    source PlfLst ∷ levels ∷ table_part_bytes source PlfLfo ∷ [])
all_short source levels short few =
    let none : List (List ℕ) = [] in
    let one : TablePart → List ℕ = table_part_bytes source in
    let from_lfo : List (List ℕ) = one PlfLfo ∷ none in
    let from_levels : List (List ℕ) = levels ∷ from_lfo in
    let from_lst : List (List ℕ) = one PlfLst ∷ from_levels in
    let from_assoc : List (List ℕ) = one SttbfAssoc ∷ from_lst in
    let from_dop : List (List ℕ) = one Dop ∷ from_assoc in
    short-cons (one SttbfFfn) (one SttbfFfn) from_dop refl (part_small source SttbfFfn short)
    (short-cons (one Dop) (one Dop) from_assoc refl (part_small source Dop short)
    (short-cons (one SttbfAssoc) (one SttbfAssoc) from_lst refl (part_small source SttbfAssoc short)
    (short-cons (one PlfLst) (one PlfLst) from_levels refl (part_small source PlfLst short)
    (short-cons levels levels from_lfo refl (omega arith)
    (short-cons (one PlfLfo) (one PlfLfo) none refl (part_small source PlfLfo short) refl)))))
