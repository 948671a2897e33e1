-- The file of a full save: its streams are those of its layout, and the document is read back of it.
use Rattle.std.specs.Prelude.{slice_get, slice_index, filter}
use Rattle.std.specs.List.{list_all}
use Rattle.std.proofs.Common.{◌≡◌, ◌∙◌, ◌^◌, inl, inr, ℕ, ◌<◌, ◌≤◌, Bool, true, not, ◌&&◌, ltb, ltb-true}
use Rattle.std.proofs.Common.{List, length}
use Rattle.std.proofs.Common.{Some, refl, sym, ap, subst, arith}
use Rattle.std.proofs.lemmas.Bool.{cases_lt, and_from}
use Rattle.std.proofs.lemmas.List.{get_or_past}
use Rattle.std.proofs.lemmas.List.Elements.{All-get_or}
use Rattle.std.proofs.lemmas.List.Sums.{AllPass-from_list_all}
use Rattle.cfb_streams.specs.Contents.{NamedBytes, Contents, AreStreams}
use Rattle.cfb_directory.specs.Directory.{AreSameNames, IsNameBefore}
use Rattle.cfb_streams.specs.Names.{wd_name, first_table_name, second_table_name, is_same_name}
use Rattle.cfb_streams.proofs.Public.{same_name-false}
use Rattle.cfb_layout.specs.Layout.{contents_of}
use Rattle.cfb_layout.specs.Laws.{AreLayoutStreams}
use Rattle.cfb_layout.proofs.Public.{file_holds, file_contents}
use Rattle.doc_model.specs.declared.document.Document.{Document}
use Rattle.doc_model.specs.Carried.{IsCarriedName}
use Rattle.doc_model.specs.Formed.{IsFormed}
use Rattle.plain_doc.specs.Sound.{IsSound}
use Rattle.full_save.specs.WordDocument.{wd_stream, table_stream}
use Rattle.full_save.specs.Streams.{put_stream}
use Rattle.full_save.specs.Layout.{layout_streams, full_save_image}
use Rattle.doc_read.proofs.Public.{held_formed, wd-not_carried, table-not_carried, document_one}
use Rattle.doc_read.proofs.Public.{files_hold as files_hold_documents}
use Rattle.doc_read.specs.CarriedParts.{is_carried}
use Rattle.doc_read.specs.Holds.{HoldsDocument}
use Rattle.save_laws.specs.Saves.{IsFileOfContents}
use Rattle.save_laws.specs.FullSaves.{full_saved_text, HasLayout}
use Rattle.save_laws.proofs.Public.{files_hold, full_saves_are_saves}
use Rattle.fast_save.specs.Laws.{IsSavable, FullSavesHold, FullSavesAreRead, FullSavesAreCanonical}
use Rattle.fast_save.specs.Laws.{IsSavableFile, FullSavesAreFixed, EqualFilesHaveOneSave}
use Rattle.full_save.proofs.Public.{same_as_itself, IsPutAmong, length-put, put_there, kept_there, each_put, put_ascend}
use Rattle.full_save.proofs.Public.{put_are_streams, total-put, put_among, put_left_out, all_pass, stream_short}
use Rattle.full_save.proofs.Public.{other_names}
use Rattle.fast_save_layout.proofs.Public.{contents_has, contents_clsid, contents_carried}

-- ---- the two streams that a save makes

abbrev the_wd : Document → NamedBytes
the_wd document = record { name = wd_name; bytes = wd_stream document }

abbrev the_table : Document → NamedBytes
the_table document = record { name = second_table_name; bytes = table_stream document }

-- a name of 16-bit units
abbrev HasUnits : List ℕ → Type 0
HasUnits name = (k : ℕ) → slice_index name k < 2 ^ 16

units_small : (name : List ℕ) → list_all (λ unit. ltb unit 65536) name ≡ true → HasUnits name
units_small name all k = elim (cases_lt k (length name)) [
  | inr past ↦ omega (arith, get_or_past name k 0 past)
  | inl low ↦
      ltb-true (slice_index name k) 65536
      (All-get_or (λ unit. ltb unit 65536 ≡ true) name k 0 low
      (AllPass-from_list_all (λ unit. ltb unit 65536) name all))
]

-- ---- the streams of the layout

-- both are short where the file fits
pub record AreWithin (document : Document) : Type 0 where
  pub wd : length (wd_stream document) ≤ 7143424
  pub table : length (table_stream document) ≤ 7143424

laid_wd : (document : Document) → IsFormed document →
    IsPutAmong (the_wd document) document.carried.streams (put_stream (the_wd document) document.carried.streams)
laid_wd document formed =
    put_among (the_wd document) document.carried.streams formed.carried.ordered.order
    (λ i stream here. (formed.carried.streams.names i stream here).no_wd)

with_wd_order : (document : Document) (formed : IsFormed document) → (i j : ℕ) (stream later : NamedBytes) → i < j →
    slice_get (put_stream (the_wd document) document.carried.streams) i ≡ Some stream →
    slice_get (put_stream (the_wd document) document.carried.streams) j ≡ Some later →
    IsNameBefore stream.name later.name
with_wd_order document formed =
    put_ascend (the_wd document) document.carried.streams (put_stream (the_wd document) document.carried.streams)
    (laid_wd document formed) formed.carried.ordered.order

laid_table : (document : Document) → IsFormed document →
    IsPutAmong (the_table document) (put_stream (the_wd document) document.carried.streams) (layout_streams document)
unfolding layout_streams
laid_table document formed =
    let with_wd = put_stream (the_wd document) document.carried.streams in
    put_among (the_table document) with_wd (with_wd_order document formed)
    (each_put (λ stream. ¬ AreSameNames stream.name second_table_name) (the_wd document) document.carried.streams
    with_wd (laid_wd document formed)
    (λ i stream here. (formed.carried.streams.names i stream here).no_second_table) other_names)

-- where the two are
table_there : (document : Document) → IsFormed document →
    (k : ℕ) × (slice_get (layout_streams document) k ≡ Some (the_table document))
table_there document formed =
    let is = laid_table document formed in (
      length is.front,
      put_there (the_table document) (put_stream (the_wd document) document.carried.streams) (layout_streams document)
          is,
    )

wd_there : (document : Document) → IsFormed document →
    (k : ℕ) × (slice_get (layout_streams document) k ≡ Some (the_wd document))
wd_there document formed =
    let carried = document.carried.streams in
    let with_wd = put_stream (the_wd document) carried in
    let first = laid_wd document formed in
    kept_there (the_table document) with_wd (layout_streams document) (laid_table document formed) (length first.front)
    (the_wd document) (put_there (the_wd document) carried with_wd first)

pub within : (document : Document) → IsSavable document → AreWithin document
within document is =
    let wd = wd_there document is.formed in
    let table = table_there document is.formed in
    record {
      wd = stream_short (layout_streams document) wd.0 (the_wd document) is.fits wd.1;
      table = stream_short (layout_streams document) table.0 (the_table document) is.fits table.1;
    }

pub are_streams : (document : Document) → IsSavable document → AreStreams (layout_streams document)
are_streams document is =
    let carried = document.carried.streams in
    let with_wd = put_stream (the_wd document) carried in
    let most = within document is in
    let few = is.formed.carried.streams.total in
    let wd = laid_wd document is.formed in
    let total = total-put (the_wd document) carried with_wd wd in
    let first =
    put_are_streams (the_wd document) carried with_wd wd is.formed.carried.ordered (omega arith) (omega arith)
    (omega (arith, few, most.wd)) in
    put_are_streams (the_table document) with_wd (layout_streams document) (laid_table document is.formed) first
    (omega arith) (omega arith)
    (omega (arith, total, few, most.wd, most.table))

pub is_layout : (document : Document) → IsSavable document → AreLayoutStreams (layout_streams document)
    document.carried.clsid
is_layout document is =
    let carried = document.carried.streams in
    let with_wd = put_stream (the_wd document) carried in
    let wd = laid_wd document is.formed in
    let table = laid_table document is.formed in
    let one = length-put (the_wd document) carried with_wd wd in
    let two = length-put (the_table document) with_wd (layout_streams document) table in
    let few = is.formed.carried.streams.few in
    record {
      few = omega (arith, one, two, few);
      fits = is.fits;
      clsid_len = is.formed.carried.clsid;
      names =
          each_put (λ stream. HasUnits stream.name) (the_table document) with_wd (layout_streams document) table
          (each_put (λ stream. HasUnits stream.name) (the_wd document) carried with_wd wd
          (λ i stream here. (is.formed.carried.stored i stream here).units) (units_small wd_name refl))
          (units_small second_table_name refl);
    }

-- ---- what is carried

is_carried_name : (name : List ℕ) → IsCarriedName name → is_carried name ≡ true
is_carried_name name is =
    let no_wd : not (is_same_name name wd_name) ≡ true = ap not (sym (same_name-false name wd_name is.no_wd)) in
    let no_first : not (is_same_name name first_table_name) ≡ true =
    ap not (sym (same_name-false name first_table_name is.no_first_table)) in
    let no_second : not (is_same_name name second_table_name) ≡ true =
    ap not (sym (same_name-false name second_table_name is.no_second_table)) in
    and_from (not (is_same_name name wd_name))
    (not (is_same_name name first_table_name) && not (is_same_name name second_table_name)) no_wd
    (and_from (not (is_same_name name first_table_name)) (not (is_same_name name second_table_name)) no_first no_second)

abbrev passes : NamedBytes → Bool
passes stream = is_carried stream.name

carried_again : (document : Document) → IsFormed document →
    filter passes (layout_streams document) ≡ document.carried.streams
carried_again document formed =
    let carried = document.carried.streams in
    let with_wd = put_stream (the_wd document) carried in
    put_left_out passes (the_table document) with_wd (layout_streams document) (laid_table document formed)
    (table-not_carried second_table_name true (same_as_itself second_table_name second_table_name refl))
    ∙ (put_left_out passes (the_wd document) carried with_wd (laid_wd document formed)
    (wd-not_carried wd_name (same_as_itself wd_name wd_name refl))
    ∙ all_pass passes carried
    (λ i stream here. is_carried_name stream.name (formed.carried.streams.names i stream here)))

abbrev the_contents : Document → Contents
the_contents document = contents_of (layout_streams document) document.carried.clsid

pub has_layout : (document : Document) → IsFormed document → HasLayout document (the_contents document)
has_layout document formed =
    let streams = layout_streams document in
    let clsid = document.carried.clsid in
    let wd = wd_there document formed in
    let table = table_there document formed in
    let one = the_wd document in
    let other = the_table document in
    record {
      wd = contents_has streams clsid wd.0 one one.name wd.1 (same_as_itself one.name one.name refl);
      table = contents_has streams clsid table.0 other other.name table.1 (same_as_itself other.name other.name refl);
      clsid = sym (contents_clsid streams clsid);
      streams = sym (contents_carried streams clsid ∙ carried_again document formed);
    }

-- ---- the file

file_of : (document : Document) → IsSavable document → IsFileOfContents (full_save_image document) (the_contents
    document)
unfolding full_save_image
file_of document is =
    let streams = layout_streams document in
    let are = are_streams document is in
    let lay = is_layout document is in
    record {
      rules = file_holds streams document.carried.clsid are lay;
      has_contents = file_contents streams document.carried.clsid are lay;
    }

pub full_saves_are_read : FullSavesAreRead
full_saves_are_read document is =
    let most = within document is in
    let saved =
    full_saves_are_saves document (the_contents document) is.formed is.sound (omega (arith, most.table))
    (has_layout document is.formed) in
    files_hold (full_save_image document) document (full_saved_text document) (table_stream document)
    (the_contents document) is.formed is.sound saved (file_of document is)

pub full_saves_hold : FullSavesHold
full_saves_hold document is =
    let read = full_saves_are_read document is in record { accepted = read.accepted; holds = read.holds }

pub full_saves_are_canonical : FullSavesAreCanonical
full_saves_are_canonical one other is other_is = (
  (λ same.
      document_one (full_save_image other) one other
      (subst (λ file. HoldsDocument file one) same (full_saves_hold one is).holds)
      (full_saves_hold other other_is).holds),
  (λ same. ap full_save_image same),
)

-- ---- of files

savable_file : (file : List ℕ) (document : Document) → IsSavableFile file document → IsSavable document
savable_file file document is =
    let formed = files_hold_documents file is.bytes is.accepted.0 in
    let sound = is.accepted.1 in
    record {
      formed = subst IsFormed (document_one file formed.document document formed.holds is.holds) formed.formed;
      sound =
          subst IsSound (document_one file sound.0 document sound.1.0 is.holds)
          (record { rules = sound.1.1; bookmarks = held_formed file sound.0 sound.1.0 });
      fits = is.fits;
    }

pub full_saves_are_fixed : FullSavesAreFixed
full_saves_are_fixed file document again is holds =
    let held = full_saves_hold document (savable_file file document is) in
    ap full_save_image (document_one (full_save_image document) again document holds held.holds)

pub equal_files_have_one_save : EqualFilesHaveOneSave
equal_files_have_one_save file other_file one other is other_is =
    let canon =
    full_saves_are_canonical one other (savable_file file one is) (savable_file other_file other other_is) in
    (canon.1, canon.0)
