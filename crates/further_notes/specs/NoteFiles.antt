-- A file in which the endnotes, or the comments, of a document are its footnotes: it has the same two streams, but for
-- numbers of the FIB and a part behind the table stream. What the file means is what they are: no text is read in
-- another way.
use Rattle.std.specs.Prelude.{ℕ, ◌+◌, ◌<◌, ◌≤◌, ◌^◌, true, List, [], ◌∷◌, ◌++◌, length, map, take, drop, replicate}
use Rattle.std.specs.List.{fold}
use Rattle.doc_bits.specs.Number.{number_bytes}
use Rattle.cfb_streams.specs.Contents.{NamedBytes}
use Rattle.cfb_streams.specs.Names.{wd_name}
use Rattle.cfb_layout.specs.Counts.{Fits}
use Rattle.cfb_layout.specs.Layout.{lengths_of, compound_file}
use Rattle.fib_form.specs.Fib.{CcpText, CcpFtn, CcpHdd, CcpAtn, field_offset, fib_pair_place, fib_pair, table_part}
use Rattle.fib_versions.specs.declared.further.Further.{Further}
use Rattle.fib_versions.specs.declared.further.Further.TheVariants as further
use Rattle.fib_versions.specs.Versions.{further_count, further_start}
use Rattle.doc_parts.specs.declared.lists.NoteRef.{NoteRef}
use Rattle.doc_parts.specs.Stories.{printed_refs}
use Rattle.file_rules.specs.FileRules.{table_stream_name}
use Rattle.doc_losses.specs.References.{mark_pair, mark_size, table_cps}
use Rattle.doc_mends.specs.declared.mends.NoteStory.{NoteStory}
use Rattle.doc_mends.specs.declared.mends.NoteStory.TheVariants.{Endnotes, Comments}

-- the story behind the header texts
abbrev pub story_behind : NoteStory → Further
story_behind Endnotes = further.Endnotes
story_behind Comments = further.Comments

-- [MS-DOC] PlcfendTxt, PlcfandTxt: the pair of the CPs of its texts
abbrev pub text_pair : NoteStory → ℕ
text_pair Endnotes = 47
text_pair Comments = 5

-- [MS-DOC] PlcfFldEdn, PlcfFldAtn: the pair of their fields
abbrev pub field_pair : NoteStory → ℕ
field_pair Endnotes = 48
field_pair Comments = 19

-- how many characters of endnotes are behind it
abbrev pub count_behind : NoteStory → List ℕ → ℕ
count_behind Endnotes wd = 0
count_behind Comments wd = further_count wd further.Endnotes

-- [MS-DOC] PlcffndRef of comments: the CPs of PlcfandRef, each of a numbered note
abbrev pub numbered_ref : ℕ → NoteRef
numbered_ref cp = record { cp = cp; auto = true }

abbrev pub comment_refs : (wd table : List ℕ) → List ℕ
comment_refs wd table =
    printed_refs
    (map numbered_ref (table_cps (mark_size further.Comments) (table_part wd table (mark_pair further.Comments))))
    (further_start wd further.Comments)

-- the part that is put behind the table stream; the references of endnotes are read where they are
abbrev pub refs_behind : NoteStory → (wd table : List ℕ) → List ℕ
refs_behind Endnotes wd table = []
refs_behind Comments wd table = comment_refs wd table

abbrev pub note_table : NoteStory → (wd table : List ℕ) → List ℕ
note_table story wd table = table ++ refs_behind story wd table

-- the place and the length of the references
abbrev pub ref_field : NoteStory → (wd table : List ℕ) → ℕ × ℕ
ref_field Endnotes wd table = fib_pair wd (mark_pair further.Endnotes)
ref_field Comments wd table = (length table, length (comment_refs wd table))

-- [MS-DOC] FibRgLw97, FibRgFcLcb97: a number of 32 bits at its place. What is before the story is the main text, and it
-- is the footnotes; no story of headers or comments is between
abbrev pub count_fields : NoteStory → List ℕ → List (ℕ × ℕ)
count_fields story wd =
    (field_offset CcpText, further_start wd (story_behind story)) ∷
    (field_offset CcpFtn, further_count wd (story_behind story)) ∷ (field_offset CcpHdd, 0) ∷ (field_offset CcpAtn, 0) ∷
    (field_offset CcpAtn + 4, count_behind story wd) ∷ []

-- the references, the texts and the fields represent PlcffndRef, PlcffndTxt and PlcfFldFtn (2, 3, 18); PlcfHdd,
-- PlcfFldHdr and SttbfBkmk (11, 17, 21) are empty
abbrev pub part_fields : NoteStory → List ℕ → ℕ × ℕ → List (ℕ × ℕ)
part_fields story wd refs =
    (fib_pair_place 2, refs.0) ∷ (fib_pair_place 2 + 4, refs.1) ∷ (fib_pair_place 3, (fib_pair wd (text_pair story)).0)
    ∷
    (fib_pair_place 3 + 4, (fib_pair wd (text_pair story)).1) ∷
    (fib_pair_place 18, (fib_pair wd (field_pair story)).0) ∷
    (fib_pair_place 18 + 4, (fib_pair wd (field_pair story)).1) ∷ (fib_pair_place 11 + 4, 0) ∷ (
      fib_pair_place 17 + 4,
      0,
    ) ∷
    (fib_pair_place 21 + 4, 0) ∷ []

-- the bytes with a number at a place
abbrev pub with_number : List ℕ → ℕ × ℕ → List ℕ
with_number bytes field = take field.0 bytes ++ (number_bytes 4 field.1 ++ drop (field.0 + 4) bytes)

abbrev pub with_numbers : List (ℕ × ℕ) → List ℕ → List ℕ
with_numbers fields bytes = fold with_number bytes fields

-- WordDocument with these numbers, where the references are there
unfoldable pub note_wd : NoteStory → List ℕ → ℕ × ℕ → List ℕ
note_wd story wd refs = with_numbers (part_fields story wd refs) (with_numbers (count_fields story wd) wd)

-- both streams, in the order of their names: the FIB tells that of the table stream
abbrev pub two_streams : (fib wd table : List ℕ) → List NamedBytes
two_streams fib wd table =
    (record { name = table_stream_name fib; bytes = table }) ∷ (record { name = wd_name; bytes = wd }) ∷ []

abbrev pub note_streams : NoteStory → (wd table : List ℕ) → List NamedBytes
note_streams story wd table =
    two_streams wd (note_wd story wd (ref_field story wd table)) (note_table story wd table)

unfoldable pub note_file : NoteStory → (wd table : List ℕ) → List ℕ
note_file story wd table = compound_file (note_streams story wd table) (replicate 16 0)

-- the file of it is none too large
pub record FitsNoteFile (story : NoteStory) (wd table : List ℕ) : Type 0 where
  pub short : length (note_table story wd table) < 2 ^ 32
  pub fits : Fits (lengths_of (note_streams story wd table))

-- and the story has a text
pub record HasNoteFile (story : NoteStory) (wd table : List ℕ) : Type 0 where
  pub some : 1 ≤ further_count wd (story_behind story)
  pub fits : FitsNoteFile story wd table
