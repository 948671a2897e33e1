-- The streams of a layout are in order, and how long they are.
use Rattle.std.specs.Prelude.{max}
use Rattle.std.proofs.Common.{◌≡◌, ◌≤◌, ◌<◌, ◌^◌, ◌+◌, ◌-◌, ℕ, List, ◌++◌, length, sum, arith, replicate}
use Rattle.std.proofs.lemmas.List.{length-append, length-replicate}
use Rattle.std.proofs.lemmas.List.Sums.{sum-map}
use Rattle.cfb_streams.specs.Contents.{NamedBytes, AreStreams}
use Rattle.cfb_directory.specs.Directory.{AreSameNames}
use Rattle.cfb_streams.specs.Names.{wd_name, second_table_name}
use Rattle.cfb_layout.specs.Layout.{lengths_of}
use Rattle.cfb_layout.specs.Sectors.{filled}
use Rattle.fib_form.specs.FibFields.{FibFields}
use Rattle.fib_form.specs.FibBytes.{written_fib}
use Rattle.doc_model.specs.declared.document.Document.{Document}
use Rattle.doc_model.specs.Carried.{AreCarriedStreams}
use Rattle.doc_model.specs.Formed.{IsFormed}
use Rattle.plain_doc.specs.RightDocument.{IsValidDocument}
use Rattle.full_save.specs.Streams.{put_stream, saved_streams}
use Rattle.full_save.specs.WordDocument.{text_offset, least_length, wd_body, full_fib, wd_stream, table_stream}
use Rattle.full_save.specs.Layout.{layout_streams, FitsCompoundFile}
use Rattle.full_save.proofs.PutStreams.{IsPutAmong, put_among, put_are_streams, total-put, each_put, length-put}
use Rattle.full_save.proofs.PutStreams.{put_there}
use Rattle.full_save.proofs.StreamLengths.{short_body, short_table}
use Rattle.full_save.proofs.LaidOut.{length-front}
use Rattle.full_save.proofs.FitLemmas.{stream_short}

abbrev the_wd : List ℕ → NamedBytes
the_wd bytes = record { name = wd_name; bytes = bytes }

abbrev the_table : List ℕ → NamedBytes
the_table bytes = record { name = second_table_name; bytes = bytes }

pub other_names : ¬ AreSameNames wd_name second_table_name
other_names same = let long = same.long in omega (arith, long)

-- the two streams are put among those that are carried
pub record ArePut (table wd : List ℕ) (others : List NamedBytes) : Type 0 where
  pub first : IsPutAmong (the_wd wd) others (put_stream (the_wd wd) others)
  pub second : IsPutAmong (the_table table) (put_stream (the_wd wd) others) (saved_streams table wd others)
  pub are : AreStreams (saved_streams table wd others)
  pub count : length (saved_streams table wd others) ≤ 1023

pub are_put : (table wd : List ℕ) (others : List NamedBytes) → AreStreams others → AreCarriedStreams others →
    length table < 2 ^ 47 → length wd < 2 ^ 46 → ArePut table wd others
are_put table wd others ordered carried short_table short_wd =
    let with_wd = put_stream (the_wd wd) others in
    let total = carried.total in
    let few = carried.few in
    let first = put_among (the_wd wd) others ordered.order (λ i s here. (carried.names i s here).no_wd) in
    let are = put_are_streams (the_wd wd) others with_wd first ordered (omega arith) (omega arith) (omega arith) in
    let sum = total-put (the_wd wd) others with_wd first in
    let second = put_among (the_table table) with_wd are.order
    (each_put (λ s. ¬ AreSameNames s.name second_table_name) (the_wd wd) others with_wd first
    (λ i s here. (carried.names i s here).no_second_table) other_names) in
    let one = length-put (the_wd wd) others with_wd first in
    let two = length-put (the_table table) with_wd (saved_streams table wd others) second in
    record {
      first = first;
      second = second;
      are = put_are_streams (the_table table) with_wd (saved_streams table wd others) second are (omega arith)
          (omega arith)
          (omega (arith, sum));
      count = omega (arith, one, two);
    }

-- the stream with a FIB, and these bytes from the text on
abbrev pub wd_of : FibFields → List ℕ → List ℕ
wd_of fib body = filled least_length 0 (filled text_offset 0 (written_fib fib) ++ body)

-- WordDocument is as long as what it has, but not shorter than it may be
pub length-wd_stream : (document : Document) → length (wd_stream document) ≡ max (text_offset + length (wd_body
    document))
    least_length
unfolding wd_stream filled
length-wd_stream document =
    let front = filled text_offset 0 (written_fib (full_fib document)) in
    let all = front ++ wd_body document in
    let size = length-front document in
    let one = length-append front (wd_body document) in
    let two = length-append all (replicate (least_length - length all) 0) in
    let three = length-replicate {A = ℕ} (least_length - length all) 0 in
    omega arith

-- the layout of any document
pub layout_are : (document : Document) → IsFormed document → IsValidDocument document →
    ArePut (table_stream document) (wd_stream document) document.carried.streams
layout_are document formed right =
    let body = short_body document formed right in
    let table = short_table document formed right in
    let wd = length-wd_stream document in
    are_put (table_stream document) (wd_stream document) document.carried.streams formed.carried.ordered
    formed.carried.streams (omega arith) (omega arith)

-- its streams have fewer bytes than counts of sectors can hold
pub total_short : (streams : List NamedBytes) → AreStreams streams → sum (lengths_of streams) < 2 ^ 48
total_short streams are =
    let total = are.total in
    let same = sum-map (λ (stream : NamedBytes). length stream.bytes) streams in
    omega arith

-- where the file fits, the table stream is short
pub fits_short : (document : Document) → IsFormed document → IsValidDocument document → FitsCompoundFile document →
    length (table_stream document) < 2 ^ 32
unfolding layout_streams
fits_short document formed right fits =
    let put = (layout_are document formed right).second in
    let short = stream_short (layout_streams document) (length put.front) (the_table (table_stream document)) fits
    (put_there (the_table (table_stream document)) (put_stream (the_wd (wd_stream document)) document.carried.streams)
    (layout_streams document) put) in
    omega arith
