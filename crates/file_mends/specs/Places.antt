-- Where the pairs of a part are in a file.
use Rattle.std.specs.Prelude.{◌≡◌, ℕ, ◌+◌, ◌*◌, ◌/◌, ◌<◌, ◌≤◌, List, ◌++◌, length, take, drop, slice_get, Some}
use Rattle.doc_bits.specs.Number.{zeros}
use Rattle.doc_bits.specs.Rules.{Hold}
use Rattle.cfb_sectors.specs.Header.{sector_len}
use Rattle.cfb_directory.specs.Directory.{AreSameNames}
use Rattle.cfb_streams.specs.Contents.{Contents, Stream}
use Rattle.cfb_streams.specs.Container.{HasContents, outer_rules}
use Rattle.cfb_streams.specs.Names.{wd_name}
use Rattle.cfb_in_place.specs.InPlace.{byte_place}
use Rattle.fib_form.specs.Fib.{fib_pair_place}
use Rattle.file_mends.specs.declared.part_places.PartPlace.{PartPlace}
use Rattle.file_mends.specs.Parts.{IsPartOfRule, emptied_pairs}

-- the pairs of a part are in a sector of WordDocument, of a file of so many bytes
pub record ArePairsAt (sectors : List ℕ) (file_len : ℕ) (place : PartPlace) : Type 0 where
  pub sector : fib_pair_place place.pair / sector_len < length sectors
  pub at_is : place.at ≡ byte_place sectors (fib_pair_place place.pair)
  pub len_is : place.len ≡ 8 * emptied_pairs place.pair
  pub within : place.at + place.len ≤ file_len

-- a stream is WordDocument, with sectors of its own, and these are the pairs of the part whose own rule is broken
pub record IsPartPlaceIn (stream : Stream) (file_len rule offset : ℕ) (place : PartPlace) : Type 0 where
  pub named : AreSameNames stream.name wd_name
  pub sectors : List ℕ
  pub chain : stream.chain ≡ Some sectors
  pub part : IsPartOfRule stream.bytes rule offset place.pair
  pub pairs : ArePairsAt sectors file_len place

-- one of the streams is
pub record IsPlaceAmong (contents : Contents) (file_len rule offset : ℕ) (place : PartPlace) : Type 0 where
  pub index : ℕ
  pub stream : Stream
  pub here : slice_get contents.streams index ≡ Some stream
  pub is : IsPartPlaceIn stream file_len rule offset place

-- the file breaks none of the rules 1 to 14 but for rule 10, and has such a stream
pub record IsPartPlace (file : List ℕ) (rule offset : ℕ) (place : PartPlace) : Type 0 where
  pub hold : Hold (outer_rules file)
  pub contents : Contents
  pub has : HasContents file contents
  pub among : IsPlaceAmong contents (length file) rule offset place

-- zeros over the bytes of a range; all other bytes stay
abbrev pub zeroed : ℕ → ℕ → List ℕ → List ℕ
zeroed at count bytes = take at bytes ++ (zeros count ++ drop (at + count) bytes)
