-- Readers of pieces with one modifier.
use Rattle.std.proofs.Common.{◌≡◌, ◌∙◌, ◌<◌, refl, sym, ap, subst, ℕ, List, [], ◌∷◌, ◌++◌, length}
use Rattle.std.proofs.Common.{Some, slice_get, get_or}
use Rattle.std.proofs.lemmas.Option.{slice_get_read, slice_get_within}
use Rattle.std.proofs.lemmas.List.Elements.{All-set}
use Rattle.std.proofs.Math.ListN.{set}
use Rattle.doc_bits.proofs.Public.{All_at, slice_get_push}
use Rattle.prop_map.specs.declared.modifiers.Modifier.{Modifier}
use Rattle.fkp_pages.specs.declared.kind.PageKind.{PageKind}
use Rattle.direct_props.specs.GrpprlCache.{PlaceSource}
use Rattle.doc_read.specs.declared.reading.PieceReader.{PieceReader}
use Rattle.doc_read.specs.Reading.{TextView, IsPieceReader, ArePieceReaders, HasReaderFor}

-- a source has the modifier of another, where both have one
pub source_as : (source other : PlaceSource) (kind : PageKind) (wd bin : List ℕ) (modifier : Modifier) →
    source ≡ record { kind = kind; wd = wd; bin = bin; modifier = modifier } → other.modifier ≡ modifier →
    source ≡ record { kind = kind; wd = wd; bin = bin; modifier = other.modifier }
source_as source other kind wd bin modifier e m = e ∙ (λ i. record {
  kind = kind;
  wd = wd;
  bin = bin;
  modifier = sym m
      i;
})

-- the reader at a number
pub reader_there : (readers : List PieceReader) (number : ℕ) (reader : PieceReader) (modifier : Modifier) →
    number < length readers → reader ≡ get_or readers number reader →
    reader.characters.modifier ≡ modifier → HasReaderFor readers number modifier
reader_there readers number reader modifier within is serves =
    record {
      reader = reader;
      here = slice_get_read readers (length readers) number reader refl within is;
      serves = serves;
    }

-- the reader that was added
pub last_reader : (readers : List PieceReader) (number : ℕ) (reader : PieceReader) (modifier : Modifier) →
    number ≡ length readers →
    reader.characters.modifier ≡ modifier → HasReaderFor (readers ++ reader ∷ []) number modifier
last_reader readers number reader modifier is serves =
    record {
      reader = reader;
      here = ap (slice_get (readers ++ reader ∷ [])) is ∙ slice_get_push readers reader;
      serves = serves;
    }

-- a reader at its number reads this text
pub reader_right : (view : TextView) (readers : List PieceReader) (number : ℕ) (reader : PieceReader) →
    ArePieceReaders view readers → slice_get readers number ≡ Some reader → IsPieceReader view reader
reader_right view readers number reader are here = All_at (IsPieceReader view) readers number reader are here

-- a reader that stays as it is
pub readers_same : (view : TextView) (readers : List PieceReader) (number : ℕ) (old new : PieceReader) →
    ArePieceReaders view readers → slice_get readers number ≡ Some old → new ≡ old →
    ArePieceReaders view (set readers number new)
readers_same view readers number old new are here same =
    All-set (IsPieceReader view) readers number new (subst (IsPieceReader view) (sym same) (reader_right view readers
    number old are here)) are

-- the reader that is at the number serves
pub reader_at : (readers : List PieceReader) (number : ℕ) (reader : PieceReader) (modifier : Modifier) →
    HasReaderFor readers number modifier → reader ≡ get_or readers number reader →
    (slice_get readers number ≡ Some reader) × (reader.characters.modifier ≡ modifier)
reader_at readers number reader modifier has is =
    let within = slice_get_within readers number has.reader has.here in
    let here = slice_get_read readers (length readers) number reader refl within is in
    let same : has.reader ≡ reader = cc (sym has.here ∙ here) in
    (here, ap (λ (r : PieceReader). r.characters.modifier) (sym same) ∙ has.serves)
