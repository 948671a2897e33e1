-- What a compound file holds.
use Rattle.std.specs.Prelude.{◌≡◌, ℕ, ◌-◌, ◌^◌, ◌<◌, ◌≤◌, List, length, Option, Some, MatchOption, slice_get}
use Rattle.std.specs.Prelude.{slice_index}
use Rattle.std.specs.List.{sum_by}
use Rattle.doc_bits.specs.Number.{AreBytes}
use Rattle.cfb_directory.specs.Directory.{AreSameNames, IsNameBefore}

-- a stream: its name, its bytes, and its sectors where it has sectors of its own
pub record Stream : Type 0 where
  pub name : List ℕ
  pub bytes : List ℕ
  pub chain : Option (List ℕ)

-- the streams of the root and its CLSID
pub record Contents : Type 0 where
  pub streams : List Stream
  pub clsid : List ℕ

-- the same, and the names of the root's storages that have something
pub record OuterContents : Type 0 where
  pub container : Contents
  pub storages : List (List ℕ)

-- a stream has sectors of its own exactly where it has 4,096 bytes or more
abbrev pub HasChainByLength : List ℕ → Option (List ℕ) → Type 0
HasChainByLength bytes chain = MatchOption chain (length bytes < 4096) (λ _. 4096 ≤ length bytes)

-- one of the streams has the name, and these are its bytes
pub record HasNamed (streams : List Stream) (name bytes : List ℕ) : Type 0 where
  pub index : ℕ
  pub stream : Stream
  pub here : slice_get streams index ≡ Some stream
  pub named : AreSameNames stream.name name
  pub same : bytes ≡ stream.bytes

-- no stream has the name
abbrev pub HasNoNamed : List Stream → List ℕ → Type 0
HasNoNamed streams name = (i : ℕ) (stream : Stream) → slice_get streams i ≡ Some stream → ¬ AreSameNames stream.name
    name

-- the name and the bytes of a stream that is to be put into a container
pub record NamedBytes : Type 0 where
  pub name : List ℕ
  pub bytes : List ℕ

-- names of 1 to 31 units, each before all later ones, and fewer than 2^48 bytes in all
pub record AreStreams (streams : List NamedBytes) : Type 0 where
  pub some : (i : ℕ) (stream : NamedBytes) → slice_get streams i ≡ Some stream → 1 ≤ length stream.name
  pub short : (i : ℕ) (stream : NamedBytes) → slice_get streams i ≡ Some stream → length stream.name ≤ 31
  pub order : (i j : ℕ) (stream later : NamedBytes) → i < j → slice_get streams i ≡ Some stream →
      slice_get streams j ≡ Some later → IsNameBefore stream.name later.name
  pub total : sum_by (λ stream. length stream.bytes) streams < 2 ^ 48

-- a name and bytes that a file can hold: the units have 16 bits, and the bytes are below 256
pub record IsStored (name bytes : List ℕ) : Type 0 where
  pub units : (i : ℕ) → slice_index name i < 2 ^ 16
  pub small : AreBytes bytes

abbrev pub AreStored : List NamedBytes → Type 0
AreStored streams = (i : ℕ) (stream : NamedBytes) → slice_get streams i ≡ Some stream → IsStored stream.name
    stream.bytes

-- the name comes after that of the last stream
abbrev pub IsAfterLastName : List NamedBytes → List ℕ → Type 0
IsAfterLastName streams name = (stream : NamedBytes) → slice_get streams (length streams - 1) ≡ Some stream →
    IsNameBefore
    stream.name name
