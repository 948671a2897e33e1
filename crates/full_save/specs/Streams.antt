-- Streams in the order of their names: [MS-CFB] a shorter name first, then by units in upper case.
use Rattle.std.specs.Prelude.{◌≡◌, ℕ, ◌<◌, ◌≤◌, ◌==◌, Bool, true, false, List, [], ◌∷◌, length, Some, slice_get}
use Rattle.std.specs.Prelude.{nat_lt, if◌then◌else◌}
use Rattle.cfb_streams.specs.Contents.{NamedBytes}
use Rattle.cfb_directory.specs.Directory.{upper_case}
use Rattle.cfb_streams.specs.Names.{wd_name, second_table_name}

-- of names of one length the first has the lesser unit where the two first differ
abbrev pub has_less_unit : List ℕ → List ℕ → Bool
has_less_unit [] other = false
has_less_unit (unit ∷ units) [] = false
has_less_unit (unit ∷ units) (other ∷ others) =
    if upper_case unit == upper_case other then has_less_unit units others else nat_lt (upper_case unit)
    (upper_case other)

-- the name comes before the other one
abbrev pub is_name_before : List ℕ → List ℕ → Bool
is_name_before name other =
    if length name == length other then has_less_unit name other else nat_lt (length name) (length other)

-- a stream among others, behind those whose names come before its name
unfoldable pub put_stream : NamedBytes → List NamedBytes → List NamedBytes
put_stream stream [] = stream ∷ []
put_stream stream (other ∷ others) =
    if is_name_before other.name stream.name then other ∷ put_stream stream others else stream ∷ other ∷ others

-- the two streams of a document among others
abbrev pub saved_streams : List ℕ → List ℕ → List NamedBytes → List NamedBytes
saved_streams table wd others =
    put_stream (record { name = second_table_name; bytes = table }) (put_stream (record {
      name = wd_name;
      bytes = wd;
    }) others)

-- the names before the place come before the name, and the one at the place does not
pub record IsPlaceFor (name : List ℕ) (streams : List NamedBytes) (place : ℕ) : Type 0 where
  pub within : place ≤ length streams
  pub before : (i : ℕ) (stream : NamedBytes) → i < place → slice_get streams i ≡ Some stream →
      is_name_before stream.name name ≡ true
  pub after : (stream : NamedBytes) → slice_get streams place ≡ Some stream → is_name_before stream.name name ≡ false
