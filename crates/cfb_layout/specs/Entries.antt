-- [MS-CFB] Directory Entry, as it is written.
use Rattle.std.specs.Prelude.{ℕ, ◌+◌, ◌*◌, List, [], ◌∷◌, ◌++◌, replicate}
use Rattle.std.specs.List.{flat_map}
use Rattle.doc_bits.specs.Number.{number_bytes}
use Rattle.cfb_directory.specs.Directory.{no_stream_entry}
use Rattle.cfb_layout.specs.declared.entries.EntryFields.{EntryFields}
use Rattle.cfb_layout.specs.declared.fields.Field.{Field}
use Rattle.cfb_layout.specs.declared.fields.Field.TheVariants.{Long, Word, Byte}
use Rattle.cfb_layout.specs.Sectors.{filled}
use Rattle.cfb_layout.specs.Fields.{fields_bytes}

-- what an entry says: its name, its CLSID and its numbers
pub record Entry : Type 0 where
  pub name : List ℕ
  pub clsid : List ℕ
  pub fields : EntryFields

-- the length of the name in bytes, the type, the colour, and the links
abbrev pub link_fields : EntryFields → List Field
link_fields fields =
    Word fields.name_length
    ∷ (Byte fields.kind ∷ (Byte fields.colour ∷ (Long fields.left ∷ (Long fields.right ∷ (Long fields.child ∷ [])))))

-- the state, two times, the start, and the size with its upper half
abbrev pub place_fields : EntryFields → List Field
place_fields fields =
    Long 0 ∷ (Long 0 ∷ (Long 0 ∷ (Long 0 ∷ (Long 0 ∷ (Long fields.start ∷ (Long fields.size ∷ (Long 0 ∷ [])))))))

-- the units of a name in its 64 bytes, with a zero unit at least behind them
unfoldable pub entry_name_bytes : List ℕ → List ℕ
entry_name_bytes name = filled 64 0 (flat_map (number_bytes 2) name)

unfoldable pub entry_bytes : Entry → List ℕ
entry_bytes entry =
    entry_name_bytes entry.name ++ (fields_bytes (link_fields entry.fields) ++ (entry.clsid ++ fields_bytes
    (place_fields
    entry.fields)))

-- the length of a name in bytes, with its zero unit
abbrev pub name_length : ℕ → ℕ
name_length units = 2 * units + 2

-- STGTY_STREAM and STGTY_ROOT, and the colour of all entries that are used
abbrev pub stream_kind : ℕ
stream_kind = 2

abbrev pub root_kind : ℕ
root_kind = 5

abbrev pub black : ℕ
black = 1

-- no CLSID
unfoldable pub no_clsid : List ℕ
no_clsid = replicate 16 0

-- `Root Entry`
unfoldable pub root_name : List ℕ
root_name =
    0x52 ∷ (0x6F ∷ (0x6F ∷ (0x74 ∷ (0x20 ∷ (0x45 ∷ (0x6E ∷ (0x74 ∷ (0x72 ∷ (0x79 ∷ [])))))))))

-- an entry that is not used
abbrev pub unused_fields : EntryFields
unused_fields = record {
  name_length = 0;
  kind = 0;
  colour = 0;
  left = no_stream_entry;
  right = no_stream_entry;
  child = no_stream_entry;
  start = 0;
  size = 0;
}

abbrev pub unused_entry : Entry
unused_entry = record { name = []; clsid = no_clsid; fields = unused_fields }
