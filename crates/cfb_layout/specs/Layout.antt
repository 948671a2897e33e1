-- Profile: the canonical container, the one file that is written for these streams and this CLSID. Each stream has a
-- large part and a small part, one of which is empty. An empty part takes no sector and no FAT entry, so part i is
-- stream
-- i and directory entry i + 1. Nothing is searched for, and no table is filled as it goes.
use Rattle.std.specs.Prelude.{ℕ, zero, suc, ◌+◌, ◌*◌, List, [], ◌∷◌, ◌++◌, Option, Some, None, length, map, replicate}
use Rattle.std.specs.Prelude.{sum, nat_lt, if◌then◌else◌, slice_index, slice_index_or}
use Rattle.std.specs.List.{flat_map, range_with_len}
use Rattle.doc_bits.specs.Number.{number_bytes}
use Rattle.cfb_streams.specs.Contents.{NamedBytes, Stream, Contents}
use Rattle.cfb_directory.specs.Directory.{no_stream_entry}
use Rattle.cfb_sectors.specs.SectorChain.{end_of_chain}
use Rattle.cfb_sectors.specs.Opening.{signature}
use Rattle.cfb_sectors.specs.Header.{sector_len, mini_sector_len}
use Rattle.cfb_layout.specs.Sectors.{units_for, filled, padded_to_unit, chains_from, chain_start, table_bytes}
use Rattle.cfb_layout.specs.Sectors.{free_sector}
use Rattle.cfb_layout.specs.Sectors.{fat_sector_mark}
use Rattle.cfb_layout.specs.declared.entries.EntryFields.{EntryFields}
use Rattle.cfb_layout.specs.declared.fields.Field.{Field}
use Rattle.cfb_layout.specs.declared.fields.Field.TheVariants.{Long, Word}
use Rattle.cfb_layout.specs.Fields.{fields_bytes}
use Rattle.cfb_layout.specs.Tree.{top, all_entries, left_of, right_of}
use Rattle.cfb_layout.specs.Counts.{mini_counts, sector_counts, fat_count, first_sector, stream_start}
use Rattle.cfb_layout.specs.Entries.{Entry, entry_bytes, unused_entry, name_length, stream_kind, root_kind, black}
use Rattle.cfb_layout.specs.Entries.{no_clsid, root_name}

-- the bytes that are in sectors, and those that are in mini sectors
abbrev pub large_part : List ℕ → List ℕ
large_part bytes = if nat_lt (length bytes) 4096 then [] else bytes

abbrev pub small_part : List ℕ → List ℕ
small_part bytes = if nat_lt (length bytes) 4096 then bytes else []

abbrev pub lengths_of : List NamedBytes → List ℕ
lengths_of streams = map (λ stream. length stream.bytes) streams

-- the small parts, each in whole mini sectors
unfoldable pub mini_stream : List NamedBytes → List ℕ
mini_stream streams = flat_map (λ stream. padded_to_unit mini_sector_len 0 (small_part stream.bytes)) streams

-- the FAT's entries, those of its own sectors last
unfoldable pub fat : List ℕ → List ℕ
fat lengths = chains_from 0 (sector_counts lengths) ++ replicate (fat_count lengths) fat_sector_mark

-- the root has the mini stream and the tree of all streams
abbrev pub root_fields : List ℕ → EntryFields
root_fields lengths = record {
  name_length = name_length 10;
  kind = root_kind;
  colour = black;
  left = no_stream_entry;
  right = no_stream_entry;
  child = top (all_entries (length lengths));
  start = first_sector (sector_counts lengths) (length lengths);
  size = mini_sector_len * sum (mini_counts lengths);
}

abbrev pub root_entry : List ℕ → List ℕ → Entry
root_entry lengths clsid = record { name = root_name; clsid = clsid; fields = root_fields lengths }

-- the entry of stream i, whose name has so many units
abbrev pub stream_fields : List ℕ → ℕ → ℕ → EntryFields
stream_fields lengths i units = record {
  name_length = name_length units;
  kind = stream_kind;
  colour = black;
  left = left_of (length lengths) (i + 1);
  right = right_of (length lengths) (i + 1);
  child = no_stream_entry;
  start = stream_start lengths i;
  size = slice_index lengths i;
}

abbrev pub stream_entry : List ℕ → ℕ → NamedBytes → Entry
stream_entry lengths i stream = record {
  name = stream.name;
  clsid = no_clsid;
  fields = stream_fields lengths i
      (length stream.name);
}

abbrev pub no_stream : NamedBytes
no_stream = record { name = []; bytes = [] }

-- the entries by their numbers: the root, the streams, and those that are not used
abbrev pub directory_entry : List NamedBytes → List ℕ → ℕ → Entry
directory_entry streams clsid zero = root_entry (lengths_of streams) clsid
directory_entry streams clsid (suc i) =
    if nat_lt i (length streams) then stream_entry (lengths_of streams) i (slice_index_or streams i no_stream)
    else unused_entry

unfoldable pub directory_bytes : List NamedBytes → List ℕ → List ℕ
directory_bytes streams clsid =
    flat_map (λ k. entry_bytes (directory_entry streams clsid k)) (range_with_len 0 (4 * units_for 4 (length streams +
    1)))

-- the parts in the order of their sectors: the streams, the mini stream, the mini FAT, the directory and the FAT
unfoldable pub parts : List NamedBytes → List ℕ → List (List ℕ)
parts streams clsid =
    map (λ stream. padded_to_unit sector_len 0 (large_part stream.bytes)) streams
    ++ (padded_to_unit sector_len 0 (mini_stream streams)
    ∷ (table_bytes (chains_from 0 (mini_counts (lengths_of streams)))
    ∷ (directory_bytes streams clsid
    ∷ (table_bytes (fat (lengths_of streams)) ∷ []))))

-- [MS-CFB] Compound File Header behind its signature: its fields up to the numbers of the FAT sectors
abbrev pub header_fields : List ℕ → List Field
header_fields lengths =
    Long 0 ∷ (Long 0 ∷ (Long 0 ∷ (Long 0
    ∷ (Word 0x003E ∷ (Word 3 ∷ (Word 0xFFFE ∷ (Word 9 ∷ (Word 6 ∷ (Word 0
    ∷ (Long 0 ∷ (Long 0 ∷ (Long (fat_count lengths)
    ∷ (Long (first_sector (sector_counts lengths) (length lengths + 2))
    ∷ (Long 0 ∷ (Long 4096
    ∷ (Long (first_sector (sector_counts lengths) (length lengths + 1))
    ∷ (Long (slice_index (sector_counts lengths) (length lengths + 1))
    ∷ (Long end_of_chain ∷ (Long 0 ∷ [])))))))))))))))))))

-- the numbers of the FAT sectors, in a list of `count` numbers
unfoldable pub fat_numbers : ℕ → List ℕ → List ℕ
fat_numbers count lengths = filled count free_sector (range_with_len (sum (sector_counts lengths)) (fat_count lengths))

unfoldable pub header_bytes : List ℕ → List ℕ
header_bytes lengths = signature ++ (fields_bytes (header_fields lengths) ++ flat_map (number_bytes 4) (fat_numbers
    109 lengths))

-- the canonical container
unfoldable pub compound_file : List NamedBytes → List ℕ → List ℕ
compound_file streams clsid = header_bytes (lengths_of streams) ++ flat_map (λ part. part) (parts streams clsid)

-- what is read of it: the sectors of a large stream are in a row
abbrev pub chain_of : List ℕ → ℕ → Option (List ℕ)
chain_of lengths i =
    if nat_lt (slice_index lengths i) 4096 then None
    else Some (range_with_len (chain_start (sector_counts lengths) i) (slice_index (sector_counts lengths) i))

abbrev pub stream_at : List NamedBytes → ℕ → Stream
stream_at streams i = record {
  name = (slice_index_or streams i no_stream).name;
  bytes = (slice_index_or streams i no_stream).bytes;
  chain = chain_of (lengths_of streams) i;
}

unfoldable pub contents_of : List NamedBytes → List ℕ → Contents
contents_of streams clsid = record {
  streams = map (stream_at streams) (range_with_len 0 (length streams));
  clsid = clsid;
}
