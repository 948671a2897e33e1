-- Where the parts of a file are that breaks none of the rules 1 to 9, 11 and 12.
use Rattle.std.specs.Prelude.{◌≡◌, ℕ, List}
use Rattle.std.specs.List.{flat_map}
use Rattle.doc_bits.specs.Rules.{Hold}
use Rattle.cfb_sectors.specs.Header.{sector_len, sector_bytes}
use Rattle.cfb_sectors.specs.Opening.{opening_rules}
use Rattle.cfb_sectors.specs.HeaderRules.{header_rules}
use Rattle.cfb_streams.specs.StreamRules.{Parts, IsMiniFat, IsMiniStream}
use Rattle.cfb_sectors.specs.Tables.{TablePlace, fat_place}
use Rattle.cfb_streams.specs.FoundParts.{mini_place}
use Rattle.cfb_directory.specs.Entries.{EntryLists, entry_lists_of, AreSoundEntries}

-- the directory, the mini FAT and the mini stream by their sectors, and the entries by their numbers
pub record LayoutPlaces : Type 0 where
  pub file : List ℕ
  pub parts : Parts
  pub reached : List ℕ
  pub streams : List ℕ

abbrev pub entry_lists_at : LayoutPlaces → EntryLists
entry_lists_at places = entry_lists_of places.file places.parts.directory places.reached places.streams

-- what the rules 1 to 9, 11 and 12 promise of them
pub record IsSoundLayout (places : LayoutPlaces) : Type 0 where
  pub opening : Hold (opening_rules places.file)
  pub header : Hold (header_rules places.file)
  pub are_entries : AreSoundEntries (entry_lists_at places)
  pub mini_fat : IsMiniFat places.file places.parts.mini_fat
  pub mini_stream : IsMiniStream places.file places.parts.directory places.parts.mini_stream

-- the places of these entries, of a mini FAT and of a mini stream
abbrev pub layout_places_of : EntryLists → List ℕ → List ℕ → LayoutPlaces
layout_places_of entries mini_fat mini_stream = record {
  file = entries.file;
  parts = record { directory = entries.directory; mini_fat = mini_fat; mini_stream = mini_stream };
  reached = entries.reached;
  streams = entries.streams;
}

-- a layout of these entries
pub record IsLayoutOf (entries : EntryLists) (places : LayoutPlaces) : Type 0 where
  pub file : places.file ≡ entries.file
  pub directory : places.parts.directory ≡ entries.directory
  pub is_layout : IsSoundLayout places

-- what is kept of a layout; the sectors of the mini stream in a row are `stored`
pub record KeepsLayout (entries : EntryLists) (fat mini : TablePlace) (mini_stream stored : List ℕ) : Type 0 where
  pub is_layout : IsSoundLayout (layout_places_of entries mini.sectors mini_stream)
  pub is_fat : fat ≡ fat_place entries.file
  pub is_mini : mini ≡ mini_place entries.file entries.directory mini.sectors
  pub joined : stored ≡ flat_map (sector_bytes sector_len sector_len entries.file) mini_stream
