-- What the sectors of a part hold in the file after.
use Rattle.std.specs.Prelude.{ℕ, ◌≡◌, ◌+◌, ◌*◌, ◌<◌, ◌≤◌, ◌^◌, List, ◌++◌, length, take, drop, replicate, nat_eq, Some}
use Rattle.std.specs.Prelude.{if◌then◌else◌, slice_range, slice_index, slice_get, get_or}
use Rattle.std.specs.List.{flat_map, range_with_len}
use Rattle.doc_bits.specs.Number.{number_bytes}
use Rattle.cfb_sectors.specs.Header.{sector_len, fat_sector_count, fat_sectors, sector_count}
use Rattle.cfb_sectors.specs.Chain.{IsTable}
use Rattle.cfb_directory.specs.Directory.{entry_start}
use Rattle.cfb_directory.specs.Reach.{entry_place}
use Rattle.cfb_streams.specs.StreamRules.{Parts}
use Rattle.cfb_layout.specs.Sectors.{padded_to_unit}
use Rattle.cfb_in_place.specs.Change.{StreamChange, grown_bytes, OldChains, Added, fresh_from, fat_from, sectors_after}
use Rattle.cfb_in_place.specs.Tables.{ChangesFat, AreFreed}
use Rattle.cfb_in_place.specs.Appended.{joined}
use Rattle.cfb_in_place.specs.Roles.{AreRoles, sectors_of_parts, other_role}
use Rattle.cfb_in_place.specs.declared.roles.Part.{Part}
use Rattle.cfb_in_place.specs.declared.roles.Part.TheVariants.{Fat, MiniFat, Directory, Grown, Fresh, Other}
use Rattle.cfb_in_place.specs.declared.roles.Role.{Role}

-- a directory entry with its new start and size
pub record NewHead : Type 0 where
  pub entry : ℕ
  pub start : ℕ
  pub size : ℕ

-- [MS-CFB] Directory Entry: the last 12 bytes are the start and the size, whose upper half is 0
abbrev pub headed : NewHead → List ℕ → List ℕ
headed head bytes = take 116 bytes ++ (number_bytes 4 head.start ++ (number_bytes 4 head.size ++ number_bytes 4 0))

-- the entry after, where its number is one of these two
abbrev pub entry_after : NewHead → NewHead → ℕ → List ℕ → List ℕ
entry_after grown table entry bytes =
    if nat_eq entry grown.entry then headed grown bytes else if nat_eq entry table.entry then headed table bytes else
    bytes

-- the four entries of a sector of the directory
unfoldable pub four_entries : NewHead → NewHead → ℕ → List ℕ → List ℕ
four_entries grown table first bytes =
    flat_map (λ k. entry_after grown table (first + k) (slice_range bytes (128 * k) (128 * k + 128)))
    (range_with_len 0 4)

-- what is behind a stream in its sectors: the old bytes there, then zeros
unfoldable pub rest_behind : ℕ → List ℕ → ℕ → List ℕ
rest_behind len joined more = drop len (joined ++ replicate more 0)

-- [MS-CFB] Compound File Header: the number of FAT sectors, and the numbers of those that are added behind the others
unfoldable pub header_after : List ℕ → Added → List ℕ
header_after old added =
    let fats = fat_sector_count old in
    take 44 old ++ (number_bytes 4 (fats + added.fat) ++ (slice_range old 48 (76 + 4 * fats) ++ (flat_map (number_bytes
    4) (range_with_len (fat_from added) added.fat) ++ slice_range old (76 + 4 * (fats + added.fat)) sector_len)))

-- of what the sectors after are made: whose each is, the entries of the tables, the bytes of the two streams, and the
-- two entries of the directory
pub record Sources : Type 0 where
  pub roles : List Role
  pub fat : List ℕ
  pub mini : List ℕ
  pub grown : List ℕ
  pub table : List ℕ
  pub grown_head : NewHead
  pub table_head : NewHead

-- so many of a list from the place of a sector on
abbrev pub cut_at : List ℕ → ℕ → ℕ → List ℕ
cut_at xs width index = slice_range xs (width * index) (width * index + width)

-- an old sector
abbrev pub old_sector : List ℕ → ℕ → List ℕ
old_sector old sector = slice_range old ((sector + 1) * sector_len) ((sector + 1) * sector_len + sector_len)

-- the bytes of a sector after, that one of a part
abbrev pub part_sector_bytes : List ℕ → Sources → ℕ → ℕ → Part → List ℕ
part_sector_bytes old sources sector index Fat = flat_map (number_bytes 4) (cut_at sources.fat 128 index)
part_sector_bytes old sources sector index MiniFat = flat_map (number_bytes 4) (cut_at sources.mini 128 index)
part_sector_bytes old sources sector index Directory =
    four_entries sources.grown_head sources.table_head (4 * index) (old_sector old sector)
part_sector_bytes old sources sector index Grown = cut_at sources.grown sector_len index
part_sector_bytes old sources sector index Fresh = cut_at sources.table sector_len index
part_sector_bytes old sources sector index Other = old_sector old sector

unfoldable pub sector_after : List ℕ → Sources → ℕ → List ℕ
sector_after old sources sector =
    let role = get_or sources.roles sector other_role in
    part_sector_bytes old sources sector role.index role.part

-- there is so much of what the sector is made of
abbrev pub HasPart : List ℕ → Sources → ℕ → ℕ → Part → Type 0
HasPart old sources sector index Fat = 128 * index + 128 ≤ length sources.fat
HasPart old sources sector index MiniFat = 128 * index + 128 ≤ length sources.mini
HasPart old sources sector index Directory = (sector < sector_count old) × (index < 2 ^ 32)
HasPart old sources sector index Grown = sector_len * index + sector_len ≤ length sources.grown
HasPart old sources sector index Fresh = sector_len * index + sector_len ≤ length sources.table
HasPart old sources sector index Other = sector < sector_count old

abbrev pub HasAllParts : List ℕ → Sources → Type 0
HasAllParts old sources = (s : ℕ) (role : Role) → slice_get sources.roles s ≡ Some role
    → HasPart old sources s role.index role.part

-- the entries of the FAT after
pub record AreFatsAfter (old : List ℕ) (chains : OldChains) (added : Added) (fat : List ℕ) : Type 0 where
  pub entries : List ℕ
  pub table : IsTable old (fat_sectors old) entries
  pub len : length fat ≡ 128 * (fat_sector_count old + added.fat)
  pub changes : ChangesFat (λ s. slice_index entries s) (λ s. slice_index fat s) chains added
      (128 * (fat_sector_count old + added.fat))

-- the entries of the mini FAT after
pub record AreMinisAfter (old mini_fat freed mini : List ℕ) : Type 0 where
  pub entries : List ℕ
  pub table : IsTable old mini_fat entries
  pub are : AreFreed entries mini freed

-- the stream that grows, with what is behind it
abbrev pub grown_sectors : List ℕ → OldChains → Added → StreamChange → List ℕ
grown_sectors old chains added change =
    let bytes = grown_bytes change chains.bytes in
    bytes ++ rest_behind (length bytes) (joined old chains.grown) (sector_len * added.grown)

-- they are those of a save
pub record AreSources (old : List ℕ) (parts : Parts) (chains : OldChains) (added : Added) (change : StreamChange)
    (sources : Sources) : Type 0 where
  pub roles : AreRoles (sectors_after old added) (sectors_of_parts old parts chains added) sources.roles
  pub fat : AreFatsAfter old chains added sources.fat
  pub mini : AreMinisAfter old parts.mini_fat chains.freed_mini sources.mini
  pub grown : sources.grown ≡ grown_sectors old chains added change
  pub table : sources.table ≡ padded_to_unit sector_len 0 change.table
  pub grown_head : sources.grown_head ≡ record {
    entry = chains.grown_entry;
    start = entry_start old (entry_place parts.directory chains.grown_entry);
    size = length (grown_bytes change chains.bytes);
  }
  pub table_head : sources.table_head ≡ record {
    entry = chains.table_entry;
    start = fresh_from added;
    size = length change.table;
  }

-- the file after, written in the order of its sectors
unfoldable pub written_sectors : List ℕ → Added → Sources → List ℕ
written_sectors old added sources =
    header_after old added ++ flat_map (sector_after old sources) (range_with_len 0 (length sources.roles))
