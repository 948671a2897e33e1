-- What is changed of a container in its own sectors: the stream that grows, the stream that is written anew, and how
-- many sectors that takes. `from` is the first sector number that no valid sector has.
use Rattle.std.specs.Prelude.{ℕ, ◌+◌, ◌-◌, ◌*◌, max, List, ◌++◌, length, drop}
use Rattle.cfb_sectors.specs.Header.{sector_len, sector_count, fat_sector_count, valid_below}
use Rattle.cfb_layout.specs.Sectors.{units_for}

-- the new front of the stream that grows, what comes behind it, and the bytes of the stream that is written anew
pub record StreamChange : Type 0 where
  pub fib : List ℕ
  pub tail : List ℕ
  pub table : List ℕ

-- the change, and the name of the stream that is written anew
pub record NamedChange : Type 0 where
  pub change : StreamChange
  pub name : List ℕ

-- the stream that grows: the new front, the old bytes behind it, and the tail
abbrev pub grown_bytes : StreamChange → List ℕ → List ℕ
grown_bytes change bytes = change.fib ++ (drop (length change.fib) bytes ++ change.tail)

-- the directory's entries of the two streams, the bytes and the sectors of the one that grows, and the sectors and mini
-- sectors that the other leaves
pub record OldChains : Type 0 where
  pub grown_entry : ℕ
  pub table_entry : ℕ
  pub bytes : List ℕ
  pub grown : List ℕ
  pub freed : List ℕ
  pub freed_mini : List ℕ

-- where the added sectors begin, and how many the stream that grows, the one that is written anew and the FAT get
pub record Added : Type 0 where
  pub from : ℕ
  pub grown : ℕ
  pub fresh : ℕ
  pub fat : ℕ

-- the least number of FAT sectors more, so that so many sectors and these have an entry
abbrev pub fat_sectors_more : ℕ → ℕ → ℕ
fat_sectors_more fat_count sectors = units_for 127 (sectors - 128 * fat_count)

-- the added sectors that are no FAT sectors
abbrev pub grown_count : OldChains → StreamChange → ℕ
grown_count chains change = units_for sector_len (length (grown_bytes change chains.bytes)) - length chains.grown

abbrev pub fresh_count : StreamChange → ℕ
fresh_count change = units_for sector_len (length change.table)

-- the same by the lengths of the chain and of the two streams
abbrev pub grown_more : ℕ → ℕ → ℕ
grown_more chain grown = units_for sector_len grown - chain

abbrev pub added_for : List ℕ → ℕ → ℕ → ℕ → Added
added_for file chain grown table = record {
  from = valid_below file;
  grown = grown_more chain grown;
  fresh = units_for sector_len table;
  fat = fat_sectors_more (fat_sector_count file) (valid_below file + grown_more chain grown + units_for sector_len
      table);
}

unfoldable pub added_sectors : List ℕ → OldChains → StreamChange → Added
added_sectors file chains change = record {
  from = valid_below file;
  grown = grown_count chains change;
  fresh = fresh_count change;
  fat = fat_sectors_more (fat_sector_count file) (valid_below file + grown_count chains change + fresh_count change);
}

-- where the sectors of the one that is written anew begin, those of the FAT, and where the added sectors end
abbrev pub fresh_from : Added → ℕ
fresh_from added = added.from + added.grown

abbrev pub fat_from : Added → ℕ
fat_from added = fresh_from added + added.fresh

abbrev pub end_of : Added → ℕ
end_of added = fat_from added + added.fat

-- the sectors of the file after
abbrev pub sectors_after : List ℕ → Added → ℕ
sectors_after file added = max (sector_count file) (end_of added)
