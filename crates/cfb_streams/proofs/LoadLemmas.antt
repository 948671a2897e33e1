-- A fault of the rules that are checked later is one of all rules.
use Rattle.std.proofs.Common.{◌≡◌, inl, inr, ℕ, List, length, sym, ap, subst, arith}
use Rattle.doc_bits.specs.Rules.{Rules, rule, ◌then◌, given, Nowhere, Hold, IsFirstOffset}
use Rattle.cfb_sectors.specs.declared.faults.CfbFault.{CfbFault}
use Rattle.cfb_sectors.specs.declared.faults.CfbFault.TheVariants.{Rule, Memory}
use Rattle.cfb_sectors.specs.Opening.{opening_rules}
use Rattle.cfb_sectors.specs.Chain.{fat_table}
use Rattle.cfb_directory.specs.Entries.{EntryLists, AreSoundEntries, tree_rules}
use Rattle.cfb_streams.specs.Layout.{LayoutPlaces, layout_places_of, entry_lists_at, IsSoundLayout}
use Rattle.cfb_sectors.proofs.Public.{holds_none, full_unique, chain_full}
use Rattle.cfb_sectors.specs.HeaderRules.{header_rules}
use Rattle.cfb_directory.specs.Reach.{directory_head, entry_place, IsDirectory}
use Rattle.cfb_directory.specs.Reach.{BreaksDirectory, BreaksRoot, BreaksTree, BreaksName, BreaksStorage}
use Rattle.cfb_streams.specs.StreamRules.{Parts, mini_fat_head, IsMiniFat, IsMiniStream, BreaksMiniFat}
use Rattle.cfb_directory.specs.StreamEntries.{stream_head}
use Rattle.cfb_streams.specs.StreamRules.{BreaksMiniStream, BreaksStream, BreaksSharing}
use Rattle.cfb_streams.specs.Container.{container_rules, outer_rules, entry_rules, outer_entry_rules, chain_rules}
use Rattle.cfb_streams.specs.Container.{stream_rules, sector_rules}
use Rattle.cfb_streams.specs.FoundParts.{found_rules}
use Rattle.cfb_streams.specs.Gathered.{places_rules}
use Rattle.cfb_sectors.specs.Judged.{IsCfbFault}

-- the rules of a file, where `rest` are those of the directory's entries and all that follow
abbrev pub file_rules : List ℕ → (List ℕ → Rules ℕ) → Rules ℕ
file_rules file rest =
    opening_rules file then header_rules file then rule 6 (BreaksDirectory file) then given (IsDirectory file) rest

-- what is found holds the rule before it
pub mini_stream_holds : (file directory xs : List ℕ) → IsMiniStream file directory xs →
    Nowhere (BreaksMiniStream file directory)
mini_stream_holds file directory xs is = λ p w. elim is [
  | inl none ↦ w.there none.0
  | inr some ↦ holds_none (fat_table file) (stream_head file 512 (entry_place directory 0)) xs some.1 p w.broken
]

pub mini_fat_holds : (file xs : List ℕ) → IsMiniFat file xs → Nowhere (BreaksMiniFat file)
mini_fat_holds file xs is = λ p w. elim is [
  | inl none ↦ w.there none.0
  | inr some ↦ holds_none (fat_table file) (mini_fat_head file) xs some.1 p w.broken
]

pub directory_holds : (file xs : List ℕ) → IsDirectory file xs → Nowhere (BreaksDirectory file)
directory_holds file xs is = λ p w. elim w [
  | inl long ↦
      let e = full_unique (fat_table file).entry (fat_table file).valid (directory_head file).start long.sectors xs
      long.full
      (chain_full (fat_table file).entry (fat_table file).valid (directory_head file).start xs is.holds.range
      is.holds.chain) in
      let len = ap length e in
      let short = is.short in
      let more = long.long in omega arith
  | inr broken ↦ holds_none (fat_table file) (directory_head file) xs is.holds p broken
]

-- a fault of the rules 1 to 5 is the first of the file
pub front_fault : (file : List ℕ) (rest : List ℕ → Rules ℕ) (e : CfbFault) →
    IsCfbFault (opening_rules file then header_rules file) e → IsCfbFault (file_rules file rest) e
front_fault file rest (Rule number place) first = elim first [
  | inl opening ↦ inl opening
  | inr header ↦ inr (header.0, inl header.1)
]
front_fault file rest Memory first = tt

-- a fault of the rules 6 to 9 is the first of the file
pub found_fault : (file : List ℕ) (rest : List ℕ → Rules ℕ) (e : CfbFault) →
    ((directory : List ℕ) (number place : ℕ) → IsFirstOffset (tree_rules file directory) number place →
    IsFirstOffset (rest directory) number place) → Hold (opening_rules file) → Hold (header_rules file) →
    IsCfbFault (found_rules file) e → IsCfbFault (file_rules file rest) e
found_fault file rest (Rule number place) more opening header first = elim first [
  | inl chain ↦ inr (opening, inr (header, inl chain))
  | inr behind ↦ inr (
    opening,
    inr (
      header,
      inr (behind.0, (behind.1.0, (behind.1.1.0, more behind.1.0 number place behind.1.1.1))),
    ),
  )
]
found_fault file rest Memory more opening header first = tt

-- the first of the rules 7 to 9 is the first of the entries, with rule 10 and without it
pub tree_first : (file directory : List ℕ) (number place : ℕ) → IsFirstOffset (tree_rules file directory) number place →
    IsFirstOffset (entry_rules file directory) number place
tree_first file directory number place first = elim first [
  | inl root ↦ inl root
  | inr behind_root ↦ inr (
    behind_root.0,
    elim behind_root.1 [ inl tree ↦ inl tree | inr behind_tree ↦ inr (behind_tree.0, inl behind_tree.1) ],
  )
]

pub outer_tree_first : (file directory : List ℕ) (number place : ℕ) →
    IsFirstOffset (tree_rules file directory) number place → IsFirstOffset (outer_entry_rules file directory) number
    place
outer_tree_first file directory number place first = elim first [
  | inl root ↦ inl root
  | inr behind_root ↦ inr (
    behind_root.0,
    elim behind_root.1 [ inl tree ↦ inl tree | inr behind_tree ↦ inr (behind_tree.0, inl behind_tree.1) ],
  )
]

-- a fault of the entries' own rules is the first of the rules 6 to 9
pub own_fault : (file directory : List ℕ) (e : CfbFault) → IsDirectory file directory →
    IsCfbFault (tree_rules file directory) e → IsCfbFault (found_rules file) e
own_fault file directory (Rule number place) is first = inr
    (directory_holds file directory is, (directory, (is, first)))
own_fault file directory Memory is first = tt

-- a fault of the rules of the entries is the first of the file
pub entries_fault : (file directory : List ℕ) (rest : List ℕ → Rules ℕ) (e : CfbFault) → Hold (opening_rules file) →
    Hold (header_rules file) → IsDirectory file directory → IsCfbFault (rest directory) e →
    IsCfbFault (file_rules file rest) e
entries_fault file directory rest (Rule number place) opening header is first = inr
    (opening, inr (header, inr (directory_holds file directory is, (directory, (is, first)))))
entries_fault file directory rest Memory opening header is first = tt

-- the same, where the file is that of the entries
pub same_fault : (file : List ℕ) (entries : EntryLists) (rest : List ℕ → List ℕ → Rules ℕ) (e : CfbFault) →
    entries.file ≡ file → Hold (opening_rules file) → Hold (header_rules file) → AreSoundEntries entries →
    IsCfbFault (rest entries.file entries.directory) e → IsCfbFault (file_rules file (rest file)) e
same_fault file entries rest e same opening header are first =
    subst (λ f. IsCfbFault (file_rules f (rest f)) e) same
    (entries_fault entries.file entries.directory (rest entries.file) e
    (subst (λ f. Hold (opening_rules f)) (sym same) opening) (subst (λ f. Hold (header_rules f)) (sym same) header)
    are.is_directory first)

-- a fault of rule 10 is the first of the entries
pub storages_fault : (entries : EntryLists) (e : CfbFault) → AreSoundEntries entries →
    IsCfbFault (rule 10 (BreaksStorage entries.file entries.directory)) e →
    IsCfbFault (entry_rules entries.file entries.directory) e
storages_fault entries (Rule number place) are first = inr (are.root, inr (are.tree, inr (are.names, inl first)))
storages_fault entries Memory are first = tt

-- a fault of the chains is the first of the entries, with rule 10 and without it
pub behind_fault : (entries : EntryLists) (e : CfbFault) → AreSoundEntries entries →
    Nowhere (BreaksStorage entries.file entries.directory) →
    IsCfbFault (chain_rules entries.file entries.directory) e →
    IsCfbFault (entry_rules entries.file entries.directory) e
behind_fault entries (Rule number place) are storages first = inr
    (are.root, inr (are.tree, inr (are.names, inr (storages, first))))
behind_fault entries Memory are storages first = tt

pub outer_behind_fault : (entries : EntryLists) (e : CfbFault) → AreSoundEntries entries →
    IsCfbFault (chain_rules entries.file entries.directory) e →
    IsCfbFault (outer_entry_rules entries.file entries.directory) e
outer_behind_fault entries (Rule number place) are first = inr (are.root, inr (are.tree, inr (are.names, first)))
outer_behind_fault entries Memory are first = tt

-- a fault of the mini FAT, of the mini stream, and of the streams is the first of the chains
pub mini_fat_fault : (file directory : List ℕ) (e : CfbFault) → IsCfbFault (rule 11 (BreaksMiniFat file)) e →
    IsCfbFault (chain_rules file directory) e
mini_fat_fault file directory (Rule number place) first = inl first
mini_fat_fault file directory Memory first = tt

pub mini_stream_fault : (file directory mini_fat : List ℕ) (e : CfbFault) → IsMiniFat file mini_fat →
    IsCfbFault (rule 12 (BreaksMiniStream file directory)) e → IsCfbFault (chain_rules file directory) e
mini_stream_fault file directory mini_fat (Rule number place) is first = inr
    (mini_fat_holds file mini_fat is, (mini_fat, (is, inl first)))
mini_stream_fault file directory mini_fat Memory is first = tt

pub places_fault : (places : LayoutPlaces) (e : CfbFault) → IsSoundLayout places → IsCfbFault (places_rules places) e →
    IsCfbFault (chain_rules places.file places.parts.directory) e
places_fault places (Rule number place) is first =
    let file = places.file in
    let parts = places.parts in
    inr (
      mini_fat_holds file parts.mini_fat is.mini_fat,
      (
        parts.mini_fat,
        (
          is.mini_fat,
          inr (
            mini_stream_holds file parts.directory parts.mini_stream is.mini_stream,
            (parts.mini_stream, (is.mini_stream, first)),
          ),
        ),
      ),
    )
places_fault places Memory is first = tt

-- a layout whose streams hold the rules 13 and 14 is that of a file whose chains hold all
places_hold : (places : LayoutPlaces) → IsSoundLayout places → Hold (places_rules places) →
    Hold (chain_rules places.file places.parts.directory)
places_hold places is hold =
    let file = places.file in
    let parts = places.parts in (
      mini_fat_holds file parts.mini_fat is.mini_fat,
      (
        parts.mini_fat,
        (
          is.mini_fat,
          (
            mini_stream_holds file parts.directory parts.mini_stream is.mini_stream,
            (parts.mini_stream, (is.mini_stream, hold)),
          ),
        ),
      ),
    )

-- a fault of the rules 13 and 14 is the first of the file
pub layout_fault : (places : LayoutPlaces) (e : CfbFault) → IsSoundLayout places →
    Nowhere (BreaksStorage places.file places.parts.directory) → IsCfbFault (places_rules places) e →
    IsCfbFault (container_rules places.file) e
layout_fault places e is storages first =
    entries_fault places.file places.parts.directory (entry_rules places.file) e is.opening is.header
    is.are_entries.is_directory
    (behind_fault (entry_lists_at places) e is.are_entries storages (places_fault places e is first))

pub outer_layout_fault : (places : LayoutPlaces) (e : CfbFault) → IsSoundLayout places → IsCfbFault (places_rules
    places) e →
    IsCfbFault (outer_rules places.file) e
outer_layout_fault places e is first =
    entries_fault places.file places.parts.directory (outer_entry_rules places.file) e is.opening is.header
    is.are_entries.is_directory
    (outer_behind_fault (entry_lists_at places) e is.are_entries (places_fault places e is first))

-- a layout whose streams hold the rules 13 and 14 is that of a file that holds all
pub layout_holds : (places : LayoutPlaces) → IsSoundLayout places → Nowhere (BreaksStorage places.file
    places.parts.directory) →
    Hold (places_rules places) → Hold (container_rules places.file)
layout_holds places is storages hold =
    let are = is.are_entries in (
      is.opening,
      (
        is.header,
        (
          directory_holds places.file places.parts.directory are.is_directory,
          (
            places.parts.directory,
            (
              are.is_directory,
              (are.root, (are.tree, (are.names, (storages, places_hold places is hold)))),
            ),
          ),
        ),
      ),
    )

pub outer_layout_holds : (places : LayoutPlaces) → IsSoundLayout places → Hold (places_rules places) →
    Hold (outer_rules places.file)
outer_layout_holds places is hold =
    let are = is.are_entries in (
      is.opening,
      (
        is.header,
        (
          directory_holds places.file places.parts.directory are.is_directory,
          (
            places.parts.directory,
            (are.is_directory, (are.root, (are.tree, (are.names, places_hold places is hold)))),
          ),
        ),
      ),
    )

-- a fault of rule 13 or 14 is the first of both
pub chains_fault : (file directory mini_fat mini_stream : List ℕ) (e : CfbFault) →
    IsCfbFault (rule 13 (BreaksStream file directory mini_fat)) e →
    IsCfbFault (sector_rules file directory mini_fat mini_stream) e
chains_fault file directory mini_fat mini_stream (Rule number place) first = inl first
chains_fault file directory mini_fat mini_stream Memory first = tt

pub sharing_fault : (file : List ℕ) (parts : Parts) (e : CfbFault) →
    Nowhere (BreaksStream file parts.directory parts.mini_fat) → IsCfbFault (rule 14 (BreaksSharing file parts)) e →
    IsCfbFault (sector_rules file parts.directory parts.mini_fat parts.mini_stream) e
sharing_fault file parts (Rule number place) holds first = inr (holds, first)
sharing_fault file parts Memory holds first = tt

-- the layout of a file
pub layout_is : (file : List ℕ) (entries : EntryLists) (mini_fat mini_stream : List ℕ) → entries.file ≡ file →
    Hold (opening_rules file) → Hold (header_rules file) → AreSoundEntries entries → IsMiniFat file mini_fat →
    IsMiniStream file entries.directory mini_stream → IsSoundLayout (layout_places_of entries mini_fat mini_stream)
layout_is file entries mini_fat mini_stream same opening header are is stored = record {
  opening = subst (λ f. Hold (opening_rules f)) (sym same) opening;
  header = subst (λ f. Hold (header_rules f)) (sym same) header;
  are_entries = are;
  mini_fat = subst (λ f. IsMiniFat f mini_fat) (sym same) is;
  mini_stream = subst (λ f. IsMiniStream f entries.directory mini_stream) (sym same) stored;
}
