-- What the list of the rules 1 to 14 says of a file, in one reading alone.
use Rattle.std.specs.Prelude.{◌≡◌, ◌↔◌, ℕ, ◌≤◌, List, []}
use Rattle.doc_bits.specs.Rules.{Hold, IsFirstOffset, Breaks, IsLeastOfAll}
use Rattle.cfb_directory.specs.Directory.{IsEntryName, EntryBefore, IsNameBefore}
use Rattle.cfb_streams.specs.Container.{container_rules, outer_rules, HasContents, ListsStorages}
use Rattle.cfb_streams.specs.Contents.{Contents}

abbrev pub FirstIsLeast : Type 0
FirstIsLeast = (file : List ℕ) (number place : ℕ) → IsFirstOffset (container_rules file) number place → IsLeastOfAll
    (λ a b. a ≤ b) (Breaks (container_rules file)) number place

abbrev pub HoldOrFirst : Type 0
HoldOrFirst = (file : List ℕ) (number place : ℕ) → Hold (container_rules file) → ¬ IsFirstOffset (container_rules file)
    number
    place

abbrev pub ContentsAreOne : Type 0
ContentsAreOne = (file : List ℕ) (contents other : Contents) → HasContents file contents → HasContents file other →
    contents ≡ other

-- entries are in the order of their names
abbrev pub EntryOrderIsNameOrder : Type 0
EntryOrderIsNameOrder = (file : List ℕ) (at other : ℕ) (name later : List ℕ) → IsEntryName file at name → IsEntryName
    file
    other later → (EntryBefore file at other ↔ IsNameBefore name later)

-- a file has one list of the storages that have something
abbrev pub StoragesAreOne : Type 0
StoragesAreOne = (file : List ℕ) (names other : List (List ℕ)) → ListsStorages file names → ListsStorages file other →
    names ≡ other

-- a file that breaks none of the rules 1 to 14 breaks none without rule 10, and no storage has something
pub record IsOuter (file : List ℕ) : Type 0 where
  pub holds : Hold (outer_rules file)
  pub unbroken : (number place : ℕ) → ¬ IsFirstOffset (outer_rules file) number place
  pub empty : (names : List (List ℕ)) → ListsStorages file names → names ≡ []

abbrev pub AcceptedIsOuter : Type 0
AcceptedIsOuter = (file : List ℕ) → Hold (container_rules file) → IsOuter file
