-- What of a file is left out: each of its features that this profile has no meaning for, and no other.
use Rattle.std.specs.Prelude.{ℕ, ◌-◌, ◌==◌, Bool, false, not, List, filter}
use Rattle.std.specs.List.{list_any}
use Rattle.cfb_streams.specs.Names.{is_same_name, table_name}
use Rattle.fib_form.specs.Fib.{fib_which_table}
use Rattle.fib_versions.specs.Early.{part_pairs}
use Rattle.loss_report.specs.Features.{Inventory, Feature, StreamOf, StorageOf, PartOf, StoryOf, AutoText}
use Rattle.loss_report.specs.Features.{file_features}

-- the name of the table stream that the FIB does not use
abbrev pub unused_table : List ℕ → List ℕ
unused_table wd = table_name (1 - fib_which_table wd)

-- this profile has a meaning for it: each stream of the root is read or carried but the table stream that is not used
abbrev pub is_kept_feature : List ℕ → Feature → Bool
is_kept_feature wd (StreamOf name) = not (is_same_name name (unused_table wd))
is_kept_feature wd (StorageOf name) = false
is_kept_feature wd (PartOf pair len) = list_any (λ part. part == pair) part_pairs
is_kept_feature wd (StoryOf story units) = false
is_kept_feature wd (AutoText page) = false

-- those that are left out, in their order
abbrev pub left_out : List ℕ → List Feature → List Feature
left_out wd all = filter (λ feature. not (is_kept_feature wd feature)) all

abbrev pub losses : Inventory → List Feature
losses inventory = left_out inventory.wd (file_features inventory)
