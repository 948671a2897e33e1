-- Rule 56: the lists, and their levels, which are after the part.
use Rattle.std.specs.Prelude.{◌≡◌, ℕ, ◌+◌, List, length, slice_range}
use Rattle.doc_bits.specs.declared.places.Where.TheVariants as stands
use Rattle.doc_bits.specs.Rules.{Rules}
use Rattle.doc_bits.specs.Places.{Place, rules_in}
use Rattle.doc_parts.specs.Levels.{level_rules, HaveLength}
use Rattle.fib_form.specs.declared.table_parts.TablePart.TheVariants.{PlfLst}
use Rattle.file_rules.specs.Source.{DocSource, part_place, table_part_bytes}

abbrev pub rules_of_lists : DocSource → Rules Place
rules_of_lists source =
    rules_in stands.Table (level_rules source.table (part_place source PlfLst) (length (table_part_bytes source
    PlfLst)))

-- the bytes of the levels of a document
pub record HasLevels (source : DocSource) (bytes : List ℕ) : Type 0 where
  pub len : ℕ
  pub have : HaveLength source.table (part_place source PlfLst) (length (table_part_bytes source PlfLst)) len
  pub bytes_are :
      (let from = part_place source PlfLst + length (table_part_bytes source PlfLst) in
      bytes ≡ slice_range source.table from (from + len))
