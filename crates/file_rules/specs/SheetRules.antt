-- The rules on the style sheet, 49 to 51.
use Rattle.doc_bits.specs.declared.places.Where.TheVariants as stands
use Rattle.doc_bits.specs.Rules.{Rules}
use Rattle.doc_bits.specs.Places.{Place, rules_in}
use Rattle.style_sheet.specs.Sheet.{Sheet}
use Rattle.style_sheet.specs.Stsh.{stsh_rules, HasStyleSheet}
use Rattle.fib_form.specs.declared.table_parts.TablePart.TheVariants.{Stshf}
use Rattle.file_rules.specs.Source.{DocSource, table_part_bytes, part_place}

abbrev pub rules_of_sheet : DocSource → Rules Place
rules_of_sheet source = rules_in stands.Table (stsh_rules (table_part_bytes source Stshf) (part_place source Stshf))

-- the style sheet of a document
abbrev pub HasSheet : DocSource → Sheet → Type 0
HasSheet source = HasStyleSheet (table_part_bytes source Stshf)
