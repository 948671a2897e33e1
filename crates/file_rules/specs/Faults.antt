-- How a file is refused.
use Rattle.doc_bits.specs.declared.places.Where.TheVariants.{File, Wd, Table}
use Rattle.doc_bits.specs.Rules.{Rules}
use Rattle.doc_bits.specs.Places.{Place, IsFirstPlace}
use Rattle.cfb_sectors.specs.declared.faults.CfbFault.{CfbFault}
use Rattle.cfb_sectors.specs.declared.faults.CfbFault.TheVariants as cfb
use Rattle.piece_table.specs.declared.fault.ClxFault.{ClxFault}
use Rattle.piece_table.specs.declared.fault.ClxFault.TheVariants as clx
use Rattle.doc_parts.specs.declared.fault.PartFault.{PartFault}
use Rattle.doc_parts.specs.declared.fault.PartFault.TheVariants as part
use Rattle.direct_props.specs.declared.rules.PageFault.{PageFault}
use Rattle.style_sheet.specs.declared.fault.StyleFault.{StyleFault}
use Rattle.style_sheet.specs.declared.fault.StyleFault.TheVariants as style
use Rattle.file_rules.specs.declared.fault.ReadFault.{ReadFault}
use Rattle.file_rules.specs.declared.fault.ReadFault.TheVariants.{Refused, Memory}

-- the first broken rule at its least place, or want of memory, which is free
abbrev pub IsReadFault : Rules Place → ReadFault → Type 0
IsReadFault rules (Refused number part offset) = IsFirstPlace rules number (part, offset)
IsReadFault rules Memory = Unit {0}

-- the refusal of a file with a refused part: its offsets are those of the table stream
abbrev pub part_refusal : PartFault → ReadFault
part_refusal (part.Rule number offset) = Refused number Table offset
part_refusal part.Memory = Memory

-- the refusal of a file whose Clx is refused: its offsets are those of the table stream
abbrev pub clx_refusal : ClxFault → ReadFault
clx_refusal (clx.Rule number offset) = Refused number Table offset
clx_refusal clx.Memory = Memory

-- the refusal of a file that is no container
abbrev pub cfb_refusal : CfbFault → ReadFault
cfb_refusal (cfb.Rule number offset) = Refused number File offset
cfb_refusal cfb.Memory = Memory

-- the refusal of a file with a refused style sheet: its offsets are those of the table stream
abbrev pub style_refusal : StyleFault → ReadFault
style_refusal (style.Rule number offset) = Refused number Table offset
style_refusal style.Memory = Memory

-- the refusal of a file with a broken rule on pages: its offsets are those of WordDocument
abbrev pub page_refusal : PageFault → ReadFault
page_refusal fault = Refused fault.rule Wd fault.offset
