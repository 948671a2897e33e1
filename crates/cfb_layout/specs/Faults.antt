-- Why streams are not laid out.
use Rattle.std.specs.Prelude.{◌≡◌, ℕ, ◌<◌, List}
use Rattle.cfb_layout.specs.declared.faults.LayoutFault.{LayoutFault}
use Rattle.cfb_layout.specs.declared.faults.LayoutFault.TheVariants.{TooLarge, Memory}
use Rattle.cfb_layout.specs.Counts.{sectors_needed, most_sectors}

-- too many sectors, with their number, or want of memory, which is free
abbrev pub IsLayoutFault : List ℕ → LayoutFault → Type 0
IsLayoutFault lengths (TooLarge sectors) = (most_sectors < sectors_needed lengths) × (sectors ≡ sectors_needed lengths)
IsLayoutFault lengths Memory = Unit {0}
