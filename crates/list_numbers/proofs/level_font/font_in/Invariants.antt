use Rattle.std.proofs.Common.{◌≡◌, ◌-◌, ◌≤◌, length}
use Rattle.list_numbers.specs.LevelFonts.{font_from, font_in}
use Rattle.list_numbers.proofs.level_font.font_in.Given as goal

-- the font that the properties so far name
abbrev pub invariant-loop-count : goal.invariant-loop-count
invariant-loop-count l = record {
  within : l.at ≤ length l.list;
  same : font_in l.list ≡ font_from (length l.list - l._count) l.list l.at l.font;
}
