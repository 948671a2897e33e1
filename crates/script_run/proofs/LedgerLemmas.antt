-- How the ledgers grow. It belongs to fast_save, but for what is generated.
use Rattle.std.proofs.Common.{◌≡◌, refl, subst, ℕ, zero, suc, ◌+◌, ◌*◌, ◌/◌, ◌^◌, ◌-◌, ◌≤◌, min, Bool}
use Rattle.std.proofs.Common.{true, false, arith}
use Rattle.std.specs.Prelude.{if◌then◌else◌}
use Rattle.std.proofs.Math.Nat.{min-le_left, mul-le-mul_right}
use Rattle.cfb_layout.specs.Counts.{most_sectors}
use Rattle.edit_script.specs.declared.commands.Command.{Command}
use Rattle.edit_ops.specs.Runs.{reckoned_runs}
use Rattle.fast_save.specs.declared.ledgers.Counts.{Counts}
use Rattle.fast_save.specs.Ledgers.{saturating_sum, after_edit, after_fast, sections_set, modifier_bytes}
use Rattle.fast_save.specs.Ledgers.{bytes_reckoned}
use Rattle.fast_save.specs.Ledgers.{sector_bound}
use Rattle.edit_generator.specs.SmallSaves.{most_table_bytes, most_bin_bytes}
use Rattle.script_run.specs.GeneratedSaves.{sectors_within, HasGrown, IsSmallEdit}
use Rattle.script_run.specs.GeneratedSaves.{FitsFast, GeneratedSavesAreSmall}

-- a count rises by no more
raised-le : (count more : ℕ) → saturating_sum count more ≤ count + more
raised-le count more = min-le_left (count + more) (2 ^ 64 - 1)

-- a modifier needs no more bytes than full properties do
modifier_few : (modified : Bool) (printed : ℕ) → (if modified then min 788 (46 + printed) else 0) ≤ 788
modifier_few true printed = min-le_left 788 (46 + printed)
modifier_few false printed = omega arith

pub edit_grows : (fast edits units : ℕ) (counts : Counts) (command : Command) → HasGrown fast edits counts →
    IsSmallEdit command units → HasGrown fast (edits + 1) (after_edit command units counts)
edit_grows fast edits units counts command grown small =
    let pieces = raised-le counts.pieces 4 in
    let added = raised-le counts.units units in
    let sections = raised-le counts.sections (sections_set command) in
    let runs = raised-le counts.runs (reckoned_runs command) in
    let pieces_were = grown.pieces in
    let units_were = grown.units in
    let sections_were = grown.sections in
    let runs_were = grown.runs in
    let few_units = small.units in
    let no_section = small.sections in
    let few_runs = small.runs in
    record {
      pieces = omega (arith, pieces, pieces_were);
      sectors = grown.sectors;
      bins = grown.bins;
      units = omega (arith, added, units_were, few_units);
      sections = omega (arith, sections, sections_were, no_section);
      runs = omega (arith, runs, runs_were, few_runs);
    }

-- the bytes that are reckoned for the pieces
pieces_reckoned : (modifier pieces fast edits : ℕ) → modifier ≤ 788 → pieces ≤ 1 + 200 * fast + 4 * edits →
    edits ≤ 50 → (12 + modifier) * pieces ≤ 800 * (1 + 200 * (fast + 1))
pieces_reckoned modifier pieces fast edits short few fifty =
    let wide : 12 + modifier ≤ 800 = omega (arith, short) in
    let each : (12 + modifier) * pieces ≤ 800 * pieces = mul-le-mul_right pieces wide in
    omega (arith, each, few, fifty)

within_next : (fast : ℕ) → sectors_within (suc fast) ≡ sectors_within fast + (2400 + 528 * 150 + 800 *
    (1 + 200 * (fast + 1)) + most_table_bytes + (most_bin_bytes + 2656 * fast) + 16384 + 499) / 500 + 8
unfolding sectors_within
within_next fast = refl

reckoned_within : (fast edits table_bytes : ℕ) (counts : Counts) → HasGrown fast edits counts → edits ≤ 50 →
    table_bytes ≤ most_table_bytes → sector_bound counts table_bytes ≤ sectors_within (suc fast)
reckoned_within fast edits table_bytes counts grown fifty small =
    let pieces = pieces_reckoned (modifier_bytes counts) counts.pieces fast edits (modifier_few counts.modified
    counts.printed) grown.pieces fifty in
    let sectors = grown.sectors in
    let bins = grown.bins in
    let units = grown.units in
    let sections = grown.sections in
    let runs = grown.runs in
    let next = within_next fast in
    let bound = min-le_left (counts.sectors + (bytes_reckoned counts table_bytes + 499) / 500 + 8) (2 ^ 64 - 1) in
    omega (arith, bound, pieces, sectors, bins, units, sections, runs, next, fifty, small)

pub fast_grows : (fast edits table_bytes : ℕ) (counts : Counts) → HasGrown fast edits counts → edits ≤ 50 →
    table_bytes ≤ most_table_bytes → HasGrown (fast + 1) 0 (after_fast (sector_bound counts table_bytes) counts)
fast_grows fast edits table_bytes counts grown fifty small =
    let within = reckoned_within fast edits table_bytes counts grown fifty small in
    let next : suc fast ≡ fast + 1 = omega arith in
    let pieces = grown.pieces in
    let bins = grown.bins in
    let runs = grown.runs in
    let more = raised-le counts.bin_bytes (16 * counts.runs + 256) in
    record {
      pieces = omega (arith, pieces, fifty);
      sectors = subst (λ n. sector_bound counts table_bytes ≤ sectors_within n) next within;
      bins = omega (arith, bins, runs, more, fifty);
      units = omega arith;
      sections = omega arith;
      runs = omega arith;
    }

-- seven fast saves stay within a file
seven_fit : (fast : ℕ) → fast ≤ 6 → sectors_within (suc fast) ≤ most_sectors
unfolding sectors_within
seven_fit zero few = omega arith
seven_fit (suc zero) few = omega arith
seven_fit (suc (suc zero)) few = omega arith
seven_fit (suc (suc (suc zero))) few = omega arith
seven_fit (suc (suc (suc (suc zero)))) few = omega arith
seven_fit (suc (suc (suc (suc (suc zero))))) few = omega arith
seven_fit (suc (suc (suc (suc (suc (suc zero)))))) few = omega arith
seven_fit (suc (suc (suc (suc (suc (suc (suc more))))))) few = absurd (omega (arith, few))

pub fast_fits : (fast edits table_bytes : ℕ) (counts : Counts) → HasGrown fast edits counts → edits ≤ 50 →
    table_bytes ≤ most_table_bytes → fast ≤ 6 → FitsFast counts table_bytes
fast_fits fast edits table_bytes counts grown fifty small few =
    let within = reckoned_within fast edits table_bytes counts grown fifty small in
    let fits = seven_fit fast few in
    let pieces = grown.pieces in
    record { pieces = omega (arith, pieces, fifty, few); sectors = omega (arith, within, fits) }

pub generated_are_small : GeneratedSavesAreSmall
generated_are_small = record { edit = edit_grows; fast = fast_grows; fits = fast_fits }
