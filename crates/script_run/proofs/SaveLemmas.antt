-- One command more among the saves.
use Rattle.std.proofs.Common.{◌≡◌, ◌∙◌, refl, ap, ℕ, ◌+◌, ◌≤◌, List, [], ◌∷◌, ◌++◌, take, Bool, true, false, cond}
use Rattle.std.proofs.Common.{Some, arith}
use mir.Val.{bool_byte}
use Rattle.std.specs.List.{slice_get}
use Rattle.std.proofs.lemmas.List.{take_more}
use Rattle.std.proofs.lemmas.List.Sums.{sum_by-append}
use Rattle.std.proofs.lemmas.Option.{slice_get_within, get_or_from_slice_get}
use Rattle.edit_script.specs.declared.commands.Command.{Command}
use Rattle.script_run.specs.Saves.{save_mode, has_mode, save_count}

take_at : (commands : List Command) (i : ℕ) (command : Command) → slice_get commands i ≡ Some command →
    take (i + 1) commands ≡ take i commands ++ command ∷ []
take_at commands i command at =
    take_more commands i command (slice_get_within commands i command at)
    ∙ ap (λ c. take i commands ++ c ∷ []) (get_or_from_slice_get commands i command command at)

-- one command as a count
abbrev counted_once : Bool → Command → ℕ
counted_once full command = cond (has_mode full (save_mode command)) 1 0

pub counted : (full : Bool) (commands : List Command) (i : ℕ) (command : Command) → slice_get commands i ≡ Some
    command → save_count full (take (i + 1) commands) ≡ save_count full (take i commands) + cond (has_mode full
    (save_mode command)) 1 0
counted full commands i command at =
    let more = ap (save_count full) (take_at commands i command at) ∙ sum_by-append (counted_once full)
    (take i commands) (command ∷ []) in
    omega (arith, more)

bool_counts : (saves : Bool) → (bool_byte saves ≡ cond saves 1 0) × (bool_byte saves ≤ 1)
bool_counts true = (refl, omega arith)
bool_counts false = (refl, omega arith)

-- one command more in a count
pub counted_on : (full : Bool) (commands : List Command) (i : ℕ) (command : Command) (count : ℕ) (saves : Bool) →
    slice_get commands i ≡ Some command → saves ≡ has_mode full (save_mode command) →
    (count ≡ save_count full (take i commands)) × (count ≤ i) → (count + bool_byte saves ≡ save_count full
    (take (i + 1) commands)) × (count + bool_byte saves ≤ i + 1)
counted_on full commands i command count saves at is so_far =
    let more = counted full commands i command at in
    let once : bool_byte saves ≡ cond (has_mode full (save_mode command)) 1 0 = (bool_counts saves).0 ∙ ap
    (λ b. cond b 1 0) is in
    let small = (bool_counts saves).1 in
    let was = so_far.0 in
    let few = so_far.1 in
    (omega (arith, more, once, was), omega (arith, small, few))
