-- The one guard of the program.
use Rattle.std.specs.Prelude.{ℕ, List, [], ◌∷◌}
use Rattle.edit_guards.specs.Policies.{Policy, quota_of}

-- how many items the edits of a run may add
abbrev pub most_items_added : ℕ
most_items_added = 1000000

-- the policies of a run of the program: one quota, and no style is locked
abbrev pub program_policies : List Policy
program_policies = quota_of most_items_added ∷ []
