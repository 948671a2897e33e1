-- What a reader answers of a value that is to represent something well formed.
use Rattle.std.specs.Prelude.{◌≡◌, ◌≢◌, ⊤, Result, Ok, Err}
use Rattle.serde_json.specs.Data.{Data}
use Rattle.edit_script.specs.declared.faults.ShapeError.{ShapeError}
use Rattle.edit_script.specs.declared.faults.ShapeError.TheVariants.{Shape, Memory}
use Rattle.json_values.specs.Plain.{HasKeysInOrder}

-- what was found is so, and the value represents it, where its keys are in order; or nothing that is so has this value;
-- want of memory is free
abbrev pub ReadsValue : {A : Type 0} → (A → Data) → (A → Type 0) → Data → Result A ShapeError → Type 0
ReadsValue json Is value (Ok found) = Is found × (HasKeysInOrder value → value ≡ json found)
ReadsValue {A = A} json Is value (Err Shape) = (x : A) → Is x → value ≢ json x
ReadsValue json Is value (Err Memory) = ⊤

-- the same, where the type of what was found keeps it so
abbrev pub Tells : {A : Type 0} → (A → Data) → (A → Type 0) → Data → Result A ShapeError → Type 0
Tells json Is value (Ok found) = HasKeysInOrder value → value ≡ json found
Tells {A = A} json Is value (Err Shape) = (x : A) → Is x → value ≢ json x
Tells json Is value (Err Memory) = ⊤
