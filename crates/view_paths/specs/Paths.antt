-- Paths: the elements that something is in, the outermost first.
use Rattle.std.specs.Prelude.{Bool, List, [], ◌∷◌, Option, if◌then◌else◌}

-- the front that both paths have, as the first has it
abbrev pub shared : {E : Type 0} → (E → E → Bool) → List E → List E → List E
shared same [] to = []
shared same (x ∷ xs) [] = []
shared same (x ∷ xs) (y ∷ ys) = if same x y then x ∷ shared same xs ys else []

-- the elements of the first path behind the front that it shares with the second
abbrev pub behind_shared : {E : Type 0} → (E → E → Bool) → List E → List E → List E
behind_shared same [] to = []
behind_shared same (x ∷ xs) [] = x ∷ xs
behind_shared same (x ∷ xs) (y ∷ ys) = if same x y then behind_shared same xs ys else x ∷ xs

-- a path, and what is shown there, if anything
pub record PathPlace (E G : Type 0) : Type 0 where
  pub path : List E
  pub glyph : Option G

-- the path of the last place; where there is none it is the path before
abbrev pub last_path : {E G : Type 0} → List E → List (PathPlace E G) → List E
last_path before [] = before
last_path before (place ∷ more) = last_path place.path more
