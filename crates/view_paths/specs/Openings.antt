-- What is opened on the way through places.
use Rattle.std.specs.Prelude.{Bool, List, [], ◌∷◌, ◌++◌}
use Rattle.view_paths.specs.Paths.{behind_shared, PathPlace}

-- the elements that are opened at places where a path is open, each as often as it is
abbrev pub opened_from : {E G : Type 0} → (E → E → Bool) → List E → List (PathPlace E G) → List E
opened_from same before [] = []
opened_from same before (place ∷ more) = behind_shared same place.path before ++ opened_from same place.path more
