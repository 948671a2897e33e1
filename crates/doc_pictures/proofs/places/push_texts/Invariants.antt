use Rattle.std.proofs.Common.{◌≡◌, ◌++◌, take}
use Rattle.std.specs.List.{flat_map}
use Rattle.doc_pictures.specs.Places.{places_in}
use Rattle.doc_pictures.proofs.places.push_texts.Given as goal

-- the places of the texts so far
abbrev pub invariant-loop-k : goal.invariant-loop-k
invariant-loop-k l = l.places.items ≡ l.fn.places.items ++ flat_map places_in (take l.k l.texts)
