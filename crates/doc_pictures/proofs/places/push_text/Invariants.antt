use Rattle.std.proofs.Common.{◌≡◌, ◌++◌, take}
use Rattle.doc_columns.specs.Walks.{items_in, IsColumnWalk}
use Rattle.doc_pictures.specs.Places.{places_in}
use Rattle.doc_pictures.proofs.places.push_text.Given as goal

-- the places of the items so far
abbrev pub invariant-loop-i : goal.invariant-loop-i
invariant-loop-i l = record {
  walk : IsColumnWalk l.parts l.walk l.i;
  places : l.places.items ≡ l.fn.places.items ++ places_in (take l.i (items_in l.parts));
}
