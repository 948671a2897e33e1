use Rattle.std.proofs.Common.{◌≡◌, take, map}
use Rattle.list_numbers.specs.Places.{list_place}
use Rattle.list_numbers.proofs.document_lists.DocumentLists.places_of.Given as goal

abbrev pub invariant-loop-own : goal.invariant-loop-own
invariant-loop-own l =
    l.places.items ≡ map (list_place l.self.lists l.self.uses.items) (take l.own-index l.values)
