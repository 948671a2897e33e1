-- Whether items have the same properties, and where a paragraph goes on: what stretches of items are made of.
use Rattle.std.specs.Prelude.{◌≡◌, ◌↔◌, IsTrue, Bool, true, false, not, ◌&&◌, ◌==◌, is_some, List, [], ◌∷◌}
use Rattle.std.specs.FinMap.{entries}
use Rattle.std.specs.Str.{bytes_eq}
use Rattle.sprm_table.specs.Sprm.{Prl}
use Rattle.prop_map.specs.Settings.{Properties}
use Rattle.doc_model.specs.declared.item.Item.{Item}

-- whether two lists have the same codes and values
abbrev pub same_prls : List Prl → List Prl → Bool
same_prls [] [] = true
same_prls [] (b ∷ others) = false
same_prls (a ∷ more) [] = false
same_prls (a ∷ more) (b ∷ others) = (a.0 == b.0) && (bytes_eq a.1 b.1 && same_prls more others)

abbrev pub same_properties : Properties → Properties → Bool
same_properties one other = same_prls (entries one) (entries other)

-- the next item has the same properties of characters
abbrev pub is_alike : Item → Item → Bool
is_alike item next = same_properties item.chp next.chp

-- the next item is of the same paragraph
abbrev pub is_inside : Item → Item → Bool
is_inside item next = not (is_some item.mark)

-- properties that are compared as equal are the same map
abbrev pub EqualPropertiesAreSame : Type 0
EqualPropertiesAreSame = (one other : Properties) → IsTrue (same_properties one other) ↔ one ≡ other
