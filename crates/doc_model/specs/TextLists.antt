-- The lists that a saved document has of its texts: the CPs that cut them, and where sections begin.
use Rattle.std.specs.Prelude.{ℕ, ◌+◌, List, [], ◌∷◌}
use Rattle.prop_map.specs.Settings.{Properties}
use Rattle.doc_model.specs.declared.item.Item.{Item}
use Rattle.doc_model.specs.Collected.{cuts_from}

-- the CPs that cut texts, by the items of all of them; texts without items are not cut
abbrev pub cuts_of : List Item → List (List Item) → List ℕ
cuts_of [] texts = []
cuts_of (item ∷ items) texts = cuts_from 0 texts

-- where sections begin, by their last CPs: the first at a CP, and each later one right behind the one before it
unfoldable pub starts_from : ℕ → List (ℕ × Properties) → List ℕ
starts_from start [] = []
starts_from start (section ∷ sections) = start ∷ starts_from (section.0 + 1) sections
