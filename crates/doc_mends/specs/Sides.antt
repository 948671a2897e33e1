-- The names of the notes and of the header texts.
use Rattle.std.specs.Prelude.{ℕ}
use Rattle.doc_bits.specs.declared.places.Story.{Story}
use Rattle.doc_bits.specs.declared.places.Story.TheVariants.{Note, Head}
use Rattle.plain_doc.specs.declared.rules_texts.Side.{Side}
use Rattle.plain_doc.specs.declared.rules_texts.Side.TheVariants.{Notes, Heads}

-- a text by its number
abbrev pub side_name : Side → ℕ → Story
side_name Notes number = Note number
side_name Heads number = Head number
