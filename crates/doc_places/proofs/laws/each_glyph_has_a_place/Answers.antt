use Rattle.doc_places.proofs.PlaceLemmas.{text_glyphs}
use Rattle.doc_places.proofs.laws.each_glyph_has_a_place.Goals as goal

pub returns : goal.returns
returns c = text_glyphs
