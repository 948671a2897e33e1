-- The text and the sections of a file as it was read, in the words of saves: what a session begins with.
use Rattle.std.specs.Prelude.{◌≡◌}
use Rattle.fib_form.specs.FibFields.{fib_fields}
use Rattle.fib_form.specs.declared.table_parts.TablePart.TheVariants.{PlcfBteChpx, PlcfBtePapx}
use Rattle.doc_model.specs.declared.document.Document.{Document}
use Rattle.file_rules.specs.Source.{DocSource, table_part_bytes}
use Rattle.file_rules.specs.FileRules.{FileText, doc_source_of}
use Rattle.save_laws.specs.Places.{PagedStream}
use Rattle.save_laws.specs.Slots.{StoryEnds, story_counts}
use Rattle.save_laws.specs.Saves.{StandsForText}

-- WordDocument and the bin tables of a file
abbrev pub paged_stream_of : DocSource → PagedStream
paged_stream_of source = record {
  wd = source.wd;
  characters = table_part_bytes source PlcfBteChpx;
  paragraphs = table_part_bytes source PlcfBtePapx;
}

-- the places of the text represent the document, with the marks that the file has behind its stories
pub record StandsTogether (text : FileText) (document : Document) : Type 0 where
  pub ends : StoryEnds
  pub counts : (fib_fields text.wd).ccps ≡ story_counts document ends
  pub together : StandsForText (paged_stream_of (doc_source_of text)) text.pieces document ends
