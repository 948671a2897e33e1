-- The marks behind the stories, as the code has them.
use Rattle.save_laws.specs.declared.ends.Ends.{Ends}
use Rattle.save_laws.specs.Slots.{StoryEnds}

abbrev pub ends_of : Ends → StoryEnds
ends_of ends = record { notes = ends.notes; heads = ends.heads }
