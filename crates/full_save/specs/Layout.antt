-- The file of a document, as a function of that document alone.
use Rattle.std.specs.Prelude.{◌≡◌, ◌<◌, ◌≤◌, ℕ, List}
use Rattle.cfb_streams.specs.Contents.{NamedBytes}
use Rattle.cfb_layout.specs.Counts.{sectors_needed, most_sectors}
use Rattle.cfb_layout.specs.Layout.{lengths_of, compound_file}
use Rattle.doc_model.specs.declared.document.Document.{Document}
use Rattle.full_save.specs.declared.fault.SaveFault.{SaveFault}
use Rattle.full_save.specs.declared.fault.SaveFault.TheVariants.{TooLarge, Memory}
use Rattle.full_save.specs.WordDocument.{wd_stream, table_stream}
use Rattle.full_save.specs.Streams.{saved_streams}

-- the two streams that a save makes, among those that are carried along
unfoldable pub layout_streams : Document → List NamedBytes
layout_streams document = saved_streams (table_stream document) (wd_stream document) document.carried.streams

-- the full save: the canonical container of these streams
unfoldable pub full_save_image : Document → List ℕ
full_save_image document = compound_file (layout_streams document) document.carried.clsid

-- the sectors that it needs
abbrev pub full_save_sectors : Document → ℕ
full_save_sectors document = sectors_needed (lengths_of (layout_streams document))

abbrev pub FitsCompoundFile : Document → Type 0
FitsCompoundFile document = full_save_sectors document ≤ most_sectors

-- too many sectors, with their number, or want of memory, which is free
abbrev pub IsTooLarge : Document → SaveFault → Type 0
IsTooLarge document (TooLarge sectors) = (most_sectors < full_save_sectors document) × (sectors ≡ full_save_sectors
    document)
IsTooLarge document Memory = Unit {0}
