pub mod Public
mod RewrittenLemmas
mod SlotLemmas
mod SheetLemmas
mod StopsLemmas
mod OneLemmas
mod PlaceLemmas
