pub mod Public
mod RangeLemmas
mod OrderLemmas
mod StepLemmas
mod PlaceLemmas
mod AlbumLemmas
mod FileLemmas
mod ApartLemmas
