pub mod Public
mod FrontLemmas
mod NestLemmas
mod OpeningLemmas
mod WayLemmas
