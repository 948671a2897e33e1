pub mod Public
mod FullFileLemmas
mod OpenLemmas
mod BoundedLemmas
mod StartLemmas
mod CommandLemmas
mod CountLemmas
mod EditLemmas
mod FullLemmas
mod GrownLemmas
mod RoomLemmas
mod ResultLemmas
mod AddedBytes
mod CanLemmas
mod FastLemmas
mod HeldLemmas
mod OneSession
mod WrittenLemmas
