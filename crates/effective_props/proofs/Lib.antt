pub mod Public
mod ValueLemmas
mod PlaceLemmas
mod StopLemmas
mod StopListLemmas
mod StopStepLemmas
mod FormedLemmas
mod LayerLemmas
mod FormedLayerLemmas
mod ToggleLemmas
mod OneLemmas
mod LastLemmas
mod MapsExist
mod StopsExist
mod EffectsExist
