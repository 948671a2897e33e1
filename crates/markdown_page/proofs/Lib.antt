pub mod Public
mod TokenLemmas
mod PutLemmas
mod RightLemmas
mod PageLemmas
mod ShapeLemmas
mod KeptLemmas
mod AllowedLemmas
mod RunLemmas
mod SizeLemmas
