pub mod Public
mod PictureLemmas
