pub mod Public
mod FormLemmas
mod EndLemmas
mod FindLemmas
mod ValueLemmas
mod WriteLemmas
mod HeadLemmas
mod PairLemmas
mod WrittenLemmas
mod ReadBackLemmas
mod TitleLemmas
mod TwiceLemmas
