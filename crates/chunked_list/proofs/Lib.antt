pub mod Public
mod UnitLemmas
mod JoinLemmas
mod SizeLemmas
mod PutLemmas
mod SetLemmas
mod RangeLemmas
mod ShortLemmas
mod RemoveLemmas
mod FillLemmas
mod BuildLemmas
