pub mod Public
mod HtmlLemmas
mod FormLemmas
