mod CostLemmas
mod HtmlLemmas
mod TextLemmas
mod MarkdownLemmas
