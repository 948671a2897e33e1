-- A page of a document is read back.
use Rattle.doc_places.specs.Places.{document_places}
use Rattle.markdown_page.specs.Pages.{page_text}
use Rattle.markdown_page.proofs.Public.{links_allowed, page_read}
use Rattle.doc_markdown.specs.Laws.{IsReadBack, MarkdownPagesAreReadBack}

pub pages_read : MarkdownPagesAreReadBack
pages_read options document bytes page = record {
  formats = page.formats;
  are = page.are;
  values = page.values;
  are_values = page.are_values;
  text = page_text document (document_places page.formats page.values options document);
  bytes_are = page.text;
  reads = page_read document (document_places page.formats page.values options document);
  links = links_allowed document (document_places page.formats page.values options document);
}
