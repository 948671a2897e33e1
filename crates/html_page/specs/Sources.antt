-- What a page is made of: a document, and the files of its pictures.
use Rattle.doc_model.specs.declared.document.Document.{Document}
use Rattle.doc_pictures.specs.Files.{ImageFiles, image_files}
use Rattle.html_page.specs.declared.source.Source.{Source}

pub record PageSource : Type 0 where
  pub document : Document
  pub images : ImageFiles

abbrev pub page_source_of : Source → PageSource
page_source_of source = record { document = source.document.now; images = image_files source.images }
