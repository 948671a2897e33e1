-- What of a page a sink has taken, and what waits.
use Rattle.std.specs.Prelude.{◌≡◌, ℕ, Bool, true, false, List, ◌++◌, encode_utf8_all}
use Rattle.doc_outer.specs.Counts.{Rose, CountGoesOn}
use Rattle.doc_outer.specs.Written.{AppendsPrefix, Sends}
use Rattle.doc_outer.specs.declared.sink.Sink.{Ghosts}
use Rattle.page_out.specs.declared.page.Page.{Page}

-- the sink failed behind a prefix of what waited and of these bytes
pub record FailsIn {K : Type 0} (sink : Ghosts K) (before : K) (page : Page) (after : K) (bytes : List ℕ) : Type 0 where
  pub prefix : AppendsPrefix (sink.written before) (sink.written after) (page.block ++ bytes)
  pub rose : Rose (sink.faults before) (sink.faults after)

-- the sink did not fail, and the bytes were put behind those that wait
pub record PutsBytes {K : Type 0} (sink : Ghosts K) (before : K) (page : Page) (after : K) (left : Page) (bytes : List
    ℕ) :
    Type 0 where
  pub right : page.failed ≡ false
  pub sends : Sends (sink.written before) (sink.written after) page.block bytes left.block

-- bytes were put, unless the sink failed, then or before
pub record PrintsBytes {K : Type 0} (sink : Ghosts K) (before : K) (page : Page) (after : K) (left : Page) (bytes :
    List ℕ) :
    Type 0 where
  pub ok : left.failed ≡ false → PutsBytes sink before page after left bytes
  pub fails : page.failed ≡ false → left.failed ≡ true → FailsIn sink before page after bytes
  pub stays : page.failed ≡ true → sink.written after ≡ sink.written before
  pub faults : CountGoesOn (sink.faults before) (sink.faults after)

-- characters were
abbrev pub Prints : {K : Type 0} → Ghosts K → K → Page → K → Page → List ℕ → Type 0
Prints sink before page after left text = PrintsBytes sink before page after left (encode_utf8_all text)
