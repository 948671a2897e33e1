use Rattle.std.proofs.Common.{sym, ap, ◌∙◌, subst}
use Rattle.std.proofs.lemmas.Result.{err_from_is_err_and}
use Rattle.cfb_streams.specs.StreamRules.{IsMiniFat, IsMiniStream, BreaksMiniFat, BreaksMiniStream}
use Rattle.cfb_streams.specs.Layout.{IsSoundLayout, layout_places_of}
use Rattle.cfb_streams.specs.FoundParts.{IsFoundMiniFat, IsFoundMiniStream}
use Rattle.cfb_sectors.proofs.Public.{refused_chain}
use Rattle.cfb_streams.proofs.LoadLemmas.{mini_fat_fault, mini_stream_fault, layout_is}
use Rattle.cfb_streams.proofs.layout.Layout.of.Goals as goal

pub returns-in_err-mini_fat : goal.returns-in_err-mini_fat
returns-in_err-mini_fat c =
    let entries = c.args.entries in
    let found = subst (λ f. IsFoundMiniFat f c.in_ok-find_mini_fat.field-0) c.file-file.ensures
    c.in_ok-find_mini_fat.ensures.found in
    let p = err_from_is_err_and c.from_residual-in_err-mini_fat.result c.from_residual-in_err-mini_fat.ensures.1 in
    rw (p.1, p.2)
    (mini_fat_fault entries.file entries.directory c.in_err-mini_fat.field-0.0
    (refused_chain 11 (IsMiniFat entries.file) (BreaksMiniFat entries.file) c.in_ok-find_mini_fat.field-0
    c.in_err-mini_fat.field-0.0 found c.in_err-mini_fat.ensures))

pub returns-in_err-mini_stream : goal.returns-in_err-mini_stream
returns-in_err-mini_stream c =
    let entries = c.args.entries in
    let is = subst (λ f. IsMiniFat f c.in_ok-mini_fat.mini_fat.items) c.file-file.ensures
    (rw c.in_ok-mini_fat.ensures at c.in_ok-find_mini_fat.ensures.found) in
    let found = subst (λ f. IsFoundMiniStream f entries.directory c.in_ok-found.found) c.file-file.ensures
    (subst (λ d. IsFoundMiniStream c.file-file.result.now d c.in_ok-found.found) c.directory.ensures.sectors
    c.in_ok-found.ensures.found) in
    let p = err_from_is_err_and c.from_residual-in_err-mini_stream.result
    c.from_residual-in_err-mini_stream.ensures.1 in
    rw (p.1, p.2)
    (mini_stream_fault entries.file entries.directory c.in_ok-mini_fat.mini_fat.items
    c.in_err-mini_stream.field-0.0 is
    (refused_chain 12 (IsMiniStream entries.file entries.directory) (BreaksMiniStream entries.file entries.directory)
    c.in_ok-found.found c.in_err-mini_stream.field-0.0 found c.in_err-mini_stream.ensures))

pub read-requires-clause-is_layout : goal.read-requires-clause-is_layout
read-requires-clause-is_layout c =
    let entries = c.args.entries in
    let is = subst (λ f. IsMiniFat f c.in_ok-mini_fat.mini_fat.items) c.file-file.ensures
    (rw c.in_ok-mini_fat.ensures at c.in_ok-find_mini_fat.ensures.found) in
    let found = subst (λ f. IsFoundMiniStream f entries.directory c.in_ok-found.found) c.file-file.ensures
    (subst (λ d. IsFoundMiniStream c.file-file.result.now d c.in_ok-found.found) c.directory.ensures.sectors
    c.in_ok-found.ensures.found) in
    let stored : IsMiniStream entries.file entries.directory c.in_ok-mini_stream.mini_stream.items =
    rw c.in_ok-mini_stream.ensures at found in
    record {
      opening = c.requires.opening;
      header = c.requires.header;
      are_entries = c.requires.are_entries;
      mini_fat = is;
      mini_stream = stored;
    }

pub returns : goal.returns
returns c =
    let entries = c.args.entries in
    let is = subst (λ f. IsMiniFat f c.in_ok-mini_fat.mini_fat.items) c.file-file.ensures
    (rw c.in_ok-mini_fat.ensures at c.in_ok-find_mini_fat.ensures.found) in
    let found = subst (λ f. IsFoundMiniStream f entries.directory c.in_ok-found.found) c.file-file.ensures
    (subst (λ d. IsFoundMiniStream c.file-file.result.now d c.in_ok-found.found) c.directory.ensures.sectors
    c.in_ok-found.ensures.found) in
    let stored : IsMiniStream entries.file entries.directory c.in_ok-mini_stream.mini_stream.items =
    rw c.in_ok-mini_stream.ensures at found in
    let layout : IsSoundLayout (layout_places_of entries c.in_ok-mini_fat.mini_fat.items
    c.in_ok-mini_stream.mini_stream.items) =
    record {
      opening = c.requires.opening;
      header = c.requires.header;
      are_entries = c.requires.are_entries;
      mini_fat = is;
      mini_stream = stored;
    } in
    record {
      file = ap (λ q. q.file) c.in_ok-layout.ensures;
      directory = ap (λ q. q.parts.directory) c.in_ok-layout.ensures;
      is_layout = subst IsSoundLayout (sym c.in_ok-layout.ensures) layout;
    }
