use Rattle.std.proofs.Common.{ℕ, List, slice_index, ap, ◌∙◌, subst}
use Rattle.cfb_streams.specs.StreamRules.{Parts}
use Rattle.cfb_layout.proofs.Public.{accepted}
use Rattle.cfb_in_place.specs.Save.{IsMiniChain}
use Rattle.cfb_in_place.specs.Contract.{IsNamed}
use Rattle.cfb_in_place.proofs.NamedLemmas.{there_parts, there_entries, entry_inside, mini_there, named_chains}
use Rattle.cfb_in_place.proofs.NamedLemmas.{other_stream}
use Rattle.cfb_in_place.proofs.chains.find_in.Goals as goal

pub entry_at-grown_entry-requires : goal.entry_at-grown_entry-requires
entry_at-grown_entry-requires c =
    entry_inside c.args.file.now c.args.container.now c.requires.contents c.args.layout.now c.requires.places
    c.requires.is_layout c.index_of-grown.result c.index_of-grown.ensures.inside

pub entry_at-table_entry-requires : goal.entry_at-table_entry-requires
entry_at-table_entry-requires c =
    entry_inside c.args.file.now c.args.container.now c.requires.contents c.args.layout.now c.requires.places
    c.requires.is_layout c.index_of-table.result c.index_of-table.ensures.inside

pub mini_chain-requires-clause-whole : goal.mini_chain-requires-clause-whole
mini_chain-requires-clause-whole c =
    (accepted c.args.file.now c.args.container.now c.requires.rules c.requires.contents).whole

pub mini_chain-requires-clause-is_entry : goal.mini_chain-requires-clause-is_entry
mini_chain-requires-clause-is_entry c =
    (other_stream c.args.file.now c.args.container.now c.args.name.now c.requires.contents c.args.layout.now
    c.requires.places c.requires.is_layout c.index_of-table.result c.entry_at-table_entry.result
    c.index_of-table.ensures.named c.entry_at-table_entry.ensures).is_entry

pub mini_chain-requires-clause-there : goal.mini_chain-requires-clause-there
mini_chain-requires-clause-there c =
    mini_there c.args.file.now c.args.layout.now.parts c.entry_at-table_entry.result
    c.index_of-table.ensures.named.stream
    (other_stream c.args.file.now c.args.container.now c.args.name.now c.requires.contents c.args.layout.now
    c.requires.places c.requires.is_layout c.index_of-table.result c.entry_at-table_entry.result
    c.index_of-table.ensures.named c.entry_at-table_entry.ensures)

pub returns : goal.returns
returns c =
    let has = c.requires.contents in
    let parts = there_parts c.args.file.now c.args.container.now has c.args.layout.now c.requires.places
    c.requires.is_layout in
    let entries = there_entries c.args.file.now c.args.container.now has c.args.layout.now c.requires.places
    c.requires.is_layout in
    named_chains c.args.file.now c.args.container.now c.args.name.now _ has c.requires.streams
    c.index_of-grown.result c.index_of-table.result
    (subst (λ (n : List ℕ). IsNamed c.args.container.now c.index_of-grown.result n) c.word_document.ensures
    c.index_of-grown.ensures.named) c.index_of-table.ensures.named
    (c.entry_at-grown_entry.ensures ∙ ap (λ (xs : List ℕ). slice_index xs c.index_of-grown.result) entries)
    (c.entry_at-table_entry.ensures ∙ ap (λ (xs : List ℕ). slice_index xs c.index_of-table.result) entries)
    c.bytes.ensures c.sectors_of.ensures c.sectors_of-2.ensures
    (subst (λ (p : Parts). IsMiniChain c.args.file.now p c.entry_at-table_entry.result
    c.in_ok-freed_mini.freed_mini.items) parts c.in_ok-freed_mini.ensures)
