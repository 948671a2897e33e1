use Rattle.std.proofs.Common.{ℕ, List, length, sym, ap, ◌∙◌, subst, arith}
use Rattle.cfb_directory.specs.Directory.{entry_start}
use Rattle.cfb_directory.specs.Reach.{entry_place}
use Rattle.cfb_in_place.specs.Change.{OldChains, NamedChange, fresh_from}
use Rattle.cfb_in_place.specs.Sources.{NewHead}
use Rattle.cfb_in_place.specs.Roles.{ArePartsBelow, AreRoles, sectors_of_parts}
use Rattle.cfb_in_place.proofs.ReadyLemmas.{asked_of, head_is}
use Rattle.cfb_in_place.proofs.sources.sources_of.Goals as goal

pub roles_of-requires-clause-few : goal.roles_of-requires-clause-few
roles_of-requires-clause-few c =
    let few = (asked_of c.args.old.now c.args.layout.now.parts c.args.chains.now c.args.change.now.change
    c.args.added.now
    c.requires (λ i. let byte = c.type_inv.old i in omega arith)).few in
    omega arith

pub roles_of-requires-clause-below : goal.roles_of-requires-clause-below
roles_of-requires-clause-below c =
    subst (λ n. ArePartsBelow n (sectors_of_parts c.args.old.now c.args.layout.now.parts c.args.chains.now
    c.args.added.now)) (sym c.sectors_after-count.ensures)
    (asked_of c.args.old.now c.args.layout.now.parts c.args.chains.now c.args.change.now.change c.args.added.now
    c.requires (λ i. let byte = c.type_inv.old i in omega arith)).below

pub fat_entries-requires-clause-few : goal.fat_entries-requires-clause-few
fat_entries-requires-clause-few c =
    (asked_of c.args.old.now c.args.layout.now.parts c.args.chains.now c.args.change.now.change c.args.added.now
    c.requires (λ i. let byte = c.type_inv.old i in omega arith)).few

pub fat_entries-requires-clause-inside : goal.fat_entries-requires-clause-inside
fat_entries-requires-clause-inside c =
    (asked_of c.args.old.now c.args.layout.now.parts c.args.chains.now c.args.change.now.change c.args.added.now
    c.requires (λ i. let byte = c.type_inv.old i in omega arith)).fats

pub fat_entries-requires-clause-can : goal.fat_entries-requires-clause-can
fat_entries-requires-clause-can c =
    (asked_of c.args.old.now c.args.layout.now.parts c.args.chains.now c.args.change.now.change c.args.added.now
    c.requires (λ i. let byte = c.type_inv.old i in omega arith)).can

pub mini_entries-requires-clause-inside : goal.mini_entries-requires-clause-inside
mini_entries-requires-clause-inside c =
    (asked_of c.args.old.now c.args.layout.now.parts c.args.chains.now c.args.change.now.change c.args.added.now
    c.requires (λ i. let byte = c.type_inv.old i in omega arith)).minis

pub mini_entries-requires-clause-freed : goal.mini_entries-requires-clause-freed
mini_entries-requires-clause-freed c =
    (asked_of c.args.old.now c.args.layout.now.parts c.args.chains.now c.args.change.now.change c.args.added.now
    c.requires (λ i. let byte = c.type_inv.old i in omega arith)).freed

pub grown_after-requires-clause-inside : goal.grown_after-requires-clause-inside
grown_after-requires-clause-inside c =
    (asked_of c.args.old.now c.args.layout.now.parts c.args.chains.now c.args.change.now.change c.args.added.now
    c.requires (λ i. let byte = c.type_inv.old i in omega arith)).inside

pub grown_after-requires-clause-front : goal.grown_after-requires-clause-front
grown_after-requires-clause-front c =
    (asked_of c.args.old.now c.args.layout.now.parts c.args.chains.now c.args.change.now.change c.args.added.now
    c.requires (λ i. let byte = c.type_inv.old i in omega arith)).front

pub grown_after-requires-clause-within : goal.grown_after-requires-clause-within
grown_after-requires-clause-within c =
    (asked_of c.args.old.now c.args.layout.now.parts c.args.chains.now c.args.change.now.change c.args.added.now
    c.requires (λ i. let byte = c.type_inv.old i in omega arith)).within

pub grown_after-requires-clause-room : goal.grown_after-requires-clause-room
grown_after-requires-clause-room c =
    (asked_of c.args.old.now c.args.layout.now.parts c.args.chains.now c.args.change.now.change c.args.added.now
    c.requires (λ i. let byte = c.type_inv.old i in omega arith)).room

pub grown_len-requires-clause-front : goal.grown_len-requires-clause-front
grown_len-requires-clause-front c =
    (asked_of c.args.old.now c.args.layout.now.parts c.args.chains.now c.args.change.now.change c.args.added.now
    c.requires (λ i. let byte = c.type_inv.old i in omega arith)).front

pub grown_head-requires-clause-sectors : goal.grown_head-requires-clause-sectors
grown_head-requires-clause-sectors c =
    (asked_of c.args.old.now c.args.layout.now.parts c.args.chains.now c.args.change.now.change c.args.added.now
    c.requires (λ i. let byte = c.type_inv.old i in omega arith)).entries

pub grown_head-requires-clause-there : goal.grown_head-requires-clause-there
grown_head-requires-clause-there c =
    (asked_of c.args.old.now c.args.layout.now.parts c.args.chains.now c.args.change.now.change c.args.added.now
    c.requires (λ i. let byte = c.type_inv.old i in omega arith)).there

pub returns : goal.returns
returns c =
    let view = ap (λ (x : OldChains). x.table_entry) c.chains.view_is in
    let size = ap (λ (xs : List ℕ). length xs) (c.as_slice.ensures ∙ ap (λ (x : NamedChange). x.change.table)
    c.change.view_is) in
    let start = c.fresh_from.ensures in
    let first : NewHead = record {
      entry = c.chains.inside.table_entry;
      start = c.fresh_from.result;
      size = length c.as_slice.result.now;
    } in
    record {
      roles = subst (λ n. AreRoles n (sectors_of_parts c.args.old.now c.args.layout.now.parts c.args.chains.now
          c.args.added.now) c.in_ok-roles.roles.items) c.sectors_after-count.ensures c.in_ok-roles.ensures;
      fat = c.in_ok-fat.ensures;
      mini = c.in_ok-mini.ensures;
      grown = c.in_ok-grown.ensures;
      table = c.in_ok-table.ensures;
      grown_head = c.grown_head.ensures ∙ ap (λ n. record {
        entry = c.args.chains.now.grown_entry;
        start = entry_start c.args.old.now (entry_place c.args.layout.now.parts.directory
            c.args.chains.now.grown_entry);
        size = n;
      }) c.grown_len.ensures;
      table_head = head_is first c.args.chains.now.table_entry (fresh_from c.args.added.now) (length
          c.args.change.now.change.table) view start size;
    }
