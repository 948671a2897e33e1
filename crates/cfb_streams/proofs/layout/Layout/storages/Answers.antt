use Rattle.std.proofs.Common.{length, subst, sym, ap}
use Rattle.cfb_directory.specs.Order.{ListsFilled}
use Rattle.cfb_streams.specs.Container.{AreNamesOf, ListsStorages}
use Rattle.cfb_streams.proofs.layout.Layout.storages.Goals as goal

pub names_of-requires : goal.names_of-requires
names_of-requires c =
    subst (ListsFilled c.self.inside.entries.file c.self.inside.entries.directory) (sym c.deref.ensures.value)
    c.in_ok-listed.ensures

pub returns : goal.returns
returns c =
    let entries = c.self.inside.entries in
    let named = subst (λ l. AreNamesOf entries.file entries.directory l (length l) c.in_ok-names.names.items)
    c.deref.ensures.value c.in_ok-names.ensures in
    subst (λ p. ListsStorages p.file c.in_ok-names.names.items) c.self.view_is (record {
      directory = entries.directory;
      is_directory = c.self.invariant.is_layout.are_entries.is_directory;
      entries = c.in_ok-listed.listed.items;
      lists = c.in_ok-listed.ensures;
      named = named;
    })
