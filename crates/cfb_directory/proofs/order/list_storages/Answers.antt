use Rattle.std.proofs.Common.{◌≡◌, ℕ, length, refl, subst, arith}
use Rattle.cfb_directory.specs.Storages.{IsStorageWithChild, IsFilledStorage}
use Rattle.cfb_directory.proofs.OrderLemmas.{ListsFront, front_put, front_all, name_length, name_short}
use Rattle.cfb_directory.proofs.order.list_storages.Goals as goal

pub loop-entry-preserved : goal.loop-entry-preserved
loop-entry-preserved c =
    front_put c.args.file.now c.args.directory.now c.args.order.now
    (IsStorageWithChild c.args.file.now c.args.directory.now) c.loop-entry.entry-index _
    c.loop-entry.entries.items c.put_storage.new.entries.items c.requires.lists c.requires.names
    c.requires.directory_is.holds.chain.path.distinct c.loop-entry-test.true refl c.loop-entry.invariant
    c.in_ok-put_storage.ensures

pub returns : goal.returns
returns c =
    let wanted : ℕ → Type 0 = IsStorageWithChild c.args.file.now c.args.directory.now in
    let e : c.loop-entry.entry-index ≡ length c.args.order.now = omega arith in
    front_all c.args.file.now c.args.directory.now c.args.order.now wanted
    (IsFilledStorage c.args.file.now c.args.directory.now) c.loop-entry.entries.items
    (λ k is filled. record { reached = is; filled = filled }) (λ k is. is.reached) (λ k is. is.filled) c.requires.lists
    (subst (λ n. ListsFront c.args.file.now c.args.directory.now c.args.order.now wanted n c.loop-entry.entries.items) e
    c.loop-entry.invariant)

pub put_storage-requires-clause-short : goal.put_storage-requires-clause-short
put_storage-requires-clause-short c =
    name_short _
    (name_length c.args.file.now c.args.directory.now _ c.requires.names
    (c.requires.lists.sound c.loop-entry.entry-index c.loop-entry-test.true))
