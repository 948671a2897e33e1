use Rattle.std.proofs.Common.{◌≡◌, ℕ, length, refl, subst, arith}
use Rattle.cfb_directory.specs.Directory.{entry_type}
use Rattle.cfb_directory.specs.Reach.{entry_place}
use Rattle.cfb_directory.specs.StreamEntries.{IsStreamEntry}
use Rattle.cfb_directory.proofs.OrderLemmas.{ListsFront, front_put, front_all, name_length, name_short}
use Rattle.cfb_directory.proofs.order.list_streams.Goals as goal

pub loop-entry-preserved : goal.loop-entry-preserved
loop-entry-preserved c =
    front_put c.args.file.now c.args.directory.now c.args.order.now
    (λ k. entry_type c.args.file.now (entry_place c.args.directory.now k) ≡ 2) c.loop-entry.entry-index _
    c.loop-entry.entries.items c.put_stream.new.entries.items c.requires.lists c.requires.names
    c.requires.directory_is.holds.chain.path.distinct c.loop-entry-test.true refl c.loop-entry.invariant
    c.in_ok-put_stream.ensures

pub returns-clause-lists : goal.returns-clause-lists
returns-clause-lists c =
    let wanted : ℕ → Type 0 = λ k. entry_type c.args.file.now (entry_place c.args.directory.now k) ≡ 2 in
    let e : c.loop-entry.entry-index ≡ length c.args.order.now = omega arith in
    front_all c.args.file.now c.args.directory.now c.args.order.now wanted
    (IsStreamEntry c.args.file.now c.args.directory.now) c.loop-entry.entries.items
    (λ k is two. record { reached = is; stream = two }) (λ k is. is.reached) (λ k is. is.stream) c.requires.lists
    (subst (λ n. ListsFront c.args.file.now c.args.directory.now c.args.order.now wanted n c.loop-entry.entries.items) e
    c.loop-entry.invariant)

pub put_stream-requires-clause-short : goal.put_stream-requires-clause-short
put_stream-requires-clause-short c =
    name_short _
    (name_length c.args.file.now c.args.directory.now _ c.requires.names
    (c.requires.lists.sound c.loop-entry.entry-index c.loop-entry-test.true))
