use Rattle.std.proofs.Common.{◌≡◌, ◌++◌, ◌<◌, ◌∙◌, Some, None, [], ◌∷◌, refl, subst, arith, below_more, length-append}
use Rattle.doc_parts.specs.Table.{IsValidEntry, spelled_entry}
use Rattle.doc_parts.proofs.TableLemmas.{length-plc_entry, each_more}
use Rattle.doc_parts.proofs.tables.leading_entries.Goals as goal

pub read-requires : goal.read-requires
read-requires g c =
    let below : c.loop-k.k < c.args.plc.now.count = omega (arith, c.len-k-end.ensures) in
    rw c.entry.ensures (length-plc_entry c.args.plc.now c.loop-k.k c.requires.whole below ∙ c.requires.size)

pub loop-k-preserved : goal.loop-k-preserved
loop-k-preserved g c =
    let form = g.E.TableEntry.form in
    let items : c.push.new.self.items ≡ c.loop-k.list.items ++ c.in-Some.entry ∷ [] =
    c.in_ok-push-in-Some.ensures.items in
    let here : spelled_entry form c.args.plc.now c.loop-k.k ≡ Some c.in-Some.entry = cc in
    record {
      count = rw items (simp length-append (omega arith));
      each = each_more c.loop-k.list.items c.push.new.self.items c.in-Some.entry c.loop-k.k (spelled_entry form
          c.args.plc.now) items c.loop-k.invariant.count here c.loop-k.invariant.each;
      right = below_more (IsValidEntry form c.args.cps c.args.plc.now) c.loop-k.k c.loop-k.invariant.right
          (record { in_order = c.if-not-is_kept.ensures.0 refl; spelled = rw here refl });
    }

-- the entries so far, where the next one is wrong
pub returns-then-not-is_kept : goal.returns-then-not-is_kept
returns-then-not-is_kept g c =
    let form = g.E.TableEntry.form in
    let so_far = c.loop-k.invariant in
    let count = so_far.count in
    record {
      within = omega (arith, c.len-k-end.ensures);
      each = λ k low. so_far.each k (omega arith);
      right = λ k low. so_far.right k (omega arith);
      stop = λ low right.
          let here = subst (IsValidEntry form c.args.cps c.args.plc.now) count right in
          absurd (cc (c.if-not-is_kept.ensures.1 here.in_order));
    }

pub returns-in-None : goal.returns-in-None
returns-in-None g c =
    let form = g.E.TableEntry.form in
    let so_far = c.loop-k.invariant in
    let count = so_far.count in
    let none : spelled_entry form c.args.plc.now c.loop-k.k ≡ None = cc in
    record {
      within = omega (arith, c.len-k-end.ensures);
      each = λ k low. so_far.each k (omega arith);
      right = λ k low. so_far.right k (omega arith);
      stop = λ low right.
          let here = subst (IsValidEntry form c.args.cps c.args.plc.now) count right in
          let some = rw none at here.spelled in
          absurd (cc (some));
    }

pub returns : goal.returns
returns g c =
    let so_far = c.loop-k.invariant in
    let count = so_far.count in
    record {
      within = omega (arith, c.len-k-end.ensures);
      each = λ k low. so_far.each k (omega arith);
      right = λ k low. so_far.right k (omega arith);
      stop = λ low. absurd (omega (arith, c.len-k-end.ensures));
    }
