use Rattle.std.proofs.Common.{◌≡◌, ◌≤◌, ◌<◌, ◌*◌, ◌+◌, ℕ, min, length, take, slice_index, sym, ap, subst, arith}
use Rattle.std.specs.List.{flat_map}
use Rattle.cfb_sectors.specs.Header.{sector_bytes}
use Rattle.cfb_sectors.specs.Tables.{table_at}
use Rattle.cfb_streams.proofs.GatherLemmas.{whole_size, read_holds, walked_holds}
use Rattle.cfb_streams.proofs.gather.read_chain.Goals as goal

pub join-requires : goal.join-requires
join-requires c =
    let at = c.deref.ensures.value in
    let unit = ap (λ h. h.unit) c.claim.view_is in
    let holds = walked_holds (table_at c.args.table.now) c.args.claim.now c.claim.inside.start c.args.claims.now
    c.claim_chain.new.self c.in_ok-walked.walked c.in_ok-walked.ensures.range c.requires.is_whole
    (ap (λ h. h.start) c.claim.view_is) c.in_ok-walked.ensures.takes
    (omega (arith, c.valid.ensures, c.if-walked-valid.false)) in
    let inside : (i : ℕ) → i < length c.deref.result.now →
    c.args.base + slice_index c.deref.result.now i * c.claim.inside.unit + c.claim.inside.unit ≤ length
    c.args.stored.now =
    λ i h.
    let low = holds.chain.path.within i (subst (λ xs. i < length xs) at h) in
    subst (λ u. c.args.base + slice_index c.deref.result.now i * u + u ≤ length c.args.stored.now) (sym unit)
    (subst (λ xs. c.args.base + slice_index xs i * c.args.claim.now.unit + c.args.claim.now.unit ≤ length
    c.args.stored.now) (sym at)
    (c.requires.inside (slice_index c.in_ok-walked.walked.path.items i) low)) in
    record { inside = inside }

pub returns-clause-read : goal.returns-clause-read
returns-clause-read c =
    let holds = walked_holds (table_at c.args.table.now) c.args.claim.now c.claim.inside.start c.args.claims.now
    c.claim_chain.new.self c.in_ok-walked.walked c.in_ok-walked.ensures.range c.requires.is_whole
    (ap (λ h. h.start) c.claim.view_is) c.in_ok-walked.ensures.takes
    (omega (arith, c.valid.ensures, c.if-walked-valid.false)) in
    let len = subst (λ h. length c.in_ok-bytes.bytes.items ≡ min h.size
    (length c.in_ok-walked.walked.path.items * h.unit)) c.claim.view_is
    (subst (λ xs. length c.in_ok-bytes.bytes.items ≡ min c.claim.inside.size (length xs * c.claim.inside.unit))
    c.deref.ensures.value c.in_ok-bytes.ensures.len) in
    record {
      holds = holds;
      joined = subst
          (λ h. c.in_ok-bytes.bytes.items ≡ take h.size
          (flat_map (sector_bytes c.args.base h.unit c.args.stored.now) c.in_ok-walked.walked.path.items))
          c.claim.view_is
          (subst (λ xs. c.in_ok-bytes.bytes.items ≡ take c.claim.inside.size
          (flat_map (sector_bytes c.args.base c.claim.inside.unit c.args.stored.now) xs)) c.deref.ensures.value
          c.in_ok-bytes.ensures.joined);
      len = whole_size (length c.in_ok-bytes.bytes.items) c.args.claim.now.size
          (length c.in_ok-walked.walked.path.items * c.args.claim.now.unit) len holds.enough;
    }

pub returns-clause-takes : goal.returns-clause-takes
returns-clause-takes c =
    let holds = read_holds (table_at c.args.table.now) c.args.claim.now c.claim.inside.start c.args.claims.now
    c.claim_chain.new.self c.in_ok-walked.walked c.in_ok-walked.ensures.range c.requires.is_whole
    (ap (λ h. h.start) c.claim.view_is) c.in_ok-walked.ensures.takes in
    record { sectors = holds.0; holds = holds.1.0; takes = holds.1.1.takes }

pub returns-then-walked-valid-clause-takes : goal.returns-then-walked-valid-clause-takes
returns-then-walked-valid-clause-takes c =
    let holds = read_holds (table_at c.args.table.now) c.args.claim.now c.claim.inside.start c.args.claims.now
    c.claim_chain.new.self c.in_ok-walked.walked c.in_ok-walked.ensures.range c.requires.is_whole
    (ap (λ h. h.start) c.claim.view_is) c.in_ok-walked.ensures.takes in
    record { sectors = holds.0; holds = holds.1.0; takes = holds.1.1.takes }

pub returns-then-walked-valid-clause-read : goal.returns-then-walked-valid-clause-read
returns-then-walked-valid-clause-read c = λ unshared.
    let holds = read_holds (table_at c.args.table.now) c.args.claim.now c.claim.inside.start c.args.claims.now
    c.claim_chain.new.self c.in_ok-walked.walked c.in_ok-walked.ensures.range c.requires.is_whole
    (ap (λ h. h.start) c.claim.view_is) c.in_ok-walked.ensures.takes in
    unshared c.in_ok-walked.walked.next (holds.1.1.met (omega (arith, c.valid.ensures, c.if-walked-valid.true)))
