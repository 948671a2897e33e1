use Rattle.std.proofs.Common.{◌≡◌, ◌+◌, ◌*◌, ◌≤◌, ◌<◌, length, sym, ap, ◌∙◌, subst, arith}
use Rattle.doc_bits.specs.Rules.{Nowhere}
use Rattle.cfb_sectors.specs.Chain.{BreaksChain}
use Rattle.cfb_sectors.specs.Claims.{IsClosedClaim}
use Rattle.cfb_sectors.specs.Tables.{table_at}
use Rattle.cfb_sectors.proofs.Public.{whole_length}
use Rattle.cfb_streams.specs.StreamRules.{mini_table_of}
use Rattle.cfb_streams.specs.FoundParts.{mini_place}
use Rattle.cfb_streams.specs.Container.{mini_bytes}
use Rattle.cfb_streams.proofs.GatherLemmas.{short_right, mini_inside, takes_short, short_marks, short_stream}
use Rattle.cfb_streams.proofs.layout.Layout.read_short.Goals as goal

pub read_chain-requires-clause-is_whole : goal.read_chain-requires-clause-is_whole
read_chain-requires-clause-is_whole c =
    let is_mini = subst (λ p. c.self.inside.mini ≡ mini_place p.file p.parts.directory p.parts.mini_fat) c.self.view_is
    c.self.invariant.is_mini in
    subst (λ t. Nowhere (BreaksChain (table_at t) c.args.claim.now)) (sym is_mini)
    (subst
    (λ h. Nowhere (BreaksChain
    (mini_table_of c.args.self.now.file c.args.self.now.parts.directory c.args.self.now.parts.mini_fat) h))
    (sym c.requires.is_claim)
    (short_right c.args.self.now.file c.args.self.now.parts.directory c.args.self.now.parts.mini_fat c.args.entry
    c.requires.is_whole c.requires.is_small))

pub read_chain-requires-clause-closed : goal.read_chain-requires-clause-closed
read_chain-requires-clause-closed c =
    let is_mini = subst (λ p. c.self.inside.mini ≡ mini_place p.file p.parts.directory p.parts.mini_fat) c.self.view_is
    c.self.invariant.is_mini in
    subst (λ t. IsClosedClaim (table_at t) c.args.taken.now.minis) (sym is_mini) c.requires.marks.minis_closed

pub read_chain-requires-clause-inside : goal.read_chain-requires-clause-inside
read_chain-requires-clause-inside c = λ s low.
    let valid = ap (λ t. t.valid) c.self.invariant.is_mini in
    let stored = c.deref.ensures.value ∙ c.self.invariant.joined in
    let unit = ap (λ h. h.unit) c.requires.is_claim in
    let room : s * 64 + 64 ≤ length c.deref.result.now =
    mini_inside c.self.inside.entries.file c.self.inside.entries.directory c.self.inside.mini.sectors
    c.self.inside.mini_stream.items c.deref.result.now s
    (whole_length c.self.inside.entries.file c.self.invariant.is_layout.opening.0)
    c.self.invariant.is_layout.mini_stream stored (subst (λ n. s < n) valid low) in
    subst (λ u. 0 + s * u + u ≤ length c.deref.result.now) (sym unit) (omega arith)

pub returns-in_default-clause-takes : goal.returns-in_default-clause-takes
returns-in_default-clause-takes c =
    let is_mini = subst (λ p. c.self.inside.mini ≡ mini_place p.file p.parts.directory p.parts.mini_fat) c.self.view_is
    c.self.invariant.is_mini in
    takes_short c.args.self.now c.self.inside.mini c.args.claim.now c.args.entry c.args.taken.now
    c.read_chain.new.claims is_mini c.requires.is_small c.requires.is_claim c.in_ok-read.ensures.takes

pub returns-in_default-clause-marks : goal.returns-in_default-clause-marks
returns-in_default-clause-marks c =
    let is_mini = subst (λ p. c.self.inside.mini ≡ mini_place p.file p.parts.directory p.parts.mini_fat) c.self.view_is
    c.self.invariant.is_mini in
    short_marks c.args.self.now c.self.inside.mini c.args.claim.now c.args.taken.now c.read_chain.new.claims
    is_mini c.in_ok-read.ensures.takes c.in_ok-read.ensures.marks c.requires.marks

pub returns-clause-takes : goal.returns-clause-takes
returns-clause-takes c =
    let is_mini = subst (λ p. c.self.inside.mini ≡ mini_place p.file p.parts.directory p.parts.mini_fat) c.self.view_is
    c.self.invariant.is_mini in
    takes_short c.args.self.now c.self.inside.mini c.args.claim.now c.args.entry c.args.taken.now
    c.read_chain.new.claims is_mini c.requires.is_small c.requires.is_claim c.in_ok-read.ensures.takes

pub returns-clause-marks : goal.returns-clause-marks
returns-clause-marks c =
    let is_mini = subst (λ p. c.self.inside.mini ≡ mini_place p.file p.parts.directory p.parts.mini_fat) c.self.view_is
    c.self.invariant.is_mini in
    short_marks c.args.self.now c.self.inside.mini c.args.claim.now c.args.taken.now c.read_chain.new.claims
    is_mini c.in_ok-read.ensures.takes c.in_ok-read.ensures.marks c.requires.marks

pub returns-clause-stream : goal.returns-clause-stream
returns-clause-stream c =
    let is_mini = subst (λ p. c.self.inside.mini ≡ mini_place p.file p.parts.directory p.parts.mini_fat) c.self.view_is
    c.self.invariant.is_mini in
    let read = rw c.in-Some.is at c.in_ok-read.ensures.read in
    short_stream c.args.self.now c.self.inside.mini c.args.claim.now c.args.entry c.deref.result.now
    c.args.name.items c.in-Some.read.bytes.items c.in-Some.read.sectors.items is_mini c.requires.is_claim
    (subst (λ p. c.deref.result.now ≡ mini_bytes p.file p.parts) c.self.view_is
    (c.deref.ensures.value ∙ c.self.invariant.joined))
    c.requires.is_small.is_entry c.requires.is_name c.requires.is_small read
