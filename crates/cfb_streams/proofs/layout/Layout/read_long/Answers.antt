use Rattle.std.proofs.Common.{◌≡◌, sym, ap, ◌∙◌, subst}
use Rattle.doc_bits.specs.Rules.{Nowhere}
use Rattle.cfb_sectors.specs.Chain.{BreaksChain, fat_table}
use Rattle.cfb_sectors.specs.Claims.{IsClosedClaim}
use Rattle.cfb_sectors.specs.Tables.{table_at, fat_place}
use Rattle.cfb_streams.proofs.GatherLemmas.{long_right, takes_long, long_marks, long_stream}
use Rattle.cfb_streams.proofs.layout.Layout.read_long.Goals as goal

pub read_chain-requires-clause-is_whole : goal.read_chain-requires-clause-is_whole
read_chain-requires-clause-is_whole c =
    let is_fat = subst (λ p. c.self.inside.fat ≡ fat_place p.file) c.self.view_is
    c.self.invariant.is_fat in
    subst (λ t. Nowhere (BreaksChain (table_at t) c.args.claim.now)) (sym is_fat)
    (subst (λ h. Nowhere (BreaksChain (fat_table c.args.self.now.file) h))
    (sym c.requires.is_claim)
    (long_right c.args.self.now.file c.args.self.now.parts.directory c.args.self.now.parts.mini_fat c.args.entry
    c.requires.is_whole c.requires.is_large))

pub read_chain-requires-clause-closed : goal.read_chain-requires-clause-closed
read_chain-requires-clause-closed c =
    let is_fat = subst (λ p. c.self.inside.fat ≡ fat_place p.file) c.self.view_is
    c.self.invariant.is_fat in
    subst (λ t. IsClosedClaim (table_at t) c.args.taken.now.sectors) (sym is_fat) c.requires.marks.sectors_closed

pub returns-in_default-clause-takes : goal.returns-in_default-clause-takes
returns-in_default-clause-takes c =
    let is_fat = subst (λ p. c.self.inside.fat ≡ fat_place p.file) c.self.view_is
    c.self.invariant.is_fat in
    takes_long c.args.self.now c.self.inside.fat c.args.claim.now c.args.entry c.args.taken.now
    c.read_chain.new.claims is_fat c.requires.is_large c.requires.is_claim c.in_ok-read.ensures.takes

pub returns-in_default-clause-marks : goal.returns-in_default-clause-marks
returns-in_default-clause-marks c =
    let is_fat = subst (λ p. c.self.inside.fat ≡ fat_place p.file) c.self.view_is
    c.self.invariant.is_fat in
    long_marks c.args.self.now c.self.inside.fat c.args.claim.now c.args.taken.now c.read_chain.new.claims
    is_fat c.in_ok-read.ensures.takes c.in_ok-read.ensures.marks c.requires.marks

pub returns-clause-takes : goal.returns-clause-takes
returns-clause-takes c =
    let is_fat = subst (λ p. c.self.inside.fat ≡ fat_place p.file) c.self.view_is
    c.self.invariant.is_fat in
    takes_long c.args.self.now c.self.inside.fat c.args.claim.now c.args.entry c.args.taken.now
    c.read_chain.new.claims is_fat c.requires.is_large c.requires.is_claim c.in_ok-read.ensures.takes

pub returns-clause-marks : goal.returns-clause-marks
returns-clause-marks c =
    let is_fat = subst (λ p. c.self.inside.fat ≡ fat_place p.file) c.self.view_is
    c.self.invariant.is_fat in
    long_marks c.args.self.now c.self.inside.fat c.args.claim.now c.args.taken.now c.read_chain.new.claims
    is_fat c.in_ok-read.ensures.takes c.in_ok-read.ensures.marks c.requires.marks

pub returns-clause-stream : goal.returns-clause-stream
returns-clause-stream c =
    let is_fat = subst (λ p. c.self.inside.fat ≡ fat_place p.file) c.self.view_is
    c.self.invariant.is_fat in
    let read = rw c.in-Some.is at c.in_ok-read.ensures.read in
    long_stream c.args.self.now c.self.inside.fat c.args.claim.now c.args.entry c.file-file.result.now
    c.args.name.items c.in-Some.read.bytes.items c.in-Some.read.sectors.items is_fat c.requires.is_claim
    (c.file-file.ensures ∙ ap (λ p. p.file) c.self.view_is)
    c.requires.is_large.is_entry c.requires.is_name c.requires.is_large read
