use Rattle.std.proofs.Common.{◌≡◌, ◌∙◌, ◌<◌, ℕ, [], length, sym, ap, subst, arith, true, false, get_or}
use Rattle.std.proofs.lemmas.Bool.{cases_lt}
use Rattle.std.proofs.Common.{inl, inr}
use Rattle.cfb_streams.specs.Contents.{NamedBytes}
use Rattle.cfb_streams.specs.Names.{is_same_name}
use Rattle.document_commands.specs.Summaries.{summary_name}
use Rattle.document_commands.proofs.SummaryLemmas.{summary_place-is, name_at}
use Rattle.document_commands.proofs.summary.summary_place.Goals as goal

pub returns-then-is_summary : goal.returns-then-is_summary
returns-then-is_summary c =
    let streams = c.args.streams.now in
    let none : NamedBytes = record { name = []; bytes = [] } in
    let within : c.loop-i.i < length streams = omega (arith, c.count-count.ensures.len) in
    let named = name_at streams c.loop-i.i none c.name.result.now within c.name.ensures in
    let test : is_same_name c.name.result.now summary_name ≡ true =
    sym c.is_summary.ensures ∙ c.if-is_summary.true in
    summary_place-is streams c.loop-i.i none (omega arith) c.loop-i.invariant
    (λ low. ap (λ n. is_same_name n summary_name) named ∙ test)

pub loop-i-preserved : goal.loop-i-preserved
loop-i-preserved c =
    let streams = c.args.streams.now in
    let none : NamedBytes = record { name = []; bytes = [] } in
    let within : c.loop-i.i < length streams = omega (arith, c.count-count.ensures.len) in
    let named = name_at streams c.loop-i.i none c.name.result.now within c.name.ensures in
    let test : is_same_name c.name.result.now summary_name ≡ false =
    sym c.is_summary.ensures ∙ c.if-is_summary.false in
    λ k low. elim (cases_lt k c.loop-i.i) [
      | inl before ↦ c.loop-i.invariant k before
      | inr high ↦
          let same : c.loop-i.i ≡ k = omega arith in
          subst (λ (j : ℕ). is_same_name (get_or streams j none).name summary_name ≡ false) same
          (ap (λ n. is_same_name n summary_name) named ∙ test)
    ]

pub returns : goal.returns
returns c =
    let streams = c.args.streams.now in
    let none : NamedBytes = record { name = []; bytes = [] } in
    let len : c.count-count.result ≡ length streams = c.count-count.ensures.len in
    summary_place-is streams c.count-count.result none (omega arith)
    (λ k low. c.loop-i.invariant k (omega (arith, c.loop-i-test.false))) (λ low. absurd (omega arith))
