-- A stretch more.
use Rattle.std.proofs.Common.{◌≡◌, ◌∙◌, refl, sym, subst, ℕ, ◌<◌, ◌≤◌, ◌-◌, ◌+◌, Option, MatchOption, arith}
use Rattle.std.proofs.lemmas.Bool.{true≢false}
use Rattle.std.specs.Prelude.{IfSome}
use Rattle.doc_read.specs.declared.reading.PieceReader.{PieceReader}
use Rattle.doc_read.specs.Passing.{AddsEach}
use Rattle.doc_read.specs.Reading.{ArePassed, HaveValidMarks, IsPieceReader, TextView}
use Rattle.doc_read.proofs.AddLemmas.{adds_more, adds_none}
use Rattle.doc_read.specs.Attached.{IsAttachedAt}
use Rattle.doc_read.proofs.PageLemmas.{marks_join, marks_within}
use Rattle.doc_read.proofs.attached.push_attachments.Goals as goal

pub loop-cp-init : goal.loop-cp-init
loop-cp-init c =
    let is = IsAttachedAt c.args.part.now.view c.args.reader.now.characters.modifier in
    let none : 0 ≡ c.args.piece.cp - c.args.piece.cp = omega arith in
    record {
      begun = omega arith;
      within = c.requires.ordered;
      same = refl;
      right = λ at upper lower _. absurd (omega (arith, upper, lower));
      added = subst (λ n. AddsEach is n c.args.attachments.now c.args.attachments.now) none (adds_none is
          c.args.attachments.now);
      passed = c.requires.passed;
    }

pub push_stretch-requires-clause-reader : goal.push_stretch-requires-clause-reader
push_stretch-requires-clause-reader c =
    subst (IsPieceReader c.args.part.now.view) (sym c.loop-cp.invariant.same) c.requires.reader

pub push_stretch-requires-clause-here : goal.push_stretch-requires-clause-here
push_stretch-requires-clause-here c =
    omega (arith, c.loop-cp.invariant.added.len, c.requires.here, c.loop-cp.invariant.begun)

-- what is known of the next CP
abbrev IsValidNext : TextView → ℕ → ℕ → Option ℕ → Type 0
IsValidNext view cp end next = MatchOption next (¬ (HaveValidMarks view cp end)) (HaveValidMarks view cp)

pub loop-cp-preserved : goal.loop-cp-preserved
loop-cp-preserved c =
    let view = c.args.part.now.view in
    let cp = c.loop-cp.cp in
    let next = c.in-Some.next in
    let on = subst (λ (o : Option ℕ). IfSome o (λ n. cp < n)) c.in-Some.is c.in_ok-next.ensures.on in
    let inside = subst (λ (o : Option ℕ). IfSome o (λ n. n ≤ c.args.piece.end)) c.in-Some.is
    c.in_ok-next.ensures.inside in
    let added = subst
    (λ (o : Option ℕ). IfSome o (λ n. AddsEach (IsAttachedAt view c.loop-cp.reader.characters.modifier) (n - cp)
    c.loop-cp.attachments c.push_stretch.new.attachments)) c.in-Some.is c.in_ok-next.ensures.attachments in
    let more = subst
    (λ (r : PieceReader). AddsEach (IsAttachedAt view r.characters.modifier) (next - cp) c.loop-cp.attachments
    c.push_stretch.new.attachments) c.loop-cp.invariant.same added in
    let sum : next - c.args.piece.cp ≡ (cp - c.args.piece.cp) + (next - cp) =
    omega (arith, c.loop-cp.invariant.begun, on) in
    record {
      begun = omega (arith, c.loop-cp.invariant.begun, on);
      within = inside;
      same = c.in_ok-next.ensures.same ∙ c.loop-cp.invariant.same;
      right = marks_join view c.args.piece.cp cp next c.loop-cp.invariant.right
          (subst (IsValidNext view cp c.args.piece.end) c.in-Some.is c.in_ok-next.ensures.right);
      added =
          adds_more (IsAttachedAt view c.args.reader.now.characters.modifier) (cp - c.args.piece.cp) (next - cp) _
          c.args.attachments.now c.loop-cp.attachments c.push_stretch.new.attachments c.loop-cp.invariant.added more
          sum;
      passed =
          subst (λ (o : Option ℕ). IfSome o (ArePassed view.marks c.push_stretch.new.passed)) c.in-Some.is
          c.in_ok-next.ensures.passed;
    }

pub returns-in_default-clause-right : goal.returns-in_default-clause-right
returns-in_default-clause-right c = (
  λ t. absurd (true≢false (sym t)),
  λ all.
      let view = c.args.part.now.view in
      absurd
      (subst (IsValidNext view c.loop-cp.cp c.args.piece.end) c.in_default.is c.in_ok-next.ensures.right
      (marks_within view c.args.piece.cp c.args.piece.end c.loop-cp.cp c.args.piece.end c.loop-cp.invariant.begun
      (omega arith) all)),
)

pub returns-clause-right : goal.returns-clause-right
returns-clause-right c =
    let all : c.loop-cp.cp ≡ c.args.piece.end = omega (arith, c.loop-cp.invariant.within) in (
      λ _. subst (HaveValidMarks c.args.part.now.view c.args.piece.cp) all c.loop-cp.invariant.right,
      λ _. refl,
    )
