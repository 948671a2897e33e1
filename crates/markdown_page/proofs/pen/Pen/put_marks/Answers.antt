use Rattle.std.proofs.Common.{◌≡◌, ◌+◌, ◌<◌, ◌≤◌, ◌++◌, ℕ, arith, subst}
use Rattle.markdown_page.specs.Marks.{mark_text}
use Rattle.markdown_page.specs.Pieces.{markup, marks_text}
use Rattle.markdown_page.specs.Printed.{PutsTokens}
use Rattle.markdown_page.proofs.TokenLemmas.{marks_next, markups_then, tokens_none}
use Rattle.markdown_page.proofs.pen.Pen.put_marks.Goals as goal

pub loop-done-init : goal.loop-done-init
loop-done-init g c = record {
  puts = tokens_none g.K.Sink c.args.out.now c.args.self.now;
  within = omega arith;
}

pub loop-done-preserved : goal.loop-done-preserved
loop-done-preserved g c =
    let old = c.loop-done in
    let put = c.put_mark in
    let test = c.loop-done-test.true in
    record {
      puts =
          marks_next g.K.Sink c.args.out.now put.new.out c.args.self.now put.new.self c.args.mark old.done
          (markups_then g.K.Sink c.args.out.now old.out put.new.out c.args.self.now old.self put.new.self
          (marks_text c.args.mark old.done) (mark_text c.args.mark) old.invariant.puts put.ensures);
      within = omega (arith, test);
    }

pub returns : goal.returns
returns g c =
    let old = c.loop-done in
    let test = c.loop-done-test.false in
    let within = old.invariant.within in
    let all : old.done ≡ c.args.count = omega (arith, test, within) in
    subst (λ (count : ℕ). PutsTokens g.K.Sink c.args.out.now c.args.self.now old.out old.self (markup (marks_text
    c.args.mark count))) all old.invariant.puts
