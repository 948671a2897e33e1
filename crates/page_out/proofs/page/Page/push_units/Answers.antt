use Rattle.std.proofs.Common.{◌-◌, List, ℕ, drop, length, subst, sym, take}
use Rattle.page_out.specs.Printed.{Prints}
use Rattle.page_out.proofs.EncodingLemmas.{front_more}
use Rattle.page_out.proofs.PrintLemmas.{put_then}
use Rattle.page_out.proofs.page.Page.push_units.Goals as goal
use Rattle.doc_bits.proofs.Public.{part_within}

pub loop-done-preserved : goal.loop-done-preserved
loop-done-preserved g c =
    let old = c.loop-done in
    let put = c.push_front-done in
    let units = c.args.units.now in
    let rest = take (length units - old.done) (drop old.done units) in
    record {
      inside = part_within units old.done put.result old.invariant.inside put.ensures.inside;
      text =
          subst (λ (text : List ℕ). Prints g.K.Sink c.args.out.now c.args.self.now put.new.out put.new.self text)
          (sym (front_more units old.done put.result))
          (put_then g.K.Sink c.args.out.now old.out put.new.out c.args.self.now old.self put.new.self
          (take old.done units) (take put.result rest) old.invariant.text put.ensures.text);
    }
