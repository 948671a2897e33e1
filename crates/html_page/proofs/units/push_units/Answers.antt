-- The units, some at once.
use Rattle.std.proofs.Common.{◌≡◌, ℕ, List, [], drop, length, sym, ap, arith}
use Rattle.std.specs.Prelude.{slice_range}
use Rattle.std.proofs.lemmas.List.{drop_all}
use Rattle.std.proofs.lemmas.List.Folds.{drop_split}
use Rattle.html_text.specs.Tokens.{printed}
use Rattle.html_page.specs.Pages.{characters}
use Rattle.html_page.proofs.PutLemmas.{put_as, tokens_none, units_on, units_put, units_start}
use Rattle.html_page.proofs.units.push_units.Goals as goal

pub loop-done-init : goal.loop-done-init
loop-done-init g c = record {
  inside = omega arith;
  units = units_start g.K.Sink c.args.out.now c.args.page.now c.args.units.now;
}

pub loop-done-preserved : goal.loop-done-preserved
loop-done-preserved g c =
    let units = c.args.units.now in
    let old = c.loop-done in
    let some = c.push_some-done in
    let ahead = some.ensures.ahead in
    record {
      inside = some.ensures.within;
      units =
          units_on g.K.Sink c.args.out.now old.out some.new.out c.args.page.now old.page some.new.page units (drop
          old.done units) (slice_range units old.done some.result) (drop some.result units) (drop_split units old.done
          some.result (omega (arith, ahead))) old.invariant.units some.ensures.puts;
    }

pub returns : goal.returns
returns g c =
    let units = c.args.units.now in
    let old = c.loop-done in
    let left : drop old.done units ≡ [] = drop_all old.done units (omega arith) in
    units_put g.K.Sink c.args.out.now old.out old.out c.args.page.now old.page old.page units (drop old.done units)
    old.invariant.units
    (put_as g.K.Sink old.out old.out old.page old.page (printed (characters [])) (printed (characters (drop old.done
    units))) (ap (λ (text : List ℕ). printed (characters text)) (sym left)) (tokens_none g.K.Sink old.out old.page))
