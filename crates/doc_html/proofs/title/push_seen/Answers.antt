use Rattle.std.proofs.Common.{◌≡◌, ◌∙◌, ◌∷◌, [], ℕ, List, Option, length, sym, ap, arith}
use Rattle.std.specs.List.{cons_option}
use Rattle.doc_html.proofs.TitleLemmas.{full_title, item_units, longer_title, same_title}
use Rattle.doc_html.proofs.title.push_seen.Goals as goal

pub returns-then-len-ge-LONGEST_TITLE : goal.returns-then-len-ge-LONGEST_TITLE
returns-then-len-ge-LONGEST_TITLE c =
    let few = c.requires in
    let full = c.if-len-ge-LONGEST_TITLE.true in
    let long : length c.as_slice-len.result.now ≡ length c.args.title.now = ap length c.as_slice-len.ensures in
    full_title c.args.title.now (item_units c.args.seen.now) (omega (arith, few, full, long))

pub returns-in-None : goal.returns-in-None
returns-in-None c =
    same_title c.args.title.now (item_units c.args.seen.now) c.requires
    (ap (λ (unit : Option ℕ). cons_option unit []) (sym c.in-None.is ∙ c.seen_unit.ensures))

pub returns-in_ok-push_all-in-Some : goal.returns-in_ok-push_all-in-Some
returns-in_ok-push_all-in-Some c =
    let short = c.if-len-ge-LONGEST_TITLE.false in
    let long : length c.as_slice-len.result.now ≡ length c.args.title.now = ap length c.as_slice-len.ensures in
    longer_title c.args.title.now c.push_all.new.self (item_units c.args.seen.now) c.in-Some.unit (omega (
      arith,
      short,
      long,
    )) c.in_ok-push_all-in-Some.ensures.ok
    (ap (λ (unit : Option ℕ). cons_option unit []) (sym c.in-Some.is ∙ c.seen_unit.ensures))
