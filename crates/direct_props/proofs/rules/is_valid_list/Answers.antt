use Rattle.std.proofs.Common.{◌+◌, ◌*◌, sym, subst, arith}
use Rattle.direct_props.specs.GrpprlCache.{HaveNoFault}
use Rattle.direct_props.proofs.KeptLemmas.{right_in_page, faultless_in_stream, one_faultless, like_faultless}
use Rattle.direct_props.proofs.rules.is_valid_list.Goals as goal

pub returns-in-Some-clause-right : goal.returns-in-Some-clause-right
returns-in-Some-clause-right c = λ _.
    right_in_page c.args.kind c.args.wd.now c.args.number c.args.range.0 c.args.range.1 (omega (
      arith,
      c.style_len.ensures,
    )) (omega arith)
    (like_faultless c.args.kind c.args.wd.now c.args.known.now c.in-Some._met (512 * c.args.number + c.args.range.0)
    (512 * c.args.number + c.args.range.1) c.requires.known c.in-Some.ensures.found)

pub returns-in_ok-add-in-Some-list_in-clause-known : goal.returns-in_ok-add-in-Some-list_in-clause-known
returns-in_ok-add-in-Some-list_in-clause-known c =
    subst (HaveNoFault c.args.kind c.args.wd.now) (sym c.in_ok-add-in-Some-list_in.ensures.ok)
    (one_faultless c.args.kind c.args.wd.now c.number_at.new.self (512 * c.args.number + c.args.range.0)
    (512 * c.args.number + c.args.range.1)
    (subst (HaveNoFault c.args.kind c.args.wd.now) (sym c.number_at.ensures.same) c.requires.known)
    (faultless_in_stream c.args.kind c.args.wd.now c.args.number c.args.range.0 c.args.range.1
    c.in-Some-list_in.ensures.0))

pub returns-in-Some-clause-known : goal.returns-in-Some-clause-known
returns-in-Some-clause-known c =
    subst (HaveNoFault c.args.kind c.args.wd.now) (sym c.number_at.ensures.same) c.requires.known

pub returns-in-None-clause-known : goal.returns-in-None-clause-known
returns-in-None-clause-known c =
    subst (HaveNoFault c.args.kind c.args.wd.now) (sym c.number_at.ensures.same) c.requires.known
