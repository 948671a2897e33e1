use Rattle.std.proofs.Common.{◌≡◌, [], ◌∷◌, ◌++◌, refl, sym, ap, ◌∙◌, subst, append_assoc}
use Rattle.std.proofs.lemmas.List.{append-nil}
use Rattle.std.specs.Prelude.{slice_range}
use Rattle.std.specs.Ordering.{nat_cmp}
use Rattle.std.specs.Option.{option_or}
use Rattle.std.specs.FinMap.{get, get-empty}
use Rattle.sprm_table.specs.Sprm.{Prl}
use Rattle.prop_map.specs.Acting.{value_after, style_named}
use Rattle.prop_map.proofs.ActingLemmas.{value_after-append, style_of-append}
use Rattle.prop_map.proofs.ChangeLemmas.{or_none}
use Rattle.prop_map.proofs.acting.act_on_draft.Goals as goal

pub loop-code-init : goal.loop-code-init
loop-code-init c =
    let start = c.new-prls.ensures in
    record {
      bytes = ap (λ s. s.bytes) start;
      so_far = λ prls h. record {
        done = [];
        others = prls;
        joined = refl;
        spelt = rw start h;
        map = λ code. c.in_ok-put_all.ensures code ∙ (ap (option_or (get c.args.map.now code)) (ap (λ m. get m code)
            c.new-draft.ensures ∙ get-empty nat_cmp code) ∙ or_none (get c.args.map.now code));
        style = refl;
      };
    }

pub loop-code-preserved : goal.loop-code-preserved
loop-code-preserved c =
    let bytes = c.loop-code.invariant.bytes in
    let entry : Prl = (c.in-Some.code.0, slice_range c.args.list.now c.in-Some.from c.in-Some.to) in
    record {
      bytes = c.in-Some.ensures.given.bytes ∙ bytes;
      so_far = λ prls h.
          let before = c.loop-code.invariant.so_far prls h in
          let step = c.in-Some.ensures.taken before.others before.spelt in
          let is = subst (λ b. before.others ≡ (c.in-Some.code.0, slice_range b c.in-Some.from c.in-Some.to) ∷
          step.others) bytes step.is in
          record {
            done = before.done ++ (entry ∷ []);
            others = step.others;
            joined = before.joined ∙ (ap (λ o. before.done ++ o) is ∙ sym (append_assoc before.done (entry ∷ [])
                step.others));
            spelt = step.left;
            map = λ code. c.in_ok-act.ensures code ∙ (ap (value_after (entry ∷ []) c.args.groups code)
                (before.map code) ∙ sym (value_after-append before.done (entry ∷ []) c.args.groups code
                (get c.args.map.now code)));
            style = c.style-istd.ensures ∙ (ap (option_or (style_named (entry ∷ []) c.args.groups)) before.style ∙ sym
                (style_of-append before.done (entry ∷ []) c.args.groups));
          };
    }

pub returns : goal.returns
returns c = λ prls h.
    let before = c.loop-code.invariant.so_far prls h in
    let none = c.in_default.ensures.taken before.others before.spelt in
    let all : before.done ≡ prls = sym (append-nil before.done) ∙ (ap (λ o. before.done ++ o) (sym none) ∙ sym
    before.joined) in
    record {
      map = λ code. ap (λ m. get m code) c.in_ok-into_map.ensures ∙ subst (λ l. get c.loop-code.draft code ≡
          value_after l c.args.groups code (get c.args.map.now code)) all (before.map code);
      style = subst (λ l. c.loop-code.istd ≡ style_named l c.args.groups) all before.style;
    }
