use Rattle.std.proofs.Common.{◌++◌, sym, ap, ◌∙◌, subst, append_assoc}
use Rattle.std.specs.List.{All, flat_map}
use Rattle.std.proofs.lemmas.List.{append-nil}
use Rattle.std.proofs.lemmas.List.Elements.{All-head, All-tail}
use Rattle.sprm_table.specs.Sprm.{IsPrl, spelling}
use Rattle.prop_map.proofs.PrintLemmas.{prls_of}
use Rattle.prop_map.proofs.map.PropMap.print_to.Goals as goal

pub loop-code-init : goal.loop-code-init
loop-code-init c = record {
  prls = subst (All IsPrl) (sym c.entries-left.ensures) (prls_of c.args.self.now c.requires);
  spelt = ap (λ es. c.args.bytes.now ++ flat_map spelling es) c.entries-left.ensures;
}

pub push_prl-requires : goal.push_prl-requires
push_prl-requires c = All-head IsPrl (c.in-Some.code.0, c.in-Some.value.now) c.next.new.self (subst (All IsPrl)
    c.in-Some.ensures c.loop-code.invariant.prls)

pub loop-code-preserved : goal.loop-code-preserved
loop-code-preserved c =
    record {
      prls = All-tail IsPrl (c.in-Some.code.0, c.in-Some.value.now) c.next.new.self (subst (All IsPrl)
          c.in-Some.ensures c.loop-code.invariant.prls);
      spelt = ap (λ b. b ++ flat_map spelling c.next.new.self) c.in_ok-push_prl.ensures
          ∙ (append_assoc c.loop-code.bytes (spelling (c.in-Some.code.0, c.in-Some.value.now)) (flat_map spelling
          c.next.new.self)
          ∙ (ap (λ es. c.loop-code.bytes ++ flat_map spelling es) (sym c.in-Some.ensures) ∙
          c.loop-code.invariant.spelt));
    }

pub returns : goal.returns
returns c = sym (append-nil c.loop-code.bytes) ∙ (ap (λ es. c.loop-code.bytes ++ flat_map spelling es)
    (sym c.in_default.ensures.0) ∙ c.loop-code.invariant.spelt)
