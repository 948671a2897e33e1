-- The properties of a file are shown, or its container breaks a rule.
use Rattle.std.proofs.Common.{◌≡◌, ℕ, List, refl, inl, inr}
use Rattle.doc_bits.specs.Places.{Place, IsFirstPlace}
use Rattle.doc_bits.specs.Rules.{Hold}
use Rattle.doc_outer.specs.declared.sink.Sink.{Ghosts}
use Rattle.property_text.specs.Printable.{HasNoControls}
use Rattle.run_stages.specs.Lines.{rule_line}
use Rattle.run_stages.specs.Outcomes.{Outcome, says}
use Rattle.docview_run.specs.Endings.{RunEnds}
use Rattle.docview_run.specs.FileProperties.{PropertiesOf, rules_in_file}
use Rattle.docview_run.proofs.EndLemmas.{ends_weaker, told_ends}

-- their page was printed
pub page_ends : {K : Type 0} (sink : Ghosts K) (out after : K) (name file text : List ℕ) (status : ℕ) →
    Hold (rules_in_file file) → HasNoControls text →
    RunEnds (λ outcome. outcome ≡ says 0 text) sink out after status →
    RunEnds (PropertiesOf name file) sink out after status
page_ends sink out after name file text status holds plain =
    ends_weaker (λ outcome. outcome ≡ says 0 text) (PropertiesOf name file) sink out after status
    (λ outcome is. inr (holds, record { text = text; plain = plain; ends = is }))

-- a rule is broken
pub page_refused : {K : Type 0} (sink : Ghosts K) (out : K) (name file : List ℕ) (rule : ℕ) (place : Place) →
    IsFirstPlace (rules_in_file file) rule place → RunEnds (PropertiesOf name file) sink out out 1
page_refused sink out name file rule place first =
    told_ends (PropertiesOf name file) sink out (says 1 (rule_line name rule place)) 1 refl (inl (inl refl))
    (inl (record { rule = rule; place = place; first = first; ends = refl }))
