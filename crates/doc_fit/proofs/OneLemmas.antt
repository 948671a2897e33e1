-- A file is refused in one way, and has one list of what is left out.
use Rattle.std.proofs.Common.{◌≡◌, ◌⊎◌, ◌∙◌, inl, inr, sym, ap, subst, ℕ, List, ◌++◌, arith}
use Rattle.doc_bits.specs.Number.{AreBytes, u16_at}
use Rattle.doc_bits.specs.Places.{Place, Upto}
use Rattle.doc_bits.proofs.Public.{place_one, first_agrees}
use Rattle.cfb_streams.specs.Contents.{Contents, HasNamed}
use Rattle.cfb_streams.specs.Names.{wd_name}
use Rattle.cfb_streams.proofs.Public.{contents_unique, storages_unique}
use Rattle.file_rules.specs.Units.{text_units}
use Rattle.file_rules.specs.FileRules.{FileText, HasFileText}
use Rattle.file_rules.proofs.Public.{named_one, text_one}
use Rattle.loss_report.specs.Features.{Inventory}
use Rattle.text_losses.specs.declared.features.TextFeature.{TextFeature}
use Rattle.code_losses.proofs.Public.{losses_one}
use Rattle.run_stages.specs.Outcomes.{Outcome, says}
use Rattle.doc_fit.specs.Lines.{not_word_line}
use Rattle.doc_fit.specs.Rules.{fit_rules}
use Rattle.doc_fit.specs.Refusals.{HasMainStream, EndsAt, IsAnotherRule, IsFitRefused}
use Rattle.doc_fit.specs.Losses.{HasInventory, AreFitLines, list_parts, fit_lines, other_losses}
use Rattle.doc_fit.proofs.MeaningLemmas.{fit_single}

-- ---- refusals

main_one : (file : List ℕ) (a b : HasMainStream file) → a.wd ≡ b.wd
main_one file a b =
    let same : a.contents ≡ b.contents = contents_unique file a.contents b.contents a.has b.has in
    named_one file b.contents wd_name a.wd b.wd b.has
    (subst (λ (c : Contents). HasNamed c.streams wd_name a.wd) same a.named) b.named

-- a rule on the program is not that on encryption, and neither is another rule
no_program : (rule : ℕ) (P : Type 0) → (rule ≡ 17) ⊎ (rule ≡ 18) → rule ≡ 19 → P
no_program rule P (inl e) is = absurd (omega (arith, e, is))
no_program rule P (inr e) is = absurd (omega (arith, e, is))

no_other : (rule : ℕ) (P : Type 0) → (rule ≡ 17) ⊎ (rule ≡ 18) → IsAnotherRule rule → P
no_other rule P (inl e) other = absurd (other.not_ident e)
no_other rule P (inr e) other = absurd (other.not_version e)

refusal_one : (file name : List ℕ) (rule : ℕ) (place : Place) (a b : Outcome) → EndsAt file name rule place a →
    EndsAt file name rule place b → a ≡ b
refusal_one file name rule place a b (inl x) (inl y) =
    let one = x.1 in
    let other = y.1 in
    one.ends
    ∙ (ap (λ (wd : List ℕ). says 15 (not_word_line name (u16_at wd 0) (u16_at wd 2)))
    (main_one file one.stream other.stream) ∙ sym other.ends)
refusal_one file name rule place a b (inl x) (inr (inl y)) = no_program rule (a ≡ b) x.0 y.0
refusal_one file name rule place a b (inl x) (inr (inr y)) = no_other rule (a ≡ b) x.0 y.0
refusal_one file name rule place a b (inr (inl x)) (inl y) = no_program rule (a ≡ b) y.0 x.0
refusal_one file name rule place a b (inr (inl x)) (inr (inl y)) = x.1 ∙ sym y.1
refusal_one file name rule place a b (inr (inl x)) (inr (inr y)) =
    let other = y.0 in absurd (other.not_encrypted x.0)
refusal_one file name rule place a b (inr (inr x)) (inl y) = no_other rule (a ≡ b) y.0 x.0
refusal_one file name rule place a b (inr (inr x)) (inr (inl y)) =
    let other = x.0 in absurd (other.not_encrypted y.0)
refusal_one file name rule place a b (inr (inr x)) (inr (inr y)) = x.1 ∙ sym y.1

pub refused_one : (file name : List ℕ) (a b : Outcome) → AreBytes file → IsFitRefused file name a →
    IsFitRefused file name b → a ≡ b
refused_one file name a b bytes x y =
    let single = fit_single file bytes in
    let xy = first_agrees Upto (fit_rules file) x.rule y.rule x.place y.place single x.first y.first in
    let yx = first_agrees Upto (fit_rules file) y.rule x.rule y.place x.place single y.first x.first in
    let places : x.place ≡ y.place = place_one x.place y.place xy.1 yx.1 in
    refusal_one file name y.rule y.place a b
    (subst (λ p. EndsAt file name y.rule p a) places (subst (λ r. EndsAt file name r x.place a) xy.0 x.ends)) y.ends

-- ---- what is left out

-- what a file has, by its parts
abbrev inventory_by : Contents → List (List ℕ) → (wd units : List ℕ) → Inventory
inventory_by container storages wd units =
    record { outer = record { container = container; storages = storages }; wd = wd; units = units }

same_inventory : (a b : Inventory) → a.outer.container ≡ b.outer.container → a.outer.storages ≡ b.outer.storages →
    a.wd ≡ b.wd → a.units ≡ b.units → a ≡ b
same_inventory a b contents storages wd units =
    let inner = b.outer.container in
    let names = b.outer.storages in
    let first : a ≡ inventory_by inner a.outer.storages a.wd a.units =
    ap (λ (c : Contents). inventory_by c a.outer.storages a.wd a.units) contents in
    let second : inventory_by inner a.outer.storages a.wd a.units ≡ inventory_by inner names a.wd a.units =
    ap (λ (s : List (List ℕ)). inventory_by inner s a.wd a.units) storages in
    let third : inventory_by inner names a.wd a.units ≡ inventory_by inner names b.wd a.units =
    ap (λ (w : List ℕ). inventory_by inner names w a.units) wd in
    let last : inventory_by inner names b.wd a.units ≡ b =
    ap (λ (u : List ℕ). inventory_by inner names b.wd u) units in
    first ∙ (second ∙ (third ∙ last))

pub inventory_one : (file : List ℕ) (a b : Inventory) → HasInventory file a → HasInventory file b → a ≡ b
inventory_one file a b x y =
    let contents : a.outer.container ≡ b.outer.container =
    contents_unique file a.outer.container b.outer.container x.has_contents y.has_contents in
    let storages : a.outer.storages ≡ b.outer.storages =
    storages_unique file a.outer.storages b.outer.storages x.storages y.storages in
    let there : HasFileText b.outer.container x.text = subst (λ c. HasFileText c x.text) contents x.has_text in
    let text : x.text ≡ y.text =
    text_one file b.outer.container x.text y.text y.has_contents there y.has_text in
    let wd : a.wd ≡ b.wd = x.wd ∙ (ap (λ (t : FileText). t.wd) text ∙ sym y.wd) in
    let units : a.units ≡ b.units =
    x.units ∙ (ap (λ (t : FileText). text_units t.wd t.pieces) text ∙ sym y.units) in
    same_inventory a b contents storages wd units

-- the text that the streams of a file name
pub text_same : (file : List ℕ) (a b : Inventory) → (x : HasInventory file a) → (y : HasInventory file b) → x.text ≡ y.text
text_same file a b x y =
    let contents : a.outer.container ≡ b.outer.container =
    contents_unique file a.outer.container b.outer.container x.has_contents y.has_contents in
    let there : HasFileText b.outer.container x.text = subst (λ c. HasFileText c x.text) contents x.has_text in
    text_one file b.outer.container x.text y.text y.has_contents there y.has_text

pub lines_one : (text : FileText) (inventory : Inventory) (a b : List (List ℕ)) → AreFitLines text inventory a →
    AreFitLines text inventory b → a ≡ b
lines_one text inventory a b x y =
    let texts : x.texts ≡ y.texts =
    losses_one (list_parts text.wd text.table) x.texts y.texts x.texts_are y.texts_are in
    x.are
    ∙ (ap (λ (t : List TextFeature). fit_lines inventory (t ++ other_losses text.wd text.table)) texts
    ∙ sym y.are)
