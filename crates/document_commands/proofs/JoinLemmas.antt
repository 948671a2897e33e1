-- Joining two documents has one reply, and is served where they can be joined.
use Rattle.std.proofs.Common.{◌≡◌, ◌∙◌, inl, inr, ap, sym, subst, ℕ, arith}
use Rattle.std.specs.Prelude.{codes}
use Rattle.doc_bits.specs.declared.places.Where.{Where}
use Rattle.doc_bits.specs.Places.{Upto}
use Rattle.doc_bits.proofs.Public.{place_one, hold_or_first, first_agrees}
use Rattle.doc_model.specs.declared.document.Document.{Document}
use Rattle.plain_doc.specs.Sound.{document_rules}
use Rattle.plain_doc.proofs.Public.{document_rules-IsSingle}
use Rattle.doc_join.specs.declared.fault.JoinFault.{JoinFault}
use Rattle.doc_join.specs.declared.fault.JoinFault.TheVariants as fault
use Rattle.doc_join.specs.Join.{document_join}
use Rattle.doc_join.specs.Faults.{IsJoinFault}
use Rattle.document_commands.specs.declared.reply.Reply.{Reply}
use Rattle.document_commands.specs.declared.reply.Reply.TheVariants.{Refused}
use Rattle.document_commands.specs.declared.reply.Refusal.TheVariants.{Unsound}
use Rattle.run_stages.specs.Lines.{rule_line}
use Rattle.document_commands.specs.Joins.{SavesJoined, HasTooManyStyles, BreaksRuleJoined, Joins, CanJoin}
use Rattle.document_commands.specs.Replies.{IsNoRefusal}
use Rattle.document_commands.proofs.SaveLemmas.{saved_one, saved_done}

-- the line of a broken rule has its cause
pub unsound_said : (first second : Document) (refusal : JoinFault) (rule : ℕ) (part : Where) (at : ℕ) (reply : Reply) →
    IsJoinFault first second refusal → refusal ≡ fault.Unsound rule part at →
    reply ≡ Refused Unsound (rule_line (codes "join") rule (part, at)) → Joins first second reply
unsound_said first second refusal rule part at reply is same said =
    let facts : IsJoinFault first second (fault.Unsound rule part at) =
    subst (λ f. IsJoinFault first second f) same is in
    inr (inr (record { fits = facts.0; rule = rule; place = (part, at); names = facts.1; is = said }))

-- the cases exclude one another
made_or_styles : (first second : Document) (a b : Reply) → SavesJoined first second a →
    HasTooManyStyles first second b → ⊥
made_or_styles first second a b x y = let fits = x.fits in let over = y.over in omega arith

rule_or_styles : (first second : Document) (a b : Reply) → BreaksRuleJoined first second a →
    HasTooManyStyles first second b → ⊥
rule_or_styles first second a b x y = let fits = x.fits in let over = y.over in omega arith

made_or_rule : (first second : Document) (a b : Reply) → SavesJoined first second a →
    BreaksRuleJoined first second b → ⊥
made_or_rule first second a b x y =
    let joined = document_join first second in
    hold_or_first Upto (document_rules joined) y.rule y.place (document_rules-IsSingle joined) x.sound.rules y.names

rule_one : (first second : Document) (a b : Reply) → BreaksRuleJoined first second a →
    BreaksRuleJoined first second b → a ≡ b
rule_one first second a b x y =
    let rules = document_rules (document_join first second) in
    let single = document_rules-IsSingle (document_join first second) in
    let xy = first_agrees Upto rules x.rule y.rule x.place y.place single x.names y.names in
    let yx = first_agrees Upto rules y.rule x.rule y.place x.place single y.names x.names in
    let places : x.place ≡ y.place = place_one x.place y.place xy.1 yx.1 in
    x.is
    ∙ ap (λ r. Refused Unsound (rule_line (codes "join") r x.place)) xy.0
    ∙ ap (λ p. Refused Unsound (rule_line (codes "join") y.rule p)) places
    ∙ sym y.is

pub join_one : (first second : Document) (a b : Reply) → Joins first second a → Joins first second b → a ≡ b
join_one first second a b (inl x) (inl y) = saved_one _ (document_join first second) a b x.saves y.saves
join_one first second a b (inl x) (inr (inl y)) = absurd (made_or_styles first second a b x y)
join_one first second a b (inl x) (inr (inr y)) = absurd (made_or_rule first second a b x y)
join_one first second a b (inr (inl x)) (inl y) = absurd (made_or_styles first second b a y x)
join_one first second a b (inr (inl x)) (inr (inl y)) = x.is ∙ sym y.is
join_one first second a b (inr (inl x)) (inr (inr y)) = absurd (rule_or_styles first second b a y x)
join_one first second a b (inr (inr x)) (inl y) = absurd (made_or_rule first second b a y x)
join_one first second a b (inr (inr x)) (inr (inl y)) = absurd (rule_or_styles first second a b x y)
join_one first second a b (inr (inr x)) (inr (inr y)) = rule_one first second a b x y

-- it is served where the documents can be joined
pub join_done : (first second : Document) (reply : Reply) → CanJoin first second → Joins first second reply →
    IsNoRefusal reply
join_done first second reply can (inl x) = saved_done _ (document_join first second) reply can.room x.saves
join_done first second reply can (inr (inl x)) =
    let fits = can.fits in let over = x.over in absurd (omega (arith, fits, over))
join_done first second reply can (inr (inr x)) =
    let joined = document_join first second in
    absurd (hold_or_first Upto (document_rules joined) x.rule x.place (document_rules-IsSingle joined) can.sound.rules
    x.names)
