-- Endings by a reply: their status, and what they put.
use Rattle.std.proofs.Common.{◌≡◌, ◌≢◌, ◌⊎◌, ◌∙◌, inl, inr, refl, ap, sym, subst, ℕ, ◌<◌, List, []}
use Rattle.std.proofs.Common.{Option, Some, None, arith}
use Rattle.std.proofs.lemmas.Option.{none-some}
use Rattle.document_commands.specs.declared.reply.Reply.{Reply}
use Rattle.document_commands.specs.declared.reply.Reply.TheVariants.{Done, Made, Refused}
use Rattle.document_commands.specs.declared.reply.Refusal.{Refusal}
use Rattle.document_commands.specs.declared.reply.Refusal.TheVariants.{Script, Json, Position, Edit, Styles, Unsound}
use Rattle.document_commands.specs.declared.reply.Refusal.TheVariants.{Save}
use Rattle.document_commands.specs.declared.reply.Refusal.TheVariants.{Guarded, Different, NoSummary, WrongSummary}
use Rattle.run_stages.specs.Outcomes.{Outcome, PutFile, says, IsAfterReading}
use Rattle.document_commands.specs.Replies.{status_of, outcome_of, EndsByReply, IsNoRefusal}

refusal_inside : (why : Refusal) → IsAfterReading (status_of why)
refusal_inside Script = inr (omega arith)
refusal_inside Json = inr (omega arith)
refusal_inside Position = inr (omega arith)
refusal_inside Edit = inr (omega arith)
refusal_inside Styles = inr (omega arith)
refusal_inside Unsound = inr (omega arith)
refusal_inside Save = inr (omega arith)
refusal_inside Guarded = inr (omega arith)
refusal_inside Different = inr (omega arith)
refusal_inside NoSummary = inr (omega arith)
refusal_inside WrongSummary = inr (omega arith)

outcome_inside : (out : Option (List ℕ)) (reply : Reply) → IsAfterReading (outcome_of out reply).status
outcome_inside out (Done text) = inl (omega arith)
outcome_inside None (Made text bytes) = inl (omega arith)
outcome_inside (Some name) (Made text bytes) = inl (omega arith)
outcome_inside out (Refused why text) = refusal_inside why

-- a run that ends by a reply has such a status
pub ends_inside :
    (out : Option (List ℕ)) (such : Reply → Type 0) (outcome : Outcome) → EndsByReply out such outcome →
    IsAfterReading outcome.status
ends_inside out such outcome ends =
    subst (λ (o : Outcome). IsAfterReading o.status) (sym ends.ends) (outcome_inside out ends.reply)

-- what prints alone puts nothing
says_nothing :
    (status : ℕ) (text : List ℕ) (file : PutFile) (X : Type 0) → (says status text).put ≡ Some file → X
says_nothing status text file X put = absurd (none-some file put)

-- the name of a file that is put
name_of : Option PutFile → List ℕ
name_of None = []
name_of (Some file) = file.name

outcome_put :
    (out : Option (List ℕ)) (reply : Reply) (file : PutFile) → (outcome_of out reply).put ≡ Some file →
    (out ≡ Some file.name) × ((outcome_of out reply).status ≡ 0)
unfolding name_of
outcome_put out (Done text) file put = says_nothing 0 text file _ put
outcome_put None (Made text bytes) file put = says_nothing 0 text file _ put
outcome_put (Some name) (Made text bytes) file put = (ap (λ p. Some (name_of p)) put, refl)
outcome_put out (Refused why text) file put = says_nothing (status_of why) text file _ put

-- what it puts has the name that is given, and then the status is 0
pub ends_put :
    (out : Option (List ℕ)) (such : Reply → Type 0) (outcome : Outcome) (file : PutFile) → EndsByReply out such outcome
    →
    outcome.put ≡ Some file → (out ≡ Some file.name) × (outcome.status ≡ 0)
ends_put out such outcome file ends put =
    let same = ends.ends in
    let said = outcome_put out ends.reply file (sym (ap (λ (o : Outcome). o.put) same) ∙ put) in
    (said.0, ap (λ (o : Outcome). o.status) same ∙ said.1)

outcome_done : (out : Option (List ℕ)) (reply : Reply) → IsNoRefusal reply → (outcome_of out reply).status ≡ 0
outcome_done out (Done text) done = refl
outcome_done None (Made text bytes) done = refl
outcome_done (Some name) (Made text bytes) done = refl
outcome_done out (Refused why text) done = absurd done

-- a run that ends by no refusal has status 0
pub ends_done :
    (out : Option (List ℕ)) (such : Reply → Type 0) (outcome : Outcome) →
    ((reply : Reply) → such reply → IsNoRefusal reply) →
    EndsByReply out such outcome → outcome.status ≡ 0
ends_done out such outcome done ends =
    ap (λ (o : Outcome). o.status) ends.ends ∙ outcome_done out ends.reply (done ends.reply ends.is)

-- one reply makes one ending
pub ends_one :
    (out : Option (List ℕ)) (such : Reply → Type 0) (a b : Outcome) →
    ((one other : Reply) → such one → such other → one ≡ other) → EndsByReply out such a → EndsByReply out such b → a ≡
    b
ends_one out such a b one x y = x.ends ∙ (ap (outcome_of out) (one x.reply y.reply x.is y.is) ∙ sym y.ends)

-- a reply of such a kind is one of another kind that takes it in
pub ends_weaker :
    (out : Option (List ℕ)) (such other : Reply → Type 0) (outcome : Outcome) →
    ((reply : Reply) → such reply → other reply) → EndsByReply out such outcome → EndsByReply out other outcome
ends_weaker out such other outcome step ends =
    record { reply = ends.reply; is = step ends.reply ends.is; ends = ends.ends }

-- an ending under the name that is given
pub ends_by :
    (out under : Option (List ℕ)) (such : Reply → Type 0) (reply : Reply) (outcome : Outcome) → such reply →
    under ≡ out → outcome ≡ outcome_of under reply → EndsByReply out such outcome
ends_by out under such reply outcome is same ends =
    record { reply = reply; is = is; ends = ends ∙ ap (λ o. outcome_of o reply) same }
