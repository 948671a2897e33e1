-- A run that edits a document has one ending, but for the bytes of a last save that is fast.
use Rattle.std.proofs.Common.{◌≡◌, ◌∙◌, inl, inr, sym, ap, subst, ℕ, ◌≤◌, List, length, Bool, true, false, Some}
use Rattle.std.proofs.Common.{arith}
use Rattle.std.proofs.lemmas.List.{length-map}
use Rattle.edit_script.specs.declared.commands.Command.{Command}
use Rattle.edit_script.specs.Json.{list_of}
use Rattle.edit_script.specs.Shapes.{command_of}
use Rattle.edit_script.specs.Scripts.{most_commands, EndsWithSave, IsScript}
use Rattle.edit_script.proofs.Public.{script_one, fault_is_one}
use Rattle.script_run.specs.declared.faults.Stop.{Stop}
use Rattle.script_run.specs.declared.running.Saved.{Saved}
use Rattle.script_run.specs.declared.faults.RunFault.{RunFault}
use Rattle.script_run.specs.declared.faults.RunFault.TheVariants.{Stopped}
use Rattle.script_run.specs.Ends.{IsSavedBy, IsRunFault, IsAcceptedScript}
use Rattle.script_run.specs.States.{RunState}
use Rattle.script_run.specs.Commands.{listed}
use Rattle.script_run.proofs.Public.{ends_once}
use Rattle.document_commands.specs.declared.reply.Reply.{Reply}
use Rattle.document_commands.specs.declared.reply.Reply.TheVariants.{Made, Refused}
use Rattle.document_commands.specs.declared.reply.Refusal.TheVariants.{Script}
use Rattle.run_stages.specs.Outcomes.{Outcome, puts}
use Rattle.document_commands.specs.Replies.{outcome_of, EndsByReply}
use Rattle.doc_run.specs.EditLines.{script_line, stop_line, edited_line}
use Rattle.doc_run.specs.Edits.{refusal_of, script_counts_line, PutsLastSave, SavesLast, Edits, EditsBy}
use Rattle.doc_run.proofs.AlikeLemmas.{IsOne, one_same, one_when, puts_alike}

-- a script has no more commands than a run takes
pub script_few : (bytes : List ℕ) (commands : List Command) → IsScript bytes commands → length commands ≤ most_commands
script_few bytes commands is =
    let members = list_of is.members in
    let few = is.are.few in
    let spelt = length-map members command_of in
    let there = length-map commands Some in
    let each = ap length is.are.each in
    omega (arith, few, spelt, there, each)

-- what a script that was run leaves is made
pub saved_made :
    (start : RunState) (commands : List Command) (saved : Saved) (answer : Reply) → IsSavedBy start commands saved →
    answer ≡ Made (edited_line saved.commands saved.saves.fast saved.saves.full) saved.image →
    Edits start commands answer
saved_made start commands saved answer is ends =
    let commands_same = is.count in
    let fast_same = is.fast in
    let full_same = is.full in
    inr (record {
      accepted = is.accepted;
      image = saved.image;
      last = is.image;
      ends = ends ∙ (λ i. Made (edited_line (commands_same i) (fast_same i) (full_same i)) saved.image);
    })

-- the line of a script that stops names where it does
pub stops_run :
    (start : RunState) (commands : List Command) (fault : RunFault) (index : ℕ) (stop : Stop) (answer : Reply) →
    IsRunFault start (listed commands) fault → fault ≡ Stopped index stop →
    answer ≡ Refused (refusal_of stop) (stop_line index stop) → Edits start commands answer
stops_run start commands fault index stop answer is same ends =
    inl
    (record { index = index; stop = stop; at = subst (λ f. IsRunFault start (listed commands) f) same is; ends = ends })

in_full :
    (commands : List Command) (full : Bool) → SavesLast full commands → ¬ (SavesLast false commands) →
    SavesLast true commands
in_full commands true last closed = last
in_full commands false last closed = absurd (closed last)

-- the last save is a full one, where it is no fast one
last_in_full :
    (commands : List Command) → EndsWithSave commands → ¬ (SavesLast false commands) → SavesLast true commands
last_in_full commands ends closed = in_full commands ends.full ends.last closed

-- a run ends so that replies so
of_reply :
    (out : List ℕ) (outcome : Outcome) (reply answer : Reply) → outcome ≡ outcome_of (Some out) reply →
    reply ≡ answer → outcome ≡ outcome_of (Some out) answer
of_reply out outcome reply answer ends is = ends ∙ ap (outcome_of (Some out)) is

saves_one :
    (start : RunState) (commands : List Command) (out : List ℕ) (a b : Outcome) (one other : Reply) →
    EndsWithSave commands → a ≡ outcome_of (Some out) one → b ≡ outcome_of (Some out) other →
    PutsLastSave start commands one → PutsLastSave start commands other → IsOne (SavesLast false commands) a b
saves_one start commands out a b one other ends ea eb x y =
    let line = script_counts_line commands in
    let of_a : a ≡ puts line out x.image = of_reply out a one (Made line x.image) ea x.ends in
    let of_b : b ≡ puts line out y.image = of_reply out b other (Made line y.image) eb y.ends in (
      puts_alike line out x.image y.image a b of_a of_b,
      λ closed.
          let full = last_in_full commands ends closed in
          let image : x.image ≡ y.image = x.last.full full ∙ sym (y.last.full full) in
          of_a ∙ (ap (λ i. puts line out i) image ∙ sym of_b),
    )

one_stop :
    (i j : ℕ) (stop other : Stop) → i ≡ j → stop ≡ other →
    Refused (refusal_of stop) (stop_line i stop) ≡ Refused (refusal_of other) (stop_line j other)
one_stop i j stop other at cause = λ k. Refused (refusal_of (cause k)) (stop_line (at k) (cause k))

-- one reply makes one ending
replied_one :
    (free : Type 0) (out : List ℕ) (a b : Outcome) (one other : Reply) → a ≡ outcome_of (Some out) one →
    b ≡ outcome_of (Some out) other → one ≡ other → IsOne free a b
replied_one free out a b one other ea eb same =
    one_same free a b (of_reply out a one other ea same ∙ sym eb)

-- one ending of commands
edits_one :
    (start : RunState) (commands : List Command) (out : List ℕ) (a b : Outcome) (one other : Reply) →
    EndsWithSave commands → a ≡ outcome_of (Some out) one → b ≡ outcome_of (Some out) other →
    Edits start commands one → Edits start commands other → IsOne (SavesLast false commands) a b
edits_one start commands out a b one other ends ea eb (inl x) (inl y) =
    let index = ends_once.index start (listed commands) x.index y.index x.stop y.stop x.at y.at in
    let stop = ends_once.cause start (listed commands) x.index y.index x.stop y.stop x.at y.at in
    replied_one (SavesLast false commands) out a b one other ea eb
    (x.ends ∙ (one_stop x.index y.index x.stop y.stop index stop ∙ sym y.ends))
edits_one start commands out a b one other ends ea eb (inl x) (inr y) =
    absurd (ends_once.none start (listed commands) x.index x.stop y.accepted x.at)
edits_one start commands out a b one other ends ea eb (inr x) (inl y) =
    absurd (ends_once.none start (listed commands) y.index y.stop x.accepted y.at)
edits_one start commands out a b one other ends ea eb (inr x) (inr y) =
    saves_one start commands out a b one other ends ea eb x y

-- one ending of bytes
by_one :
    (free : Type 0) (start : RunState) (out bytes : List ℕ) (a b : Outcome) (one other : Reply) →
    ((commands : List Command) → IsScript bytes commands → SavesLast false commands → free) →
    a ≡ outcome_of (Some out) one → b ≡ outcome_of (Some out) other → EditsBy start bytes one →
    EditsBy start bytes other → IsOne free a b
by_one free start out bytes a b one other fast ea eb (inl x) (inl y) =
    replied_one free out a b one other ea eb
    (x.ends
    ∙ (ap (λ f. Refused Script (script_line f)) (fault_is_one.one bytes x.fault y.fault x.cause y.cause x.is y.is)
    ∙ sym y.ends))
by_one free start out bytes a b one other fast ea eb (inl x) (inr y) =
    absurd (fault_is_one.none bytes y.commands x.fault x.cause y.is x.is)
by_one free start out bytes a b one other fast ea eb (inr x) (inl y) =
    absurd (fault_is_one.none bytes x.commands y.fault y.cause x.is y.is)
by_one free start out bytes a b one other fast ea eb (inr x) (inr y) =
    let same : x.commands ≡ y.commands = script_one bytes x.commands y.commands x.is y.is in
    let edits = subst (λ c. Edits start c one) same x.edits in
    one_when (SavesLast false y.commands) free a b (fast y.commands y.is)
    (edits_one start y.commands out a b one other y.is.are.ends ea eb edits y.edits)

pub edited_one :
    (free : Type 0) (start : RunState) (out bytes : List ℕ) (a b : Outcome) →
    ((commands : List Command) → IsScript bytes commands → SavesLast false commands → free) →
    EndsByReply (Some out) (EditsBy start bytes) a → EndsByReply (Some out) (EditsBy start bytes) b → IsOne free a b
edited_one free start out bytes a b fast x y =
    by_one free start out bytes a b x.reply y.reply fast x.ends y.ends x.is y.is

-- a script that is accepted is no refusal
made_of : (start : RunState) (commands : List Command) (answer : Reply) → IsAcceptedScript start commands →
    Edits start commands answer → PutsLastSave start commands answer
made_of start commands answer accepted (inl x) =
    absurd (ends_once.none start (listed commands) x.index x.stop accepted x.at)
made_of start commands answer accepted (inr x) = x

run_of : (start : RunState) (bytes : List ℕ) (commands : List Command) (answer : Reply) → IsScript bytes commands →
    EditsBy start bytes answer → Edits start commands answer
run_of start bytes commands answer is (inl x) = absurd (fault_is_one.none bytes commands x.fault x.cause is x.is)
run_of start bytes commands answer is (inr x) =
    let same : x.commands ≡ commands = script_one bytes x.commands commands x.is is in
    subst (λ c. Edits start c answer) same x.edits

pub edited_done :
    (start : RunState) (out bytes : List ℕ) (commands : List Command) (outcome : Outcome) → IsScript bytes commands →
    IsAcceptedScript start commands → EndsByReply (Some out) (EditsBy start bytes) outcome → outcome.status ≡ 0
edited_done start out bytes commands outcome is accepted x =
    let made = made_of start commands x.reply accepted (run_of start bytes commands x.reply is x.is) in
    ap (λ (o : Outcome). o.status)
    (of_reply out outcome x.reply (Made (script_counts_line commands) made.image) x.ends made.ends)
