-- Bytes spell one script at most, and one fault.
use Rattle.std.proofs.Common.{◌≡◌, ◌⊎◌, inl, inr, ℕ, zero, suc, ◌+◌, ◌<◌, ◌≤◌, List, [], ◌∷◌, ◌++◌, map, length}
use Rattle.std.proofs.Common.{length-append, get_or, take, Option, Some, None, refl, sym, ap, ◌∙◌, subst, arith}
use Rattle.std.specs.Prelude.{Result, Ok, Err, MatchResult}
use Rattle.std.specs.Option.{option_map, option_and_then, unwrap_or}
use Rattle.std.specs.List.{slice_get}
use Rattle.std.proofs.lemmas.Bool.{cases_order}
use Rattle.std.proofs.lemmas.List.{length-map, map_push, take_more}
use Rattle.std.proofs.Math.ListN.{get_or-map}
use Rattle.std.proofs.lemmas.Option.{slice_get-map}
use Rattle.serde_json.specs.Data.{Data, array, Items, no_items, null, boolean, number, string, object}
use Rattle.serde_json.specs.View.{items_of, view}
use Rattle.serde_json.specs.declared.value.Value.{Value}
use Rattle.serde_json.specs.Find.{as_array}
use Rattle.edit_script.specs.declared.commands.Command.{Command}
use Rattle.edit_script.specs.declared.faults.ScriptFault.{ScriptFault}
use Rattle.edit_script.specs.declared.faults.ScriptFault.TheVariants.{Json, Shape, TooLong, Memory}
use Rattle.edit_script.specs.Json.{IsJson, list_of}
use Rattle.edit_script.specs.Shapes.{command_of}
use Rattle.edit_script.specs.Scripts.{most_commands, Spell, EndsWithSave, IsScriptOf, IsFirstMisfit, EndsWithoutSave}
use Rattle.edit_script.specs.Scripts.{SpellsArray, IsScript, IsMembersFault, IsScriptFault}
use Rattle.edit_script.specs.Laws.{ScriptIsOne, FaultIsOne, IsScriptCause}

-- ---- the commands of members

abbrev there : List (Option Command) → List Command
there [] = []
there (None ∷ others) = there others
there (Some command ∷ others) = command ∷ there others

there_some : (commands : List Command) → there (map Some commands) ≡ commands
there_some [] = refl
there_some (command ∷ commands) = ap (λ more. command ∷ more) (there_some commands)

pub spell_one : (members : List Data) (one other : List Command) → Spell members one → Spell members other → one ≡ other
spell_one members one other s t = sym (there_some one) ∙ ap there (sym s ∙ t) ∙ there_some other

none_spelt : (found : Option Command) → ◌≡◌ {A = Option (Option Command)} (Some None) (option_map Some found) → ⊥
none_spelt None e = absurd (cc (e))
none_spelt (Some command) e = absurd (cc (e))

-- no member that is spelt has no command
pub misfit_unspelt : (members : List Data) (commands : List Command) (index : ℕ) (value : Data) →
    Spell members commands → slice_get members index ≡ Some value → command_of value ≡ None → ⊥
misfit_unspelt members commands index value spelt at wrong =
    none_spelt (slice_get commands index)
    (ap Some (sym wrong) ∙ ap (option_map command_of) (sym at) ∙ sym (slice_get-map command_of members index)
    ∙ ap (λ found. slice_get found index) spelt ∙ slice_get-map Some commands index)

one_member : (members : List Data) (script grown : List Command) (index : ℕ) (value : Data) (command : Command) →
    index < length members → get_or members index value ≡ value → command_of value ≡ Some command → grown ≡ script ++
    command ∷ [] → Spell (take index members) script → Spell (take (index + 1) members) grown
one_member members script grown index value command within is spelt grows so_far =
    ap (map command_of) (take_more members index value within ∙ ap (λ v. take index members ++ v ∷ []) is)
    ∙ map_push command_of (take index members) value
    ∙ (λ i. so_far i ++ spelt i ∷ [])
    ∙ sym (map_push Some script command) ∙ ap (map Some) (sym grows)

-- the commands of one value more
pub one_value : (values : List Value) (script grown : List Command) (index : ℕ) (value : Value) (command : Command) →
    index < length values → value ≡ get_or values index value → command_of (view value) ≡ Some command →
    grown ≡ script ++ command ∷ [] → (length script ≡ index) × Spell (take index (map view values)) script →
    (length grown ≡ index + 1) × Spell (take (index + 1) (map view values)) grown
one_value values script grown index value command within is spelt grows so_far = (
  omega (arith, ap length grows, length-append script (command ∷ []), so_far.0),
  one_member (map view values) script grown index (view value) command (omega (arith, length-map values view, within))
      (get_or-map view values index value ∙ ap view (sym is)) spelt grows so_far.1,
)

slice_get-take : (members : List Data) (count index : ℕ) → index < count → slice_get (take count members) index ≡
    slice_get members index
slice_get-take members zero index below = absurd (omega arith)
slice_get-take [] (suc count) index below = refl
slice_get-take (member ∷ members) (suc count) zero below = refl
slice_get-take (member ∷ members) (suc count) (suc index) below = slice_get-take members count index (omega arith)

not_before : (members : List Data) (one other : ℕ) → IsFirstMisfit members one → IsFirstMisfit members other →
    one < other → ⊥
not_before members one other s t below =
    misfit_unspelt (take other members) t.commands one s.value t.before (slice_get-take members other one below ∙
    s.there) s.wrong

first_misfit_one : (members : List Data) (i j : ℕ) → IsFirstMisfit members i → IsFirstMisfit members j →
    (i ≡ j) ⊎ ((i < j) ⊎ (j < i)) → i ≡ j
first_misfit_one members i j s t (inl same) = same
first_misfit_one members i j s t (inr (inl below)) = absurd (not_before members i j s t below)
first_misfit_one members i j s t (inr (inr below)) = absurd (not_before members j i t s below)

-- ---- the value of bytes

abbrev items_in : Option Data → Items
items_in found = unwrap_or (option_and_then as_array found) no_items

pub array_one : (bytes : List ℕ) (one other : Items) → IsJson bytes (array one) → IsJson bytes (array other) →
    one ≡ other
array_one bytes one other s t = ap items_in (sym s.1 ∙ t.1)

pub array_or_not : (bytes : List ℕ) (items : Items) (value : Data) → IsJson bytes (array items) → IsJson bytes value →
    as_array value ≡ None → ⊥
array_or_not bytes items value s t none =
    let both : option_and_then as_array (Some (array items)) ≡ option_and_then as_array (Some value) = ap
    (option_and_then as_array) (sym s.1 ∙ t.1) in
    absurd (cc (both, none))

pub script_one : ScriptIsOne
script_one bytes one other s t =
    let same = array_one bytes s.members t.members s.json t.json in
    spell_one (list_of t.members) one other (subst (λ ms. Spell (list_of ms) one) same s.are.each) t.are.each

-- ---- faults

index_one : (members : List Data) (i j : ℕ) → IsFirstMisfit members i ⊎ EndsWithoutSave members i →
    IsFirstMisfit members j ⊎ EndsWithoutSave members j → i ≡ j
index_one members i j (inl s) (inl t) = first_misfit_one members i j s t (cases_order i j)
index_one members i j (inl s) (inr t) = absurd (misfit_unspelt members t.commands i s.value t.each s.there s.wrong)
index_one members i j (inr s) (inl t) = absurd (misfit_unspelt members s.commands j t.value s.each t.there t.wrong)
index_one members i j (inr s) (inr t) = s.here ∙ sym t.here

shape_one : (bytes : List ℕ) (i j : ℕ) → IsScriptFault bytes (Shape i) → IsScriptFault bytes (Shape j) → i ≡ j
shape_one bytes i j (inl s) (inl t) = s.0 ∙ sym t.0
shape_one bytes i j (inl s) (inr t) = absurd (array_or_not bytes t.members s.1.value t.json s.1.json s.1.none)
shape_one bytes i j (inr s) (inl t) = absurd (array_or_not bytes s.members t.1.value s.json t.1.json t.1.none)
shape_one bytes i j (inr s) (inr t) =
    let same = array_one bytes s.members t.members s.json t.json in
    index_one (list_of t.members) i j (subst (λ ms. IsFirstMisfit (list_of ms) i ⊎ EndsWithoutSave (list_of ms) i)
    same s.are.1) t.are.1

shape_or_long : (bytes : List ℕ) (index : ℕ) → IsScriptFault bytes (Shape index) → IsScriptFault bytes TooLong → ⊥
shape_or_long bytes index (inl s) t = array_or_not bytes t.members s.1.value t.json s.1.json s.1.none
shape_or_long bytes index (inr s) t =
    let same = array_one bytes s.members t.members s.json t.json in
    omega (arith, subst (λ ms. length (list_of ms) ≤ most_commands) same s.are.0, t.are)

shape_is_json : (bytes : List ℕ) (index : ℕ) → IsScriptFault bytes (Shape index) → IsScriptFault bytes Json → ⊥
shape_is_json bytes index (inl s) json = json s.1.value s.1.json
shape_is_json bytes index (inr s) json = json (array s.members) s.json

fault_one : (bytes : List ℕ) (one other : ScriptFault) → IsScriptCause one → IsScriptCause other → IsScriptFault bytes
    one →
    IsScriptFault bytes other → one ≡ other
fault_one bytes Json Json c d s t = refl
fault_one bytes Json (Shape j) c d s t = absurd (shape_is_json bytes j t s)
fault_one bytes Json TooLong c d s t = absurd (s (array t.members) t.json)
fault_one bytes (Shape i) Json c d s t = absurd (shape_is_json bytes i s t)
fault_one bytes (Shape i) (Shape j) c d s t = ap Shape (shape_one bytes i j s t)
fault_one bytes (Shape i) TooLong c d s t = absurd (shape_or_long bytes i s t)
fault_one bytes TooLong Json c d s t = absurd (t (array s.members) s.json)
fault_one bytes TooLong (Shape j) c d s t = absurd (shape_or_long bytes j t s)
fault_one bytes TooLong TooLong c d s t = refl
fault_one bytes Memory other c d s t = absurd c
fault_one bytes Json Memory c d s t = absurd d
fault_one bytes (Shape i) Memory c d s t = absurd d
fault_one bytes TooLong Memory c d s t = absurd d

shape_none : (members : List Data) (commands : List Command) (index : ℕ) → IsScriptOf members commands →
    IsFirstMisfit members index ⊎ EndsWithoutSave members index → ⊥
shape_none members commands index script (inl s) = misfit_unspelt members commands index s.value script.each s.there
    s.wrong
shape_none members commands index script (inr s) = s.no_save (subst EndsWithSave (spell_one members commands
    s.commands script.each s.each) script.ends)

fault_none : (bytes : List ℕ) (commands : List Command) (fault : ScriptFault) → IsScriptCause fault →
    IsScript bytes commands → IsScriptFault bytes fault → ⊥
fault_none bytes commands Json c script json = json (array script.members) script.json
fault_none bytes commands (Shape index) c script (inl s) = array_or_not bytes script.members s.1.value script.json
    s.1.json s.1.none
fault_none bytes commands (Shape index) c script (inr s) =
    let same = array_one bytes s.members script.members s.json script.json in
    shape_none (list_of script.members) commands index script.are (subst (λ ms. IsFirstMisfit (list_of ms) index ⊎
    EndsWithoutSave (list_of ms) index) same s.are.1)
fault_none bytes commands TooLong c script long =
    let same = array_one bytes long.members script.members long.json script.json in
    omega (arith, subst (λ ms. most_commands < length (list_of ms)) same long.are, script.are.few)
fault_none bytes commands Memory c script fault = absurd c

pub fault_is_one : FaultIsOne
fault_is_one = record { one = fault_one; none = fault_none }

-- ---- bytes whose value is an array

list_of_items : (members : List Data) → list_of (items_of members) ≡ members
list_of_items [] = refl
list_of_items (member ∷ members) = ap (λ more. member ∷ more) (list_of_items members)

array_of : (value : Data) (items : Items) → Some items ≡ as_array value → value ≡ array items
array_of null items e = absurd (cc (e))
array_of (boolean b) items e = absurd (cc (e))
array_of (number n) items e = absurd (cc (e))
array_of (string text) items e = absurd (cc (e))
array_of (array others) items e = ap (λ found. array (unwrap_or found others)) (sym e)
array_of (object entries) items e = absurd (cc (e))

spells : (bytes : List ℕ) (value : Data) (members : List Data) (such : List Data → Type 0) → IsJson bytes value →
    Some (items_of members) ≡ as_array value → such members → SpellsArray bytes such
spells bytes value members such json e are = record {
  members = items_of members;
  json = subst (IsJson bytes) (array_of value (items_of members) e) json;
  are = subst such (sym (list_of_items members)) are;
}

pub script_of_bytes : (bytes : List ℕ) (value : Data) (members : List Data) → IsJson bytes value →
    Some (items_of members) ≡ as_array value → (result : Result (List Command) ScriptFault) → MatchResult result
    (IsScriptOf members) (IsMembersFault members) → MatchResult result (IsScript bytes) (IsScriptFault bytes)
script_of_bytes bytes value members json e (Ok commands) are = spells bytes value members (λ ms. IsScriptOf ms
    commands) json e are
script_of_bytes bytes value members json e (Err Json) are = absurd are
script_of_bytes bytes value members json e (Err (Shape index)) are = inr (spells bytes value members
    (λ ms. IsMembersFault ms (Shape index)) json e are)
script_of_bytes bytes value members json e (Err TooLong) are = spells bytes value members (λ ms. IsMembersFault ms
    TooLong) json e are
script_of_bytes bytes value members json e (Err Memory) are = tt
