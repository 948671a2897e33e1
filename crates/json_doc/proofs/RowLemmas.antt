-- What is read of a row of members, and that what was put there is read again.
use Rattle.std.proofs.Common.{◌≡◌, ℕ, Bool, true, false, List, Option, Some, None}
use Rattle.std.proofs.Common.{refl, sym, ap, ◌∙◌, subst}
use Rattle.std.specs.Prelude.{⊤, bytes_eq, option_map, if◌then◌else◌, Err}
use Rattle.std.specs.Option.{ForSome}
use Rattle.std.proofs.lemmas.Slice.Eq.{bytes_eq-Decides}
use Rattle.std.proofs.lemmas.Option.{none-some, same_Some}
use Rattle.serde_json.specs.Data.{Data, Members, no_members, member}
use Rattle.edit_script.specs.declared.faults.ShapeError.{ShapeError}
use Rattle.edit_script.specs.declared.faults.ShapeError.TheVariants.{Shape, Memory}
use Rattle.edit_script.specs.Json.{◌>>=◌, GivesReading}
use Rattle.json_values.specs.Plain.{HasKeysInOrder, MembersHaveKeysInOrder}
use Rattle.json_values.specs.Rows.{member_if, taken, taken_if, each_if, need, may, no_member_left}
use Rattle.json_values.proofs.Public.{step_found}

-- ---- steps

-- a step that finds
pub then_found : {A B : Type 0} (o : Option A) (f : A → Option B) (a : A) (made : B) → o ≡ Some a → f a ≡ Some made →
    (o >>= f) ≡ Some made
then_found o f a made found more = ap (λ x. x >>= f) found ∙ more

-- a step on which others follow
pub then_goes : {A B : Type 0} {o : Option A} {a : A} {made : Option B} (f : A → Option B) → o ≡ Some a →
    f a ≡ made → (o >>= f) ≡ made
then_goes f found more = ap (λ x. x >>= f) found ∙ more

-- a step that finds nothing
pub then_lost : {A B : Type 0} {o : Option A} (f : A → Option B) → o ≡ None → (o >>= f) ≡ None
then_lost f lost = ap (λ x. x >>= f) lost

-- a reader that gives nothing, since the shape is wrong
pub gives_lost : {A : Type 0} {found : Option A} {fault : ShapeError} → GivesReading (Err fault) found → fault ≡ Shape →
    found ≡ None
gives_lost {found = found} lost shape = subst (λ f. GivesReading (Err f) found) shape lost

-- what a reader answers of a misfit
pub gives_err : {A : Type 0} (found : Option A) (fault : ShapeError) → (fault ≡ Shape → found ≡ None) →
    GivesReading (Err fault) found
gives_err found Shape lost = lost refl
gives_err found Memory lost = tt

-- ---- what may be there

pub for_none : {A : Type 0} (P : A → Type 0) → ForSome None P
for_none P x e = absurd (none-some x e)

pub for_some : {A : Type 0} (P : A → Type 0) (x : A) → P x → ForSome (Some x) P
for_some P x holds y e = subst P (same_Some x y e) holds

-- a test of what is there
pub for_iff : {A : Type 0} (P : A → Type 0) (o : Option A) (x : A) (T : Type 0) → o ≡ Some x → (T → P x) × (P x → T) →
    (T → ForSome o P) × (ForSome o P → T)
for_iff P o x T is test = (λ t y e. subst P (same_Some x y (sym is ∙ e)) (test.0 t), λ some. test.1 (some x is))

-- ---- keys

key_is : (name key : List ℕ) → bytes_eq name key ≡ true → name ≡ key
key_is name key e = (bytes_eq-Decides name key).0 e

same_key : (key : List ℕ) → bytes_eq key key ≡ true
same_key key = (bytes_eq-Decides key key).1 refl

-- the first member, where there is one, has another key
abbrev pub Lacks : List ℕ → Members → Type 0
Lacks key no_members = ⊤
Lacks key (member name value more) = bytes_eq name key ≡ false

pub lacks_if : (key other : List ℕ) (value : Option Data) (more : Members) → bytes_eq other key ≡ false →
    Lacks key more → Lacks key (member_if other value more)
lacks_if key other None more apart lacks = lacks
lacks_if key other (Some value) more apart lacks = apart

-- ---- a member that is taken

-- what the test of a key chooses
abbrev taken_where : Bool → Data → Members → Option (Data × Members)
taken_where b value rest = if b then Some (value, rest) else None

taken_by : (b : Bool) (value d : Data) (rest more : Members) → taken_where b value rest ≡ Some (d, more) →
    (b ≡ true) × ((value ≡ d) × (rest ≡ more))
taken_by true value d rest more e =
    let same = same_Some (value, rest) (d, more) e in (refl, (ap (λ p. p.0) same, ap (λ p. p.1) same))
taken_by false value d rest more e = absurd (none-some (d, more) e)

pub taken_is : (key : List ℕ) (ms : Members) (d : Data) (more : Members) → taken key ms ≡ Some (d, more) →
    ms ≡ member key d more
taken_is key no_members d more e = absurd (none-some (d, more) e)
taken_is key (member name value rest) d more e =
    let k = taken_by (bytes_eq name key) value d rest more e in
    let name_is = key_is name key k.0 in
    λ i. member (name_is i) (k.1.0 i) (k.1.1 i)

pub taken_back : (key : List ℕ) (d : Data) (more : Members) → taken key (member key d more) ≡ Some (d, more)
taken_back key d more = ap (λ b. taken_where b d more) (same_key key)

-- the member is there, or the members begin with another one
abbrev found_where : Bool → List ℕ → Data → Members → Option Data × Members
found_where b name value rest = if b then (Some value, rest) else (None, member name value rest)

taken_if_by : (b : Bool) (name key : List ℕ) (value : Data) (rest : Members) → (b ≡ true → name ≡ key) →
    member name value rest ≡ member_if key (found_where b name value rest).0 (found_where b name value rest).1
taken_if_by true name key value rest is = ap (λ n. member n value rest) (is refl)
taken_if_by false name key value rest is = refl

taken_if_is : (key : List ℕ) (ms : Members) → ms ≡ member_if key (taken_if key ms).0 (taken_if key ms).1
taken_if_is key no_members = refl
taken_if_is key (member name value rest) =
    taken_if_by (bytes_eq name key) name key value rest (key_is name key)

taken_if_back : (key : List ℕ) (value : Option Data) (more : Members) → Lacks key more →
    taken_if key (member_if key value more) ≡ (value, more)
taken_if_back key None no_members lacks = refl
taken_if_back key None (member name d rest) lacks =
    ap (λ b. found_where b name d rest) lacks
taken_if_back key (Some d) more lacks =
    ap (λ b. found_where b key d more) (same_key key)

-- ---- what is read and what was written

-- values of a kind are read as what they were written for, and from no other value
pub record AreOne {A : Type 0} (of : Data → Option A) (json : A → Data) (Is : A → Type 0) : Type 0 where
  pub back : (x : A) → Is x → of (json x) ≡ Some x
  pub one : (value : Data) (x : A) → HasKeysInOrder value → of value ≡ Some x → Is x × (value ≡ json x)

-- a member that was read, and the rest
pub record IsNeeded {A : Type 0} (json : A → Data) (Is : A → Type 0) (key : List ℕ) (ms : Members) (p : A × Members) :
    Type 0 where
  pub right : Is p.0
  pub members : ms ≡ member key (json p.0) p.1
  pub order : MembersHaveKeysInOrder p.1

pub need_one : {A : Type 0} {of : Data → Option A} {json : A → Data} {Is : A → Type 0} → AreOne of json Is →
    (key : List ℕ) (ms : Members) (p : A × Members) → MembersHaveKeysInOrder ms → need key of ms ≡ Some p →
    IsNeeded json Is key ms p
need_one {of = of} {json} {Is} laws key ms p order e =
    let first = step_found (taken key ms) (λ first. of first.0 >>= λ found. Some (found, first.1)) p e in
    let second = step_found (of first.0.0) (λ found. Some (found, first.0.1)) p first.2 in
    let made : (second.0, first.0.1) ≡ p = same_Some (second.0, first.0.1) p second.2 in
    let is = taken_is key ms first.0.0 first.0.1 first.1 in
    let ordered : MembersHaveKeysInOrder (member key first.0.0 first.0.1) = subst MembersHaveKeysInOrder is order in
    let one = laws.one first.0.0 second.0 ordered.0 second.1 in
    subst (λ q. IsNeeded json Is key ms q) made (record {
      right = one.0;
      members = is ∙ ap (λ d. member key d first.0.1) one.1;
      order = ordered.1;
    })

pub need_back : {A : Type 0} {of : Data → Option A} {json : A → Data} {Is : A → Type 0} → AreOne of json Is →
    (key : List ℕ) (x : A) (more : Members) → Is x → need key of (member key (json x) more) ≡ Some (x, more)
need_back {of = of} {json} laws key x more is =
    then_found (taken key (member key (json x) more)) (λ first. of first.0 >>= λ found. Some (found, first.1))
    (json x, more) (x, more) (taken_back key (json x) more)
    (then_found (of (json x)) (λ found. Some (found, more)) x (x, more) (laws.back x is) refl)

pub record IsTaken {A : Type 0} (json : A → Data) (Is : A → Type 0) (key : List ℕ) (ms : Members)
    (p : Option A × Members) : Type 0 where
  pub right : ForSome p.0 Is
  pub members : ms ≡ member_if key (option_map json p.0) p.1
  pub order : MembersHaveKeysInOrder p.1

-- what is read of a value that may be there
pub each_by : {A : Type 0} (o : Option A) (found : Option A) → option_map Some o ≡ Some found →
    (x : A) × (o ≡ Some x) × (Some x ≡ found)
each_by None found e = absurd (none-some found e)
each_by (Some x) found e = (x, refl, same_Some (Some x) found e)

each_one : {A : Type 0} {of : Data → Option A} {json : A → Data} {Is : A → Type 0} → AreOne of json Is →
    (value : Option Data) (found : Option A) → ForSome value HasKeysInOrder → each_if of value ≡ Some found →
    ForSome found Is × (value ≡ option_map json found)
each_one {json = json} {Is} laws None found order e =
    subst (λ x. ForSome x Is × (None ≡ option_map json x)) (same_Some None found e) (for_none Is, refl)
each_one {of = of} {json} {Is} laws (Some d) found order e =
    let k = each_by (of d) found e in
    let one = laws.one d k.0 (order d refl) k.1 in
    subst (λ x. ForSome x Is × (Some d ≡ option_map json x)) k.2 (for_some Is k.0 one.0, ap Some one.1)

order_if : (key : List ℕ) (value : Option Data) (more : Members) → MembersHaveKeysInOrder (member_if key value more) →
    ForSome value HasKeysInOrder × MembersHaveKeysInOrder more
order_if key None more order = (for_none HasKeysInOrder, order)
order_if key (Some d) more order = (for_some HasKeysInOrder d order.0, order.1)

pub may_one : {A : Type 0} {of : Data → Option A} {json : A → Data} {Is : A → Type 0} → AreOne of json Is →
    (key : List ℕ) (ms : Members) (p : Option A × Members) → MembersHaveKeysInOrder ms → may key of ms ≡ Some p →
    IsTaken json Is key ms p
may_one {of = of} {json} {Is} laws key ms p order e =
    let value = (taken_if key ms).0 in
    let more = (taken_if key ms).1 in
    let k = step_found (each_if of value) (λ found. Some (found, more)) p e in
    let made : (k.0, more) ≡ p = same_Some (k.0, more) p k.2 in
    let ordered = order_if key value more (subst MembersHaveKeysInOrder (taken_if_is key ms) order) in
    let one = each_one laws value k.0 ordered.0 k.1 in
    subst (λ q. IsTaken json Is key ms q) made (record {
      right = one.0;
      members = taken_if_is key ms ∙ ap (λ v. member_if key v more) one.1;
      order = ordered.1;
    })

each_back : {A : Type 0} {of : Data → Option A} {json : A → Data} {Is : A → Type 0} → AreOne of json Is →
    (x : Option A) → ForSome x Is → each_if of (option_map json x) ≡ Some x
each_back laws None is = refl
each_back laws (Some x) is = ap (option_map Some) (laws.back x (is x refl))

pub may_back : {A : Type 0} {of : Data → Option A} {json : A → Data} {Is : A → Type 0} → AreOne of json Is →
    (key : List ℕ) (x : Option A) (more : Members) → ForSome x Is → Lacks key more →
    may key of (member_if key (option_map json x) more) ≡ Some (x, more)
may_back {of = of} {json} laws key x more is lacks =
    ap (λ q. each_if of q.0 >>= λ found. Some (found, q.1)) (taken_if_back key (option_map json x) more lacks)
    ∙ then_found (each_if of (option_map json x)) (λ found. Some (found, more)) x (x, more) (each_back laws x is) refl

pub ended_is : (ms : Members) (t : ⊤) → no_member_left ms ≡ Some t → ms ≡ no_members
ended_is no_members t e = refl
ended_is (member name value more) t e = absurd (none-some t e)
