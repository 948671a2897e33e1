-- Where what a name holds is known, the stage that reads it has one ending.
use Rattle.std.proofs.Common.{◌≡◌, ◌≢◌, ◌<◌, ◌≤◌, ◌⊎◌, ◌∙◌, inl, inr, refl, sym, ap, subst, ℕ, List, Option, Some, None}
use Rattle.std.proofs.Common.{length, arith}
use Rattle.doc_outer.specs.Held.{Files, IsLonger, file_at}
use Rattle.run_stages.specs.Lines.{missing_line}
use Rattle.run_stages.specs.Outcomes.{Outcome, says}
use Rattle.run_stages.specs.Stages.{longest_file, ReadsNamedFile}

-- what a stage that reads says of what the name holds
abbrev pub Says :
    (name : List ℕ) → (Outcome → Type 0) → (List ℕ → Outcome → Type 0) → Option (List ℕ) → Outcome → Type 0
Says name overlong next None outcome = outcome ≡ says 3 (missing_line name)
Says name overlong next (Some bytes) outcome =
    ((longest_file < length bytes) × overlong outcome) ⊎ ((length bytes ≤ longest_file) × next bytes outcome)

longer_says :
    (name : List ℕ) (overlong : Outcome → Type 0) (next : List ℕ → Outcome → Type 0) (there : Option (List ℕ))
    (outcome : Outcome) → IsLonger longest_file there → overlong outcome → Says name overlong next there outcome
longer_says name overlong next None outcome long ends = absurd long
longer_says name overlong next (Some bytes) outcome long ends = inl (long, ends)

-- where what the name holds is known, the stage says that, unless the shelf failed
pub settled :
    (name : List ℕ) (files : Files) (overlong : Outcome → Type 0) (next : List ℕ → Outcome → Type 0)
    (outcome : Outcome) → ReadsNamedFile name (Some files) overlong next outcome → outcome.status ≢ 4 →
    Says name overlong next (file_at files name) outcome
settled name files overlong next outcome (inl missing) calm =
    subst (λ t. Says name overlong next t outcome) (sym missing.absent) missing.ends
settled name files overlong next outcome (inr (inl fault)) calm =
    absurd (calm (ap (λ (o : Outcome). o.status) fault))
settled name files overlong next outcome (inr (inr (inl over))) calm =
    longer_says name overlong next (file_at files name) outcome over.longer over.ends
settled name files overlong next outcome (inr (inr (inr read))) calm =
    subst (λ t. Says name overlong next t outcome) (sym read.told) (inr (read.short, read.goes_on))

-- `same` is what is to follow from one outcome, and from the next stage
says_one :
    (same : Type 0) (name : List ℕ) (overlong : Outcome → Type 0) (next : List ℕ → Outcome → Type 0)
    (there : Option (List ℕ)) (a b : Outcome) → (a ≡ b → same) → (overlong a → overlong b → a ≡ b) →
    ((bytes : List ℕ) → there ≡ Some bytes → next bytes a → next bytes b → same) →
    Says name overlong next there a → Says name overlong next there b → same
says_one same name overlong next None a b equal long one x y = equal (x ∙ sym y)
says_one same name overlong next (Some bytes) a b equal long one (inl x) (inl y) = equal (long x.1 y.1)
says_one same name overlong next (Some bytes) a b equal long one (inl x) (inr y) =
    let over = x.0 in let short = y.0 in absurd (omega (arith, over, short))
says_one same name overlong next (Some bytes) a b equal long one (inr x) (inl y) =
    let over = y.0 in let short = x.0 in absurd (omega (arith, over, short))
says_one same name overlong next (Some bytes) a b equal long one (inr x) (inr y) = one bytes refl x.1 y.1

-- a name is read to one ending, where the next stage has one
pub reads_one :
    (same : Type 0) (name : List ℕ) (files : Files) (overlong : Outcome → Type 0) (next : List ℕ → Outcome → Type 0)
    (a b : Outcome) → a.status ≢ 4 → b.status ≢ 4 → (a ≡ b → same) → (overlong a → overlong b → a ≡ b) →
    ((bytes : List ℕ) → file_at files name ≡ Some bytes → next bytes a → next bytes b → same) →
    ReadsNamedFile name (Some files) overlong next a → ReadsNamedFile name (Some files) overlong next b → same
reads_one same name files overlong next a b ca cb equal long one x y =
    says_one same name overlong next (file_at files name) a b equal long one
    (settled name files overlong next a x ca) (settled name files overlong next b y cb)
