-- A run that makes a file by the generator has one ending, but for the bytes of a last save that is fast.
use Rattle.std.proofs.Common.{◌≡◌, ◌≢◌, ◌∙◌, inl, inr, refl, sym, ap, ℕ, zero, suc, ◌≤◌, List, Bool, true, false}
use Rattle.std.proofs.Common.{Some, arith}
use Rattle.script_run.specs.declared.generating.Generated.{Generated}
use Rattle.script_run.specs.Generated.{generated}
use Rattle.script_run.specs.Ends.{EndsInMode, IsLastSave}
use Rattle.script_run.specs.GeneratedRuns.{most_seed, generator_start, IsGeneratedBy}
use Rattle.script_run.proofs.Public.{last_mode, ends_with_save}
use Rattle.document_commands.specs.declared.reply.Reply.{Reply}
use Rattle.document_commands.specs.declared.reply.Reply.TheVariants.{Made}
use Rattle.run_stages.specs.Outcomes.{Outcome, puts}
use Rattle.document_commands.specs.Replies.{outcome_of, EndsByReply}
use Rattle.doc_run.specs.Generates.{generated_line, generated_counts_line, Generates, EndsGenerated}
use Rattle.doc_run.proofs.AlikeLemmas.{IsOne, puts_alike}

-- the last save from the seed is a fast one
abbrev pub EndsFastFrom : ℕ → Type 0
EndsFastFrom seed = EndsInMode false generator_start (generated seed)

abbrev IsLast : ℕ → List ℕ → Type 0
IsLast seed image = IsLastSave generator_start (generated seed) image

-- where it is not, its bytes are one
by_mode : (seed : ℕ) (full : Bool) (one other : List ℕ) → EndsInMode full generator_start (generated seed) →
    ¬ (EndsFastFrom seed) → IsLast seed one → IsLast seed other → one ≡ other
by_mode seed true one other at closed x y = x.full at ∙ sym (y.full at)
by_mode seed false one other at closed x y = absurd (closed at)

one_image : (seed : ℕ) (a b : Reply) → seed ≤ most_seed → ¬ (EndsFastFrom seed) →
    (x : Generates seed a) (y : Generates seed b) → x.image ≡ y.image
one_image zero a b few closed x y = x.blank refl ∙ sym (y.blank refl)
one_image (suc seed) a b few closed x y =
    by_mode (suc seed) (last_mode (suc seed) few (omega arith)) x.image y.image
    (ends_with_save (suc seed) few (omega arith)) closed x.last y.last

made_one : (seed : ℕ) (out : List ℕ) (a b : Outcome) → seed ≤ most_seed → EndsByReply (Some out) (Generates seed) a →
    EndsByReply (Some out) (Generates seed) b → IsOne (EndsFastFrom seed) a b
made_one seed out a b few x y =
    let line = generated_counts_line seed in
    let of_a : a ≡ puts line out x.is.image = x.ends ∙ ap (outcome_of (Some out)) x.is.ends in
    let of_b : b ≡ puts line out y.is.image = y.ends ∙ ap (outcome_of (Some out)) y.is.ends in (
      puts_alike line out x.is.image y.is.image a b of_a of_b,
      λ closed. of_a ∙ (ap (puts line out) (one_image seed x.reply y.reply few closed x.is y.is) ∙ sym of_b),
    )

pub generated_one : (seed : ℕ) (out : List ℕ) (a b : Outcome) → seed ≤ most_seed → EndsGenerated seed out a →
    EndsGenerated seed out b → a.status ≢ 4 → b.status ≢ 4 → IsOne (EndsFastFrom seed) a b
generated_one seed out a b few (inl x) y ca cb = absurd (ca (ap (λ (o : Outcome). o.status) x))
generated_one seed out a b few (inr x) (inl y) ca cb = absurd (cb (ap (λ (o : Outcome). o.status) y))
generated_one seed out a b few (inr x) (inr y) ca cb = made_one seed out a b few x y

-- it is served, unless the shelf failed
pub generated_done : (seed : ℕ) (out : List ℕ) (outcome : Outcome) → EndsGenerated seed out outcome →
    outcome.status ≢ 4 → outcome.status ≡ 0
generated_done seed out outcome (inl x) calm = absurd (calm (ap (λ (o : Outcome). o.status) x))
generated_done seed out outcome (inr x) calm =
    ap (λ (o : Outcome). o.status) (x.ends ∙ ap (outcome_of (Some out)) x.is.ends)

-- what the generator leaves is made
pub generated_made : (seed : ℕ) (made : Generated) (answer : Reply) → IsGeneratedBy seed made →
    answer ≡ Made (generated_line seed made.units made.paragraphs made.saves.fast made.saves.full) made.image →
    Generates seed answer
generated_made seed made answer is ends =
    let units = is.units in
    let paragraphs = is.paragraphs in
    let fast = is.fast in
    let full = is.full in
    record {
      accepted = is.accepted;
      image = made.image;
      last = is.image;
      blank = is.blank;
      ends = ends ∙ (λ i. Made (generated_line seed (units i) (paragraphs i) (fast i) (full i)) made.image);
    }
