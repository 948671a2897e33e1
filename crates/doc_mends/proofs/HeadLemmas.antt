-- Header texts that are cut one after the other, and entries that are put in place of others.
use Rattle.std.proofs.Common.{◌≡◌, ◌∙◌, ap, sym, refl, ℕ, ◌+◌, ◌-◌, ◌≤◌, arith}
use Rattle.std.proofs.Common.{List, [], ◌∷◌, ◌++◌, length, drop, slice_set, Option, Some, slice_get}
use Rattle.std.specs.Option.{unwrap_or}
use Rattle.std.proofs.lemmas.List.{length-append, length-drop, append-nil, drop_all}
use Rattle.doc_bits.specs.declared.places.Story.TheVariants.{Head}
use Rattle.doc_parts.specs.Tabulated.{tabulate}
use Rattle.doc_parts.proofs.Public.{tabulate-next, length-tabulate}
use Rattle.doc_model.specs.declared.item.Item.{Item}
use Rattle.doc_patch.specs.Changes.{changed_at, put_changed}
use Rattle.doc_losses.specs.References.{Names, head_begin, head_at}
use Rattle.doc_mends.specs.Cuts.{cut_text, cut_heads}
use Rattle.doc_mends.proofs.TextLemmas.{put_next}
use Rattle.run_lists.proofs.Public.{run_and_rest}
use Rattle.doc_columns.proofs.Public.{seam}

-- ---- an entry becomes another

pub changed_to : {A : Type 0} (f : A → A) (xs : List A) (k : ℕ) (x made : A) → slice_get xs k ≡ Some x → made ≡ f x →
    slice_set xs k made ≡ changed_at xs k f
changed_to {A = A} f xs k x made there is =
    ap (λ (y : A). slice_set xs k y) is ∙ sym (ap (λ (o : Option A). put_changed xs k f o) there)

-- ---- the header texts

-- a header text once it is cut
abbrev pub head_cut : Names → List (List Item) → ℕ → List Item
head_cut names heads number = cut_text names (Head number) (head_begin heads number) (head_at heads number)

-- the first ones are cut
abbrev pub cut_to : Names → List (List Item) → ℕ → List (List Item)
cut_to names heads number = tabulate (head_cut names heads) number ++ drop number heads

pub first_heads : (names : Names) (heads : List (List Item)) → heads ≡ cut_to names heads 0
unfolding tabulate
first_heads names heads = refl

pub heads_long : (names : Names) (heads : List (List Item)) (number : ℕ) → number ≤ length heads →
    length (cut_to names heads number) ≡ length heads
heads_long names heads number low =
    let front = length-tabulate (head_cut names heads) number in
    let back = length-drop number heads in
    length-append (tabulate (head_cut names heads) number) (drop number heads) ∙ omega (arith, front, back, low)

pub head_there : (names : Names) (heads : List (List Item)) (number : ℕ) (text old : List Item) →
    slice_get heads number ≡ Some old → slice_get (cut_to names heads number) number ≡ Some text →
    slice_get heads number ≡ Some text
head_there names heads number text old is there =
    let front : List (List Item) = tabulate (head_cut names heads) number in
    let here : slice_get (cut_to names heads number) number ≡ Some old =
    ap (λ (l : List (List Item)). slice_get (front ++ l) number) (run_and_rest heads number old is)
    ∙ (ap (slice_get (front ++ old ∷ drop (number + 1) heads)) (sym (length-tabulate (head_cut names heads) number))
    ∙ seam front old (drop (number + 1) heads)) in
    is ∙ (sym here ∙ there)

-- one more is cut
pub heads_more : (names : Names) (heads : List (List Item)) (number begin : ℕ) (text : List Item) →
    slice_get heads number ≡ Some text → begin ≡ head_begin heads number →
    changed_at (cut_to names heads number) number (cut_text names (Head number) begin) ≡ cut_to names heads (number + 1)
heads_more names heads number begin text is begins =
    let front : List (List Item) = tabulate (head_cut names heads) number in
    let one : cut_text names (Head number) begin text ≡ head_cut names heads number =
    ap (λ (b : ℕ). cut_text names (Head number) b text) begins
    ∙ ap (λ (o : Option (List Item)). cut_text names (Head number) (head_begin heads number) (unwrap_or o [])) (sym is) in
    put_next (cut_text names (Head number) begin) front heads number text (length-tabulate (head_cut names heads) number)
    is
    ∙ (ap (λ (t : List Item). (front ++ t ∷ []) ++ drop (number + 1) heads) one
    ∙ ap (λ (l : List (List Item)). l ++ drop (number + 1) heads) (sym (tabulate-next (head_cut names heads) number)))

pub all_heads : (names : Names) (heads : List (List Item)) (number : ℕ) → number ≤ length heads →
    length heads ≤ number → cut_to names heads number ≡ cut_heads names heads
all_heads names heads number low past =
    let same : number ≡ length heads = omega (arith, low, past) in
    ap (λ (l : List (List Item)). tabulate (head_cut names heads) number ++ l) (drop_all number heads past)
    ∙ (append-nil (tabulate (head_cut names heads) number) ∙ ap (tabulate (head_cut names heads)) same)
