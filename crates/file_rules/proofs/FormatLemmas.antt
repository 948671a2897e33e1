-- The ends of paragraphs and sections, one more in each turn.
use Rattle.std.proofs.Common.{◌≡◌, ◌∙◌, refl, sym, ap, ℕ, ◌+◌, ◌-◌, ◌≤◌, ◌==◌, Bool, true, false, ◌||◌}
use Rattle.std.proofs.Common.{List, [], ◌∷◌, ◌++◌, map, drop, filter, arith}
use Rattle.std.specs.List.{range_with_len}
use Rattle.std.specs.Prelude.{slice_index}
use Rattle.std.proofs.lemmas.List.{append-nil, map-append, drop-drop, get_or-drop}
use Rattle.std.proofs.lemmas.List.Elements.{filter-append}
use Rattle.std.proofs.lemmas.List.Folds.{list_any-append}
use Rattle.file_rules.specs.FormatRules.{is_end}
use Rattle.doc_bits.proofs.Public.{or_false, range_more, one_not_kept}

kept_more : (p : ℕ → Bool) (f : ℕ → ℕ) (n : ℕ) → map f (filter p (range_with_len 0 (n + 1))) ≡ map f
    (filter p (range_with_len 0 n)) ++ map f (filter p (n ∷ []))
kept_more p f n =
    ap (λ l. map f (filter p l)) (range_more n) ∙ (ap (map f) (filter-append p (range_with_len 0 n) (n ∷ [])) ∙
    map-append f (filter p (range_with_len 0 n)) (filter p (n ∷ [])))

one_kept : (p : ℕ → Bool) (n : ℕ) → p n ≡ true → filter p (n ∷ []) ≡ n ∷ []
one_kept p n e = rw e (refl)

-- a number with the property is added
pub one-added : (p : ℕ → Bool) (f : ℕ → ℕ) (n x : ℕ) (before after : List ℕ) → p n ≡ true → x ≡ f n →
    after ≡ before ++ x ∷ [] → before ≡ map f (filter p (range_with_len 0 n)) →
    after ≡ map f (filter p (range_with_len 0 (n + 1)))
one-added p f n x before after e x_is added so_far =
    added ∙ (ap (λ l. l ++ x ∷ []) so_far ∙ (ap (λ y. map f (filter p (range_with_len 0 n)) ++ y ∷ []) x_is ∙
    (ap (λ l. map f (filter p (range_with_len 0 n)) ++ map f l) (sym (one_kept p n e)) ∙ sym (kept_more p f n))))

-- one without it is not
pub none-added : (p : ℕ → Bool) (f : ℕ → ℕ) (n : ℕ) (before after : List ℕ) → p n ≡ false → after ≡ before →
    before ≡ map f (filter p (range_with_len 0 n)) → after ≡ map f (filter p (range_with_len 0 (n + 1)))
none-added p f n before after e same so_far =
    same ∙ (so_far ∙ (sym (append-nil (map f (filter p (range_with_len 0 n)))) ∙
    (ap (λ l. map f (filter p (range_with_len 0 n)) ++ map f l) (sym (one_not_kept p n e)) ∙ sym (kept_more p f n))))

-- one CP more at which a section ends
pub is_end-append : (ends : List ℕ) (end cp : ℕ) → is_end (ends ++ end ∷ []) cp ≡ (is_end ends cp || (end == cp))
is_end-append ends end cp =
    list_any-append (λ e. e == cp) ends (end ∷ []) ∙ ap (λ b. is_end ends cp || b) (or_false (end == cp))

-- the places from a later CP on, and the place of it
pub walk_on : (all rest : List ℕ) (passed cp : ℕ) → passed ≤ cp → rest ≡ drop passed all →
    (drop (cp - passed) rest ≡ drop cp all) × (slice_index rest (cp - passed) ≡ slice_index all cp)
walk_on all rest passed cp behind is =
    let there : passed + (cp - passed) ≡ cp = omega (arith, behind) in (
      ap (drop (cp - passed)) is ∙ (drop-drop (cp - passed) passed all ∙ ap (λ n. drop n all) there),
      ap (λ l. slice_index l (cp - passed)) is ∙ (get_or-drop passed all (cp - passed) 0 ∙ ap (λ n. slice_index all n)
          there),
    )
