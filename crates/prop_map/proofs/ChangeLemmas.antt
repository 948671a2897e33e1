-- Changes of a map that is in a tree: an entry put, entries removed, a whole map put over it.
use Rattle.std.proofs.Common.{◌≡◌, ℕ, ◌<◌, Bool, cond, List, [], ◌∷◌, ◌++◌, length, take, get_or, Option, Some, None}
use Rattle.std.proofs.Common.{IsTrue, refl, sym, ap, ◌∙◌, subst, arith, append_assoc, length-append, length-take}
use Rattle.std.proofs.lemmas.List.{append-nil, get_or-take, get_or_default, get_or_at, take_at}
use Rattle.std.specs.declared.cmp.Ordering.TheVariants.{Less, Equal, Greater}
use Rattle.std.specs.Ordering.{nat_cmp, match_ordering, eq_by_cmp}
use Rattle.std.specs.Option.{option_or}
use Rattle.std.specs.Cmp.{nat_cmp_total}
use Rattle.std.specs.Map.{lookup}
use Rattle.std.specs.BTreeMap.{insert_entry, is_at}
use Rattle.std.specs.FinMap.{find, put, is_sorted, from_sorted, retain_keys, insert, get, get-insert, get-retain_keys}
use Rattle.std.specs.FinMap.{get-from_sorted, same_map, nat_cmp-IsAntisymmetric}
use Rattle.std.specs.FinMap.Entries.{by_order, where_key, is_sorted-where_key, find-where_key, find-append}
use Rattle.doc_bits.proofs.Public.{either}
use Rattle.prop_map.specs.Settings.{Properties}
use Rattle.prop_map.specs.Entries.{Entries}
use Rattle.prop_map.proofs.EntriesLemmas.{true_of, of_true, rises, find_gap}

-- a tree puts an entry where a map does
pub insert_entry-put : (es : Entries) (code : ℕ) (v : List ℕ) → insert_entry nat_cmp es code v ≡ put nat_cmp code v es
insert_entry-put [] code v = refl
insert_entry-put (e ∷ es) code v =
    elim (nat_cmp code e.0) as (λ r. match_ordering r ((code, v) ∷ e ∷ es) ((e.0, v) ∷ es) (e ∷ insert_entry nat_cmp
    es code v) ≡ by_order r ((code, v) ∷ e ∷ es) ((e.0, v) ∷ es) (e ∷ put nat_cmp code v es)) [
      | Less ↦ refl
      | Equal ↦ refl
      | Greater ↦ ap (λ rest. e ∷ rest) (insert_entry-put es code v)
    ]

-- a tree finds a value where a map does
pub find-lookup : (code : ℕ) (es : Entries) → find nat_cmp code es ≡ lookup (is_at (nat_cmp code)) es
find-lookup code [] = refl
find-lookup code (e ∷ es) = ap (cond (eq_by_cmp nat_cmp code e.0) (Some e.1)) (find-lookup code es)

-- an option with nothing behind it
pub or_none : (o : Option (List ℕ)) → option_or o None ≡ o
or_none None = refl
or_none (Some v) = refl

-- equal codes pass a test alike
alike : (p : ℕ → Bool) (q x : ℕ) → nat_cmp q x ≡ Equal → p x ≡ p q
alike p q x e = ap p (sym (nat_cmp-IsAntisymmetric q x e))

pub sorted-where : (p : ℕ → Bool) (es : Entries) → IsTrue (is_sorted nat_cmp es) →
    IsTrue (is_sorted nat_cmp (where_key nat_cmp p es))
sorted-where p es h = true_of _ (is_sorted-where_key nat_cmp p es (of_true _ h))

pub get-retained : (m : Properties) (p : ℕ → Bool) (q : ℕ) → get (retain_keys m p) q ≡ cond (p q) (get m q) None
get-retained m p q = get-retain_keys m p q (λ x e. alike p q x e)

pub from_sorted-where : (p : ℕ → Bool) (es : Entries) → IsTrue (is_sorted nat_cmp es) → from_sorted {R = nat_cmp}
    (where_key nat_cmp p es) ≡ retain_keys (from_sorted es) p
from_sorted-where p es h = same_map nat_cmp_total nat_cmp-IsAntisymmetric _ _ (λ q.
    get-from_sorted nat_cmp _ q (of_true _ (sorted-where p es h))
    ∙ (find-where_key nat_cmp p q (λ x e. alike p q x e) es
    ∙ sym (get-retained (from_sorted es) p q ∙ ap (λ o. cond (p q) o None) (get-from_sorted nat_cmp es q
    (of_true _ h)))))

-- ---- the entries of a map in order, each put over another map

-- the code of an entry is not among the entries before it
pub find-earlier : (es : Entries) (i : ℕ) (d : ℕ × List ℕ) → IsTrue (is_sorted nat_cmp es) → i < length es →
    find nat_cmp (get_or es i d).0 (take i es) ≡ None
find-earlier es i d h within =
    let long : length (take i es) ≡ i = omega (arith, length-take i es) in
    find_gap i (get_or es i d).0 (take i es) (omega arith)
    (λ j e l. rw (get_or-take i es j e l, get_or_default es i d e within) (rises es j i e (of_true _ h) l within))
    (λ j e low l. absurd (omega arith))

-- how far the entries of a map were put over another
pub record HasPutUpTo (all : Entries) (before : Properties) (left : Entries) (now : Properties) : Type 0 where
  pub done : Entries
  pub joined : all ≡ done ++ left
  pub got : (code : ℕ) → get now code ≡ option_or (find nat_cmp code done) (get before code)

pub none_put : (all left : Entries) (before : Properties) → all ≡ left → HasPutUpTo all before left before
none_put all left before e = record { done = []; joined = e; got = λ code. refl }

-- an entry more
pub put_next : (all left : Entries) (before now next : Properties) (code : ℕ) (value : List ℕ) →
    IsTrue (is_sorted nat_cmp all) → HasPutUpTo all before ((code, value) ∷ left) now → next ≡ insert now code value →
    HasPutUpTo all before left next
put_next all left before now next code value sorted h e =
    let entry : ℕ × List ℕ = (code, value) in
    let whole : all ≡ h.done ++ entry ∷ left = h.joined in
    let sorted_whole : IsTrue (is_sorted nat_cmp (h.done ++ entry ∷ left)) = subst (λ l. IsTrue (is_sorted nat_cmp l))
    whole sorted in
    let long = length-append h.done (entry ∷ left) in
    let within : length h.done < length (h.done ++ entry ∷ left) = omega arith in
    let front = take_at h.done (entry ∷ left) (length h.done) refl in
    let here : get_or (h.done ++ entry ∷ left) (length h.done) entry ≡ entry = get_or_at h.done entry left entry
    (length h.done) refl in
    let absent : find nat_cmp code h.done ≡ None =
    subst (λ l. find nat_cmp code l ≡ None) front
    (subst (λ (x : ℕ × List ℕ). find nat_cmp x.0 (take (length h.done) (h.done ++ entry ∷ left)) ≡ None) here
    (find-earlier (h.done ++ entry ∷ left) (length h.done) entry sorted_whole within)) in
    record {
      done = h.done ++ entry ∷ [];
      joined = whole ∙ sym (append_assoc h.done (entry ∷ []) left);
      got = λ q.
          ap (λ m. get m q) e
          ∙ (get-insert nat_cmp_total now code value q
          ∙ (ap (cond (eq_by_cmp nat_cmp q code) (Some value)) (h.got q)
          ∙ (either (eq_by_cmp nat_cmp q code) value (find nat_cmp q h.done) (get before q)
          ∙ sym (ap (λ o. option_or o (get before q)) (find-append nat_cmp nat_cmp_total h.done code value q
          absent)))));
    }

-- all of them
pub put_whole : (all : Entries) (before now : Properties) → HasPutUpTo all before [] now → (code : ℕ) →
    get now code ≡ option_or (find nat_cmp code all) (get before code)
put_whole all before now h code = h.got code ∙ ap (λ l. option_or (find nat_cmp code l) (get before code))
    (sym (h.joined ∙ append-nil h.done))
