-- A splice of the notes or of the header texts splices the whole text.
use Rattle.std.specs.Prelude.{slice_set, List, ℕ}
use Rattle.std.specs.List.{splice}
use Rattle.std.proofs.Common.{◌≡◌, ◌∙◌, ◌++◌, ◌∷◌, ◌+◌, ◌≤◌, [], refl, sym, ap, subst, suc, Bool, true}
use Rattle.std.proofs.Common.{false}
use Rattle.std.proofs.Common.{length, map, take, drop, arith}
use Rattle.std.proofs.lemmas.List.{length-map, length-append, length-take, length-drop, take-append-drop}
use Rattle.std.proofs.lemmas.List.{take-append-le, append_assoc, append-nil}
use Rattle.doc_model.specs.declared.item.Item.{Item}
use Rattle.doc_model.specs.Collected.{joined_texts}
use Rattle.save_laws.specs.Slots.{Slot, shown, loose, last, loose_if, note_slots, head_slots, last_slots}
use Rattle.save_laws.specs.Slots.{document_slots}
use Rattle.session_text.specs.StoryMarks.{end_after, lone_last, marks_come, marks_go}
use Rattle.session_text.specs.StoryMarks.{NotesSplice, HeadsSplice}
use Rattle.session_text.specs.StoryMarks.{nth_text_begin, TextsSplice, OneTextSplices}
use Rattle.std.proofs.Math.Seq.{take-append_seam, drop-append_seam, split_at}
use Rattle.std.proofs.lemmas.List.{set_split}
use Rattle.std.proofs.lemmas.List.Concat.{flat_map-cons}
use Rattle.std.proofs.lemmas.Option.{slice_get_within, get_or_from_slice_get}
use Rattle.std.proofs.Common.{get_or, ◌<◌}
use Rattle.std.proofs.lemmas.Grind.{flat_map-append}
use Rattle.save_laws.proofs.Public.{splice_front, map_splice}

-- ---- splices of joined lists

-- what is before and behind a place that lies in the second list
take_behind : {A : Type 0} (xs ys : List A) (n : ℕ) → take (length xs + n) (xs ++ ys) ≡ xs ++ take n ys
take_behind [] ys n = let e : 0 + n ≡ n = omega arith in ap (λ k. take k ys) e
take_behind (x ∷ xs) ys n =
    let e : length (x ∷ xs) + n ≡ suc (length xs + n) = omega arith in
    ap (λ k. take k (x ∷ (xs ++ ys))) e ∙ ap (λ l. x ∷ l) (take_behind xs ys n)

drop_behind : {A : Type 0} (xs ys : List A) (n : ℕ) → drop (length xs + n) (xs ++ ys) ≡ drop n ys
drop_behind [] ys n = let e : 0 + n ≡ n = omega arith in ap (λ k. drop k ys) e
drop_behind (x ∷ xs) ys n =
    let e : length (x ∷ xs) + n ≡ suc (length xs + n) = omega arith in
    ap (λ k. drop k (x ∷ (xs ++ ys))) e ∙ drop_behind xs ys n

-- a splice within the second one
splice_behind : {A : Type 0} (xs ys zs : List A) (from to : ℕ) →
    xs ++ splice ys from to zs ≡ splice (xs ++ ys) (length xs + from) (length xs + to) zs
splice_behind xs ys zs from to =
    let a = take_behind xs ys from in
    let b = drop_behind xs ys to in
    sym (append_assoc xs (take from ys) (zs ++ drop to ys))
    ∙ (ap (λ l. l ++ (zs ++ drop to ys)) (sym a)
    ∙ ap (λ l. take (length xs + from) (xs ++ ys) ++ (zs ++ l)) (sym b))

-- ---- one story, what is behind it, and the slots of the other story

-- the marks stay
kept : (items new fresh : List Item) (end rest : List Slot) (from to : ℕ) → from ≤ to → to ≤ length items →
    new ≡ splice items from to fresh →
    (map shown new ++ end) ++ rest
    ≡ splice ((map shown items ++ end) ++ rest) from (to + 0) (map shown fresh ++ [])
kept items new fresh end rest from to order within is =
    let n : to + 0 ≡ to = omega arith in
    let slots = map shown items in
    let inside : to ≤ length slots = omega (arith, within, length-map items shown) in
    let a : map shown new ≡ splice slots from to (map shown fresh) =
    ap (map shown) is ∙ map_splice items fresh from to in
    let b : (map shown new ++ end) ++ rest ≡ splice slots from to (map shown fresh) ++ (end ++ rest) =
    append_assoc (map shown new) end rest ∙ ap (λ l. l ++ (end ++ rest)) a in
    let c = splice_front slots (end ++ rest) (map shown fresh) from to order inside in
    b ∙ (c ∙ (ap (λ l. splice l from to (map shown fresh)) (sym (append_assoc slots end rest))
    ∙ (ap (λ l. splice ((slots ++ end) ++ rest) from to l) (sym (append-nil (map shown fresh)))
    ∙ ap (λ k. splice ((slots ++ end) ++ rest) from k (map shown fresh ++ [])) (sym n))))

-- items come where there were none, and marks behind them
came : (new fresh : List Item) (extra rest : List Slot) (from to : ℕ) → from ≡ 0 → to ≡ 0 →
    new ≡ splice [] from to fresh → (map shown new ++ extra) ++ rest
    ≡ splice rest from (to + 0) (map shown fresh ++ extra)
came new fresh extra rest from to first second is =
    let n : to + 0 ≡ 0 = omega (arith, second) in
    let a : splice [] from to fresh ≡ fresh ++ [] =
    ap (λ k. splice [] k to fresh) first ∙ ap (λ k. splice [] 0 k fresh) second in
    let b : new ≡ fresh = is ∙ (a ∙ append-nil fresh) in
    ap (λ l. (map shown l ++ extra) ++ rest) b
    ∙ (ap (λ k. splice rest k 0 (map shown fresh ++ extra)) (sym first)
    ∙ ap (λ k. splice rest from k (map shown fresh ++ extra)) (sym n))

-- the place of the last of lists of no items
none_left : (item : Item) (items fresh : List Item) (from to : ℕ) →
    to ≤ length (item ∷ items) → [] ≡ splice (item ∷ items) from to fresh →
    (from ≡ 0) × ((to ≡ length (item ∷ items)) × (length fresh ≡ 0))
none_left item items fresh from to within is =
    let xs = item ∷ items in
    let len : 0 ≡ length (splice xs from to fresh) = ap length is in
    let a = length-append (take from xs) (fresh ++ drop to xs) in
    let b = length-append fresh (drop to xs) in
    let c = length-take from xs in
    let d = length-drop to xs in (
      omega (arith, len, a, b, c, d, within),
      (omega (arith, len, a, b, c, d, within), omega (arith, len, a, b, c, d, within)),
    )

-- all items go, and slots behind them
went : (items fresh : List Item) (end rest : List Slot) (from to more : ℕ) → from ≡ 0 → to ≡ length items →
    length fresh ≡ 0 →
    drop more (end ++ rest) ≡ splice ((map shown items ++ end) ++ rest) from (to + more) (map shown fresh ++ [])
went items [] end rest from to more first second none =
    let slots = map shown items in
    let n : to + more ≡ length slots + more = omega (arith, second, length-map items shown) in
    sym (drop_behind slots (end ++ rest) more)
    ∙ (ap (drop (length slots + more)) (sym (append_assoc slots end rest))
    ∙ (ap (λ k. splice ((slots ++ end) ++ rest) k (length slots + more) []) (sym first)
    ∙ ap (λ k. splice ((slots ++ end) ++ rest) from k []) (sym n)))
went items (item ∷ fresh) end rest from to more first second none = absurd (omega (arith, none))

drop_closing : (end : Bool) (rest : List Slot) → drop (length (loose_if end ++ [])) (loose_if end ++ rest) ≡ rest
drop_closing true rest = refl
drop_closing false rest = refl

drop_last : (end : Bool) → drop (length (loose_if end ++ last ∷ [])) (loose_if end ++ last ∷ []) ≡ []
drop_last true = refl
drop_last false = refl

story_spliced : (items new fresh : List Item) (end : Bool) (other behind : List Slot) (from to : ℕ) → from ≤ to →
    to ≤ length items → new ≡ splice items from to fresh → (other ≡ [] → behind ≡ []) →
    let after = map shown new ++ loose_if (end_after end items new) in
    let before = map shown items ++ loose_if end in
    after ++ (behind ++ last_slots (after ++ other))
    ≡ splice (before ++ (behind ++ last_slots (before ++ other))) from (to + marks_go end items new other)
    (map shown fresh ++ marks_come end items new other)
story_spliced [] [] fresh end other behind from to order within is lone =
    kept [] [] fresh (loose_if end) (behind ++ last_slots (loose_if end ++ other)) from to order within is
story_spliced (x ∷ xs) (y ∷ ys) fresh end other behind from to order within is lone =
    kept (x ∷ xs) (y ∷ ys) fresh (loose_if end) (behind ++ last ∷ []) from to order within is
story_spliced [] (y ∷ ys) fresh true other behind from to order within is lone =
    kept [] (y ∷ ys) fresh (loose ∷ []) (behind ++ last ∷ []) from to order within is
story_spliced [] (y ∷ ys) fresh false [] behind from to order within is lone =
    let none : behind ≡ [] = lone refl in
    let a : from ≡ 0 = omega (arith, order, within) in
    let b : to ≡ 0 = omega (arith, within) in
    let slots = map shown (y ∷ ys) in
    ap (λ l. (slots ++ loose ∷ []) ++ (l ++ last ∷ [])) none
    ∙ (append_assoc slots (loose ∷ []) (last ∷ [])
    ∙ (sym (append-nil (slots ++ loose ∷ last ∷ []))
    ∙ (came (y ∷ ys) fresh (loose ∷ last ∷ []) [] from to a b is
    ∙ ap (λ l. splice (l ++ []) from (to + 0) (map shown fresh ++ loose ∷ last ∷ [])) (sym none))))
story_spliced [] (y ∷ ys) fresh false (slot ∷ slots) behind from to order within is lone =
    let a : from ≡ 0 = omega (arith, order, within) in
    let b : to ≡ 0 = omega (arith, within) in
    came (y ∷ ys) fresh (loose ∷ []) (behind ++ last ∷ []) from to a b is
story_spliced (x ∷ xs) [] fresh end [] behind from to order within is lone =
    let none : behind ≡ [] = lone refl in
    let here = none_left x xs fresh from to within is in
    let more = length (loose_if end ++ last ∷ []) in
    ap (λ l. l ++ []) none
    ∙ (sym (drop_last end)
    ∙ (went (x ∷ xs) fresh (loose_if end) (last ∷ []) from to more here.0 here.1.0 here.1.1
    ∙ ap
    (λ l. splice ((map shown (x ∷ xs) ++ loose_if end) ++ (l ++ last ∷ [])) from (to + more) (map shown fresh ++ []))
    (sym none)))
story_spliced (x ∷ xs) [] fresh end (slot ∷ slots) behind from to order within is lone =
    let here = none_left x xs fresh from to within is in
    let rest = behind ++ last ∷ [] in
    let more = length (loose_if end ++ []) in
    sym (drop_closing end rest)
    ∙ went (x ∷ xs) fresh (loose_if end) rest from to more here.0 here.1.0 here.1.1

-- ---- the notes and the header texts

last_swap : (one other : List Slot) → last_slots (one ++ other) ≡ last_slots (other ++ one)
last_swap [] [] = refl
last_swap [] (y ∷ ys) = refl
last_swap (x ∷ xs) [] = refl
last_swap (x ∷ xs) (y ∷ ys) = refl

length-lone : (other : List Slot) → length (lone_last other) ≤ 1
length-lone [] = omega arith
length-lone (slot ∷ slots) = omega arith

go_within : (items new : List Item) (end : Bool) (other behind : List Slot) (to : ℕ) → to ≤ length items →
    to + marks_go end items new other
    ≤ length ((map shown items ++ loose_if end) ++ (behind ++ last_slots ((map shown items ++ loose_if end) ++ other)))
go_within [] new end other behind to within = omega (arith, within)
go_within (x ∷ xs) (y ∷ ys) end other behind to within =
    let rest = behind ++ last ∷ [] in
    let a = length-append (map shown (x ∷ xs) ++ loose_if end) rest in
    let b = length-append (map shown (x ∷ xs)) (loose_if end) in
    let c = length-map (x ∷ xs) shown in
    omega (arith, within, a, b, c)
go_within (x ∷ xs) [] end other behind to within =
    let rest = behind ++ last ∷ [] in
    let a = length-append (map shown (x ∷ xs) ++ loose_if end) rest in
    let b = length-append (map shown (x ∷ xs)) (loose_if end) in
    let c = length-map (x ∷ xs) shown in
    let d = length-append (loose_if end) (lone_last other) in
    let e = length-append behind (last ∷ []) in
    omega (arith, within, a, b, c, d, e, length-lone other)

pub notes_splice : NotesSplice
unfolding document_slots
notes_splice document ends notes from to fresh spliced =
    let main : List Slot = map shown document.main in
    let items : List Item = joined_texts document.notes in
    let new : List Item = joined_texts notes in
    let heads : List Slot = head_slots document ends in
    let len : length main ≡ length document.main = length-map document.main shown in
    let old : List Slot = map shown items ++ loose_if ends.notes in
    let rest : List Slot = old ++ (heads ++ last_slots (old ++ heads)) in
    let inner =
    story_spliced items new fresh ends.notes heads heads from to spliced.order spliced.within spliced.items
    (λ none. none) in
    let end : ℕ = to + marks_go ends.notes items new heads in
    let put : List Slot = map shown fresh ++ marks_come ends.notes items new heads in
    let moved : main ++ splice rest from end put
    ≡ splice (main ++ rest) (length document.main + from) (length document.main + end) put =
    subst (λ n. main ++ splice rest from end put ≡ splice (main ++ rest) (n + from) (n + end) put) len
    (splice_behind main rest put from end) in
    let within = go_within items new ends.notes heads heads to spliced.within in
    let order = spliced.order in
    record {
      order = omega (arith, order);
      within = omega (arith, len, length-append main rest, within);
      whole = ap (λ l. main ++ l) inner ∙ moved;
    }

pub heads_splice : HeadsSplice
unfolding document_slots
heads_splice document ends heads from to fresh spliced =
    let main : List Slot = map shown document.main in
    let notes : List Slot = note_slots document ends in
    let items : List Item = joined_texts document.heads in
    let new : List Item = joined_texts heads in
    let front : List Slot = main ++ notes in
    let begin : ℕ = length document.main + length notes in
    let len : length front ≡ begin = omega (arith, length-append main notes, length-map document.main shown) in
    let old : List Slot = map shown items ++ loose_if ends.heads in
    let after : List Slot = map shown new ++ loose_if (end_after ends.heads items new) in
    let rest : List Slot = old ++ last_slots (old ++ notes) in
    let inner : after ++ last_slots (after ++ notes) ≡ splice rest from
    (to + marks_go ends.heads items new notes) (map shown fresh ++ marks_come ends.heads items new notes) =
    story_spliced items new fresh ends.heads notes [] from to spliced.order spliced.within spliced.items
    (λ none. refl) in
    let end : ℕ = to + marks_go ends.heads items new notes in
    let put : List Slot = map shown fresh ++ marks_come ends.heads items new notes in
    let whole : main ++ (notes ++ (old ++ last_slots (notes ++ old))) ≡ front ++ rest =
    ap (λ l. main ++ (notes ++ (old ++ l))) (last_swap notes old) ∙ sym (append_assoc main notes rest) in
    let moved : front ++ splice rest from end put ≡ splice (front ++ rest) (begin + from) (begin + end) put =
    subst (λ n. front ++ splice rest from end put ≡ splice (front ++ rest) (n + from) (n + end) put) len
    (splice_behind front rest put from end) in
    let within = go_within items new ends.heads notes [] to spliced.within in
    let order = spliced.order in
    record {
      order = omega (arith, order);
      within = omega (arith, len, length-append front rest, within, ap length whole);
      whole =
          ap (λ l. main ++ (notes ++ (after ++ l))) (last_swap notes after)
          ∙ (sym (append_assoc main notes (after ++ last_slots (after ++ notes)))
          ∙ (ap (λ l. front ++ l) inner
          ∙ (moved ∙ ap (λ l. splice l (begin + from) (begin + end) put) (sym whole))));
    }

-- ---- texts one after the other

joined-append : (one other : List (List Item)) → joined_texts (one ++ other) ≡ joined_texts one ++ joined_texts other
joined-append one other = flat_map-append (λ text. text) one other

-- the items of texts are those of the first ones and those of the others
joined_at : (texts : List (List Item)) (number : ℕ) →
    joined_texts texts ≡ joined_texts (take number texts) ++ joined_texts (drop number texts)
joined_at texts number =
    ap joined_texts (sym (take-append-drop number texts)) ∙ joined-append (take number texts) (drop number texts)

taken : (texts : List (List Item)) (number : ℕ) →
    take (nth_text_begin texts number) (joined_texts texts) ≡ joined_texts (take number texts)
taken texts number =
    ap (take (nth_text_begin texts number)) (joined_at texts number)
    ∙ take-append_seam (joined_texts (take number texts)) (joined_texts (drop number texts))

dropped : (texts : List (List Item)) (number : ℕ) →
    drop (nth_text_begin texts number) (joined_texts texts) ≡ joined_texts (drop number texts)
dropped texts number =
    ap (drop (nth_text_begin texts number)) (joined_at texts number)
    ∙ drop-append_seam (joined_texts (take number texts)) (joined_texts (drop number texts))

begins_rise : (texts : List (List Item)) (from to : ℕ) → from ≤ to → to ≤ length texts →
    nth_text_begin texts from ≤ nth_text_begin texts to
begins_rise texts from to order within =
    let parts : joined_texts (take to texts)
    ≡ joined_texts (take from (take to texts)) ++ joined_texts (drop from (take to texts)) =
    joined_at (take to texts) from in
    let inside : from ≤ length (take to texts) = omega (arith, order, within, length-take to texts) in
    let front : take from (take to texts) ≡ take from texts =
    sym (take-append-le from (take to texts) (drop to texts) inside)
    ∙ ap (take from) (take-append-drop to texts) in
    omega (
      arith,
      ap length parts,
      ap (λ l. length (joined_texts l)) front,
      length-append (joined_texts (take from (take to texts))) (joined_texts (drop from (take to texts))),
    )

begin_within : (texts : List (List Item)) (number : ℕ) → nth_text_begin texts number ≤ length (joined_texts texts)
begin_within texts number =
    let a = joined_texts (take number texts) in
    let b = joined_texts (drop number texts) in
    omega (arith, ap length (joined_at texts number), length-append a b)

pub texts_splice : TextsSplice
texts_splice texts fresh from to order within = record {
  order = begins_rise texts from to order within;
  within = begin_within texts to;
  items =
      joined-append (take from texts) (fresh ++ drop to texts)
      ∙ (ap (λ l. joined_texts (take from texts) ++ l) (joined-append fresh (drop to texts))
      ∙ (ap (λ l. l ++ (joined_texts fresh ++ joined_texts (drop to texts))) (sym (taken texts from))
      ∙ ap (λ l. take (nth_text_begin texts from) (joined_texts texts) ++ (joined_texts fresh ++ l))
      (sym (dropped texts to))));
}

pub one_text_splices : OneTextSplices
one_text_splices texts number text fresh from to there order within =
    let front = joined_texts (take number texts) in
    let back = joined_texts (drop (suc number) texts) in
    let low : number < length texts = slice_get_within texts number text there in
    let read : get_or texts number text ≡ text = get_or_from_slice_get texts number text text there in
    let parts : texts ≡ take number texts ++ text ∷ drop (suc number) texts =
    split_at texts number text low ∙ ap (λ t. take number texts ++ t ∷ drop (suc number) texts) read in
    let whole : joined_texts texts ≡ front ++ (text ++ back) =
    ap joined_texts parts ∙ (joined-append (take number texts) (text ∷ drop (suc number) texts)
    ∙ ap (λ l. front ++ l) (flat_map-cons (λ t. t) text (drop (suc number) texts))) in
    let made : List Item = splice text from to fresh in
    let new : joined_texts (slice_set texts number made) ≡ front ++ (made ++ back) =
    ap joined_texts (set_split texts number made low)
    ∙ (joined-append (take number texts) (made ∷ drop (suc number) texts)
    ∙ ap (λ l. front ++ l) (flat_map-cons (λ t. t) made (drop (suc number) texts))) in
    record {
      order = omega (arith, order);
      within = omega (arith, ap length whole, length-append front (text ++ back), length-append text back, within);
      items =
          new ∙ (ap (λ l. front ++ l) (splice_front text back fresh from to order within)
          ∙ (splice_behind front (text ++ back) fresh from to
          ∙ ap (λ l. splice l (length front + from) (length front + to) fresh) (sym whole)));
    }
