-- A save whose file keeps its own sectors.
use Rattle.std.specs.Prelude.{replicate}
use Rattle.std.proofs.Common.{◌≡◌, ◌∙◌, refl, sym, ap, subst, inl, inr, ℕ, ◌-◌, ◌<◌, ◌≤◌, cond, List, ◌++◌, length}
use Rattle.std.proofs.Common.{drop, append_assoc, arith}
use Rattle.std.proofs.lemmas.Bool.{lt-ltb, le-ltb}
use Rattle.cfb_sectors.specs.Header.{sector_count}
use Rattle.cfb_streams.specs.Contents.{HasNamed}
use Rattle.cfb_streams.specs.Names.{wd_name}
use Rattle.cfb_layout.specs.Sectors.{filled}
use Rattle.cfb_in_place.specs.Change.{OldChains, grown_bytes, added_sectors, added_for, sectors_after}
use Rattle.cfb_in_place.specs.Contract.{CanBePutInPlace, AreNamedChains, IsSavedInPlace, NeedsTooMany as NeedTooMany}
use Rattle.cfb_in_place.proofs.Public.{added_is, grown_bytes_are, can_append, named_bytes, has_grown}
use Rattle.cfb_in_place.proofs.Public.{has_table as has_new_table, stays_in_place}
use Rattle.cfb_in_place.specs.InPlace.{StaysInPlace}
use Rattle.fib_form.proofs.Public.{form_size-most}
use Rattle.fib_form.specs.Fib.{form_size}
use Rattle.fib_form.specs.FibBytes.{written_fib}
use Rattle.save_laws.specs.Places.{fib_end}
use Rattle.fast_save_layout.specs.Saves.{FastSave}
use Rattle.fast_save_layout.specs.Appended.{table_name_of, old_wd, old_table, added_bytes, fast_table, fast_wd}
use Rattle.fast_save_layout.specs.Appended.{change_of}
use Rattle.fast_save_layout.specs.Answers.{IsAppended, NeedsTooMany, sectors_anew, sectors_in_place, sectors_of}
use Rattle.fast_save_layout.proofs.FilledTable.{table_long}
use Rattle.fast_save_layout.proofs.InPlaceLemmas.{named_chain, carried_stay}
use Rattle.fast_save_layout.proofs.ReadyLemmas.{Ready, form_is}
use Rattle.fast_save_layout.proofs.StreamLengths.{has_wd, has_table}
use Rattle.fast_save_layout.proofs.WrittenLemmas.{Made, the_save, new_fib, old_rest, sizes, table_small, fib_read}
use Rattle.save_laws.proofs.Public.{name_six}
use Rattle.fast_save_layout.proofs.SavedLemmas.{HasSavedStreams, fast_saved, has_contents, small_wd}

-- WordDocument grows to the new one
grown_is : (m : Made) → grown_bytes (change_of (the_save m) m.clx) (old_wd (the_save m)) ≡ fast_wd (the_save m) m.clx
unfolding fast_wd filled
grown_is m =
    let save = the_save m in
    let old = old_wd save in
    let fib = written_fib (new_fib m) in
    let rest = old_rest m in
    let added = added_bytes save in
    let size = sizes m in
    let zeros : List ℕ = replicate (save.base - length old) 0 in
    let more : zeros ≡ replicate (save.base - length (fib ++ rest)) 0 =
    ap (λ (n : ℕ). replicate (save.base - n) 0) (sym size.old) in
    ap (λ (n : ℕ). fib ++ (drop n old ++ (zeros ++ added))) size.fib
    ∙ (sym (append_assoc fib rest (zeros ++ added))
    ∙ (sym (append_assoc (fib ++ rest) zeros added)
    ∙ ap (λ (xs : List ℕ). ((fib ++ rest) ++ xs) ++ added) more))

-- the change may be put into the file
pub can_change : (m : Made) → 4096 ≤ length (old_wd (the_save m)) →
    CanBePutInPlace (the_save m).contents (change_of (the_save m) m.clx) (table_name_of (the_save m))
can_change m long =
    let r = m.ready in
    let save = the_save m in
    let size = sizes m in
    let six = name_six save.fib.which_table in
    let most = form_size-most save.fib.form in
    let grown = ap length (grown_is m) in
    let small = small_wd m in
    can_append save.file save.contents (change_of save m.clx) (table_name_of save) (old_wd save) (old_table save)
    (has_contents r) (has_wd r) (has_table r) (λ same. absurd (omega (arith, same, six))) long
    (omega (arith, size.fib, most)) (table_long save m.clx long) (omega (arith, grown, small)) (table_small m)

streams_kept : (m : Made) (file : List ℕ)
    (is : IsSavedInPlace (the_save m).file file (the_save m).contents (change_of (the_save m) m.clx) (table_name_of
    (the_save m))) → HasSavedStreams m is.after
streams_kept m file is =
    let save = the_save m in
    let change = change_of save m.clx in
    let name = table_name_of save in
    record {
      has_wd =
          subst (λ (wd : List ℕ). HasNamed is.after.streams wd_name wd) (grown_is m)
          (has_grown save.file file save.contents change name (old_wd save) is (has_wd m.ready));
      has_table = has_new_table save.file file save.contents change name is;
      clsid = is.are.clsid;
      carried = carried_stay save.file file save.contents change save.fib.which_table is;
    }

pub appended_in_place : (m : Made) (file : List ℕ) → 4096 ≤ length (old_wd (the_save m)) →
    IsSavedInPlace (the_save m).file file (the_save m).contents (change_of (the_save m) m.clx) (table_name_of (the_save
    m)) → IsAppended (the_save m) file
appended_in_place m file long is = record {
  clx = m.clx;
  printed = m.printed;
  contents = is.after;
  written = inr (record { long = long; in_place = is; contents_are = refl });
  few_saves = m.few_saves;
  fib = (fib_read m).fields;
  saved = fast_saved m is.after (streams_kept m file is);
  container = record { rules = is.holds; has_contents = is.read };
}

-- ---- the sectors that are needed

pub anew_needs : (save : FastSave) (clx : List ℕ) → length (old_wd save) < 4096 →
    sectors_of save clx ≡ sectors_anew save clx
anew_needs save clx short =
    ap (λ b. cond b (sectors_anew save clx) (sectors_in_place save clx)) (lt-ltb (length (old_wd save)) 4096 short)

pub in_place_needs : (save : FastSave) (clx : List ℕ) → 4096 ≤ length (old_wd save) →
    sectors_of save clx ≡ sectors_in_place save clx
in_place_needs save clx long =
    ap (λ b. cond b (sectors_anew save clx) (sectors_in_place save clx)) (le-ltb (length (old_wd save)) 4096 long)

-- by the chains of the two streams
counted_in_place : (m : Made) (chains : OldChains) →
    AreNamedChains (the_save m).file (the_save m).contents (table_name_of (the_save m)) chains →
    sectors_after (the_save m).file (added_sectors (the_save m).file chains (change_of (the_save m) m.clx))
    ≡ sectors_in_place (the_save m) m.clx
counted_in_place m chains named =
    let save = the_save m in
    let file = save.file in
    let change = change_of save m.clx in
    let chain = named_chain file save.contents (table_name_of save) chains named in
    let bytes = named.main_bytes
    ∙ named_bytes file save.contents wd_name (old_wd save) named.main.index named.has (has_wd m.ready) named.main.is in
    let grown = ap (grown_bytes change) bytes ∙ grown_is m in
    ap (sectors_after file) (added_is file chains change)
    ∙ (λ i. sectors_after file (added_for file (length (sym chain i)) (length (grown i)) (length (fast_table save
    m.clx))))

pub too_many_there : (m : Made) (sectors : ℕ) → 4096 ≤ length (old_wd (the_save m)) →
    NeedTooMany (the_save m).file (the_save m).contents (change_of (the_save m) m.clx) (table_name_of (the_save m))
    sectors → NeedsTooMany (the_save m) sectors
too_many_there m sectors long needs =
    let many = needs.many in
    let number = needs.number in
    record {
      clx = m.clx;
      printed = m.printed;
      many = omega (arith, many, number);
      number =
          number
          ∙ (counted_in_place m needs.chains needs.named ∙ sym (in_place_needs (the_save m) m.clx long));
    }

pub sectors_kept : (m : Made) (file : List ℕ)
    (is : IsSavedInPlace (the_save m).file file (the_save m).contents (change_of (the_save m) m.clx) (table_name_of
    (the_save m))) → sector_count file ≡ sectors_in_place (the_save m) m.clx
sectors_kept m file is =
    let save = the_save m in
    let change = change_of save m.clx in
    let len = is.save.saved.header.len in
    let named : AreNamedChains save.file save.contents (table_name_of save) is.chains = record {
      has = is.has;
      are = is.save.are;
      main = record { index = is.are.grown; is = is.main; here = is.are.grown_is };
      other = record { index = is.are.table; is = is.other; here = is.are.table_is };
      main_bytes =
          sym
          (grown_bytes_are save.file file save.contents is.after is.has is.chains change is.save is.are is.main.stream
          is.main.here);
    } in
    omega (arith, len, counted_in_place m is.chains named)

-- ---- where WordDocument has sectors of its own it stays in them

pub stays : (r : Ready) (file : List ℕ) → IsAppended r.save file → 4096 ≤ length (old_wd r.save) →
    StaysInPlace wd_name (fib_end (old_wd r.save)) r.save.file file (old_wd r.save)
stays r file made long =
    let save = r.save in
    let m : Made = record { ready = r; clx = made.clx; printed = made.printed; few_saves = made.few_saves } in
    let size : length (change_of save made.clx).fib ≡ fib_end (old_wd save) = (sizes m).fib ∙ ap form_size (form_is r)
    in
    elim made.written [
      | inl anew ↦ let short = anew.short in absurd (omega (arith, short, long))
      | inr kept ↦
          subst (λ (from : ℕ). StaysInPlace wd_name from save.file file (old_wd save)) size
          (stays_in_place save.file file save.contents (change_of save made.clx) (table_name_of save) (old_wd save)
          kept.in_place (has_wd r))
    ]
