-- The layout of a full save: what is where in WordDocument.
use Rattle.std.specs.Prelude.{slice_get, slice_index, replicate}
use Rattle.std.proofs.Common.{◌≡◌, ℕ, ◌+◌, ◌-◌, ◌*◌, ◌/◌, ◌^◌, ◌<◌, ◌≤◌}
use Rattle.std.proofs.Common.{List, ◌++◌, length, map, Some, refl, sym, ap}
use Rattle.std.proofs.Common.{◌∙◌, subst, arith, append_assoc, length-append}
use Rattle.std.proofs.lemmas.List.{length-map, length-replicate}
use Rattle.std.proofs.lemmas.Option.{slice_get_within, get_or_from_slice_get}
use Rattle.doc_bits.specs.Number.{u16_at}
use Rattle.doc_bits.specs.Rules.{Hold}
use Rattle.doc_bits.proofs.Public.{All_at, get-map, number_at-after, number_at-before}
use Rattle.fib_form.specs.Fib.{kept_pairs}
use Rattle.fib_form.specs.FibFields.{fib_fields, IsFib}
use Rattle.fib_form.specs.FibRules.{fib_rules}
use Rattle.fib_form.specs.FibBytes.{written_fib}
use Rattle.fib_form.proofs.Public.{read_back, form_size-most, length-written_fib}
use Rattle.fkp_pages.specs.declared.kind.PageKind.{PageKind}
use Rattle.fkp_pages.specs.declared.kind.PageKind.TheVariants.{Chpx, Papx}
use Rattle.cfb_layout.specs.Sectors.{units_for, filled, padded_to_unit}
use Rattle.cfb_layout.proofs.Public.{length-filled, entry_at}
use Rattle.doc_model.specs.declared.item.Item.{Item}
use Rattle.doc_model.specs.declared.document.Document.{Document}
use Rattle.doc_model.specs.Collected.{sections_of}
use Rattle.doc_model.specs.Formed.{IsFormed}
use Rattle.plain_doc.specs.RightDocument.{IsValidDocument}
use Rattle.full_save.specs.Text.{text_items}
use Rattle.full_save.specs.WordDocument.{text_offset, text_bytes, document_runs, document_pages}
use Rattle.full_save.specs.WordDocument.{first_character_page, first_paragraph_page, pages_end, wd_body, full_text}
use Rattle.full_save.specs.WordDocument.{full_entries, table_stream, full_fib, wd_stream}
use Rattle.full_save.specs.Sections.{sepxes}
use Rattle.fkp_pages.specs.declared.lists.Run.{Run}
use Rattle.fkp_pages.specs.Rows.{IsPageRow, row_table}
use Rattle.full_save.proofs.StretchRuns.{IsWritableItem}
use Rattle.full_save.proofs.EntriesFound.{AreAllowed, entries_are_pairs, entries_are_wide}
use Rattle.full_save.proofs.TableNumbers.{table_allowed}
pub use Rattle.full_save.proofs.TextLaidOut.{items_writable, few_items, counts_are, runs_are, pages_are, length-pages}
use Rattle.full_save.proofs.TextLaidOut.{length-text}
use Rattle.full_save.proofs.StreamLengths.{short_body}

-- a well-formed right document whose table stream has places of 32 bits
pub record LaidOut : Type 0 where
  pub document : Document
  pub formed : IsFormed document
  pub right : IsValidDocument document
  pub short : length (table_stream document) < 2 ^ 32

-- ---- WordDocument in its parts

abbrev front_bytes : Document → List ℕ
front_bytes document = filled text_offset 0 (written_fib (full_fib document))

-- text, zeros, pages of characters, pages of paragraphs, Sepxes, zeros
pub record Body : Type 0 where
  pub front : List ℕ
  pub text : List ℕ
  pub fill : List ℕ
  pub chp : List ℕ
  pub pap : List ℕ
  pub sepx : List ℕ
  pub tail : List ℕ

abbrev body_of : Document → Body
body_of document = record {
  front = front_bytes document;
  text = text_bytes document;
  fill = replicate (units_for 512 (length (text_bytes document)) * 512 - length (text_bytes document)) 0;
  chp = (document_pages Chpx document).bytes;
  pap = (document_pages Papx document).bytes;
  sepx = sepxes (sections_of document.main);
  tail = replicate (4096 - length (front_bytes document ++ wd_body document)) 0;
}

abbrev joined_body : Body → List ℕ
joined_body b = b.front ++ (b.text ++ (b.fill ++ (b.chp ++ (b.pap ++ (b.sepx ++ b.tail)))))

wd_is : (document : Document) → wd_stream document ≡ joined_body (body_of document)
unfolding wd_stream wd_body filled padded_to_unit
wd_is document = let b = body_of document in simp (append_assoc) refl

body_cut : (b : Body) →
    (joined_body b ≡ (b.front ++ (b.text ++ b.fill)) ++ (b.chp ++ (b.pap ++ (b.sepx ++ b.tail))))
    × ((joined_body b ≡ (b.front ++ (b.text ++ (b.fill ++ b.chp))) ++ (b.pap ++ (b.sepx ++ b.tail)))
    × (joined_body b ≡ (b.front ++ (b.text ++ (b.fill ++ (b.chp ++ b.pap)))) ++ (b.sepx ++ b.tail)))
body_cut b = (simp (append_assoc) refl, (simp (append_assoc) refl, simp (append_assoc) refl))

-- ---- the FIB

pub allowed : (document : Document) → AreAllowed (full_entries document)
allowed document = table_allowed document (full_text document)

fib_pairs_count : (document : Document) → length (full_fib document).pairs ≡ kept_pairs
unfolding full_fib
fib_pairs_count document = (entries_are_pairs (full_entries document) (allowed document)).count

pub length-front : (document : Document) → length (front_bytes document) ≡ 1024
length-front document =
    let len = length-written_fib (full_fib document) (fib_pairs_count document) in
    let most = form_size-most (full_fib document).form in
    length-filled text_offset 0 (written_fib (full_fib document)) (omega (arith, len, most))

-- WordDocument is short, whatever the document
pub short_wd : (s : LaidOut) → length (wd_stream s.document) < 2 ^ 31
unfolding wd_stream filled
short_wd s =
    let document = s.document in
    let all = front_bytes document ++ wd_body document in
    let zeros : List ℕ = replicate (4096 - length all) 0 in
    let a = length-append all zeros in
    let b = length-append (front_bytes document) (wd_body document) in
    let c = length-replicate {A = ℕ} (4096 - length all) 0 in
    let short = short_body document s.formed s.right in
    omega (arith, a, b, c, length-front document, short)

pub saved_is_fib : (s : LaidOut) → IsFib (full_fib s.document)
unfolding full_fib table_stream
saved_is_fib s =
    let d = s.document in
    let short = short_body d s.formed s.right in
    record {
      languages = s.formed.carried.languages;
      flags = s.formed.carried.flags;
      quick_saves = omega arith;
      which_table = omega arith;
      cb_mac = omega (arith, short);
      counts = counts_are d s.right;
      pairs = entries_are_pairs (full_entries d) (allowed d);
      wide = entries_are_wide (full_entries d) s.short;
    }

-- what is read of it
pub record IsFibRead (s : LaidOut) : Type 0 where
  pub rules : Hold (fib_rules (wd_stream s.document))
  pub fields : fib_fields (wd_stream s.document) ≡ full_fib s.document

fib_first : (document : Document) → (more : List ℕ) × (wd_stream document ≡ written_fib (full_fib document) ++ more)
unfolding filled
fib_first document =
    let fib = written_fib (full_fib document) in
    let zeros = replicate (text_offset - length fib) 0 in
    let b = body_of document in
    let rest = b.text ++ (b.fill ++ (b.chp ++ (b.pap ++ (b.sepx ++ b.tail)))) in
    (zeros ++ rest, wd_is document ∙ append_assoc fib zeros rest)

pub fib_read : (s : LaidOut) → IsFibRead s
fib_read s =
    let first = fib_first s.document in
    let read = read_back (full_fib s.document) first.0 (saved_is_fib s) in
    record {
      rules = subst (λ wd. Hold (fib_rules wd)) (sym first.1) read.0;
      fields = ap fib_fields first.1 ∙ read.1;
    }

-- ---- how long its parts are

abbrev the_body : LaidOut → Body
the_body s = body_of s.document

abbrev page_count : PageKind → LaidOut → ℕ
page_count kind s = length (document_pages kind s.document).starts

abbrev text_count : LaidOut → ℕ
text_count s = 2 * length (text_items s.document)

record Sizes (s : LaidOut) : Type 0 where
  front : length (the_body s).front ≡ 1024
  text : length (the_body s).text ≡ text_count s
  fill : length (the_body s).text + length (the_body s).fill ≡ 512 * ((text_count s + 511) / 512)
  chp : length (the_body s).chp ≡ 512 * page_count Chpx s
  pap : length (the_body s).pap ≡ 512 * page_count Papx s
  all :
      1024 + (length (the_body s).text + length (the_body s).fill) + length (the_body s).chp
      + length (the_body s).pap + length (the_body s).sepx ≤ length (wd_stream s.document)

sizes : (s : LaidOut) → Sizes s
sizes s =
    let b = body_of s.document in
    let text = length-text s.document in
    let zeros =
    length-replicate {A = ℕ} (units_for 512 (length (text_bytes s.document)) * 512 - length (text_bytes s.document))
    0 in
    let whole = ap length (wd_is s.document) in
    let a1 = length-append b.front (b.text ++ (b.fill ++ (b.chp ++ (b.pap ++ (b.sepx ++ b.tail))))) in
    let a2 = length-append b.text (b.fill ++ (b.chp ++ (b.pap ++ (b.sepx ++ b.tail)))) in
    let a3 = length-append b.fill (b.chp ++ (b.pap ++ (b.sepx ++ b.tail))) in
    let a4 = length-append b.chp (b.pap ++ (b.sepx ++ b.tail)) in
    let a5 = length-append b.pap (b.sepx ++ b.tail) in
    let a6 = length-append b.sepx b.tail in
    let front = length-front s.document in
    record {
      front = front;
      text = text;
      fill = omega (arith, text, zeros);
      chp = length-pages Chpx s.document s.formed s.right;
      pap = length-pages Papx s.document s.formed s.right;
      all = omega (arith, whole, a1, a2, a3, a4, a5, a6, front);
    }

-- ---- units

pub unit_there : (s : LaidOut) (k : ℕ) (item : Item) → slice_get (text_items s.document) k ≡ Some item →
    u16_at (wd_stream s.document) (text_offset + 2 * k) ≡ item.unit
unit_there s k item here =
    let b = body_of s.document in
    let units = map (λ (item : Item). item.unit) (text_items s.document) in
    let rest = b.fill ++ (b.chp ++ (b.pap ++ (b.sepx ++ b.tail))) in
    let size = sizes s in
    let within = slice_get_within (text_items s.document) k item here in
    let count = length-map (text_items s.document) (λ (item : Item). item.unit) in
    let at : text_offset + 2 * k ≡ length b.front + 2 * k = ap (λ n. n + 2 * k) (sym size.front) in
    let unit : slice_index units k ≡ item.unit =
    get_or_from_slice_get units k item.unit 0 (get-map (λ (i : Item). i.unit) (text_items s.document) k item here) in
    let small =
    (All_at IsWritableItem (text_items s.document) k item (items_writable s.document s.formed s.right) here).unit in
    ap (λ wd. u16_at wd (text_offset + 2 * k)) (wd_is s.document)
    ∙ (ap (λ n. u16_at (joined_body b) n) at
    ∙ (number_at-after b.front (b.text ++ rest) (2 * k) 2
    ∙ (number_at-before b.text rest (2 * k) 2 (omega (arith, size.text, within))
    ∙ (entry_at 2 units k (2 * k) (omega (arith, count, within)) (omega (arith, unit, small)) refl ∙ unit))))

-- ---- rows of pages

character_row : (s : LaidOut) →
    IsPageRow Chpx (wd_stream s.document) (document_runs Chpx s.document) (first_character_page s.document)
character_row s =
    let b = body_of s.document in
    let runs = runs_are Chpx s.document s.formed s.right in
    let size = sizes s in
    let short = short_wd s in
    let a1 = length-append b.front (b.text ++ b.fill) in
    let a2 = length-append b.text b.fill in
    record {
      pages = document_pages Chpx s.document;
      before = b.front ++ (b.text ++ b.fill);
      behind = b.pap ++ (b.sepx ++ b.tail);
      right = runs.right;
      numbers = runs.numbers;
      pages_are = pages_are Chpx s.document s.formed s.right;
      some = runs.some;
      low = omega arith;
      high = omega (arith, size.text, size.fill, size.chp, size.all, short);
      begins = omega (arith, a1, a2, size.front, size.fill);
      there = wd_is s.document ∙ (body_cut b).0;
    }

paragraph_row : (s : LaidOut) →
    IsPageRow Papx (wd_stream s.document) (document_runs Papx s.document) (first_paragraph_page s.document)
paragraph_row s =
    let b = body_of s.document in
    let runs = runs_are Papx s.document s.formed s.right in
    let size = sizes s in
    let short = short_wd s in
    let a1 = length-append b.front (b.text ++ (b.fill ++ b.chp)) in
    let a2 = length-append b.text (b.fill ++ b.chp) in
    let a3 = length-append b.fill b.chp in
    record {
      pages = document_pages Papx s.document;
      before = b.front ++ (b.text ++ (b.fill ++ b.chp));
      behind = b.sepx ++ b.tail;
      right = runs.right;
      numbers = runs.numbers;
      pages_are = pages_are Papx s.document s.formed s.right;
      some = runs.some;
      low = omega arith;
      high = omega (arith, size.text, size.fill, size.chp, size.pap, size.all, short);
      begins = omega (arith, a1, a2, a3, size.front, size.fill, size.chp);
      there = wd_is s.document ∙ (body_cut b).1.0;
    }

-- ---- where the text ends and Sepxes begin

pub text_within : (s : LaidOut) → text_offset + 2 * length (text_items s.document) ≤ length (wd_stream s.document)
text_within s =
    let size = sizes s in
    omega (arith, size.text, size.all)

-- the Sepxes are behind the pages
pub record StandSepxes (s : LaidOut) : Type 0 where
  pub before : List ℕ
  pub after : List ℕ
  pub there : wd_stream s.document ≡ before ++ (sepxes (sections_of s.document.main) ++ after)
  pub place : length before ≡ pages_end s.document
  pub low : 1024 ≤ length before

pub stand_sepxes : (s : LaidOut) → StandSepxes s
stand_sepxes s =
    let b = body_of s.document in
    let size = sizes s in
    let a1 = length-append b.front (b.text ++ (b.fill ++ (b.chp ++ b.pap))) in
    let a2 = length-append b.text (b.fill ++ (b.chp ++ b.pap)) in
    let a3 = length-append b.fill (b.chp ++ b.pap) in
    let a4 = length-append b.chp b.pap in
    record {
      before = b.front ++ (b.text ++ (b.fill ++ (b.chp ++ b.pap)));
      after = b.tail;
      there = wd_is s.document ∙ (body_cut b).1.1;
      place = omega (arith, a1, a2, a3, a4, size.front, size.fill, size.chp, size.pap);
      low = omega (arith, a1, size.front);
    }

-- ---- the tables of the rows

-- a row of pages whose own table this is
pub record HasRowTable (kind : PageKind) (wd : List ℕ) (runs : List Run) (table : List ℕ) : Type 0 where
  pub first : ℕ
  pub row : IsPageRow kind wd runs first
  pub table_is : row_table row ≡ table

pub character_table : (s : LaidOut) →
    HasRowTable Chpx (wd_stream s.document) (document_runs Chpx s.document) (full_text s.document).characters
unfolding character_row
character_table s =
    record { first = first_character_page s.document; row = character_row s; table_is = refl }

pub paragraph_table : (s : LaidOut) →
    HasRowTable Papx (wd_stream s.document) (document_runs Papx s.document) (full_text s.document).paragraphs
unfolding paragraph_row
paragraph_table s =
    record { first = first_paragraph_page s.document; row = paragraph_row s; table_is = refl }
