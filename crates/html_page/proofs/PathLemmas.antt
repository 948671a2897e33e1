-- Paths of files as URLs.
use Rattle.std.proofs.Common.{◌≡◌, ◌∙◌, ℕ, zero, suc, ◌+◌, ◌/◌, ◌%◌, ◌<◌, Bool, true, false, List, [], ◌∷◌, ◌++◌}
use Rattle.std.proofs.Common.{length, take, refl, sym, ap, arith, append_assoc, append-nil}
use Rattle.std.specs.Prelude.{◌==◌, ◌||◌, codes, nat_le, slice_index, Some, if◌then◌else◌}
use Rattle.std.specs.Fmt.{decimal, digits, digits_onto, digit_glyph}
use Rattle.std.specs.List.{flat_map, list_all}
use Rattle.std.proofs.lemmas.Bool.Decides.{nat_tests}
use Rattle.std.proofs.lemmas.List.{take_more}
use Rattle.std.proofs.lemmas.List.Concat.{flat_map-append}
use Rattle.std.proofs.lemmas.List.Folds.{list_all-append}
use Rattle.doc_bits.proofs.Public.{and_true, and_first, and_second}
use Rattle.field_links.specs.Urls.{upper_hex_digit}
use Rattle.html_text.specs.Tokens.{Character, escaped, escaped_text, printed}
use Rattle.inline_pictures.specs.declared.kind.PictureKind.{PictureKind}
use Rattle.inline_pictures.specs.declared.kind.PictureKind.TheVariants.{Png, Jpeg, Tiff, Emf, Wmf}
use Rattle.inline_pictures.specs.declared.kind.PictureKind.TheVariants.{CompressedEmf, CompressedWmf}
use Rattle.doc_pictures.specs.declared.names.PictureName.{PictureName}
use Rattle.doc_pictures.specs.Names.{picture_name, suffix_of}
use Rattle.html_page.specs.Images.{coded_byte, image_attributes, image_url, is_path_byte, path_byte, path_url}
use Rattle.html_page.specs.Pages.{picture_tokens, start_tag}
use Rattle.html_page.specs.Tags.{attribute}
use Rattle.html_page.proofs.PutLemmas.{is_plain, printed-characters, printed-plain}

-- ---- bytes one by one

three-characters : (a b c : ℕ) → printed (Character a ∷ []) ++ (printed (Character b ∷ []) ++ printed (Character c ∷ []))
    ≡ escaped_text (a ∷ b ∷ c ∷ [])
three-characters a b c =
    (λ i. append-nil (escaped a) i ++ (append-nil (escaped b) i ++ (escaped c ++ [])))

pub coded-text : (byte high low : ℕ) → high ≡ upper_hex_digit (byte / 16) → low ≡ upper_hex_digit (byte % 16) →
    printed (Character 37 ∷ []) ++ (printed (Character high ∷ []) ++ printed (Character low ∷ []))
    ≡ escaped_text (coded_byte byte)
coded-text byte high low one other =
    (λ i. printed (Character 37 ∷ []) ++ (printed (Character (one i) ∷ []) ++ printed (Character (other i) ∷ [])))
    ∙ three-characters 37 (upper_hex_digit (byte / 16)) (upper_hex_digit (byte % 16))

pub byte-text : (byte : ℕ) (own : Bool) (text : List ℕ) → is_path_byte byte ≡ own →
    text ≡ escaped_text (if own then byte ∷ [] else coded_byte byte) → text ≡ escaped_text (path_byte byte)
byte-text byte own text is text_is =
    text_is ∙ ap (λ (b : Bool). escaped_text (if b then byte ∷ [] else coded_byte byte)) (sym is)

pub path-on : (path : List ℕ) (i : ℕ) → i < length path →
    escaped_text (path_url (take i path)) ++ escaped_text (path_byte (slice_index path i))
    ≡ escaped_text (path_url (take (i + 1) path))
path-on path i within =
    let byte = slice_index path i in
    let front = take i path in
    sym (ap (λ (some : List ℕ). escaped_text (path_url some)) (take_more path i 0 within)
    ∙ (ap escaped_text (flat_map-append path_byte front (byte ∷ []))
    ∙ (flat_map-append escaped (path_url front) (path_byte byte ++ [])
    ∙ ap (λ (last : List ℕ). escaped_text (path_url front) ++ escaped_text last) (append-nil (path_byte byte)))))

-- ---- the name of a picture represents itself

abbrev IsOwn : List ℕ → Type 0
IsOwn text = list_all is_path_byte text ≡ true

own-is_plain : (code : ℕ) → is_path_byte code ≡ true → is_plain code ≡ true
own-is_plain code is = grind (arith, nat_tests)

own-plain : (text : List ℕ) → IsOwn text → list_all is_plain text ≡ true
own-plain [] is = refl
own-plain (code ∷ text) is =
    and_true (is_plain code) (list_all is_plain text)
    (own-is_plain code (and_first (is_path_byte code) (list_all is_path_byte text) is))
    (own-plain text (and_second (is_path_byte code) (list_all is_path_byte text) is))

own-url : (text : List ℕ) → IsOwn text → path_url text ≡ text
own-url [] is = refl
own-url (code ∷ text) is =
    ap (λ (b : Bool). (if b then code ∷ [] else coded_byte code) ++ path_url text)
    (and_first (is_path_byte code) (list_all is_path_byte text) is)
    ∙ ap (λ (more : List ℕ). code ∷ more) (own-url text (and_second (is_path_byte code) (list_all is_path_byte text) is))

own-text : (text : List ℕ) → IsOwn text → escaped_text (path_url text) ≡ text
own-text text is =
    ap escaped_text (own-url text is) ∙ (sym (printed-characters text) ∙ printed-plain text (own-plain text is))

digit-is_own : (d : ℕ) → d < 10 → is_path_byte (digit_glyph false d) ≡ true
digit-is_own d low = grind (arith, nat_tests)

own-digits_onto : (k n : ℕ) (acc : List ℕ) → IsOwn acc → IsOwn (digits_onto k 10 false n acc)
own-digits_onto zero n acc h = h
own-digits_onto (suc k) n acc h =
    let next : IsOwn (digit_glyph false (n % 10) ∷ acc) =
    and_true (is_path_byte (digit_glyph false (n % 10))) (list_all is_path_byte acc)
    (digit-is_own (n % 10) (omega arith)) h in
    elim (n / 10 == 0) as (λ (b : Bool). IsOwn (if b then digit_glyph false (n % 10) ∷ acc else
    digits_onto k 10 false (n / 10) (digit_glyph false (n % 10) ∷ acc))) [
      | true ↦ next
      | false ↦ own-digits_onto k (n / 10) (digit_glyph false (n % 10) ∷ acc) next
    ]

own-decimal : (n : ℕ) → IsOwn (decimal n)
unfolding digits
own-decimal n = own-digits_onto 64 n [] refl

own-append : (xs ys : List ℕ) → IsOwn xs → IsOwn ys → IsOwn (xs ++ ys)
own-append xs ys one other =
    list_all-append is_path_byte xs ys ∙ and_true (list_all is_path_byte xs) (list_all is_path_byte ys) one other

own-suffix : (kind : PictureKind) → IsOwn (suffix_of kind)
own-suffix Png = refl
own-suffix Jpeg = refl
own-suffix Tiff = refl
own-suffix Emf = refl
own-suffix Wmf = refl
own-suffix CompressedEmf = refl
own-suffix CompressedWmf = refl

abbrev pub name_text : PictureName → List ℕ
name_text name = codes "/" ++ picture_name name.number name.kind

own-name : (name : PictureName) → IsOwn (name_text name)
own-name name =
    let last = codes "." ++ suffix_of name.kind in
    own-append (codes "/picture-") (decimal name.number ++ last) refl
    (own-append (decimal name.number) last (own-decimal name.number)
    (own-append (codes ".") (suffix_of name.kind) refl (own-suffix name.kind)))

url-text : (folder : List ℕ) (name : PictureName) →
    escaped_text (path_url folder) ++ name_text name ≡ escaped_text (image_url folder name)
url-text folder name =
    let last = name_text name in
    ap (λ (text : List ℕ). escaped_text (path_url folder) ++ text) (sym (own-text last (own-name name)))
    ∙ (sym (flat_map-append escaped (path_url folder) (path_url last))
    ∙ ap escaped_text (sym (flat_map-append path_byte folder last)))

-- ---- the tag of an image

tail-pieces : (value alt : List ℕ) → (((value ++ 34 ∷ []) ++ alt) ++ 62 ∷ []) ++ [] ≡ value ++ (34 ∷ (alt ++ 62 ∷ []))
tail-pieces value alt =
    append-nil (((value ++ 34 ∷ []) ++ alt) ++ 62 ∷ [])
    ∙ (ap (λ (text : List ℕ). text ++ 62 ∷ []) (append_assoc value (34 ∷ []) alt)
    ∙ append_assoc value (34 ∷ alt) (62 ∷ []))

tag-pieces : (value : List ℕ) → codes "<img src=\"" ++ (value ++ codes "\" alt=\"\">")
    ≡ printed (start_tag (codes "img") (attribute (codes "src") value ∷ attribute (codes "alt") [] ∷ []) ∷ [])
tag-pieces value =
    ap (λ (more : List ℕ). codes "<img src=\"" ++ more) (sym (tail-pieces value (codes " alt=\"\"")))

pub image-text : (folder : List ℕ) (name : PictureName) → codes "<img src=\""
    ++ (escaped_text (path_url folder) ++ (name_text name ++ codes "\" alt=\"\">"))
    ≡ printed (picture_tokens folder (Some name))
image-text folder name =
    let front = escaped_text (path_url folder) in
    let last = codes "\" alt=\"\">" in
    ap (λ (more : List ℕ). codes "<img src=\"" ++ more)
    (sym (append_assoc front (name_text name) last) ∙ ap (λ (value : List ℕ). value ++ last) (url-text folder name))
    ∙ tag-pieces (escaped_text (image_url folder name))
