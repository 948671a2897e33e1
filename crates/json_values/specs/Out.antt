-- A text that grows piece by piece: all of it is counted, and it is kept while it has at most so many bytes.
use Rattle.std.specs.Prelude.{◌≡◌, ◌≤◌, ◌+◌, ◌++◌, ℕ, List, length, refl}
use Rattle.std.specs.Coded.{Coded, code_by, coded×, coded_ℕ, coded_list}

-- what is kept of a text, how many bytes the whole of it has, and how many are kept at most
pub record Output : Type 0 where
  pub text : List ℕ
  pub len : ℕ
  pub most : ℕ

-- how a proof tells them apart
abbrev pub output_code : Coded Output
output_code =
    code_by (List ℕ × (ℕ × ℕ))
    (coded× (coded_list coded_ℕ) (coded× coded_ℕ coded_ℕ))
    (λ o. (o.text, (o.len, o.most)))
    (λ p. record { text = p.0; len = p.1.0; most = p.1.1 })
    (λ _. refl)

-- the text has this piece more: it is counted, and it is behind the rest where the whole is short enough
pub record Adds (old new : Output) (piece : List ℕ) : Type 0 where
  pub same : new.most ≡ old.most
  pub counted : new.len ≡ old.len + length piece
  pub kept : new.len ≤ old.most → new.text ≡ old.text ++ piece

-- what is kept is a part of the text, and has at most so many bytes
pub record IsShortOutput (output : Output) : Type 0 where
  pub part : length output.text ≤ output.len
  pub few : length output.text ≤ output.most
