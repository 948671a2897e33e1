-- How a run ends: its status, what it prints, and what it puts.
use Rattle.std.specs.Prelude.{◌≡◌, ◌<◌, ◌⊎◌, ℕ, List, Option, Some, None, option_map}

-- bytes under a name
pub record PutFile : Type 0 where
  pub name : List ℕ
  pub bytes : List ℕ

-- a status, what is printed, and perhaps a file that is put
pub record Outcome : Type 0 where
  pub status : ℕ
  pub text : List ℕ
  pub put : Option PutFile

-- the text is printed, and nothing is put
abbrev pub says : ℕ → List ℕ → Outcome
says status text = record { status = status; text = text; put = None }

-- the bytes are put under the name, and the text is printed
abbrev pub puts : (text name bytes : List ℕ) → Outcome
puts text name bytes = record { status = 0; text = text; put = Some (record { name = name; bytes = bytes }) }

-- the name under which bytes are put
abbrev pub put_name : Outcome → Option (List ℕ)
put_name outcome = option_map (λ file. file.name) outcome.put

-- one status, one text, and one name for what is put
pub record AreAlike (one other : Outcome) : Type 0 where
  pub status : one.status ≡ other.status
  pub text : one.text ≡ other.text
  pub name : put_name one ≡ put_name other

-- a status that a stage after reading may answer: none of those for what happens outside, 3 to 6
abbrev pub IsAfterReading : ℕ → Type 0
IsAfterReading status = (status < 3) ⊎ (6 < status)
