-- Properties that are written entry by entry.
use Rattle.std.proofs.Common.{◌≡◌, ℕ, List, ◌∷◌, ◌++◌, Bool, true, sym, ap, ◌∙◌, append_assoc}
use Rattle.serde_json.specs.Written.{members_text, compact_text, comma_if}
use Rattle.json.specs.Print.{quoted}
use Rattle.text_codes.specs.Digits.{word_text}
use Rattle.json_values.specs.Digits.{bytes_json}
use Rattle.sprm_table.specs.Sprm.{Prl}
use Rattle.prop_map.specs.Settings.{Properties}
use Rattle.json_values.specs.Out.{Output, Adds}
use Rattle.json_values.specs.Settings.{properties_members, properties_json, entry_text}
use Rattle.json_values.proofs.OutLemmas.{Adds-Adds}

-- all entries but those that are left were written
pub record ArePut (old now : Output) (later : Bool) (set : Properties) (left : List Prl) : Type 0 where
  pub text : List ℕ
  pub added : Adds old now text
  pub whole : text ++ members_text later (properties_members left) ≡ compact_text (properties_json set)

regroup : (comma key value rest : List ℕ) → (comma ++ (key ++ 58 ∷ value)) ++ rest ≡ comma ++ (key ++ 58 ∷ (value ++
    rest))
regroup comma key value rest =
    append_assoc comma (key ++ 58 ∷ value) rest ∙ ap (λ text. comma ++ text) (append_assoc key (58 ∷ value) rest)

pub one_put : (old now new : Output) (later : Bool) (set : Properties) (prl : Prl) (left rest : List Prl) → left ≡ prl ∷
    rest → Adds now new (entry_text later prl) → ArePut old now later set left → ArePut old new true set rest
one_put old now new later set prl left rest is adds put = record {
  text = put.text ++ entry_text later prl;
  added = Adds-Adds old now new put.text (entry_text later prl) put.added adds;
  whole =
      append_assoc put.text (entry_text later prl) (members_text true (properties_members rest))
      ∙ ap (λ text. put.text ++ text) (regroup (comma_if later) (quoted (word_text prl.0)) (compact_text (bytes_json
      prl.1)) (members_text true (properties_members rest)))
      ∙ ap (λ entries_left. put.text ++ members_text later (properties_members entries_left)) (sym is)
      ∙ put.whole;
}
