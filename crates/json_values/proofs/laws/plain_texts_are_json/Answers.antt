use Rattle.json_values.proofs.TextLemmas.{plain_json}
use Rattle.json_values.proofs.laws.plain_texts_are_json.Goals as goal

pub returns : goal.returns
returns c = plain_json
