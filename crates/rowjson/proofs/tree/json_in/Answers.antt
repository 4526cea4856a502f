use Rattle.std.proofs.Common.{ap, sym, ◌∙◌, rules}
use Rattle.serde_json.specs.Read.{read}
use Rattle.serde_json.specs.Errors.{IsMemory}
use Rattle.rowjson.proofs.JsonText.{json_of_text, json_of_bytes}
use Rattle.rowjson.proofs.tree.json_in.Goals as goal

pub returns-in-Ok-from_str-clause-ok : goal.returns-in-Ok-from_str-clause-ok
returns-in-Ok-from_str-clause-ok c =
    let cases = c.in-Ok.ensures.cases in
    json_of_text c.args.bytes.now cases.1 ∙ ap read (sym cases.0) ∙ c.in-Ok-from_str.ensures.ok

pub returns-else-is_memory-clause-form : goal.returns-else-is_memory-clause-form
returns-else-is_memory-clause-form c = λ _.
    let cases = c.in-Ok.ensures.cases in
    let other : IsMemory c.in-Err-from_str.e → ⊥ = search rules in
    json_of_text c.args.bytes.now cases.1 ∙ ap read (sym cases.0) ∙ c.in-Err-from_str.ensures.err other

pub returns-in-Err-clause-form : goal.returns-in-Err-clause-form
returns-in-Err-clause-form c = λ _. json_of_bytes c.args.bytes.now _ c.in-Err.ensures.cases.1 c.in-Err.ensures.valid_len
