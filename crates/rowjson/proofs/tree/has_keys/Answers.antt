use Rattle.std.proofs.Common.{◌≡◌, sym, ap, nat_eq, ◌∙◌, ℕ, map}
use Rattle.std.proofs.lemmas.List.{length-map}
use Rattle.serde_json.specs.View.{view, members_view}
use Rattle.rowjson.specs.Objects.{has_keys, member_count, counted}
use Rattle.rowjson.proofs.JsonText.{member_count-members_of}
use Rattle.rowjson.proofs.tree.has_keys.Goals as goal

pub returns-in-Some : goal.returns-in-Some
unfolding has_keys
returns-in-Some c =
    let entries = c.in-Some.members.now.entries in
    let count : member_count (members_view entries) ≡ c.len.result =
    member_count-members_of (map (λ m. (m.0, view m.1)) entries) ∙ length-map entries (λ m. (m.0, view m.1)) ∙ sym c.len.ensures.len in
    ap (λ (n : ℕ). nat_eq n c.args.count) (sym count) ∙ ap (counted c.args.count) c.in-Some.ensures
