-- What the items of a JSON array state, read one after the other.
use Rattle.std.proofs.Common.{◌≡◌, ℕ, ◌+◌, ◌<◌, Bool, List, [], ◌∷◌, ◌++◌, length, drop, get_or, Option, Some, None, option_map, option_and_then, ap, refl, sym, ◌∙◌, append_assoc}
use Rattle.std.proofs.lemmas.List.{drop_more, append-nil, map-append}
use Rattle.serde_json.specs.Data.{Data}
use Rattle.serde_json.specs.View.{items_view, view}
use Rattle.serde_json.specs.declared.value.Value.{Value}
use Rattle.std.specs.Prelude.{unwrap_or, is_some}
use Rattle.rowjson.specs.Objects.{all_in}
use Rattle.rowjson.specs.Reading.{AreOf}

-- what was read so far, before what the rest gives
abbrev pub with_front : {X : Type 0} → List X → Option (List X) → Option (List X)
with_front front read = option_map (λ xs. front ++ xs) read

front_more : {X : Type 0} (front : List X) (x : X) (read : Option (List X)) → with_front front (option_map (λ xs. x ∷ xs) read) ≡ with_front (front ++ x ∷ []) read
front_more front x None = refl
front_more front x (Some xs) = ap Some (sym (append_assoc front (x ∷ []) xs))

pub all_step : {X : Type 0} (f : Data → Option X) (values : List Value) (i : ℕ) (v : Value) (front : List X) (x : X) (whole : Option (List X)) → i < length values → v ≡ get_or values i v → f (view v) ≡ Some x → with_front front (all_in f (items_view (drop i values))) ≡ whole → with_front (front ++ x ∷ []) (all_in f (items_view (drop (i + 1) values))) ≡ whole
all_step {X} f values i v front x whole lt is gives e =
    let split : drop i values ≡ v ∷ drop (i + 1) values = drop_more values i v lt ∙ ap (λ (w : Value). w ∷ drop (i + 1) values) (sym is) in
    sym (ap (λ (rest : List Value). with_front front (all_in f (items_view rest))) split
    ∙ ap (λ (c : Option X). with_front front (option_and_then (λ x. option_map (λ xs. x ∷ xs) (all_in f (items_view (drop (i + 1) values)))) c)) gives
    ∙ front_more front x (all_in f (items_view (drop (i + 1) values)))) ∙ e

pub all_stop : {X : Type 0} (f : Data → Option X) (values : List Value) (i : ℕ) (v : Value) (front : List X) (whole : Option (List X)) → i < length values → v ≡ get_or values i v → f (view v) ≡ None → with_front front (all_in f (items_view (drop i values))) ≡ whole → whole ≡ None
all_stop {X} f values i v front whole lt is gives e =
    let split : drop i values ≡ v ∷ drop (i + 1) values = drop_more values i v lt ∙ ap (λ (w : Value). w ∷ drop (i + 1) values) (sym is) in
    sym (sym (ap (λ (rest : List Value). with_front front (all_in f (items_view rest))) split
    ∙ ap (λ (c : Option X). with_front front (option_and_then (λ x. option_map (λ xs. x ∷ xs) (all_in f (items_view (drop (i + 1) values)))) c)) gives) ∙ e)

-- nothing is left behind the last item
pub drop_end : {X : Type 0} (xs : List X) → drop (length xs) xs ≡ []
drop_end [] = refl
drop_end (x ∷ xs) = drop_end xs

pub all_end : {X : Type 0} (f : Data → Option X) (values : List Value) (i : ℕ) (front : List X) (whole : Option (List X)) → i ≡ length values → with_front front (all_in f (items_view (drop i values))) ≡ whole → whole ≡ Some front
all_end {X} f values i front whole is e =
    sym e ∙ ap (λ (n : ℕ). with_front front (all_in f (items_view (drop n values)))) is
    ∙ ap (λ (rest : List Value). with_front front (all_in f (items_view rest))) (drop_end values)
    ∙ ap Some (append-nil front)

-- what was stored and marked so far is that of some cells, before what the rest gives
pub record HasRead {X : Type 0} (under_null : X) (stored : List X) (marks : List Bool) (rest whole : Option (List (Option X))) : Type 0 where
  pub cells : List (Option X)
  pub are : AreOf under_null cells stored marks
  pub front : with_front cells rest ≡ whole

pub read_more : {X : Type 0} (f : Data → Option (Option X)) (under_null : X) (items : List Value) (i : ℕ) (item : Value) (stored stored' : List X) (marks marks' : List Bool) (cell : Option X) (whole : Option (List (Option X)))
    → i < length items → item ≡ get_or items i item → f (view item) ≡ Some cell
    → stored' ≡ stored ++ unwrap_or cell under_null ∷ [] → marks' ≡ marks ++ is_some cell ∷ []
    → HasRead under_null stored marks (all_in f (items_view (drop i items))) whole
    → HasRead under_null stored' marks' (all_in f (items_view (drop (i + 1) items))) whole
read_more {X} f under_null items i item stored stored' marks marks' cell whole lt is gives e_stored e_marks has = record {
  cells = has.cells ++ cell ∷ [];
  are = record {
    stored_of = e_stored ∙ ap (λ (vs : List X). vs ++ unwrap_or cell under_null ∷ []) has.are.stored_of ∙ sym (map-append (λ (x : Option X). unwrap_or x under_null) has.cells (cell ∷ []));
    marks_of = e_marks ∙ ap (λ (bs : List Bool). bs ++ is_some cell ∷ []) has.are.marks_of ∙ sym (map-append (λ (x : Option X). is_some x) has.cells (cell ∷ []));
  };
  front = all_step f items i item has.cells cell whole lt is gives has.front;
}
