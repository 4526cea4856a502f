-- Lists of values that differ at an index, and what the elements of a list feed a hasher.
use Rattle.std.proofs.Common.{◌≡◌, ◌∙◌, ℕ, suc, ◌+◌, ◌<◌, List, [], ◌∷◌, ◌++◌, length, map, take, get_or, Option, Some, None, refl, ap, sym, arith}
use Rattle.std.specs.Prelude.{option_map, fold}
use Rattle.std.proofs.lemmas.List.{append-nil, append_assoc, get_or-map, length-map, map_more, take_all}
use Rattle.std.specs.Hash as fed
use Rattle.std.specs.Hash.{HashWrites, fed_then}
use Rattle.coltypes.specs.Cell.{Cell, Cells, cells, list_of, members, list}
use Rattle.coltypes.specs.CellOf.{cell_of}
use Rattle.coltypes.specs.Fits.{count_of}
use Rattle.coltypes.specs.Equal.{cell_input, cells_input, optional_input}
use Rattle.coltypes.specs.declared.scalar.ScalarValue.{ScalarValue}
use Rattle.coltypes.specs.declared.scalar.ScalarValue.TheVariants as v
use Rattle.coltypes.proofs.Scalars.{cell_list}

pub differ_at : {X Y : Type 0} (g : X → Y) (xs ys : List X) (i : ℕ) (x y : X) → i < length xs → length xs ≡ length ys → x ≡ get_or xs i x → y ≡ get_or ys i y → (g x ≡ g y → ⊥) → map g xs ≡ map g ys → ⊥
differ_at g xs ys i x y h k p q n e =
    n (ap g p ∙ sym (get_or-map g xs i x (g x) h) ∙ ap (λ zs. get_or zs i (g x)) e ∙ get_or-map g ys i y (g x) (omega arith) ∙ ap g (sym q))

members_cells : (xs : List (Option Cell)) → members (cells xs) ≡ xs
members_cells [] = refl
members_cells (None ∷ xs) = ap (λ t. None ∷ t) (members_cells xs)
members_cells (Some c ∷ xs) = ap (λ t. Some c ∷ t) (members_cells xs)

list_same : (a b : Cells) → list a ≡ list b → a ≡ b
list_same a b e = cc

lists_same : (xs ys : List (Option Cell)) → list_of xs ≡ list_of ys → xs ≡ ys
lists_same xs ys e = sym (members_cells xs) ∙ ap members (list_same (cells xs) (cells ys) e) ∙ members_cells ys

pub values_same : (xs ys : List (Option ScalarValue)) → cell_of (v.List xs) ≡ cell_of (v.List ys) → map (option_map cell_of) xs ≡ map (option_map cell_of) ys
values_same xs ys e = lists_same _ _ (sym (cell_list xs) ∙ e ∙ cell_list ys)

pub lists_alike : (xs ys : List (Option ScalarValue)) → map (option_map cell_of) xs ≡ map (option_map cell_of) ys → cell_of (v.List xs) ≡ cell_of (v.List ys)
lists_alike xs ys e = cell_list xs ∙ ap list_of e ∙ sym (cell_list ys)

pub some_cell : (x y : Cell) → Some x ≡ Some y → x ≡ y
some_cell x y e = cc

pub count_cells : (xs : List (Option Cell)) → count_of (cells xs) ≡ length xs
count_cells [] = refl
count_cells (None ∷ xs) = ap suc (count_cells xs)
count_cells (Some c ∷ xs) = ap suc (count_cells xs)

-- what the first of some optional cells feeds stands before what the others feed
first_input : (o : Option Cell) (xs : List (Option Cell)) → cells_input (cells (o ∷ xs)) ≡ optional_input o ++ cells_input (cells xs)
first_input None xs = refl
first_input (Some c) xs = refl

last_input : (xs : List (Option Cell)) (o : Option Cell) → cells_input (cells (xs ++ o ∷ [])) ≡ cells_input (cells xs) ++ optional_input o
last_input [] o = first_input o [] ∙ append-nil (optional_input o)
last_input (x ∷ xs) o =
    first_input x (xs ++ o ∷ []) ∙ ap (λ t. optional_input x ++ t) (last_input xs o) ∙ sym (append_assoc (optional_input x) (cells_input (cells xs)) (optional_input o))
    ∙ ap (λ t. t ++ optional_input o) (sym (first_input x xs))

-- what the elements before an index and the one there feed
abbrev pub fed_before : List (Option ScalarValue) → ℕ → HashWrites
fed_before xs i = cells_input (cells (map (option_map cell_of) (take i xs)))

inputs-more : (xs : List (Option ScalarValue)) (i : ℕ) (d : Option ScalarValue) → i < length xs → fed_before xs (i + 1) ≡ fed_before xs i ++ optional_input (option_map cell_of (get_or xs i d))
inputs-more xs i d h =
    ap (λ (t : List (Option Cell)). cells_input (cells t)) (map_more (option_map cell_of) xs i d h) ∙ last_input (map (option_map cell_of) (take i xs)) (option_map cell_of (get_or xs i d))

-- one more element is fed
pub fed_one : {S : Type 0} (write : S → List ℕ → S) (s t u : S) (xs : List (Option ScalarValue)) (i : ℕ) (x : Option ScalarValue) → i < length xs → x ≡ get_or xs i x
    → t ≡ fold write s (fed_before xs i) → u ≡ fold write t (optional_input (option_map cell_of x)) → u ≡ fold write s (fed_before xs (i + 1))
fed_one write s t u xs i x h e p q =
    fed_then write s t u (fed_before xs i) (optional_input (option_map cell_of (get_or xs i x))) p (q ∙ ap (λ y. fold write t (optional_input (option_map cell_of y))) e)
    ∙ ap (fold write s) (sym (inputs-more xs i x h))

-- the whole list: its form, its length and its elements
pub fed_list : {S : Type 0} (write : S → List ℕ → S) (q r s t : S) (xs : List (Option ScalarValue)) (i : ℕ) → i ≡ length xs → r ≡ fold write q (fed.u8 3) → s ≡ fold write r (fed.usize (length xs))
    → t ≡ fold write s (fed_before xs i) → t ≡ fold write q (cell_input (list_of (map (option_map cell_of) xs)))
fed_list write q r s t xs i h marked counted fed_all =
    let elements = cells_input (cells (map (option_map cell_of) xs)) in
    let n = count_cells (map (option_map cell_of) xs) ∙ length-map xs (option_map cell_of) in
    fed_all ∙ ap (λ k. fold write s (fed_before xs k)) h
    ∙ ap (λ (ys : List (Option ScalarValue)). fold write s (cells_input (cells (map (option_map cell_of) ys)))) (take_all (length xs) xs (omega arith))
    ∙ ap (λ z. fold write z elements) (counted ∙ ap (λ z. fold write z (fed.usize (length xs))) marked)
    ∙ ap (λ k. fold write (fold write (fold write q (fed.u8 3)) (fed.usize k)) elements) (sym n)

pub fed_value : {S : Type 0} (write : S → List ℕ → S) (r t : S) (x : ScalarValue) (xs ys : List (Option ScalarValue)) → x ≡ v.List ys → xs ≡ ys
    → t ≡ fold write r (cell_input (list_of (map (option_map cell_of) xs))) → t ≡ fold write r (cell_input (cell_of x))
fed_value write r t x xs ys e f p =
    p ∙ ap (λ (zs : List (Option ScalarValue)). fold write r (cell_input (list_of (map (option_map cell_of) zs)))) f
    ∙ ap (λ c. fold write r (cell_input c)) (sym (cell_list ys)) ∙ ap (λ z. fold write r (cell_input (cell_of z))) (sym e)

-- an element that is no null: its mark and its cell
pub fed_some : {S : Type 0} (write : S → List ℕ → S) (r s t : S) (x : Option ScalarValue) (y : ScalarValue) → x ≡ Some y → s ≡ fold write r (fed.u8 1) → t ≡ fold write s (cell_input (cell_of y))
    → t ≡ fold write r (optional_input (option_map cell_of x))
fed_some write r s t x y e p q = q ∙ ap (λ z. fold write z (cell_input (cell_of y))) p ∙ ap (λ z. fold write r (optional_input (option_map cell_of z))) (sym e)

pub fed_none : {S : Type 0} (write : S → List ℕ → S) (r t : S) (x : Option ScalarValue) → x ≡ None → t ≡ fold write r (fed.u8 0) → t ≡ fold write r (optional_input (option_map cell_of x))
fed_none write r t x e p = p ∙ ap (λ z. fold write r (optional_input (option_map cell_of z))) (sym e)
