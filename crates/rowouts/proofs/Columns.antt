-- Columns of given cells, with no null.
use Rattle.std.proofs.Common.{◌≡◌, ◌∙◌, ℕ, zero, suc, ◌<◌, Bool, List, [], ◌∷◌, length, get_or, map, take, Option, Some, None, refl, ap, sym, subst, arith}
use Rattle.std.specs.Prelude.{slice_get, Result, Ok, Err, IfOk}
use Rattle.bitlane.specs.Bits.{bit, tabulate}
use Rattle.bitlane.proofs.Tables.{length-tabulate, get_or-tabulate}
use Rattle.coltypes.specs.declared.validity.Validity.TheVariants as v
use Rattle.coltypes.specs.declared.values.PrimitiveValues.{PrimitiveValues}
use Rattle.coltypes.specs.declared.dtype.PType.{PType}
use Rattle.coltypes.specs.declared.dtype.Nullability.TheVariants.{NonNullable}
use Rattle.coltypes.specs.declared.fault.Fault.{Fault}
use Rattle.coltypes.specs.Cell.{Cell, truth, number}
use Rattle.colbase.specs.Column.{Column}
use Rattle.coltypes.specs.LogicalType as t
use Rattle.coltypes.specs.Values.{count, number_at, ptype_of}
use Rattle.colbase.specs.Faults.{Builds}
use Rattle.colbase.specs.Arrays.{Array, primitive, bool, column, row, len, dtype}
use Rattle.rowouts.specs.Outputs.{full_column}

abbrev column_with : t.LogicalType → List (Option Cell) → Column
column_with x xs = record { dtype = x; rows = xs }

tabulate-cells : {X : Type 0} (f : ℕ → Option Cell) (cell : X → Cell) (xs : List X) → ((i : ℕ) (x : X) → slice_get xs i ≡ Some x → f i ≡ Some (cell x)) → tabulate f (length xs) ≡ map (λ x. Some x) (map cell xs)
tabulate-cells f cell [] h = refl
tabulate-cells f cell (x ∷ xs) h = ap (λ o. o ∷ tabulate (λ i. f (suc i)) (length xs)) (h 0 x refl) ∙ ap (λ ys. Some (cell x) ∷ ys) (tabulate-cells (λ i. f (suc i)) cell xs (λ i y e. h (suc i) y e))

pub column-numbers : {X : Type 0} (w : PrimitiveValues) (p : PType) (cell : X → Cell) (xs : List X) → ptype_of w ≡ p → count w ≡ length xs → ((i : ℕ) (x : X) → slice_get xs i ≡ Some x → Some (number (number_at w i)) ≡ Some (cell x)) → column (primitive w v.NonNullable) ≡ full_column (t.primitive p NonNullable) (map cell xs)
column-numbers w p cell xs e n h =
    ap (λ k. column_with (t.primitive k NonNullable) (tabulate (λ i. Some (number (number_at w i))) (count w))) e
    ∙ ap (λ k. column_with (t.primitive p NonNullable) (tabulate (λ i. Some (number (number_at w i))) k)) n
    ∙ ap (λ r. column_with (t.primitive p NonNullable) r) (tabulate-cells (λ i. Some (number (number_at w i))) cell xs h)

bit-get : (bits : List Bool) (i : ℕ) (x : Bool) → slice_get bits i ≡ Some x → Some (truth (bit bits i)) ≡ Some (truth x)
bit-get [] i x e = absurd (cc)
bit-get (y ∷ ys) zero x e = ap (λ b. Some (truth b)) (let h : y ≡ x = cc in h)
bit-get (y ∷ ys) (suc i) x e = bit-get ys i x e

pub column-truths : (bits : List Bool) → column (bool bits v.NonNullable) ≡ full_column (t.bool NonNullable) (map truth bits)
column-truths bits = ap (λ r. column_with (t.bool NonNullable) r) (tabulate-cells (λ i. Some (truth (bit bits i))) truth bits (bit-get bits))

-- what holds of the array that was asked for holds of the one that was made
pub built : (P : Array → Type 0) (r : Result Array Fault) (a : Array) → Builds r None a → P a → IfOk r P
built P (Ok b) a h p = subst P (sym h.1) p
built P (Err e) a h p = tt

length-cells : {X : Type 0} (cell : X → Cell) (xs : List X) → length (map (λ x. Some x) (map cell xs)) ≡ length xs
length-cells cell [] = refl
length-cells cell (x ∷ xs) = ap suc (length-cells cell xs)

get_or-cells : {X : Type 0} (cell : X → Cell) (xs : List X) (i : ℕ) (d : X) → i < length xs → get_or (map (λ x. Some x) (map cell xs)) i None ≡ Some (cell (get_or xs i d))
get_or-cells cell [] i d h = absurd (omega (arith, h))
get_or-cells cell (x ∷ xs) zero d h = refl
get_or-cells cell (x ∷ xs) (suc i) d h = get_or-cells cell xs i d (omega (arith, h))

pub full-type : (a : Array) (x : t.LogicalType) (xs : List Cell) → column a ≡ full_column x xs → dtype a ≡ x
full-type a x xs e = ap (λ c. c.dtype) e

pub full-len : {X : Type 0} (a : Array) (x : t.LogicalType) (cell : X → Cell) (xs : List X) → column a ≡ full_column x (map cell xs) → len a ≡ length xs
full-len a x cell xs e = sym (length-tabulate (row a) (len a)) ∙ ap (λ c. length c.rows) e ∙ length-cells cell xs

pub full-row : {X : Type 0} (a : Array) (x : t.LogicalType) (cell : X → Cell) (xs : List X) (i : ℕ) (d : X) → column a ≡ full_column x (map cell xs) → i < length xs → row a i ≡ Some (cell (get_or xs i d))
full-row a x cell xs i d e h =
    sym (get_or-tabulate (row a) (len a) i None (subst (λ n. i < n) (sym (full-len a x cell xs e)) h))
    ∙ ap (λ c. get_or c.rows i None) e
    ∙ get_or-cells cell xs i d h

take-whole : {X : Type 0} (xs : List X) (n : ℕ) → n ≡ length xs → take n xs ≡ xs
take-whole [] zero e = refl
take-whole [] (suc n) e = refl
take-whole (x ∷ xs) zero e = absurd (omega (arith, e))
take-whole (x ∷ xs) (suc n) e = ap (λ t. x ∷ t) (take-whole xs n (omega (arith, e)))

-- all of the places that were written back
pub all-places : {X : Type 0} (ys xs : List X) (n : ℕ) → ys ≡ xs → length xs ≡ n → take n ys ≡ xs
all-places ys xs n e h = ap (λ zs. take n zs) e ∙ take-whole xs n (sym h)
