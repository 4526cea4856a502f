-- The rows of a generated column, one after the other.
use Rattle.std.proofs.Common.{◌≡◌, ◌∙◌, ℕ, ℤ, pos, ◌+◌, ◌*◌, ◌%◌, ◌<◌, ◌==◌, not, Bool, List, [], ◌∷◌, ◌++◌, refl, ap, sym, arith}
use Rattle.std.specs.Prelude.{if◌then◌else◌}
use Rattle.std.proofs.Math.Nat.{mod-add-mod, zero-mod}
use Rattle.bitlane.specs.Bits.{tabulate}
use Rattle.bitlane.proofs.Tables.{tabulate-more}
use Rattle.rowrun.specs.Generator.{is_null_in, is_valid_in, stored_in}
use Rattle.rowrun.specs.declared.generator.column.Pattern.{Pattern}

-- what the first i rows hold, and the number and the turn of row i
pub record Turned (p : Pattern) (i : ℕ) (values : List ℤ) (marks : List Bool) (number turn : ℕ) : Type 0 where
  pub stored : values ≡ tabulate (stored_in p) i
  pub marked : marks ≡ tabulate (is_valid_in p) i
  pub number_is : number ≡ (p.step * i) % p.modulus
  pub turn_is : turn ≡ i % p.period
  pub number_within : number < p.modulus
  pub turn_within : turn < p.period

pub none_turned : (p : Pattern) → 0 < p.modulus → 0 < p.period → Turned p 0 [] [] 0 0
none_turned p some turns = record {
  stored = refl;
  marked = refl;
  number_is = let none : p.step * 0 ≡ 0 = grind arith in sym (ap (λ (k : ℕ). k % p.modulus) none ∙ zero-mod p.modulus);
  turn_is = sym (zero-mod p.period);
  number_within = some;
  turn_within = turns;
}

-- one more place of a table
table_more : {X : Type 0} (f : ℕ → X) (i : ℕ) (out new : List X) (x : X) → out ≡ tabulate f i → new ≡ out ++ x ∷ [] → x ≡ f i → new ≡ tabulate f (i + 1)
table_more {X = X} f i out new x so pushed is =
    pushed ∙ ap (λ (o : List X). o ++ x ∷ []) so ∙ ap (λ (y : X). tabulate f i ++ y ∷ []) is ∙ sym (tabulate-more f i)

step_more : (step i m number next : ℕ) → number ≡ (step * i) % m → next ≡ (number + step) % m → next ≡ (step * (i + 1)) % m
step_more step i m number next so is =
    let distributes : step * i + step ≡ step * (i + 1) = grind arith in
    is ∙ ap (λ (k : ℕ). (k + step) % m) so ∙ mod-add-mod (step * i) m step ∙ ap (λ (k : ℕ). k % m) distributes

turn_more : (i m turn next : ℕ) → turn ≡ i % m → next ≡ (turn + 1) % m → next ≡ (i + 1) % m
turn_more i m turn next so is = is ∙ ap (λ (k : ℕ). (k + 1) % m) so ∙ mod-add-mod i m 1

-- one more row
pub turned_more : (p : Pattern) (i : ℕ) (values more_values : List ℤ) (marks more_marks : List Bool) (number turn next next_turn : ℕ) (x : ℤ) (null : Bool)
    → Turned p i values marks number turn → null ≡ (turn == p.null_at) → x ≡ (if null then p.under_null else pos number)
    → more_values ≡ values ++ x ∷ [] → more_marks ≡ marks ++ not null ∷ []
    → next ≡ (number + p.step) % p.modulus → next < p.modulus → next_turn ≡ (turn + 1) % p.period → next_turn < p.period
    → Turned p (i + 1) more_values more_marks next next_turn
turned_more p i values more_values marks more_marks number turn next next_turn x null so tells is pushed marked steps within turns turn_within =
    let null_is : null ≡ is_null_in p i = tells ∙ ap (λ (t : ℕ). t == p.null_at) so.turn_is in
    let number_is : x ≡ stored_in p i =
    is ∙ ap (λ (b : Bool). if b then p.under_null else pos number) null_is ∙ ap (λ (k : ℕ). if is_null_in p i then p.under_null else pos k) so.number_is in
    record {
      stored = table_more (stored_in p) i values more_values x so.stored pushed number_is;
      marked = table_more (is_valid_in p) i marks more_marks (not null) so.marked marked (ap not null_is);
      number_is = step_more p.step i p.modulus number next so.number_is steps;
      turn_is = turn_more i p.period turn next_turn so.turn_is turns;
      number_within = within;
      turn_within = turn_within;
    }
