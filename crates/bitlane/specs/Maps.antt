-- What the maps over an indexed source answer.
use Rattle.std.specs.Prelude.{◌≡◌, ℕ, zero, suc, Bool, true, false}

-- r is an answer of the callback to an item that may stand at some index
pub record MapsTo {X R : Type 0} (may_be : X → Type 0) (post : X → R → Type 0) (r : R) : Type 0 where
  pub item : X
  pub stands : may_be item
  pub answer : post item r

-- the join of one value for each selected index below n, beginning with the neutral value, in rising order
pub data Joined {V : Type 0} (join : V → V → V) (neutral : V) (selected : ℕ → Bool) (IsAt : ℕ → V → Type 0) : ℕ → V → Type 0 where
  none : Joined join neutral selected IsAt zero neutral
  more : {n : ℕ} {total v : V} → Joined join neutral selected IsAt n total → selected n ≡ true → IsAt n v → Joined join neutral selected IsAt (suc n) (join total v)
  skip : {n : ℕ} {total : V} → Joined join neutral selected IsAt n total → selected n ≡ false → Joined join neutral selected IsAt (suc n) total
