-- What rows with evidence are, told by other words.
use Rattle.std.proofs.Common.{◌≡◌, ℕ, ◌<◌, Bool, Option, subst}
use Rattle.std.specs.Prelude.{Result, Ok, Err, IfOk}
use Rattle.bitlane.specs.Maps.{Joined}
use Rattle.bitlane.proofs.Joins.{Joined-map}
use Rattle.colbase.specs.Arrays.{Array}
use Rattle.coltypes.specs.Cell.{Cell}
use Rattle.coltypes.specs.declared.fault.Fault.{Fault}
use Rattle.rowloops.specs.Answers.{StatesChecked}

-- told by other words at its row
pub checked_as : {X T E : Type 0} (may_be stands : X → Type 0) (post told : X → T × E → Type 0) (states : T → Cell) (row : Option Cell) (e : E)
    → ((x : X) (r : T × E) → may_be x → post x r → stands x × told x r) → StatesChecked may_be post states row e → StatesChecked stands told states row e
checked_as may_be stands post told states row e tells s =
    let both = tells s.maps.item (s.value, e) s.maps.stands s.maps.answer in
    record { value = s.value; maps = record { item = s.maps.item; stands = both.0; answer = both.1 }; is = s.is }

-- the rows stand where each item that a source may have at an index stands there, and each answer is told so; m is n, as a caller counts it
pub rows_again : {X T E : Type 0} (join : E → E → E) (neutral : E) (selected : ℕ → Bool) (may_be stands : ℕ → X → Type 0) (post told : X → T × E → Type 0) (states : T → Cell)
    (row_at : Array → ℕ → Option Cell) (n m : ℕ) (r : Result (Array × E) Fault) → n ≡ m → ((i : ℕ) (x : X) → i < m → may_be i x → stands i x) → ((x : X) (b : T × E) → post x b → told x b)
    → IfOk r (λ a. Joined join neutral selected (λ i v. StatesChecked (may_be i) post states (row_at a.0 i) v) n a.1)
    → IfOk r (λ a. Joined join neutral selected (λ i v. StatesChecked (stands i) told states (row_at a.0 i) v) m a.1)
rows_again {X} {T} {E} join neutral selected may_be stands post told states row_at n m (Ok a) e to_stands to_told j =
    let Before : ℕ → E → Type 0 = λ i v. StatesChecked (may_be i) post states (row_at a.0 i) v in
    let After : ℕ → E → Type 0 = λ i v. StatesChecked (stands i) told states (row_at a.0 i) v in
    let Counted : ℕ → Type 0 = λ k. Joined join neutral selected Before k a.1 in
    Joined-map join neutral selected Before After m a.1
    (λ i v below s. checked_as (may_be i) (stands i) post told states (row_at a.0 i) v (λ x b h p. (to_stands i x below h, to_told x b p)) s) (subst Counted e j)
rows_again join neutral selected may_be stands post told states row_at n m (Err e) same to_stands to_told j = tt
