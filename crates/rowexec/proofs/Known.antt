-- The arguments that are one value, as a prepared value is made from them.
use Rattle.std.proofs.Common.{◌≡◌, ℕ, suc, ◌<◌, Bool, true, false, List, [], ◌∷◌, Option, None, Some, refl, inr, subst, sym, arith}
use Rattle.std.proofs.lemmas.Bool.Decides.{nat_tests}
use Rattle.std.specs.Prelude.{nat_lt, if◌then◌else◌}
use Rattle.colbase.specs.Arrays.{Array, MustRead, constant_cell, len}
use Rattle.coltypes.specs.Cell.{Cell}
use Rattle.rowtypes.specs.Rows.{AgreesWith, ReadsAllFrom, ReadsKnown, batch_values}
use Rattle.rowelems.specs.Shown.{batch_value}

chosen : (b : Bool) (o : Option Cell) (x : Cell) → (if b then o else None) ≡ Some x → (b ≡ true) × (o ≡ Some x)
chosen true o x e = (refl, e)
chosen false o x e = cc

-- the value of a batch constant must be read
pub value_must_be_read : (a : Array) (x : Cell) → batch_value a ≡ Some x → MustRead a x
value_must_be_read a x e =
    let b = chosen (nat_lt 0 (len a)) (constant_cell a) x e in
    let few : 0 < len a = grind (arith, nat_tests, b.0) in
    inr (few, b.1)

known_more : (reads : ℕ → Cell → Type 0) (k : ℕ) (v : Option Cell) (rest : List (Option Cell)) → ((x : Cell) → v ≡ Some x → reads k x) → ReadsKnown reads (suc k) rest → ReadsKnown reads k (v ∷ rest)
known_more reads k None rest f h = h
known_more reads k (Some x) rest f h = (f x refl, h)

-- where each cell that must be read is read, the arguments that are one value are
pub reads_known : (reads : ℕ → Cell → Type 0) (k : ℕ) (arrays : List Array) → ReadsAllFrom reads k arrays → ReadsKnown reads k (batch_values arrays)
reads_known reads k [] h = tt
reads_known reads k (a ∷ arrays) h = known_more reads k (batch_value a) (batch_values arrays) (λ x e. h.0 x (value_must_be_read a x e)) (reads_known reads (suc k) arrays h.1)

pub agrees_at : (known known' : List (Option Cell)) (cells cells' : List Cell) → known ≡ known' → cells ≡ cells' → AgreesWith known' cells' → AgreesWith known cells
agrees_at known known' cells cells' e h a = subst (λ (k : List (Option Cell)). AgreesWith k cells) (sym e) (subst (λ (c : List Cell). AgreesWith known' c) (sym h) a)
