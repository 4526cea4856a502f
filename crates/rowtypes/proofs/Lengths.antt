-- Rows of decoded columns of one length.
use Rattle.std.proofs.Common.{◌≡◌, ℕ, ◌<◌, Bool, true, false, ◌&&◌, List, [], ◌∷◌, Option, None, Some, refl, arith}
use Rattle.std.proofs.lemmas.Bool.Decides.{nat_tests}
use Rattle.rowtypes.specs.Rows.{HasRow, each_length}
use Rattle.rowelems.specs.Argument.{IsWithin, is_length}

pub both_true : (a b : Bool) → (a && b) ≡ true → (a ≡ true) × (b ≡ true)
both_true true b h = (refl, h)
both_true false b h = absurd (cc)

pub and_false : (a : Bool) → (a && false) ≡ false
and_false true = refl
and_false false = refl

within : (rows i : ℕ) (n : Option ℕ) → i < rows → is_length rows n ≡ true → IsWithin i n
within rows i None lt h = tt
within rows i (Some n) lt h = grind (arith, nat_tests)

-- where each decoded column has this many rows, each row below is there
pub has_row : (rows : ℕ) (lengths : List (Option ℕ)) → each_length rows lengths ≡ true → (i : ℕ) → i < rows → HasRow lengths i
has_row rows [] h i lt = tt
has_row rows (n ∷ lengths) h i lt =
    let p = both_true (is_length rows n) (each_length rows lengths) h in
    (within rows i n lt p.0, has_row rows lengths p.1 i lt)
