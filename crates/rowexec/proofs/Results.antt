-- What follows of answers.
use Rattle.std.proofs.Common.{◌≡◌, subst}
use Rattle.std.specs.Prelude.{Option, None, Some, Result, Ok, Err, IfSome, IfErr}

pub err_then : {A E : Type 0} (r : Result A E) (P Q : E → Type 0) → IfErr r P → ((e : E) → P e → Q e) → IfErr r Q
err_then (Ok x) P Q p f = tt
err_then (Err e) P Q p f = f e p

-- what holds of the value of an option that has this one
pub of_some : {X : Type 0} (P : X → Type 0) (o : Option X) (x : X) → o ≡ Some x → IfSome o P → P x
of_some P None x e h = absurd (cc)
of_some P (Some y) x e h = let same : y ≡ x = cc in subst P same h
