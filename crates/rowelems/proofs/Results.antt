-- What follows of an Err, and of an Ok under two clauses.
use Rattle.std.specs.Prelude.{Result, Ok, Err, IfOk, IfErr}

pub ok-both-then : {A E : Type 0} (P Q R : A → Type 0) (r : Result A E) → IfOk r P → IfOk r Q → ((x : A) → P x → Q x → R x) → IfOk r R
ok-both-then P Q R (Ok x) h k f = f x h k
ok-both-then P Q R (Err e) h k f = tt

pub err-then : {A E : Type 0} (P Q : E → Type 0) (r : Result A E) → IfErr r P → ((e : E) → P e → Q e) → IfErr r Q
err-then P Q (Ok x) h f = tt
err-then P Q (Err e) h f = f e h
