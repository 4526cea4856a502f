-- Why an argument is not decoded.
use Rattle.std.proofs.Common.{◌≡◌, ℕ, ◌<◌, ◌^◌, Bool, true, false, cond, nat_lt, Option, None, Some, is_some, inl, inr, refl, ap, ◌∙◌, arith}
use Rattle.std.proofs.lemmas.Bool.Decides.{nat_tests}
use Rattle.coltypes.specs.Cell.{Cell}
use Rattle.colbase.specs.Arrays.{Array, len, constant_cell}
use Rattle.coltypes.specs.declared.fault.Fault.{Fault}
use Rattle.coltypes.specs.declared.fault.Fault.TheVariants.{Decode, Memory}
use Rattle.rowelems.specs.Shown.{batch_value}
use Rattle.rowelems.specs.Reading.{Unread, DecodeCause, ConstantCause}
use Rattle.rowelems.specs.Argument.{ArgumentFails, placed}

placed_decode : (k : ℕ) (e f : Fault) → k < 2 ^ 64 → f ≡ placed k e → e ≡ Decode 0 → f ≡ Decode k
placed_decode k e f lt p q = p ∙ ap (placed k) q ∙ ap Decode (omega arith)

placed_memory : (k : ℕ) (e f : Fault) → f ≡ placed k e → e ≡ Memory → f ≡ Memory
placed_memory k e f p q = p ∙ ap (placed k) q

pub decode_fails : (reads : Cell → Type 0) (k : ℕ) (a : Array) (e f : Fault) → k < 2 ^ 64 → f ≡ placed k e → DecodeCause reads a e → ArgumentFails reads k a f
decode_fails reads k a e f lt p (inl m) = inl (placed_memory k e f p m)
decode_fails reads k a e f lt p (inr q) = inr (placed_decode k e f lt p q.0, q.1)

none_is_empty : (o : Option Cell) → is_some o ≡ true → (x : Cell) × (o ≡ Some x)
none_is_empty None h = absurd (cc)
none_is_empty (Some x) h = (x, refl)

chosen : (b : Bool) (o : Option Cell) → is_some (cond b o None) ≡ true → (b ≡ true) × ((x : Cell) × (o ≡ Some x))
chosen true o h = (refl, none_is_empty o h)
chosen false o h = absurd (cc)

unread_value : (reads : Cell → Type 0) (a : Array) → is_some (batch_value a) ≡ true → ((x : Cell) → constant_cell a ≡ Some x → reads x → ⊥) → Unread reads a
unread_value reads a some not =
    let b = chosen (nat_lt 0 (len a)) (constant_cell a) some in
    let few : 0 < len a = grind (arith, nat_tests, b.0) in
    record { cell = b.1.0; must = inr (few, b.1.1); unread = not b.1.0 b.1.1 }

pub constant_fails : (reads : Cell → Type 0) (k : ℕ) (a : Array) (e f : Fault) → k < 2 ^ 64 → is_some (batch_value a) ≡ true → f ≡ placed k e → ConstantCause reads a e → ArgumentFails reads k a f
constant_fails reads k a e f lt some p (inl m) = inl (placed_memory k e f p m)
constant_fails reads k a e f lt some p (inr q) = inr (placed_decode k e f lt p q.0, unread_value reads a some q.1)
