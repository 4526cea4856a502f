-- A type's name and the `?` at its end.
use Rattle.std.proofs.Common.{◌≡◌, ℕ, ◌+◌, ◌-◌, Bool, true, false, List, [], ◌∷◌, ◌++◌, length, get_or, take, drop, ap, refl, sym, ◌∙◌, arith, length-append, eqb-true}
use Rattle.std.specs.Prelude.{if◌then◌else◌, ◌==◌}
use Rattle.std.proofs.Math.Seq.{take-append_seam, get_or-append_seam}
use Rattle.std.proofs.lemmas.List.{drop_more, drop_all, take-append-drop}
use Rattle.coltypes.specs.declared.dtype.Nullability.TheVariants.{Nullable, NonNullable}
use Rattle.rowjson.specs.Types.{ends_in_mark, plain_name, name_nullability}

last_place : (plain : List ℕ) → length (plain ++ 63 ∷ []) - 1 ≡ length plain
last_place plain = omega (arith, length-append plain (63 ∷ []))

ends-mark : (plain : List ℕ) → ends_in_mark (plain ++ 63 ∷ []) ≡ true
ends-mark plain =
    ap (λ (n : ℕ). get_or (plain ++ 63 ∷ []) n 0 == 63) (last_place plain)
    ∙ ap (λ (b : ℕ). b == 63) (get_or-append_seam plain 63 [] 0)

-- a name with a mark behind it
pub marked_plain : (name plain : List ℕ) → name ≡ plain ++ 63 ∷ [] → plain ≡ plain_name name
unfolding plain_name
marked_plain name plain is =
    sym (ap plain_name is
    ∙ ap (λ (b : Bool). if b then take (length (plain ++ 63 ∷ []) - 1) (plain ++ 63 ∷ []) else plain ++ 63 ∷ []) (ends-mark plain)
    ∙ ap (λ (n : ℕ). take n (plain ++ 63 ∷ [])) (last_place plain) ∙ take-append_seam plain (63 ∷ []))

pub marked_nullable : (name plain : List ℕ) → name ≡ plain ++ 63 ∷ [] → Nullable ≡ name_nullability name
unfolding name_nullability
marked_nullable name plain is = sym (ap name_nullability is ∙ ap (λ (b : Bool). if b then Nullable else NonNullable) (ends-mark plain))

-- a name without one
unmarked : (name : List ℕ) → ((front : List ℕ) → name ≡ front ++ 63 ∷ [] → ⊥) → (b : Bool) → ends_in_mark name ≡ b → b ≡ false
unmarked name unlike false e = refl
unmarked [] unlike true e = absurd (cc)
unmarked (x ∷ xs) unlike true e =
    let name : List ℕ = x ∷ xs in
    let n : ℕ = length xs in
    let last : length name - 1 ≡ n = omega arith in
    let mark : get_or name n 0 ≡ 63 = eqb-true (get_or name n 0) 63 (sym (ap (λ (k : ℕ). get_or name k 0 == 63) last) ∙ e) in
    let end : drop n name ≡ 63 ∷ [] =
    drop_more name n 0 (omega arith) ∙ ap (λ (b : ℕ). b ∷ drop (n + 1) name) mark
    ∙ ap (λ (rest : List ℕ). 63 ∷ rest) (drop_all (n + 1) name (omega arith)) in
    absurd (unlike (take n name) (sym (take-append-drop n name) ∙ ap (λ (rest : List ℕ). take n name ++ rest) end))

pub unmarked_plain : (name : List ℕ) → ((front : List ℕ) → name ≡ front ++ 63 ∷ [] → ⊥) → name ≡ plain_name name
unfolding plain_name
unmarked_plain name unlike = sym (ap (λ (b : Bool). if b then take (length name - 1) name else name) (unmarked name unlike (ends_in_mark name) refl))

pub unmarked_required : (name : List ℕ) → ((front : List ℕ) → name ≡ front ++ 63 ∷ [] → ⊥) → NonNullable ≡ name_nullability name
unfolding name_nullability
unmarked_required name unlike = sym (ap (λ (b : Bool). if b then Nullable else NonNullable) (unmarked name unlike (ends_in_mark name) refl))
