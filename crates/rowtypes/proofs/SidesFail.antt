-- Which argument of two tuples side by side is refused or not decoded.
use Rattle.std.proofs.Common.{◌≡◌, ℕ, suc, ◌+◌, ◌-◌, ◌^◌, ◌<◌, min, Bool, true, false, cond, List, [], ◌∷◌, ◌++◌, length, Option, None, Some, Ok, Err, inl, inr, refl, sym, ap, ◌∙◌, arith}
use Rattle.coltypes.specs.Cell.{Cell}
use Rattle.coltypes.specs.LogicalType.{LogicalType}
use Rattle.coltypes.specs.LogicalTypeOf.{logical_type}
use Rattle.colbase.specs.Arrays.{Array}
use Rattle.coltypes.specs.declared.dtype.DType.{DType}
use Rattle.coltypes.specs.declared.fault.Fault.{Fault}
use Rattle.coltypes.specs.declared.fault.Fault.TheVariants.{Decode, Dtype}
use Rattle.rowtypes.specs.Rows.{DecodeFails, FirstUnread, ReadsAllFrom, checked_types, first_refused, logical_types}
use Rattle.rowelems.specs.Argument.{placed}
use Rattle.rowtypes.specs.SideBySide.{side_by_side, reads_side_by_side}
use Rattle.rowtypes.proofs.Sides.{at_first, at_second, reads_first, reads_second}

unread_first : (n : ℕ) (f g : ℕ → Cell → Type 0) (k : ℕ) (xs ys : List Array) (j : ℕ) → k + length xs ≡ n → FirstUnread f k xs j → FirstUnread (reads_side_by_side n f g) k (xs ++ ys) j
unread_first n f g k [] ys j h u = absurd u
unread_first n f g k (a ∷ xs) ys j h (inl p) = inl (p.0, record { cell = p.1.cell; must = p.1.must; unread = λ r. p.1.unread ((reads_first n f g k p.1.cell (omega arith)).1 r) })
unread_first n f g k (a ∷ xs) ys j h (inr p) = inr (λ x m. (reads_first n f g k x (omega arith)).0 (p.0 x m), unread_first n f g (suc k) xs ys j (omega arith) p.1)

unread_later : (n : ℕ) (f g : ℕ → Cell → Type 0) (k l : ℕ) (ys : List Array) (i : ℕ) → k ≡ n + l → FirstUnread g l ys i → FirstUnread (reads_side_by_side n f g) k ys (n + i)
unread_later n f g k l [] i h u = absurd u
unread_later n f g k l (a ∷ ys) i h (inl p) =
    let e : n + i ≡ k = omega (arith, p.0) in
    inl (e, record { cell = p.1.cell; must = p.1.must; unread = λ r. p.1.unread ((reads_second n f g k l p.1.cell h).1 r) })
unread_later n f g k l (a ∷ ys) i h (inr p) = inr (λ x m. (reads_second n f g k l x h).0 (p.0 x m), unread_later n f g (suc k) (suc l) ys i (omega arith) p.1)

unread_second : (n : ℕ) (f g : ℕ → Cell → Type 0) (k : ℕ) (xs ys : List Array) (i : ℕ) → k + length xs ≡ n → ReadsAllFrom f k xs → FirstUnread g 0 ys i → FirstUnread (reads_side_by_side n f g) k (xs ++ ys) (n + i)
unread_second n f g k [] ys i h r u = unread_later n f g k 0 ys i (omega arith) u
unread_second n f g k (a ∷ xs) ys i h r u = inr (λ x m. (reads_first n f g k x (omega arith)).0 (r.0 x m), unread_second n f g (suc k) xs ys i (omega arith) r.1 u)

unread_within : (g : ℕ → Cell → Type 0) (l : ℕ) (ys : List Array) (i : ℕ) → FirstUnread g l ys i → i < l + length ys
unread_within g l [] i u = absurd u
unread_within g l (a ∷ ys) i (inl p) = omega (arith, p.0)
unread_within g l (a ∷ ys) i (inr p) = let r = unread_within g (suc l) ys i p.1 in omega arith

pub first_side_fails : (n : ℕ) (f g : ℕ → Cell → Type 0) (xs ys : List Array) (e : Fault) → length xs ≡ n → DecodeFails f 0 xs e → DecodeFails (reads_side_by_side n f g) 0 (xs ++ ys) e
first_side_fails n f g xs ys e h (inl m) = inl m
first_side_fails n f g xs ys e h (inr u) = inr (record { place = u.place; is = u.is; first = unread_first n f g 0 xs ys u.place (omega arith) u.first })

moved : (n i : ℕ) → n + i < 2 ^ 64 → min (i + n) (2 ^ 64 - 1) ≡ n + i
moved n i h = omega arith

pub second_side_fails : (n : ℕ) (f g : ℕ → Cell → Type 0) (xs ys : List Array) (e e2 : Fault) → length xs ≡ n → n + length ys < 2 ^ 64 → ReadsAllFrom f 0 xs → DecodeFails g 0 ys e → e2 ≡ placed n e → DecodeFails (reads_side_by_side n f g) 0 (xs ++ ys) e2
second_side_fails n f g xs ys e e2 h small r (inl m) p = inl (p ∙ ap (placed n) m)
second_side_fails n f g xs ys e e2 h small r (inr u) p =
    let w = unread_within g 0 ys u.place u.first in
    inr (record { place = n + u.place; is = p ∙ ap (placed n) u.is ∙ ap Decode (moved n u.place (omega arith)); first = unread_second n f g 0 xs ys u.place (omega arith) r u.first })

abbrev or_else : Option ℕ → Option ℕ → Option ℕ
or_else (Some j) o = Some j
or_else None o = o

abbrev plus : ℕ → Option ℕ → Option ℕ
plus n None = None
plus n (Some j) = Some (n + j)

step_plus : (n : ℕ) (b c : Bool) (o q : Option ℕ) (k j : ℕ) → b ≡ c → k ≡ n + j → o ≡ plus n q → cond b o (Some k) ≡ plus n (cond c q (Some j))
step_plus n true true o q k j e h r = r
step_plus n false false o q k j e h r = ap Some h
step_plus n true false o q k j e h r = absurd (cc)
step_plus n false true o q k j e h r = absurd (cc)

refused_later : (n : ℕ) (f g : ℕ → LogicalType → Bool) (k j : ℕ) (ys : List LogicalType) → k ≡ n + j → first_refused (side_by_side n f g) k ys ≡ plus n (first_refused g j ys)
refused_later n f g k j [] h = refl
refused_later n f g k j (t ∷ ys) h = step_plus n _ _ _ _ k j (ap (λ s. s t) (at_second n f g k j h)) h (refused_later n f g (suc k) (suc j) ys (omega arith))

step_or : (b c : Bool) (o q p : Option ℕ) (k : ℕ) → b ≡ c → o ≡ or_else q p → cond b o (Some k) ≡ or_else (cond c q (Some k)) p
step_or true true o q p k e r = r
step_or false false o q p k e r = refl
step_or true false o q p k e r = absurd (cc)
step_or false true o q p k e r = absurd (cc)

refused_joined : (n : ℕ) (f g : ℕ → LogicalType → Bool) (k : ℕ) (xs ys : List LogicalType) → k + length xs ≡ n → first_refused (side_by_side n f g) k (xs ++ ys) ≡ or_else (first_refused f k xs) (plus n (first_refused g 0 ys))
refused_joined n f g k [] ys h = refused_later n f g k 0 ys (omega arith)
refused_joined n f g k (t ∷ xs) ys h =
    let lt : k < n = omega arith in
    step_or _ _ _ _ _ k (ap (λ s. s t) (at_first n f g k lt)) (refused_joined n f g (suc k) xs ys (omega arith))

joined_types : (xs ys : List DType) → logical_types (xs ++ ys) ≡ logical_types xs ++ logical_types ys
joined_types [] ys = refl
joined_types (t ∷ xs) ys = ap (λ r. logical_type t ∷ r) (joined_types xs ys)

length_types : (xs : List DType) → length (logical_types xs) ≡ length xs
length_types [] = refl
length_types (t ∷ xs) = let r = length_types xs in omega arith

refused_of_types : (n : ℕ) (f g : ℕ → LogicalType → Bool) (zs xs ys : List DType) → zs ≡ xs ++ ys → length xs ≡ n → or_else (first_refused f 0 (logical_types xs)) (plus n (first_refused g 0 (logical_types ys))) ≡ first_refused (side_by_side n f g) 0 (logical_types zs)
refused_of_types n f g zs xs ys z h =
    let l = length_types xs in
    sym (refused_joined n f g 0 (logical_types xs) (logical_types ys) (omega arith)) ∙ ap (first_refused (side_by_side n f g) 0) (sym (joined_types xs ys) ∙ ap logical_types (sym z))

step_within : (b : Bool) (o : Option ℕ) (l i m : ℕ) → cond b o (Some l) ≡ Some i → (o ≡ Some i → i < suc l + m) → i < l + suc m
step_within true o l i m e r = let w = r e in omega arith
step_within false o l i m e r = let s : l ≡ i = cc in omega arith

refused_within : (g : ℕ → LogicalType → Bool) (l : ℕ) (ys : List LogicalType) (i : ℕ) → first_refused g l ys ≡ Some i → i < l + length ys
refused_within g l [] i e = absurd (cc)
refused_within g l (t ∷ ys) i e = let w = step_within (g l t) (first_refused g (suc l) ys) l i (length ys) e (λ s. refused_within g (suc l) ys i s) in omega arith

told_first : (e : Fault) (o p : Option ℕ) → Err e ≡ checked_types o → Err e ≡ checked_types (or_else o p)
told_first e None p h = absurd (cc)
told_first e (Some j) p h = h

told_none : (n : ℕ) (o p : Option ℕ) → Ok tt ≡ checked_types o → Ok tt ≡ checked_types p → Ok tt ≡ checked_types (or_else o (plus n p))
told_none n (Some j) p h q = absurd (cc)
told_none n None (Some j) h q = absurd (cc)
told_none n None None h q = refl

told_second : (n : ℕ) (e e2 : Fault) (o p : Option ℕ) → ((i : ℕ) → p ≡ Some i → n + i < 2 ^ 64) → Ok tt ≡ checked_types o → Err e ≡ checked_types p → e2 ≡ placed n e → Err e2 ≡ checked_types (or_else o (plus n p))
told_second n e e2 (Some j) p small h q s = absurd (cc)
told_second n e e2 None None small h q s = absurd (cc)
told_second n e e2 None (Some j) small h q s =
    let d : e ≡ Dtype j = cc in
    ap Err (s ∙ ap (placed n) d ∙ ap Dtype (moved n j (small j refl)))

pub validated_err : (n : ℕ) (f g : ℕ → LogicalType → Bool) (zs xs ys : List DType) (e : Fault) → zs ≡ xs ++ ys → length xs ≡ n → Err e ≡ checked_types (first_refused f 0 (logical_types xs)) → Err e ≡ checked_types (first_refused (side_by_side n f g) 0 (logical_types zs))
validated_err n f g zs xs ys e z h r = told_first e _ _ r ∙ ap checked_types (refused_of_types n f g zs xs ys z h)

pub validated_ok : (n : ℕ) (f g : ℕ → LogicalType → Bool) (zs xs ys : List DType) → zs ≡ xs ++ ys → length xs ≡ n → Ok tt ≡ checked_types (first_refused f 0 (logical_types xs)) → Ok tt ≡ checked_types (first_refused g 0 (logical_types ys)) → Ok tt ≡ checked_types (first_refused (side_by_side n f g) 0 (logical_types zs))
validated_ok n f g zs xs ys z h r q = told_none n _ _ r q ∙ ap checked_types (refused_of_types n f g zs xs ys z h)

pub validated_second : (n : ℕ) (f g : ℕ → LogicalType → Bool) (zs xs ys : List DType) (e e2 : Fault) → zs ≡ xs ++ ys → length xs ≡ n → n + length ys < 2 ^ 64 → Ok tt ≡ checked_types (first_refused f 0 (logical_types xs)) → Err e ≡ checked_types (first_refused g 0 (logical_types ys)) → e2 ≡ placed n e → Err e2 ≡ checked_types (first_refused (side_by_side n f g) 0 (logical_types zs))
validated_second n f g zs xs ys e e2 z h small r q s =
    let l = length_types ys in
    told_second n e e2 _ _ (λ i w. let b = refused_within g 0 (logical_types ys) i w in omega arith) r q s ∙ ap checked_types (refused_of_types n f g zs xs ys z h)
