-- Which argument is named where one is not decoded.
use Rattle.std.proofs.Common.{◌≡◌, ℕ, suc, ◌<◌, List, [], ◌∷◌, length, get_or, inl, inr, refl, subst, ap, ◌∙◌, arith}
use Rattle.colbase.specs.Arrays.{Array}
use Rattle.coltypes.specs.Cell.{Cell}
use Rattle.coltypes.specs.declared.fault.Fault.{Fault}
use Rattle.rowelems.specs.Argument.{ArgumentFails, ReadsAll}
use Rattle.rowtypes.specs.Rows.{DecodeFails, ReadsAllFrom, shown_from}

pub fails_here : (reads : ℕ → Cell → Type 0) (k : ℕ) (a : Array) (arrays : List Array) (e : Fault) → ArgumentFails (reads k) k a e → DecodeFails reads k (a ∷ arrays) e
fails_here reads k a arrays e (inl m) = inl m
fails_here reads k a arrays e (inr h) = inr (record { place = k; is = h.0; first = inl (refl, h.1) })

pub fails_later : (reads : ℕ → Cell → Type 0) (k : ℕ) (a : Array) (arrays : List Array) (e : Fault) → ReadsAll (reads k) a → DecodeFails reads (suc k) arrays e → DecodeFails reads k (a ∷ arrays) e
fails_later reads k a arrays e r (inl m) = inl m
fails_later reads k a arrays e r (inr h) = inr (record { place = h.place; is = h.is; first = inr (r, h.first) })

pub first_fails : (reads : ℕ → Cell → Type 0) (arrays : List Array) (a : Array) (e : Fault) → 0 < length arrays → a ≡ get_or arrays 0 a → ArgumentFails (reads 0) 0 a e → DecodeFails reads 0 arrays e
first_fails reads [] a e lt pa h = absurd (omega (arith, lt))
first_fails reads (x ∷ rest) a e lt pa h = fails_here reads 0 x rest e (subst (λ t. ArgumentFails (reads 0) 0 t e) pa h)

pub second_fails : (reads : ℕ → Cell → Type 0) (arrays : List Array) (a b : Array) (e : Fault) → 1 < length arrays → a ≡ get_or arrays 0 a → b ≡ get_or arrays 1 b → ReadsAll (reads 0) a → ArgumentFails (reads 1) 1 b e → DecodeFails reads 0 arrays e
second_fails reads [] a b e lt pa pb ra h = absurd (omega (arith, lt))
second_fails reads (x ∷ []) a b e lt pa pb ra h = absurd (omega (arith, lt))
second_fails reads (x ∷ y ∷ rest) a b e lt pa pb ra h = fails_later reads 0 x (y ∷ rest) e (subst (λ t. ReadsAll (reads 0) t) pa ra) (fails_here reads 1 y rest e (subst (λ t. ArgumentFails (reads 1) 1 t e) pb h))

pub third_fails : (reads : ℕ → Cell → Type 0) (arrays : List Array) (a b c : Array) (e : Fault) → 2 < length arrays → a ≡ get_or arrays 0 a → b ≡ get_or arrays 1 b → c ≡ get_or arrays 2 c → ReadsAll (reads 0) a → ReadsAll (reads 1) b → ArgumentFails (reads 2) 2 c e → DecodeFails reads 0 arrays e
third_fails reads [] a b c e lt pa pb pc ra rb h = absurd (omega (arith, lt))
third_fails reads (x ∷ []) a b c e lt pa pb pc ra rb h = absurd (omega (arith, lt))
third_fails reads (x ∷ y ∷ []) a b c e lt pa pb pc ra rb h = absurd (omega (arith, lt))
third_fails reads (x ∷ y ∷ z ∷ rest) a b c e lt pa pb pc ra rb h = fails_later reads 0 x (y ∷ z ∷ rest) e (subst (λ t. ReadsAll (reads 0) t) pa ra) (fails_later reads 1 y (z ∷ rest) e (subst (λ t. ReadsAll (reads 1) t) pb rb) (fails_here reads 2 z rest e (subst (λ t. ArgumentFails (reads 2) 2 t e) pc h)))

pub fourth_fails : (reads : ℕ → Cell → Type 0) (arrays : List Array) (a b c d : Array) (e : Fault) → 3 < length arrays → a ≡ get_or arrays 0 a → b ≡ get_or arrays 1 b → c ≡ get_or arrays 2 c → d ≡ get_or arrays 3 d → ReadsAll (reads 0) a → ReadsAll (reads 1) b → ReadsAll (reads 2) c → ArgumentFails (reads 3) 3 d e → DecodeFails reads 0 arrays e
fourth_fails reads [] a b c d e lt pa pb pc pd ra rb rc h = absurd (omega (arith, lt))
fourth_fails reads (x ∷ []) a b c d e lt pa pb pc pd ra rb rc h = absurd (omega (arith, lt))
fourth_fails reads (x ∷ y ∷ []) a b c d e lt pa pb pc pd ra rb rc h = absurd (omega (arith, lt))
fourth_fails reads (x ∷ y ∷ z ∷ []) a b c d e lt pa pb pc pd ra rb rc h = absurd (omega (arith, lt))
fourth_fails reads (x ∷ y ∷ z ∷ w ∷ rest) a b c d e lt pa pb pc pd ra rb rc h = fails_later reads 0 x (y ∷ z ∷ w ∷ rest) e (subst (λ t. ReadsAll (reads 0) t) pa ra) (fails_later reads 1 y (z ∷ w ∷ rest) e (subst (λ t. ReadsAll (reads 1) t) pb rb) (fails_later reads 2 z (w ∷ rest) e (subst (λ t. ReadsAll (reads 2) t) pc rc) (fails_here reads 3 w rest e (subst (λ t. ArgumentFails (reads 3) 3 t e) pd h))))

pub one_read : (reads : ℕ → Cell → Type 0) (arrays : List Array) (a : Array) → length arrays ≡ 1 → a ≡ get_or arrays 0 a → ReadsAll (reads 0) a → ReadsAllFrom reads 0 arrays
one_read reads [] a n pa ra = absurd (omega (arith, n))
one_read reads (x ∷ []) a n pa ra = (subst (λ t. ReadsAll (reads 0) t) pa ra, tt)
one_read reads (x ∷ v ∷ rest) a n pa ra = absurd (omega (arith, n))

pub two_read : (reads : ℕ → Cell → Type 0) (arrays : List Array) (a b : Array) → length arrays ≡ 2 → a ≡ get_or arrays 0 a → b ≡ get_or arrays 1 b → ReadsAll (reads 0) a → ReadsAll (reads 1) b → ReadsAllFrom reads 0 arrays
two_read reads [] a b n pa pb ra rb = absurd (omega (arith, n))
two_read reads (x ∷ []) a b n pa pb ra rb = absurd (omega (arith, n))
two_read reads (x ∷ y ∷ []) a b n pa pb ra rb = (subst (λ t. ReadsAll (reads 0) t) pa ra, (subst (λ t. ReadsAll (reads 1) t) pb rb, tt))
two_read reads (x ∷ y ∷ v ∷ rest) a b n pa pb ra rb = absurd (omega (arith, n))

pub three_read : (reads : ℕ → Cell → Type 0) (arrays : List Array) (a b c : Array) → length arrays ≡ 3 → a ≡ get_or arrays 0 a → b ≡ get_or arrays 1 b → c ≡ get_or arrays 2 c → ReadsAll (reads 0) a → ReadsAll (reads 1) b → ReadsAll (reads 2) c → ReadsAllFrom reads 0 arrays
three_read reads [] a b c n pa pb pc ra rb rc = absurd (omega (arith, n))
three_read reads (x ∷ []) a b c n pa pb pc ra rb rc = absurd (omega (arith, n))
three_read reads (x ∷ y ∷ []) a b c n pa pb pc ra rb rc = absurd (omega (arith, n))
three_read reads (x ∷ y ∷ z ∷ []) a b c n pa pb pc ra rb rc = (subst (λ t. ReadsAll (reads 0) t) pa ra, (subst (λ t. ReadsAll (reads 1) t) pb rb, (subst (λ t. ReadsAll (reads 2) t) pc rc, tt)))
three_read reads (x ∷ y ∷ z ∷ v ∷ rest) a b c n pa pb pc ra rb rc = absurd (omega (arith, n))

pub four_read : (reads : ℕ → Cell → Type 0) (arrays : List Array) (a b c d : Array) → length arrays ≡ 4 → a ≡ get_or arrays 0 a → b ≡ get_or arrays 1 b → c ≡ get_or arrays 2 c → d ≡ get_or arrays 3 d → ReadsAll (reads 0) a → ReadsAll (reads 1) b → ReadsAll (reads 2) c → ReadsAll (reads 3) d → ReadsAllFrom reads 0 arrays
four_read reads [] a b c d n pa pb pc pd ra rb rc rd = absurd (omega (arith, n))
four_read reads (x ∷ []) a b c d n pa pb pc pd ra rb rc rd = absurd (omega (arith, n))
four_read reads (x ∷ y ∷ []) a b c d n pa pb pc pd ra rb rc rd = absurd (omega (arith, n))
four_read reads (x ∷ y ∷ z ∷ []) a b c d n pa pb pc pd ra rb rc rd = absurd (omega (arith, n))
four_read reads (x ∷ y ∷ z ∷ w ∷ []) a b c d n pa pb pc pd ra rb rc rd = (subst (λ t. ReadsAll (reads 0) t) pa ra, (subst (λ t. ReadsAll (reads 1) t) pb rb, (subst (λ t. ReadsAll (reads 2) t) pc rc, (subst (λ t. ReadsAll (reads 3) t) pd rd, tt))))
four_read reads (x ∷ y ∷ z ∷ w ∷ v ∷ rest) a b c d n pa pb pc pd ra rb rc rd = absurd (omega (arith, n))

pub four_shown : (shown : ℕ → Array → ℕ → Cell) (arrays : List Array) (a b c d : Array) → length arrays ≡ 4 → a ≡ get_or arrays 0 a → b ≡ get_or arrays 1 b → c ≡ get_or arrays 2 c → d ≡ get_or arrays 3 d → (i : ℕ) (p q r s : Cell) → p ≡ shown 0 a i → q ≡ shown 1 b i → r ≡ shown 2 c i → s ≡ shown 3 d i → (p ∷ q ∷ r ∷ s ∷ []) ≡ shown_from shown 0 arrays i
four_shown shown [] a b c d n pa pb pc pd i p q r s hp hq hr hs = absurd (omega (arith, n))
four_shown shown (x ∷ []) a b c d n pa pb pc pd i p q r s hp hq hr hs = absurd (omega (arith, n))
four_shown shown (x ∷ y ∷ []) a b c d n pa pb pc pd i p q r s hp hq hr hs = absurd (omega (arith, n))
four_shown shown (x ∷ y ∷ z ∷ []) a b c d n pa pb pc pd i p q r s hp hq hr hs = absurd (omega (arith, n))
four_shown shown (x ∷ y ∷ z ∷ w ∷ []) a b c d n pa pb pc pd i p q r s hp hq hr hs =
    let e0 : p ≡ shown 0 x i = hp ∙ ap (λ t. shown 0 t i) pa in
    let e1 : q ≡ shown 1 y i = hq ∙ ap (λ t. shown 1 t i) pb in
    let e2 : r ≡ shown 2 z i = hr ∙ ap (λ t. shown 2 t i) pc in
    let e3 : s ≡ shown 3 w i = hs ∙ ap (λ t. shown 3 t i) pd in
    cc (e0, e1, e2, e3)
four_shown shown (x ∷ y ∷ z ∷ w ∷ v ∷ rest) a b c d n pa pb pc pd i p q r s hp hq hr hs = absurd (omega (arith, n))

pub three_shown : (shown : ℕ → Array → ℕ → Cell) (arrays : List Array) (a b c : Array) → length arrays ≡ 3 → a ≡ get_or arrays 0 a → b ≡ get_or arrays 1 b → c ≡ get_or arrays 2 c → (i : ℕ) (p q r : Cell) → p ≡ shown 0 a i → q ≡ shown 1 b i → r ≡ shown 2 c i → (p ∷ q ∷ r ∷ []) ≡ shown_from shown 0 arrays i
three_shown shown [] a b c n pa pb pc i p q r hp hq hr = absurd (omega (arith, n))
three_shown shown (x ∷ []) a b c n pa pb pc i p q r hp hq hr = absurd (omega (arith, n))
three_shown shown (x ∷ y ∷ []) a b c n pa pb pc i p q r hp hq hr = absurd (omega (arith, n))
three_shown shown (x ∷ y ∷ z ∷ []) a b c n pa pb pc i p q r hp hq hr =
    let e0 : p ≡ shown 0 x i = hp ∙ ap (λ t. shown 0 t i) pa in
    let e1 : q ≡ shown 1 y i = hq ∙ ap (λ t. shown 1 t i) pb in
    let e2 : r ≡ shown 2 z i = hr ∙ ap (λ t. shown 2 t i) pc in
    cc (e0, e1, e2)
three_shown shown (x ∷ y ∷ z ∷ v ∷ rest) a b c n pa pb pc i p q r hp hq hr = absurd (omega (arith, n))
