-- What calls of a closure at 0, 1 and so on gave, where the closure computes a function of the index and stays as it is.
use Rattle.std.proofs.Common.{◌≡◌, ◌∙◌, ℕ, zero, suc, get_or, ◌+◌, ◌<◌, Bool, List, [], ◌∷◌, length, refl, ap, sym, ◌++◌, take, subst, arith, Result, Ok, Err, IfOk}
use Rattle.std.proofs.lemmas.Grind.{common_steps}
use Rattle.bitlane.specs.Bits.{tabulate, Collects}
use Rattle.bitlane.proofs.Tables.{tabulate-same}

-- the values from i on
Collects-tabulate : {F : Type 0} (step : F → ℕ → Bool → F → Type 0) (p : ℕ → Bool) (n : ℕ) (f : F)
    → ((i : ℕ) (b : Bool) (g : F) → i < n → step f i b g → (b ≡ p i) × (g ≡ f))
    → (i : ℕ) (g last : F) (bits : List Bool) → g ≡ f → i + length bits ≡ n → Collects step g i bits last → bits ≡ tabulate (λ k. p (i + k)) (length bits)
Collects-tabulate step p n f pure i g last [] e l c = refl
Collects-tabulate {F} step p n f pure i g last (b ∷ bits) e l c =
    let called : step f i b c.0 = (let P : F → Type 0 = λ x. step x i b c.0 in subst P e c.1) in
    let told = pure i b c.0 (omega arith) called in
    let first : b ≡ p (i + 0) = told.0 ∙ ap p (omega arith) in
    ap (λ x. x ∷ bits) first
    ∙ ap (λ t. p (i + 0) ∷ t) (Collects-tabulate step p n f pure (i + 1) c.0 last bits told.1 (omega arith) c.2
    ∙ tabulate-same _ _ (length bits) (λ k lt. ap p (omega arith)))

-- the values of collect_bool_in, by its two clauses
pub collected-tabulate : {F : Type 0} (step : F → ℕ → Bool → F → Type 0) (p : ℕ → Bool) (n : ℕ) (f : F)
    → ((i : ℕ) (b : Bool) (g : F) → i < n → step f i b g → (b ≡ p i) × (g ≡ f))
    → (bits : List Bool) → length bits ≡ n → (last : F) × Collects step f 0 bits last → bits ≡ tabulate p n
collected-tabulate step p n f pure bits l c =
    Collects-tabulate step p n f pure 0 f c.0 bits refl (omega arith) c.1
    ∙ tabulate-same _ _ (length bits) (λ k lt. ap p (omega arith))
    ∙ ap (tabulate p) l

-- the result of collect_bool_in, by its two clauses
pub collected : {E F : Type 0} (step : F → ℕ → Bool → F → Type 0) (p : ℕ → Bool) (n : ℕ) (f : F)
    → ((i : ℕ) (b : Bool) (g : F) → i < n → step f i b g → (b ≡ p i) × (g ≡ f))
    → (result : Result (List Bool) E) → IfOk result (λ b. length b ≡ n) → IfOk result (λ b. (last : F) × Collects step f 0 b last) → IfOk result (λ b. b ≡ tabulate p n)
collected step p n f pure (Ok b) l c = collected-tabulate step p n f pure b l c
collected step p n f pure (Err e) l c = tt

-- what holds of a list holds of the Ok that is that list
pub IfOk-is : {E X : Type 0} (P : X → Type 0) (result : Result X E) (x : X) → IfOk result (λ y. y ≡ x) → P x → IfOk result P
IfOk-is P (Ok y) x e p = subst P (sym e) p
IfOk-is P (Err e) x h p = tt

-- the first n of two lists, where the first list has n elements
pub take_front : {X : Type 0} (xs ys : List X) (n : ℕ) → length xs ≡ n → take n (xs ++ ys) ≡ xs
take_front xs ys n e = grind (arith, common_steps)

-- what each call gave, where a call leaves the closure as it is
Collects-each : {F T : Type 0} (step : F → ℕ → T → F → Type 0) (R : ℕ → T → Type 0) (f : F) → ((i : ℕ) (x : T) (g : F) → step f i x g → R i x × (g ≡ f))
    → (i : ℕ) (g last : F) (xs : List T) → g ≡ f → Collects step g i xs last → (k : ℕ) (d : T) → k < length xs → R (i + k) (get_or xs k d)
Collects-each step R f told i g last [] e c k d l = absurd (omega arith)
Collects-each {F} step R f told i g last (x ∷ xs) e c zero d l =
    let called : step f i x c.0 = (let P : F → Type 0 = λ h. step h i x c.0 in subst P e c.1) in
    subst (λ n. R n x) (omega arith) (told i x c.0 called).0
Collects-each {F} step R f told i g last (x ∷ xs) e c (suc k) d l =
    let called : step f i x c.0 = (let P : F → Type 0 = λ h. step h i x c.0 in subst P e c.1) in
    let on : i + 1 + k ≡ i + suc k = omega arith in
    subst (λ n. R n (get_or xs k d)) on (Collects-each step R f told (i + 1) c.0 last xs (told i x c.0 called).1 c.2 k d (omega arith))

-- what each call gave, by the two clauses of a call that collects
pub collected-each : {E F T A : Type 0} (step : F → ℕ → T → F → Type 0) (R : ℕ → T → Type 0) (n : ℕ) (f : F) → ((i : ℕ) (x : T) (g : F) → step f i x g → R i x × (g ≡ f))
    → (items : A → List T) (result : Result A E) → IfOk result (λ v. length (items v) ≡ n) → IfOk result (λ v. (last : F) × Collects step f 0 (items v) last)
    → IfOk result (λ v. (i : ℕ) (d : T) → i < n → R i (get_or (items v) i d))
collected-each step R n f told items (Ok v) l c = λ i d h.
    let from : 0 + i ≡ i = omega arith in
    subst (λ k. R k (get_or (items v) i d)) from (Collects-each step R f told 0 f c.0 (items v) refl c.1 i d (omega (arith, l)))
collected-each step R n f told items (Err e) l c = tt
