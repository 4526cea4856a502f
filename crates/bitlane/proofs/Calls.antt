-- What the calls of a closure by a mapped range gave.
use Rattle.std.proofs.Common.{◌≡◌, ◌∙◌, ℕ, ◌+◌, ◌-◌, ◌<◌, ◌≤◌, List, [], ◌∷◌, ◌++◌, length, refl, ap, sym, subst, arith}
use Rattle.std.specs.Iterator.{Yields, Drains}
use Rattle.std.specs.Iterator.Adapters.{map_steps, map_source, map_callee}
use Rattle.std.specs.declared.iter.Map.{Map}
use Rattle.std.specs.declared.ops.Range.{Range}
use denote.Param.Members.{Mut, Called}
use Rattle.bitlane.specs.Bits.{Collects, range_gives}

abbrev CallsBy : {F T : Type 0} → Mut F (ℕ × Unit {0}) T → F → ℕ → T → F → Type 0
CallsBy calls f i x h = Called calls f (i, tt) x h

abbrev range : {F : Type 0} → Map (Range ℕ) F → Range ℕ
range s = map_source s

-- where the range went, and what the calls at its indices gave
Yields-collects : {F T : Type 0} (calls : Mut F (ℕ × Unit {0}) T) (xs : List T) (s t : Map (Range ℕ) F) → Yields (map_steps range_gives calls) s xs t
    → ((range t).start ≡ (range s).start + length xs) × ((range t).end ≡ (range s).end)
    × ((range s).start ≤ (range s).end → (range t).start ≤ (range t).end)
    × Collects (CallsBy calls) (map_callee s) (range s).start xs (map_callee t)
Yields-collects calls [] s t e = subst (λ u. ((range u).start ≡ (range s).start + 0) × ((range u).end ≡ (range s).end)
    × ((range s).start ≤ (range s).end → (range u).start ≤ (range u).end) × (map_callee s ≡ map_callee u)) e (omega arith, refl, (λ l. l), refl)
Yields-collects calls (x ∷ xs) s t y =
    let j = y.0 in
    let gave = y.1.1 in
    let rest = Yields-collects calls xs j t y.2 in
    let ends : (range j).end ≡ (range s).end = gave.0 in
    let below : 0 < (range s).end - (range s).start = gave.1.0 in
    let at : y.1.0 ≡ (range s).start = gave.1.1 in
    let on : (range j).start ≡ (range s).start + 1 = gave.1.2 in (
      omega (arith, rest.0, on),
      rest.1 ∙ ends,
      (λ l. rest.2 (omega (arith, on, ends, below))),
      (map_callee j, subst (λ i. CallsBy calls (map_callee s) i x (map_callee j)) at y.1.2, subst (λ i. Collects (CallsBy calls) (map_callee j) i xs (map_callee t)) on rest.3),
    )

-- a range from 0 that was mapped to its end
Drains-collects : {F T : Type 0} (calls : Mut F (ℕ × Unit {0}) T) (s : Map (Range ℕ) F) (n : ℕ) (f : F) → range s ≡ record { start = 0; end = n } → map_callee s ≡ f
    → (xs : List T) → Drains (map_steps range_gives calls) s xs → (length xs ≡ n) × ((last : F) × Collects (CallsBy calls) f 0 xs last)
Drains-collects calls s n f source callee xs d =
    let t = d.1.0 in
    let went = Yields-collects calls xs s t d.1.1 in
    let done : (range t).end - (range t).start ≡ 0 = d.1.2.0.1.0 in
    let from : (range s).start ≡ 0 = ap (λ r. r.start) source in
    let to : (range s).end ≡ n = ap (λ r. r.end) source in
    let within : (range t).start ≤ (range t).end = went.2 (omega (arith, from)) in (
      omega (arith, went.0, went.1, within, done, from, to),
      (map_callee t, subst (λ h. Collects (CallsBy calls) h 0 xs (map_callee t)) callee (subst (λ i. Collects (CallsBy calls) (map_callee s) i xs (map_callee t)) from went.3)),
    )

-- the same of a list that was empty and was extended by the mapped range
pub extended-collects : {F T : Type 0} (calls : Mut F (ℕ × Unit {0}) T) (s : Map (Range ℕ) F) (n : ℕ) (f : F) → range s ≡ record { start = 0; end = n } → map_callee s ≡ f
    → (old xs new : List T) → old ≡ [] → new ≡ old ++ xs → Drains (map_steps range_gives calls) s xs → (length new ≡ n) × ((last : F) × Collects (CallsBy calls) f 0 new last)
extended-collects {F} {T} calls s n f source callee old xs new empty whole d =
    let Given : List T → Type 0 = λ v. (length v ≡ n) × ((last : F) × Collects (CallsBy calls) f 0 v last) in
    subst Given (sym (whole ∙ ap (λ v. v ++ xs) empty)) (Drains-collects calls s n f source callee xs d)
