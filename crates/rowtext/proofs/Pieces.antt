-- Pieces that go on from one another.
use Rattle.std.proofs.Common.{◌≡◌, ℕ, ◌+◌, List, [], ◌++◌, take, drop, Option, Some, None, option_map, refl, sym, ap, ◌∙◌, append_assoc}
use Rattle.std.proofs.lemmas.List.{drop-drop, take-append-drop}
use Rattle.rowtext.specs.Bytes.{Takes, Grows}

pub next_piece : (xs buf : List ℕ) (at n : ℕ) → take n buf ≡ take n (drop at xs) → drop at xs ≡ take n buf ++ drop (at + n) xs
next_piece xs buf at n e =
    sym (take-append-drop n (drop at xs)) ∙ ap (λ front. front ++ drop n (drop at xs)) (sym e) ∙ ap (λ rest. take n buf ++ rest) (drop-drop n at xs)

pub takes_more : (old mid new : Option (List ℕ)) (front bytes : List ℕ) → Takes old front mid → Takes mid bytes new → Takes old (front ++ bytes) new
takes_more old mid None front bytes first then = first ∙ ap (option_map (λ rest. front ++ rest)) then
takes_more old mid (Some rest) front bytes first then = first ∙ ap (option_map (λ r. front ++ r)) then ∙ ap Some (sym (append_assoc front bytes rest))

pub grows_more : (old mid new : Option (List ℕ)) (front bytes : List ℕ) → Grows old front mid → Grows mid bytes new → Grows old (front ++ bytes) new
grows_more None mid new front bytes first then = then ∙ ap (option_map (λ held. held ++ bytes)) first
grows_more (Some held) mid new front bytes first then = then ∙ ap (option_map (λ h. h ++ bytes)) first ∙ ap Some (append_assoc held front bytes)

pub takes_none : (old : Option (List ℕ)) → Takes old [] old
takes_none None = refl
takes_none (Some rest) = refl
