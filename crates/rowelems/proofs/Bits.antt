-- Truth values that are stored, and a list of one truth value.
use Rattle.std.proofs.Common.{◌≡◌, ◌∙◌, ℕ, zero, suc, ◌<◌, Bool, false, List, length, Some, refl, ap, sym, subst, arith}
use Rattle.std.specs.Prelude.{replicate}
use Rattle.bitlane.specs.Bits.{bit}
use Rattle.coltypes.specs.Cell.{Cell, truth}
use Rattle.colbase.specs.Parts.{bits_of}
use Rattle.colbase.specs.Arrays.{Array, bool, len, MustRead}
use Rattle.rowelems.specs.Shown.{stored_or}
use Rattle.rowelems.specs.Elements.{shown_truth}
use Rattle.rowelems.specs.Unmasked.{unmasked}
use Rattle.rowelems.specs.Reading.{IsTruth}
use Rattle.rowelems.proofs.Payload.{len-unmasked, shown-unmasked, reads-shown}

stored-bits : (a : Array) (bits : List Bool) → bits_of a ≡ Some bits → (i : ℕ) → stored_or (truth false) a i ≡ truth (bit bits i)
stored-bits (bool bs v) bits e i = ap (λ o. stored_or (truth false) (bool o v) i) (let h : bs ≡ bits = cc in h)
stored-bits _ bits e i = absurd (cc)

len-bits : (a : Array) (bits : List Bool) → bits_of a ≡ Some bits → length bits ≡ len a
len-bits (bool bs v) bits e = cc
len-bits _ bits e = absurd (cc)

bit-replicate : (n : ℕ) (b : Bool) (i : ℕ) → i < n → bit (replicate n b) i ≡ b
bit-replicate zero b i h = absurd (omega arith)
bit-replicate (suc n) b zero h = refl
bit-replicate (suc n) b (suc i) h = bit-replicate n b i (omega arith)

-- the stored truth values are as many as the rows, and are what is shown
pub bits-len : (a s : Array) (bits : List Bool) → s ≡ unmasked a → bits_of s ≡ Some bits → length bits ≡ len a
bits-len a s bits e b = len-bits s bits b ∙ ap len e ∙ len-unmasked a

pub bits-shown : (a s : Array) (bits : List Bool) → s ≡ unmasked a → bits_of s ≡ Some bits → (i : ℕ) → truth (bit bits i) ≡ shown_truth a i
bits-shown a s bits e b i = sym (shown-unmasked (truth false) a i ∙ ap (λ x. stored_or (truth false) x i) (sym e) ∙ stored-bits s bits b i)

-- and so is the truth value of a constant, in each row
pub filled-shown : (a s : Array) (x : Bool) (bits : List Bool) → s ≡ unmasked a → ((i : ℕ) → stored_or (truth false) s i ≡ truth x) → bits ≡ replicate (len a) x → (i : ℕ) → i < len a → truth (bit bits i) ≡ shown_truth a i
filled-shown a s x bits e b f i h =
    ap (λ bs. truth (bit bs i)) f
    ∙ ap truth (bit-replicate (len a) x i h)
    ∙ sym (shown-unmasked (truth false) a i ∙ ap (λ y. stored_or (truth false) y i) (sym e) ∙ b i)

pub truths-read : (a : Array) (bits : List Bool) → ((i : ℕ) → i < len a → truth (bit bits i) ≡ shown_truth a i) → (x : Cell) → MustRead a x → IsTruth x
truths-read a bits h = reads-shown IsTruth (truth false) a (λ i k. subst IsTruth (h i k) tt)
