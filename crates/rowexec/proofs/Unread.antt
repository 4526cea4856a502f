-- Why a batch is not read, from why its columns are not decoded.
use Rattle.std.proofs.Common.{ℕ, suc, List, [], ◌∷◌, inl, inr}
use Rattle.colbase.specs.Arrays.{Array}
use Rattle.coltypes.specs.Cell.{Cell}
use Rattle.coltypes.specs.declared.fault.Fault.{Fault}
use Rattle.rowtypes.specs.Rows.{DecodeFails, FirstUnread}
use Rattle.rowexec.specs.Reads.{ReadFails, UnreadAt}

first_unread : (reads : ℕ → Cell → Type 0) (k : ℕ) (arrays : List Array) (j : ℕ) → FirstUnread reads k arrays j → UnreadAt reads k arrays j
first_unread reads k [] j p = p
first_unread reads k (a ∷ arrays) j (inl p) = inl p
first_unread reads k (a ∷ arrays) j (inr p) = inr (first_unread reads (suc k) arrays j p.1)

-- the lowest argument that is not read is one
pub read_fails : (reads : ℕ → Cell → Type 0) (k : ℕ) (arrays : List Array) (e : Fault) → DecodeFails reads k arrays e → ReadFails reads k arrays e
read_fails reads k arrays e (inl m) = inl m
read_fails reads k arrays e (inr p) = inr (record { place = p.place; is = p.is; unread = first_unread reads k arrays p.place p.first })
