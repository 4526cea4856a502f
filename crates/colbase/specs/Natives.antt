-- What the eight integer types say of the values that they store and lend.
use Rattle.std.proofs.Common.{◌≡◌, ℕ, List, [], ◌∷◌, Option, Some, refl, ap, zero, suc}
use Rattle.std.specs.Prelude.{ℤ, pos, IsSome, slice_get, slice_index_or}
use Rattle.coltypes.specs.declared.values.PrimitiveValues.{PrimitiveValues}
use Rattle.coltypes.specs.declared.values.PrimitiveValues.TheVariants.{I8, I16, I32, I64, U8, U16, U32, U64}
use Rattle.coltypes.specs.declared.dtype.PType.TheVariants as ptype
use Rattle.coltypes.specs.Values.{ptype_of, i8_of, i16_of, i32_of, i64_of, u8_of, u16_of, u32_of, u64_of}

-- the item that is there is the one at the index
item_at : {X : Type 0} (xs : List X) (i : ℕ) (x d : X) → slice_get xs i ≡ Some x → slice_index_or xs i d ≡ x
item_at [] i x d h = absurd (cc)
item_at (y ∷ ys) zero x d h = cc
item_at (y ∷ ys) (suc i) x d h = item_at ys i x d h

pub signed_at : (xs : List ℤ) (i : ℕ) (x : ℤ) → slice_get xs i ≡ Some x → slice_index_or xs i (pos 0) ≡ x
signed_at xs i x h = item_at xs i x (pos 0) h

pub unsigned_at : (xs : List ℕ) (i : ℕ) (x : ℕ) → slice_get xs i ≡ Some x → pos (slice_index_or xs i 0) ≡ pos x
unsigned_at xs i x h = ap pos (item_at xs i x 0 h)

pub i8_is_stored : (values : Option PrimitiveValues) (xs : List ℤ) → i8_of values ≡ Some xs → values ≡ Some (I8 xs)
i8_is_stored (Some (I8 ys)) xs h = cc
i8_is_stored _ xs h = absurd (cc)

pub i8_by_type : (values : PrimitiveValues) → ptype_of values ≡ ptype.I8 → IsSome (i8_of (Some values))
i8_by_type (I8 ys) h = refl
i8_by_type _ h = absurd (cc)

pub i16_is_stored : (values : Option PrimitiveValues) (xs : List ℤ) → i16_of values ≡ Some xs → values ≡ Some (I16 xs)
i16_is_stored (Some (I16 ys)) xs h = cc
i16_is_stored _ xs h = absurd (cc)

pub i16_by_type : (values : PrimitiveValues) → ptype_of values ≡ ptype.I16 → IsSome (i16_of (Some values))
i16_by_type (I16 ys) h = refl
i16_by_type _ h = absurd (cc)

pub i32_is_stored : (values : Option PrimitiveValues) (xs : List ℤ) → i32_of values ≡ Some xs → values ≡ Some (I32 xs)
i32_is_stored (Some (I32 ys)) xs h = cc
i32_is_stored _ xs h = absurd (cc)

pub i32_by_type : (values : PrimitiveValues) → ptype_of values ≡ ptype.I32 → IsSome (i32_of (Some values))
i32_by_type (I32 ys) h = refl
i32_by_type _ h = absurd (cc)

pub i64_is_stored : (values : Option PrimitiveValues) (xs : List ℤ) → i64_of values ≡ Some xs → values ≡ Some (I64 xs)
i64_is_stored (Some (I64 ys)) xs h = cc
i64_is_stored _ xs h = absurd (cc)

pub i64_by_type : (values : PrimitiveValues) → ptype_of values ≡ ptype.I64 → IsSome (i64_of (Some values))
i64_by_type (I64 ys) h = refl
i64_by_type _ h = absurd (cc)

pub u8_is_stored : (values : Option PrimitiveValues) (xs : List ℕ) → u8_of values ≡ Some xs → values ≡ Some (U8 xs)
u8_is_stored (Some (U8 ys)) xs h = cc
u8_is_stored _ xs h = absurd (cc)

pub u8_by_type : (values : PrimitiveValues) → ptype_of values ≡ ptype.U8 → IsSome (u8_of (Some values))
u8_by_type (U8 ys) h = refl
u8_by_type _ h = absurd (cc)

pub u16_is_stored : (values : Option PrimitiveValues) (xs : List ℕ) → u16_of values ≡ Some xs → values ≡ Some (U16 xs)
u16_is_stored (Some (U16 ys)) xs h = cc
u16_is_stored _ xs h = absurd (cc)

pub u16_by_type : (values : PrimitiveValues) → ptype_of values ≡ ptype.U16 → IsSome (u16_of (Some values))
u16_by_type (U16 ys) h = refl
u16_by_type _ h = absurd (cc)

pub u32_is_stored : (values : Option PrimitiveValues) (xs : List ℕ) → u32_of values ≡ Some xs → values ≡ Some (U32 xs)
u32_is_stored (Some (U32 ys)) xs h = cc
u32_is_stored _ xs h = absurd (cc)

pub u32_by_type : (values : PrimitiveValues) → ptype_of values ≡ ptype.U32 → IsSome (u32_of (Some values))
u32_by_type (U32 ys) h = refl
u32_by_type _ h = absurd (cc)

pub u64_is_stored : (values : Option PrimitiveValues) (xs : List ℕ) → u64_of values ≡ Some xs → values ≡ Some (U64 xs)
u64_is_stored (Some (U64 ys)) xs h = cc
u64_is_stored _ xs h = absurd (cc)

pub u64_by_type : (values : PrimitiveValues) → ptype_of values ≡ ptype.U64 → IsSome (u64_of (Some values))
u64_by_type (U64 ys) h = refl
u64_by_type _ h = absurd (cc)
