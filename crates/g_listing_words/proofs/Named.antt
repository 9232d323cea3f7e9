-- Each operation's word names it: no row of the table is missing, and no two have one word.
use Rattle.std.proofs.Common.{◌≡◌, ℕ, Option, Some, None, refl}
use Rattle.g_values.specs.declared.primitive.Primitive.{Primitive}
use Rattle.g_values.specs.declared.primitive.Primitive.TheVariants as primitive
use Rattle.g_operations.specs.declared.shared.SharedOp.{SharedOp}
use Rattle.g_operations.specs.declared.shared.SharedOp.TheVariants as shared
use Rattle.g_operations.specs.Rows.{primitive_row, shared_row}
use Rattle.g_listing_words.specs.declared.Operation.TheVariants.{Apply, Get, Set, Shared}
use Rattle.g_listing_words.specs.Operations.{operation_of, AreNamed}

primitive_named : (p : Primitive) → (primitive_row p).field ≡ None → operation_of (primitive_row p).word ≡ Some (Apply p)
unfolding operation_of
primitive_named primitive.Add e = refl
primitive_named primitive.Sub e = refl
primitive_named primitive.Mul e = refl
primitive_named primitive.Inc e = refl
primitive_named primitive.Dec e = refl
primitive_named primitive.Neg e = refl
primitive_named primitive.Abs e = refl
primitive_named primitive.QuotRem e = refl
primitive_named primitive.MaxMin e = refl
primitive_named primitive.And e = refl
primitive_named primitive.Or e = refl
primitive_named primitive.Xor e = refl
primitive_named primitive.Not e = refl
primitive_named primitive.Shift e = refl
primitive_named primitive.ToI8 e = refl
primitive_named primitive.ToI16 e = refl
primitive_named primitive.ToI32 e = refl
primitive_named primitive.ToI64 e = refl
primitive_named primitive.ToU8 e = refl
primitive_named primitive.ToU16 e = refl
primitive_named primitive.ToU32 e = refl
primitive_named primitive.ToU64 e = refl
primitive_named primitive.BoolInt e = refl
primitive_named primitive.Eq e = refl
primitive_named primitive.Ne e = refl
primitive_named primitive.Lt e = refl
primitive_named primitive.Le e = refl
primitive_named primitive.Gt e = refl
primitive_named primitive.Ge e = refl
primitive_named primitive.Select e = refl
primitive_named primitive.All e = refl
primitive_named primitive.Any e = refl
primitive_named primitive.ArraySize e = refl
primitive_named primitive.IndexArray e = refl
primitive_named primitive.Replace e = refl
primitive_named primitive.Build e = refl
primitive_named primitive.Concat e = refl
primitive_named primitive.Initialize e = refl
primitive_named primitive.Subset e = refl
primitive_named primitive.Delete e = refl
primitive_named primitive.Reverse e = refl
primitive_named primitive.Sort e = refl
primitive_named primitive.Sum e = refl
primitive_named primitive.Product e = refl
primitive_named primitive.Search e = refl
primitive_named primitive.StrLen e = refl
primitive_named primitive.StrConcat e = refl
primitive_named primitive.StrSubset e = refl
primitive_named primitive.StrBytes e = refl
primitive_named primitive.BytesStr e = refl
primitive_named primitive.NumStr e = refl
primitive_named primitive.StrNum e = refl
primitive_named primitive.Bundle e = refl
primitive_named primitive.Unbundle e = refl
primitive_named (primitive.Get k) e = absurd cc
primitive_named (primitive.Set k) e = absurd cc

get_named : (k : ℕ) → operation_of (primitive_row (primitive.Get k)).word ≡ Some Get
unfolding operation_of
get_named k = refl

set_named : (k : ℕ) → operation_of (primitive_row (primitive.Set k)).word ≡ Some Set
unfolding operation_of
set_named k = refl

shared_named : (o : SharedOp) → operation_of (shared_row o).word ≡ Some (Shared o)
unfolding operation_of
shared_named shared.Enqueue = refl
shared_named shared.Dequeue = refl
shared_named shared.Release = refl
shared_named shared.Size = refl
shared_named shared.NewRef = refl
shared_named shared.DelRef = refl

pub named : AreNamed
named = record { primitives = primitive_named; get = get_named; set = set_named; shared = shared_named }
