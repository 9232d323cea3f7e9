-- The one row of each operation: its word, the first version of listings that has it, how many inputs and outputs it has, and which inputs
-- it takes, so that it may work in their buffers. The others are read.
use Rattle.std.specs.Prelude.{ℕ, ◌==◌, nat_le, Bool, true, ◌&&◌, List, Option, Some, None, codes}
use Rattle.std.specs.Borrow.{Bor}
use Rattle.g_values.specs.declared.primitive.Primitive.{Primitive}
use Rattle.g_values.specs.declared.primitive.Primitive.TheVariants as op
use Rattle.g_operations.specs.declared.row.Count.{Count}
use Rattle.g_operations.specs.declared.row.Count.TheVariants.{Exactly, Between, Any}
use Rattle.g_operations.specs.declared.row.Taken.{Taken}
use Rattle.g_operations.specs.declared.row.Taken.TheVariants.{Nothing, First, Second, FirstTwo, FirstAndThird, SecondAndThird, FirstArray, All}
use Rattle.g_operations.specs.declared.row.Row.{Row}
use Rattle.g_operations.specs.declared.shared.SharedOp.{SharedOp}
use Rattle.g_operations.specs.declared.shared.SharedOp.TheVariants as shared

pub record OperationRow : Type 0 where
  pub word : List ℕ
  -- the number that follows the word of `get` and `set`: the element of a cluster, from 0
  pub field : Option ℕ
  pub since : ℕ
  pub inputs : Count
  pub outputs : Count
  pub taken : Taken

-- a row as the program holds it
abbrev pub seen_row : Row → OperationRow
seen_row r = record { word = r.word.now; field = r.field; since = r.since; inputs = r.inputs; outputs = r.outputs; taken = r.taken }

-- whether that many operands are as many as the operation has
abbrev pub allows : Count → ℕ → Bool
allows (Exactly n) k = k == n
allows (Between least most) k = nat_le least k && nat_le k most
allows Any k = true

abbrev pub fits : OperationRow → (inputs outputs : ℕ) → Bool
fits r i o = allows r.inputs i && allows r.outputs o

-- an operation of the first version
abbrev pub fixed : (word : List ℕ) → (inputs outputs : ℕ) → Taken → OperationRow
fixed word i o taken = record { word = word; field = None; since = 1; inputs = Exactly i; outputs = Exactly o; taken = taken }

abbrev pub primitive_row : Primitive → OperationRow
primitive_row op.Add = fixed (codes "add") 2 1 FirstArray
primitive_row op.Sub = fixed (codes "sub") 2 1 FirstArray
primitive_row op.Mul = fixed (codes "mul") 2 1 FirstArray
primitive_row op.Inc = fixed (codes "inc") 1 1 First
primitive_row op.Dec = fixed (codes "dec") 1 1 First
primitive_row op.Neg = fixed (codes "neg") 1 1 First
primitive_row op.Abs = fixed (codes "abs") 1 1 First
primitive_row op.QuotRem = fixed (codes "quotrem") 2 2 Nothing
primitive_row op.MaxMin = fixed (codes "max_min") 2 2 Nothing
primitive_row op.And = fixed (codes "and") 2 1 FirstArray
primitive_row op.Or = fixed (codes "or") 2 1 FirstArray
primitive_row op.Xor = fixed (codes "xor") 2 1 FirstArray
primitive_row op.Not = fixed (codes "not") 1 1 First
primitive_row op.Shift = fixed (codes "shift") 2 1 Nothing
primitive_row op.ToI8 = fixed (codes "to_i8") 1 1 First
primitive_row op.ToI16 = fixed (codes "to_i16") 1 1 First
primitive_row op.ToI32 = fixed (codes "to_i32") 1 1 First
primitive_row op.ToI64 = fixed (codes "to_i64") 1 1 First
primitive_row op.ToU8 = fixed (codes "to_u8") 1 1 First
primitive_row op.ToU16 = fixed (codes "to_u16") 1 1 First
primitive_row op.ToU32 = fixed (codes "to_u32") 1 1 First
primitive_row op.ToU64 = fixed (codes "to_u64") 1 1 First
primitive_row op.BoolInt = fixed (codes "bool_int") 1 1 Nothing
primitive_row op.Eq = fixed (codes "eq") 2 1 Nothing
primitive_row op.Ne = fixed (codes "ne") 2 1 Nothing
primitive_row op.Lt = fixed (codes "lt") 2 1 Nothing
primitive_row op.Le = fixed (codes "le") 2 1 Nothing
primitive_row op.Gt = fixed (codes "gt") 2 1 Nothing
primitive_row op.Ge = fixed (codes "ge") 2 1 Nothing
primitive_row op.Select = fixed (codes "select") 3 1 SecondAndThird
primitive_row op.All = fixed (codes "all") 1 1 Nothing
primitive_row op.Any = fixed (codes "any") 1 1 Nothing
primitive_row op.ArraySize = fixed (codes "array_size") 1 1 Nothing
primitive_row op.IndexArray = fixed (codes "index_array") 2 1 Nothing
primitive_row op.Replace = fixed (codes "replace") 3 1 FirstAndThird
primitive_row op.Build = fixed (codes "build") 2 1 FirstTwo
primitive_row op.Concat = fixed (codes "concat") 2 1 First
primitive_row op.Initialize = fixed (codes "initialize") 2 1 Nothing
primitive_row op.Subset = fixed (codes "subset") 3 1 First
primitive_row op.Delete = fixed (codes "delete") 3 2 First
primitive_row op.Reverse = fixed (codes "reverse") 1 1 First
primitive_row op.Sort = fixed (codes "sort") 1 1 First
primitive_row op.Sum = fixed (codes "sum") 1 1 Nothing
primitive_row op.Product = fixed (codes "product") 1 1 Nothing
primitive_row op.Search = fixed (codes "search") 2 1 Nothing
primitive_row op.StrLen = fixed (codes "str_len") 1 1 Nothing
primitive_row op.StrConcat = fixed (codes "str_concat") 2 1 First
primitive_row op.StrSubset = fixed (codes "str_subset") 3 1 First
primitive_row op.StrBytes = fixed (codes "str_bytes") 1 1 First
primitive_row op.BytesStr = fixed (codes "bytes_str") 1 1 First
primitive_row op.NumStr = fixed (codes "num_str") 1 1 Nothing
primitive_row op.StrNum = fixed (codes "str_num") 1 2 Nothing
primitive_row op.Bundle = record { word = codes "bundle"; field = None; since = 1; inputs = Between 1 64; outputs = Exactly 1; taken = All }
primitive_row op.Unbundle = record { word = codes "unbundle"; field = None; since = 1; inputs = Exactly 1; outputs = Any; taken = First }
primitive_row (op.Get k) = record { word = codes "get"; field = Some k; since = 1; inputs = Exactly 1; outputs = Exactly 1; taken = Nothing }
primitive_row (op.Set k) = record { word = codes "set"; field = Some k; since = 1; inputs = Exactly 2; outputs = Exactly 1; taken = FirstTwo }

abbrev pub shared_row : SharedOp → OperationRow
shared_row shared.Enqueue = fixed (codes "enqueue") 2 1 Second
shared_row shared.Dequeue = fixed (codes "dequeue") 1 2 Nothing
shared_row shared.Release = fixed (codes "release") 1 1 Nothing
shared_row shared.Size = fixed (codes "qsize") 1 2 Nothing
shared_row shared.NewRef = fixed (codes "newref") 1 1 First
shared_row shared.DelRef = fixed (codes "delref") 1 2 Nothing
