-- The tables of VIs, one after another.
use Rattle.std.proofs.Common.{◌≡◌, ℕ, suc, ◌+◌, List, [], ◌∷◌, ◌++◌, sym, ap, ◌∙◌, subst, append_assoc, arith}
use Rattle.std.specs.Prelude.{Option, slice_get}
use Rattle.std.proofs.lemmas.List.{append-nil}
use mathlib.Core.Path.{fun_ext}
use Rattle.g_diagram.specs.declared.hierarchy.Vi.{Vi}
use Rattle.g_typing.specs.Types.{Types}
use Rattle.g_infer.specs.declared.typed.ViTypes.{ViTypes}
use Rattle.g_frames.specs.Program.{flat_vi, flat_vis}
use Rattle.g_vi_tables.specs.declared.table.ViTable.{ViTable}
use Rattle.g_vi_tables.specs.declared.types.WireTypes.{WireTypes}
use Rattle.g_vi_tables.specs.Tables.{IsViTable}
use Rattle.g_vi_tables.specs.Types.{types_of}
use Rattle.g_program.specs.Tables.{AreAllTables}
use Rattle.g_run_tables.specs.Types.{types_or_none, types_by}

-- a table whose types are those that are told
pub told_table : (all : List Vi) (vi : Vi) (m : WireTypes) (o : Option ViTypes) (typed : List ViTypes) (n : ℕ) (t : ViTable)
    → ((d : ℕ) (name : List ℕ) → types_of m d name ≡ types_or_none o d name) → o ≡ slice_get typed n
    → IsViTable (flat_vi all (types_of m) vi) t → IsViTable (flat_vi all (types_by typed n) vi) t
told_table all vi m o typed n t same at is =
    let P : Types → Type 0 = λ types. IsViTable (flat_vi all types vi) t in
    let e : types_of m ≡ types_or_none o = fun_ext (λ d. fun_ext (λ name. same d name)) in
    subst P (e ∙ ap types_or_none at) is

-- one table more
pub tables_more : (all vis : List Vi) (types : ℕ → Types) (n : ℕ) (at : List Vi) (vi : Vi) (next : List Vi) (old new : List ViTable) (t : ViTable) → at ≡ vi ∷ next → new ≡ old ++ t ∷ []
    → IsViTable (flat_vi all (types n) vi) t
    → ((rest : List ViTable) → AreAllTables (flat_vis all types n at) rest → AreAllTables (flat_vis all types 0 vis) (old ++ rest))
    → (rest : List ViTable) → AreAllTables (flat_vis all types (n + 1) next) rest → AreAllTables (flat_vis all types 0 vis) (new ++ rest)
tables_more all vis types n at vi next old new t ea en is h rest are =
    let P : List Vi → Type 0 = λ vs. AreAllTables (flat_vis all types n vs) (t ∷ rest) in
    let Q : ℕ → Type 0 = λ k. AreAllTables (flat_vis all types k next) rest in
    let after : n + 1 ≡ suc n = omega arith in
    let e : old ++ t ∷ rest ≡ new ++ rest = sym (append_assoc old (t ∷ []) rest) ∙ ap (λ ts. ts ++ rest) (sym en) in
    subst (AreAllTables (flat_vis all types 0 vis)) e (h (t ∷ rest) (subst P (sym ea) (is, subst Q after are)))

pub tables_end : (all vis : List Vi) (types : ℕ → Types) (n : ℕ) (at : List Vi) (ts : List ViTable) → at ≡ []
    → ((rest : List ViTable) → AreAllTables (flat_vis all types n at) rest → AreAllTables (flat_vis all types 0 vis) (ts ++ rest)) → AreAllTables (flat_vis all types 0 vis) ts
tables_end all vis types n at ts end h =
    let P : List Vi → Type 0 = λ vs. AreAllTables (flat_vis all types n vs) [] in
    subst (AreAllTables (flat_vis all types 0 vis)) (append-nil ts) (h [] (subst P (sym end) tt))
