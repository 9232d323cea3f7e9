-- What a caller of `link` may show of the names of VIs, in place of the outlines that it takes.
use Rattle.std.proofs.Common.{◌≡◌, ℕ, suc, ◌<◌, All, Bool, true, false, List, [], ◌∷◌, length, get_or, sym, subst, arith}
use Rattle.std.specs.Prelude.{Some, is_some, if◌then◌else◌}
use Rattle.std.specs.Str.{bytes_eq}
use Rattle.std.proofs.lemmas.List.{length-map}
use Rattle.std.proofs.lemmas.List.Elements.{All-nil, All-cons, All-head, All-tail, All-append, All-map}
use Rattle.g_diagram.specs.declared.hierarchy.Hierarchy.{Hierarchy}
use Rattle.g_diagram.specs.declared.hierarchy.Vi.{Vi}
use Rattle.g_diagram.specs.Lines.{Kind, Call, Entry, entries_of}
use Rattle.g_diagram.specs.Ports.{first_vi}
use Rattle.g_hier.specs.declared.linked.CallLine.{CallLine}
use Rattle.g_hier.specs.declared.linked.Outline.{Outline}
use Rattle.g_hier.specs.Outlines.{number_of, call_on, calls_on, outline_of, outlines_of, AreKnown}

-- a call names a VI
abbrev pub NamesVi : List Vi → Kind → Type 0
NamesVi vis (Call name inputs outputs) = is_some (first_vi vis name) ≡ true
NamesVi vis other = Unit {0}

-- the first VI of a name has a number
pub name_known : (vis : List Vi) (name : List ℕ) → is_some (first_vi vis name) ≡ true → number_of vis name < length vis
name_known [] name h = absurd cc
name_known (vi ∷ vis) name h = choose (bytes_eq vi.name name) (name_known vis name) h
  where
    choose : (b : Bool) → (is_some (first_vi vis name) ≡ true → number_of vis name < length vis) → is_some (if b then Some vi else first_vi vis name) ≡ true
        → (if b then 0 else suc (number_of vis name)) < suc (length vis)
    choose true more e = omega arith
    choose false more e = let lt = more e in omega (arith, lt)

call_known : (vis : List Vi) (line : ℕ) (k : Kind) → NamesVi vis k → All (λ (c : CallLine). c.vi < length vis) (call_on vis line k)
call_known vis line (Call name inputs outputs) h =
    All-cons (λ (c : CallLine). c.vi < length vis) (record { line = line; vi = number_of vis name }) [] (name_known vis name h) (All-nil (λ (c : CallLine). c.vi < length vis))
call_known vis line other h = All-nil (λ (c : CallLine). c.vi < length vis)

entries_known : (vis : List Vi) (es : List Entry) → All (λ (e : Entry). NamesVi vis e.kind) es → All (λ (c : CallLine). c.vi < length vis) (calls_on vis es)
entries_known vis [] h = All-nil (λ (c : CallLine). c.vi < length vis)
entries_known vis (e ∷ es) h =
    All-append (λ (c : CallLine). c.vi < length vis) (call_on vis e.line e.kind) (calls_on vis es)
    (call_known vis e.line e.kind (All-head (λ (x : Entry). NamesVi vis x.kind) e es h))
    (entries_known vis es (All-tail (λ (x : Entry). NamesVi vis x.kind) e es h))

-- where each call names a VI, all are known
pub calls_known : (h : Hierarchy) → All (λ (vi : Vi). All (λ (e : Entry). NamesVi h.vis e.kind) (entries_of vi)) h.vis → AreKnown (outlines_of h)
calls_known h known =
    let P : ℕ → Type 0 = λ n. All (λ (o : Outline). All (λ (c : CallLine). c.vi < n) o.calls) (outlines_of h) in
    subst P (sym (length-map h.vis (outline_of h.vis)))
    (All-map (λ (o : Outline). All (λ (c : CallLine). c.vi < length h.vis) o.calls) (outline_of h.vis) h.vis (λ k d lt. entries_known h.vis (entries_of (get_or h.vis k d)) (known k d lt)))
