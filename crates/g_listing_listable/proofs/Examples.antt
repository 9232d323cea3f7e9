-- Literals, nodes and hierarchies that can be listed, and such as can't.
use Rattle.std.proofs.Common.{◌≡◌, false, [], ◌∷◌, None, refl, sym, ap, ◌∙◌, subst, arith, codes}
use Rattle.std.specs.List.{All}
use Rattle.std.proofs.lemmas.List.Elements.{All-nil, All-cons, All-head}
use Rattle.g_diagram.specs.declared.panel.Lit.{Lit}
use Rattle.g_diagram.specs.declared.panel.Lit.TheVariants as lit
use Rattle.g_diagram.specs.declared.panel.Lit.TheViews.{out-Lit}
use Rattle.g_diagram.specs.declared.node.Tunnel.TheVariants as line
use Rattle.g_diagram.specs.declared.node.Node.TheVariants as node
use Rattle.g_diagram.specs.declared.hierarchy.Clones.TheVariants as clones
use Rattle.g_diagram.specs.declared.hierarchy.System.TheVariants as system
use Rattle.g_diagram.specs.declared.hierarchy.Vi.{Vi}
use Rattle.g_listing_grammar.specs.declared.Border.TheVariants as border
use Rattle.g_listing_listable.specs.Listable.{is_array_at, IsLiteralAt, IsLiteral, HasOperands, IsLine, IsNodeAt, HasNodes, Nowhere, IsNode, IsItem, IsVi, CanBeListed}
use Rattle.g_listing_listable.proofs.MakeTypes.{true_is_not}

abbrev IsItemOf : Lit → Type 0
IsItemOf item = IsLiteral 7 item × (is_array_at (out-Lit item) ≡ false)

-- an array stands in no array
no_array_in_an_array : IsLiteral 8 (lit.Array (lit.Array [] ∷ [])) → ⊥
unfolding IsLiteral
no_array_in_an_array is =
    let all : All IsItemOf (lit.Array [] ∷ []) = subst (IsLiteralAt (IsLiteral 7)) (lit.outs-Array (lit.Array [] ∷ [])) is in
    true_is_not (sym (ap is_array_at (lit.outs-Array [])) ∙ (All-head IsItemOf (lit.Array []) [] all).1)

-- a register without an initial wire has a type
no_register : HasOperands (line.Register None None None None) → ⊥
no_register is = is.0

-- a loop is a level, also without nodes
no_level : IsNode 0 (node.For None None [] (record { nodes = [] })) → ⊥
unfolding IsNode
no_level is = (subst (IsNodeAt Nowhere) (node.outs-For None None [] (record { nodes = [] })) is).3

one_level : IsNode 1 (node.For None None [] (record { nodes = [] }))
unfolding IsNode
one_level = subst (IsNodeAt (HasNodes (IsNode 0))) (sym (node.outs-For None None [] (record { nodes = [] }))) (tt, tt, All-nil (IsLine border.For), All-nil (IsNode 0))

no_vi : CanBeListed (record { vis = [] }) → ⊥
no_vi can = let some = can.some in omega arith

abbrev main : Vi
main = record { name = codes "Main"; clones = clones.NonReentrant; system = system.Same; panel = []; top = record { nodes = [] } }

one_vi : CanBeListed (record { vis = main ∷ [] })
one_vi = record { some = omega arith; vis = All-cons IsVi main [] (record { name = refl; clones = tt; panel = All-nil IsItem; top = All-nil (IsNode 32) }) (All-nil IsVi) }
