-- Nodes in which no diagram stands.
use Rattle.std.proofs.Common.{◌≡◌, Bool, true, false, [], ◌∷◌, refl, arith}
use Rattle.std.proofs.lemmas.List.Elements.{All-head}
use Rattle.g_diagram.specs.declared.node.Branch.{Branch}
use Rattle.g_diagram.specs.declared.node.Diagram.{Diagram}
use Rattle.g_diagram.specs.declared.node.SequenceFrame.{SequenceFrame}
use Rattle.g_diagram.specs.declared.node.Node.{Node}
use Rattle.g_diagram.specs.declared.node.Node.TheOpen.{Node-F}
use Rattle.g_listing_grammar.specs.Nodes.{results}
use Rattle.g_listing_listable.specs.Listable.{IsBranch, IsNodeAt, Nowhere}

abbrev pub is_plain : Node-F Node Branch Diagram SequenceFrame → Bool
is_plain (Node-F.For count iteration ls body) = false
is_plain (Node-F.While stop iteration ls body) = false
is_plain (Node-F.Case w ls bs) = false
is_plain (Node-F.Sequence fs) = false
is_plain (Node-F.InPlace ls body) = false
is_plain _ = true

-- each structure has a diagram
pub only_plain : (y : Node-F Node Branch Diagram SequenceFrame) → IsNodeAt Nowhere y → is_plain y ≡ true
only_plain (Node-F.For count iteration ls body) is = absurd is.3
only_plain (Node-F.While stop iteration ls body) is = absurd is.3
only_plain (Node-F.Case w ls []) is = absurd (let some = is.2 in omega arith)
only_plain (Node-F.Case w ls (b ∷ bs)) is = absurd (All-head (IsBranch Nowhere (results ls)) b bs is.3).body
only_plain (Node-F.Sequence []) is = absurd is
only_plain (Node-F.Sequence (f ∷ fs)) is = absurd is.0.body
only_plain (Node-F.InPlace ls body) is = absurd is.1
only_plain _ is = refl
