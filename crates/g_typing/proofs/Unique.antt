-- Types that are decided step by step are the only ones: where each step reads only what steps before it gave, and gives by what it reads
-- alone, two typings agree on all that is given.
use Rattle.std.proofs.Common.{◌≡◌, ℕ, List, [], ◌∷◌, refl, sym, ◌∙◌, subst, inl, inr}
use Rattle.std.specs.Prelude.{◌⊎◌, Some, None}
use Rattle.g_diagram.specs.Lines.{Wire}
use Rattle.g_typing.specs.Types.{Types, wire_type}
use Rattle.g_typing.specs.Typing.{Given, HasGiven, IsGivenTo}

-- what is read, each an operand of a diagram, and what is given by it
pub record Step : Type 0 where
  pub reads : List (ℕ × Wire)
  pub gives : Types → List Given

-- two maps of types agree at what is read
abbrev pub SameReads : (M T : Types) → List (ℕ × Wire) → Type 0
SameReads M T [] = Unit {0}
SameReads M T (q ∷ qs) = (wire_type M q.0 q.1 ≡ wire_type T q.0 q.1) × SameReads M T qs

abbrev pub IsLocal : Step → Type 0
IsLocal s = (M T : Types) → SameReads M T s.reads → s.gives M ≡ s.gives T

abbrev pub AreLocal : List Step → Type 0
AreLocal [] = Unit {0}
AreLocal (s ∷ ss) = IsLocal s × AreLocal ss

abbrev pub HaveGiven : Types → List Given → Type 0
HaveGiven M [] = Unit {0}
HaveGiven M (g ∷ gs) = HasGiven M g × HaveGiven M gs

-- the types are a typing of all that the steps give
abbrev pub HoldsAll : Types → List Step → Type 0
HoldsAll M [] = Unit {0}
HoldsAll M (s ∷ ss) = HaveGiven M (s.gives M) × HoldsAll M ss

abbrev pub IsDecided : (ℕ → List ℕ → Type 0) → (ℕ × Wire) → Type 0
IsDecided K (d, None) = Unit {0}
IsDecided K (d, Some name) = K d name

abbrev pub AreDecided : (ℕ → List ℕ → Type 0) → List (ℕ × Wire) → Type 0
AreDecided K [] = Unit {0}
AreDecided K (q ∷ qs) = IsDecided K q × AreDecided K qs

-- each step reads only what is decided, or given by a step before it
abbrev pub AreOrdered : (M : Types) → (ℕ → List ℕ → Type 0) → List Step → Type 0
AreOrdered M K [] = Unit {0}
AreOrdered M K (s ∷ ss) = AreDecided K s.reads × AreOrdered M (λ d name. K d name ⊎ IsGivenTo (s.gives M) d name) ss

abbrev pub IsGivenIn : Types → List Step → ℕ → List ℕ → Type 0
IsGivenIn M [] d name = ⊥
IsGivenIn M (s ∷ ss) d name = IsGivenTo (s.gives M) d name ⊎ IsGivenIn M ss d name

abbrev Agree : (M T : Types) → (ℕ → List ℕ → Type 0) → Type 0
Agree M T K = (d : ℕ) (name : List ℕ) → K d name → M d name ≡ T d name

one_read : (M T : Types) (K : ℕ → List ℕ → Type 0) (q : ℕ × Wire) → Agree M T K → IsDecided K q → wire_type M q.0 q.1 ≡ wire_type T q.0 q.1
one_read M T K (d, None) agree k = refl
one_read M T K (d, Some name) agree k = agree d name k

all_read : (M T : Types) (K : ℕ → List ℕ → Type 0) (qs : List (ℕ × Wire)) → Agree M T K → AreDecided K qs → SameReads M T qs
all_read M T K [] agree ks = tt
all_read M T K (q ∷ qs) agree ks = (one_read M T K q agree ks.0, all_read M T K qs agree ks.1)

at_name : (M T : Types) (g : Given) (d : ℕ) (name : List ℕ) → HasGiven M g → HasGiven T g → (g.diagram ≡ d) × (g.name ≡ name) → M d name ≡ T d name
at_name M T g d name m t is =
    subst (λ (e : ℕ). M e name ≡ T e name) is.0 (subst (λ (n : List ℕ). M g.diagram n ≡ T g.diagram n) is.1 (m ∙ sym t))

pub given_same : (M T : Types) (gs : List Given) → HaveGiven M gs → HaveGiven T gs → Agree M T (IsGivenTo gs)
given_same M T [] ms ts d name k = absurd k
given_same M T (g ∷ gs) ms ts d name (inl is) = at_name M T g d name ms.0 ts.0 is
given_same M T (g ∷ gs) ms ts d name (inr k) = given_same M T gs ms.1 ts.1 d name k

either : (M T : Types) (K L : ℕ → List ℕ → Type 0) → Agree M T K → Agree M T L → Agree M T (λ d name. K d name ⊎ L d name)
either M T K L a b d name (inl k) = a d name k
either M T K L a b d name (inr l) = b d name l

-- two typings agree on all that is given
pub unique : (M T : Types) (K : ℕ → List ℕ → Type 0) (ss : List Step) → AreLocal ss → AreOrdered M K ss → HoldsAll M ss → HoldsAll T ss → Agree M T K → Agree M T (IsGivenIn M ss)
unique M T K [] local ordered ms ts agree d name k = absurd k
unique M T K (s ∷ ss) local ordered ms ts agree d name k =
    let same : s.gives M ≡ s.gives T = local.0 M T (all_read M T K s.reads agree ordered.0) in
    let here : Agree M T (IsGivenTo (s.gives M)) = given_same M T (s.gives M) ms.0 (subst (HaveGiven T) (sym same) ts.0) in
    let more : Agree M T (λ d name. K d name ⊎ IsGivenTo (s.gives M) d name) = either M T K (IsGivenTo (s.gives M)) agree here in
    either M T (IsGivenTo (s.gives M)) (IsGivenIn M ss) here (unique M T (λ d name. K d name ⊎ IsGivenTo (s.gives M) d name) ss local.1 ordered.1 ms.1 ts.1 more) d name k
