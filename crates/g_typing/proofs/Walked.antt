-- Types that are decided in an order in which each step reads only what steps before it give.
use Rattle.std.proofs.Common.{◌≡◌, inl, inr, ℕ, List, [], ◌∷◌, refl, sym, ◌∙◌, subst}
use Rattle.std.specs.Prelude.{None}
use Rattle.g_typing.specs.Types.{Types}
use Rattle.g_typing.specs.Typing.{Given, IsGivenTo}
use Rattle.g_typing.proofs.Unique.{Step, IsLocal, AreLocal, HaveGiven, HoldsAll}
use Rattle.g_typing.proofs.Only.{IsIn}
use Rattle.g_typing.proofs.Roles.{nothing, IsRead}
use Rattle.g_typing.proofs.Names.{IsNamed, AreNamed, same_given}
use Rattle.g_typing.proofs.Agreed.{reads_same}

-- no two of them are given to one name
abbrev pub AreApart : List Given → Type 0
AreApart [] = Unit {0}
AreApart (g ∷ gs) = (IsGivenTo gs g.diagram g.name → ⊥) × AreApart gs

-- what is given is added to the types, and all else stays
pub record Adds (M N : Types) (gs : List Given) : Type 0 where
  pub given : HaveGiven N gs
  pub others : (d : ℕ) (n : List ℕ) → (IsGivenTo gs d n → ⊥) → N d n ≡ M d n

-- the steps that were taken hold, and names that none of them gives have no type
pub record Walked (M : Types) (done : List Step) : Type 0 where
  pub holds : HoldsAll M done
  pub others : (d : ℕ) (n : List ℕ) → ((t : Step) → IsIn t done → IsGivenTo (t.gives nothing) d n → ⊥) → M d n ≡ None

-- a step reads nothing that another gives
abbrev pub ReadsNone : (s t : Step) → Type 0
ReadsNone s t = (d : ℕ) (n : List ℕ) → IsRead s.reads d n → IsGivenTo (t.gives nothing) d n → ⊥

-- two steps give no common name
abbrev pub GivesApart : (s t : Step) → Type 0
GivesApart s t = (d : ℕ) (n : List ℕ) → IsGivenTo (s.gives nothing) d n → IsGivenTo (t.gives nothing) d n → ⊥

pub walked_none : Walked nothing []
walked_none = record { holds = tt; others = λ d n none. refl }

still_given : (M N : Types) (gs hs : List Given) → Adds M N gs → ((d : ℕ) (n : List ℕ) → IsGivenTo hs d n → IsGivenTo gs d n → ⊥) → HaveGiven M hs → HaveGiven N hs
still_given M N gs [] adds apart h = tt
still_given M N gs (g ∷ hs) adds apart h =
    (adds.others g.diagram g.name (apart g.diagram g.name (inl (refl, refl))) ∙ h.0, still_given M N gs hs adds (λ d n i. apart d n (inr i)) h.1)

module _ (M N : Types) (s : Step) (adds : Adds M N (s.gives M)) (named_s : IsNamed s) where
  -- a step that reads nothing of what was added gives the same
  same_gives : (t : Step) → IsLocal t → ReadsNone t s → t.gives N ≡ t.gives M
  same_gives t local none =
      local N M (reads_same N M t.reads (λ d n r. adds.others d n (λ g. none d n r (same_given (s.gives M) (s.gives nothing) d n (named_s M nothing) g))))

  still_holds : (done : List Step) → AreLocal done → AreNamed done → ((t : Step) → IsIn t done → ReadsNone t s) → ((t : Step) → IsIn t done → GivesApart t s)
      → HoldsAll M done → HoldsAll N done
  still_holds [] local named none apart h = tt
  still_holds (t ∷ done) local named none apart h = (
    subst (HaveGiven N) (sym (same_gives t local.0 (none t (inl refl))))
        (still_given M N (s.gives M) (t.gives M) adds
        (λ d n i j. apart t (inl refl) d n (same_given (t.gives M) (t.gives nothing) d n (named.0 M nothing) i) (same_given (s.gives M) (s.gives nothing) d n (named_s M nothing) j))
        h.0),
    still_holds done local.1 named.1 (λ u i. none u (inr i)) (λ u i. apart u (inr i)) h.1,
  )

  -- one more step
  pub walked_on : (done : List Step) → IsLocal s → AreLocal done → AreNamed done → ReadsNone s s → ((t : Step) → IsIn t done → ReadsNone t s)
      → ((t : Step) → IsIn t done → GivesApart t s) → Walked M done → Walked N (s ∷ done)
  walked_on done local_s local named none_s none apart w = record {
    holds = (subst (HaveGiven N) (sym (same_gives s local_s none_s)) adds.given, still_holds done local named none apart w.holds);
    others = λ d n no_giver.
        adds.others d n (λ g. no_giver s (inl refl) (same_given (s.gives M) (s.gives nothing) d n (named_s M nothing) g))
        ∙ w.others d n (λ t is g. no_giver t (inr is) g);
  }
