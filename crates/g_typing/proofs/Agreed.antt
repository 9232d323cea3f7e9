-- A VI in which no node leads to itself has one typing at most.
use Rattle.std.proofs.Common.{◌≡◌, inl, inr, ⊎_elim, ℕ, List, [], ◌∷◌, refl, ap, sym, ◌∙◌, subst}
use Rattle.std.specs.Prelude.{Some, None}
use Rattle.g_diagram.specs.declared.panel.PanelItem.{PanelItem}
use Rattle.g_diagram.specs.declared.hierarchy.Vi.{Vi}
use Rattle.g_diagram.specs.Lines.{Wire, Entry, entries_of}
use Rattle.g_diagram.specs.Operands.{control_lines}
use Rattle.g_diagram.specs.Ports.{ports_of, freedom, has_wire}
use Rattle.g_diagram.specs.Leads.{Leads}
use Rattle.g_typing.specs.Types.{Types}
use Rattle.g_typing.specs.Typing.{Callees, Objects, IsGivenTo, IsTyping, AreTypes, called_panel, all_given}
use Rattle.g_typing.specs.Breaks.{breaks_by}
use Rattle.g_typing.proofs.Unique.{Step, SameReads, HaveGiven, given_same}
use Rattle.g_typing.proofs.Only.{IsIn, all_gives, vi_steps, vi_gives, vi-local, local_in, holds_in, typing_holds}
use Rattle.g_typing.proofs.Roles.{nothing, IsRead, given_append}
use Rattle.g_typing.proofs.Ready.{Ready, ready, every_ready}
use Rattle.g_typing.proofs.Nesting.{line_count, nested}
use Rattle.g_typing.proofs.Names.{same_given, vi_named, named_in, Giver, NoGiver, find_giver}
use mathlib.Core.Path.{fun_ext}

pub reads_same : (M T : Types) (qs : List (ℕ × Wire)) → ((d : ℕ) (n : List ℕ) → IsRead qs d n → M d n ≡ T d n) → SameReads M T qs
reads_same M T [] h = tt
reads_same M T ((d, None) ∷ qs) h = (refl, reads_same M T qs (λ e n r. h e n (inr r)))
reads_same M T ((d, Some name) ∷ qs) h = (h d name (inl (refl, refl)), reads_same M T qs (λ e n r. h e n (inr r)))

-- what steps give is given by one of them
pub given_by_one : (ss : List Step) (M : Types) (d : ℕ) (n : List ℕ) → ((t : Step) → IsIn t ss → IsGivenTo (t.gives M) d n → ⊥) → IsGivenTo (all_gives M ss) d n → ⊥
given_by_one [] M d n none h = h
given_by_one (s ∷ ss) M d n none h =
    ⊎_elim (none s (inl refl)) (given_by_one ss M d n (λ t is g. none t (inr is) g)) (given_append (s.gives M) (all_gives M ss) d n h)

-- a typing of a VI with this panel and these nodes, where what no line gives has no type
pub record Typed (called : Callees) (panel : List PanelItem) (es : List Entry) (M : Types) : Type 0 where
  pub given : AreTypes called panel es M
  pub no_more : (d : ℕ) (n : List ℕ) → (IsGivenTo (all_given called panel es M) d n → ⊥) → M d n ≡ None

module _ (called : Callees) (panel : List PanelItem) (es : List Entry) where
  abbrev all : List Step
  all = vi_steps called panel es

  pub none_given : (M : Types) → Typed called panel es M → (d : ℕ) (n : List ℕ) → NoGiver all d n → M d n ≡ None
  none_given M m d n none =
      m.no_more d n (λ g. given_by_one all M d n
      (λ t is h. none t is (same_given (t.gives M) (t.gives nothing) d n (named_in t all (vi_named called panel es) is M nothing) h))
      (subst (λ gs. IsGivenTo gs d n) (sym (vi_gives called panel es M)) g))

  at_giver : (M T : Types) → Typed called panel es M → Typed called panel es T → (d : ℕ) (n : List ℕ) (t : Step) → IsIn t all → IsGivenTo (t.gives nothing) d n
      → t.gives M ≡ t.gives T → M d n ≡ T d n
  at_giver M T m k d n t is g same =
      given_same M T (t.gives M) (holds_in M t all (typing_holds called panel es M m.given) is)
      (subst (HaveGiven T) (sym same) (holds_in T t all (typing_holds called panel es T k.given) is))
      d n (same_given (t.gives nothing) (t.gives M) d n (named_in t all (vi_named called panel es) is nothing M) g)

  step_agrees : (M T : Types) → Typed called panel es M → Typed called panel es T → (s : Step) → Ready all s → IsIn s all → s.gives M ≡ s.gives T
  step_agrees M T m k s (ready _ h) is =
      local_in s all (vi-local called panel es) is M T
      (reads_same M T s.reads
      (λ d n r. ⊎_elim
      (λ (g : Giver all d n). at_giver M T m k d n g.step g.is g.gives
      (step_agrees M T m k g.step (h g.step g.is (record { diagram = d; name = n; reads = r; gives = g.gives })) g.is))
      (λ none. none_given M m d n none ∙ sym (none_given T k d n none))
      (find_giver all d n)))

  -- two typings agree
  pub typings_agree : (M T : Types) → ((t : Step) → IsIn t all → Ready all t) → Typed called panel es M → Typed called panel es T → (d : ℕ) (n : List ℕ) → M d n ≡ T d n
  typings_agree M T every m k d n =
      ⊎_elim
      (λ (g : Giver all d n). at_giver M T m k d n g.step g.is g.gives (step_agrees M T m k g.step (every g.step g.is) g.is))
      (λ none. none_given M m d n none ∙ sym (none_given T k d n none))
      (find_giver all d n)

pub all_ready : (vis : List Vi) (vi : Vi) → ((v : ℕ) → Leads (has_wire (ports_of vis vi)) v v → ⊥) → (t : Step)
    → IsIn t (vi_steps (called_panel vis) vi.panel (entries_of vi)) → Ready (vi_steps (called_panel vis) vi.panel (entries_of vi)) t
all_ready vis vi apart t is = every_ready (called_panel vis) vi.panel (freedom vis) (control_lines 1 vi.panel) (entries_of vi) (line_count vi) (nested vi) apart t is

-- where no node of a VI leads to itself, its typings are the same
pub one_typing : (vis : List Vi) (vi : Vi) (M T : Types) → ((v : ℕ) → Leads (has_wire (ports_of vis vi)) v v → ⊥) → IsTyping vis vi M → IsTyping vis vi T → M ≡ T
one_typing vis vi M T apart m k =
    fun_ext (λ d. fun_ext (λ n.
    typings_agree (called_panel vis) vi.panel (entries_of vi) M T (all_ready vis vi apart) (record { given = m.given; no_more = m.no_more }) (record { given = k.given; no_more = k.no_more }) d n))

-- and so are its breaks by them
pub one_list : (vis : List Vi) (vi : Vi) (M T : Types) → ((v : ℕ) → Leads (has_wire (ports_of vis vi)) v v → ⊥) → IsTyping vis vi M → IsTyping vis vi T
    → (called : Callees) (objects : Objects) (v : ℕ) → breaks_by called objects vi.panel M v (entries_of vi) ≡ breaks_by called objects vi.panel T v (entries_of vi)
one_list vis vi M T apart m k called objects v = ap (λ (types : Types). breaks_by called objects vi.panel types v (entries_of vi)) (one_typing vis vi M T apart m k)
