-- What the tunnels of a case give is the same in each of its branches.
use Rattle.std.proofs.Common.{◌≡◌, inl, inr, ⊎_elim, ℕ, ◌==◌, Bool, true, false, ◌&&◌, ◌||◌, List, [], ◌∷◌, ◌++◌, map, refl, ap, sym, ◌∙◌, subst}
use Rattle.std.specs.Prelude.{if◌then◌else◌, Option, Some, None}
use Rattle.std.specs.List.{list_any}
use Rattle.std.specs.Option.{option_or}
use Rattle.std.specs.Str.{bytes_eq}
use Rattle.std.specs.Cmp.{both_ways}
use Rattle.std.proofs.lemmas.List.{map-append}
use Rattle.std.proofs.lemmas.List.Folds.{list_any-append}
use Rattle.std.proofs.lemmas.Slice.Eq.{bytes_eq-Decides}
use mathlib.Core.Path.{fun_ext}
use Rattle.g_types.specs.declared.ty.Ty.{Ty}
use Rattle.g_diagram.specs.declared.node.Tunnel.{Tunnel}
use Rattle.g_diagram.specs.declared.node.Tunnel.TheVariants as line
use Rattle.g_diagram.specs.Lines.{Wire, Arm}
use Rattle.g_graph.proofs.Search.{or_cases, same_number}
use Rattle.g_wires.proofs.Found.{or_left, or_right}
use Rattle.g_typing.specs.Types.{Types}
use Rattle.g_typing.specs.Typing.{Given, IsGivenTo, given, line_inside, lines_inside, arms_inside}
use Rattle.g_typing.proofs.Roles.{nothing, lines_give_inside}
use Rattle.g_typing.proofs.Unique.{HaveGiven}
use Rattle.g_typing.proofs.Walked.{AreApart, Adds}
use Rattle.g_rules_types.specs.Known.{Scope, is_branch}
use Rattle.g_rules_types.specs.Panels.{found}
use Rattle.g_infer.specs.declared.feeds.Reader.{Reader}
use Rattle.g_infer.specs.declared.feeds.Readers.{Readers}
use Rattle.g_infer.specs.Feeding.{AreSame, ByName, branch_leads, gives_name, is_reader, leads_to, readers_in, reads_some}
use Rattle.g_infer.specs.Walking.{IsFresh, IsScope, known_after, named_after, is_to, put}
use Rattle.g_infer.proofs.FormLemmas.{have_both}
use Rattle.g_infer.proofs.WalkLemmas.{have_after, untouched, same_itself, given_in_left, given_in_right, left_apart, right_apart}

-- ---- the same in another diagram

abbrev moved : ℕ → Given → Given
moved b g = record { diagram = b; name = g.name; type = g.type }

given_moved : (b x : ℕ) (w : Wire) (t : Option Ty) → given b w t ≡ map (moved b) (given x w t)
given_moved b x None t = refl
given_moved b x (Some name) t = refl

line_moved : (M : Types) (d b x : ℕ) (before : Option ℕ) (t : Tunnel) → line_inside M d b before t ≡ map (moved b) (line_inside M d x before t)
line_moved M d b x before (line.Tunnel outer inner) = given_moved b x inner _
line_moved M d b x before (line.Register initial inner next last) = given_moved b x inner _
line_moved M d b x before (line.Kept t inner next last) = given_moved b x inner _
line_moved M d b x before (line.Last inner outer) = refl
line_moved M d b x before (line.Gather inner outer) = refl
line_moved M d b x before (line.Index array inner) = given_moved b x inner _
line_moved M d b x before (line.Result outer default) = refl
line_moved M d b x before (line.Carry earlier inner) = given_moved b x inner _
line_moved M d b x before (line.Ref reference inner next same code) = given_moved b x inner _
line_moved M d b x before (line.Element array index inner next outer) = given_moved b x inner _
line_moved M d b x before (line.Field k cluster inner next outer) = given_moved b x inner _

lines_moved : (M : Types) (d b x : ℕ) (before : Option ℕ) (ts : List Tunnel) → lines_inside M d b before ts ≡ map (moved b) (lines_inside M d x before ts)
lines_moved M d b x before [] = refl
lines_moved M d b x before (t ∷ ts) =
    ap (λ (gs : List Given). gs ++ lines_inside M d b before ts) (line_moved M d b x before t)
    ∙ ap (λ (gs : List Given). map (moved b) (line_inside M d x before t) ++ gs) (lines_moved M d b x before ts)
    ∙ sym (map-append (moved b) (line_inside M d x before t) (lines_inside M d x before ts))

-- ---- its types, by name

moved_after : (b : ℕ) (gs : List Given) (n : List ℕ) (o : Option Ty) → known_after (map (moved b) gs) b n o ≡ named_after gs n o
moved_after b [] n o = refl
moved_after b (g ∷ gs) n o =
    moved_after b gs n (put (is_to (moved b g) b n) g.type o) ∙ ap (λ e. named_after gs n (put (e && bytes_eq g.name n) g.type o)) (same_itself b)

have_same : (M N : Types) (gs : List Given) → HaveGiven M gs → ((e : ℕ) (n : List ℕ) → IsGivenTo gs e n → N e n ≡ M e n) → HaveGiven N gs
have_same M N [] h same = tt
have_same M N (g ∷ gs) h same = (same g.diagram g.name (inl (refl, refl)) ∙ h.0, have_same M N gs h.1 (λ e n i. same e n (inr i)))

or_none : (o : Option Ty) → option_or o None ≡ o
or_none None = refl
or_none (Some t) = refl

-- what is given in a branch is given by the case
in_arms : (M : Types) (d : ℕ) (ts : List Tunnel) (arms : List Arm) (e : ℕ) (n : List ℕ) → is_branch e arms ≡ true → IsGivenTo (lines_inside M d e None ts) e n
    → IsGivenTo (arms_inside M d ts arms) e n
in_arms M d ts [] e n h i = absurd cc
in_arms M d ts (arm ∷ arms) e n h i = ⊎_elim
    (λ l. given_in_left (lines_inside M d arm.body None ts) (arms_inside M d ts arms) e n
    (let P : ℕ → Type 0 = λ b. IsGivenTo (lines_inside M d b None ts) e n in subst P (sym (same_number arm.body e l)) i))
    (λ r. given_in_right (lines_inside M d arm.body None ts) (arms_inside M d ts arms) e n (in_arms M d ts arms e n r i))
    (or_cases (arm.body == e) (is_branch e arms) h)

module _ (M N : Types) (d : ℕ) (ts : List Tunnel) (arms : List Arm) (scope : Scope) (is : IsScope M d ts scope)
    (kept : (e : ℕ) (n : List ℕ) → N e n ≡ option_or (M e n) (if is_branch e arms then found scope n else None)) where
  scope_at : (b : ℕ) (n : List ℕ) → found scope n ≡ known_after (lines_inside M d b None ts) b n None
  scope_at b n =
      is n ∙ sym (moved_after b (lines_inside M d 0 None ts) n None) ∙ ap (λ (gs : List Given). known_after gs b n None) (sym (lines_moved M d b 0 None ts))

  arm_have : (b : ℕ) → is_branch b arms ≡ true → AreApart (lines_inside M d b None ts) → ((e : ℕ) (n : List ℕ) → IsGivenTo (lines_inside M d b None ts) e n → M e n ≡ None)
      → HaveGiven N (lines_inside M d b None ts)
  arm_have b branch apart unknown =
      have_same (λ e n. known_after (lines_inside M d b None ts) e n None) N (lines_inside M d b None ts)
      (have_after (lines_inside M d b None ts) nothing (λ e n. known_after (lines_inside M d b None ts) e n None) apart (λ e n i. refl) (λ e n. refl))
      (λ e n i.
      let at : b ≡ e = lines_give_inside M d b None ts e n i in
      let P : ℕ → Type 0 = λ y. N y n ≡ known_after (lines_inside M d b None ts) y n None in
      let Q : ℕ → Type 0 = λ y. IsGivenTo (lines_inside M d b None ts) y n in
      subst P at
      (kept b n ∙ ap (λ o. option_or o (if is_branch b arms then found scope n else None)) (unknown b n (subst Q (sym at) i))
      ∙ ap (λ c. if c then found scope n else None) branch ∙ scope_at b n))

  arms_have : (some : List Arm) → ((e : ℕ) → is_branch e some ≡ true → is_branch e arms ≡ true) → AreApart (arms_inside M d ts some)
      → ((e : ℕ) (n : List ℕ) → IsGivenTo (arms_inside M d ts some) e n → M e n ≡ None) → HaveGiven N (arms_inside M d ts some)
  arms_have [] within apart unknown = tt
  arms_have (arm ∷ some) within apart unknown =
      have_both N (lines_inside M d arm.body None ts) (arms_inside M d ts some)
      (arm_have arm.body (within arm.body (or_left (arm.body == arm.body) (is_branch arm.body some) (same_itself arm.body)))
      (left_apart (lines_inside M d arm.body None ts) (arms_inside M d ts some) apart)
      (λ e n i. unknown e n (given_in_left (lines_inside M d arm.body None ts) (arms_inside M d ts some) e n i)))
      (arms_have some (λ e h. within e (or_right (arm.body == e) (is_branch e some) h)) (right_apart (lines_inside M d arm.body None ts) (arms_inside M d ts some) apart)
      (λ e n i. unknown e n (given_in_right (lines_inside M d arm.body None ts) (arms_inside M d ts some) e n i)))

  other_stays : (e : ℕ) (n : List ℕ) → (IsGivenTo (arms_inside M d ts arms) e n → ⊥) → (c : Bool) → is_branch e arms ≡ c → option_or (M e n) (if c then found scope n else None) ≡ M e n
  other_stays e n none true h =
      ap (option_or (M e n)) (scope_at e n ∙ untouched (lines_inside M d e None ts) e n None (λ i. none (in_arms M d ts arms e n h i))) ∙ or_none (M e n)
  other_stays e n none false h = or_none (M e n)

  pub branches_added : IsFresh M (arms_inside M d ts arms) → Adds M N (arms_inside M d ts arms)
  branches_added fresh = record {
    given = arms_have arms (λ e h. h) fresh.apart fresh.unknown;
    others = λ e n none. kept e n ∙ other_stays e n none (is_branch e arms) refl;
  }

-- ---- who reads it

pub same_bytes : (a b : List ℕ) → bytes_eq a b ≡ bytes_eq b a
same_bytes a b =
    both_ways (bytes_eq a b) (bytes_eq b a) (λ h. (bytes_eq-Decides b a).1 (sym ((bytes_eq-Decides a b).0 h))) (λ h. (bytes_eq-Decides a b).1 (sym ((bytes_eq-Decides b a).0 h)))

apart_or : (x l s q r : Bool) → (((x && s) || q) || ((l && s) || r)) ≡ (((x || l) && s) || (q || r))
apart_or true l true q r = refl
apart_or true true false q r = refl
apart_or true false false q r = refl
apart_or false true true true r = refl
apart_or false true true false r = refl
apart_or false true false q r = refl
apart_or false false s q r = refl

-- one reader of some name, or others
one_reader : (r : Reader) (s : Bool) (q : Given → Bool) (gs : List Given)
    → list_any (λ g. (bytes_eq r.name.now g.name && s) || q g) gs ≡ ((gives_name gs r.name.now && s) || list_any q gs)
one_reader r s q [] = refl
one_reader r s q (g ∷ gs) =
    ap (λ b. ((bytes_eq r.name.now g.name && s) || q g) || b) (one_reader r s q gs)
    ∙ ap (λ x. ((x && s) || q g) || ((gives_name gs r.name.now && s) || list_any q gs)) (same_bytes r.name.now g.name)
    ∙ apart_or (bytes_eq g.name r.name.now) (gives_name gs r.name.now) s (q g) (list_any q gs)

none_any : (gs : List Given) → list_any (λ g. false) gs ≡ false
none_any [] = refl
none_any (g ∷ gs) = none_any gs

-- by readers or by names
each_way : (gs : List Given) (rs : List Reader) (b : ℕ) → reads_some (gives_name gs) rs b ≡ list_any (λ g. reads_some (λ n. bytes_eq n g.name) rs b) gs
each_way gs [] b = sym (none_any gs)
each_way gs (r ∷ rs) b =
    ap (λ c. (gives_name gs r.name.now && (r.step == b)) || c) (each_way gs rs b) ∙ sym (one_reader r (r.step == b) (λ g. reads_some (λ n. bytes_eq n g.name) rs b) gs)

moved_leads : (m : ByName) (e : ℕ) (gs : List Given) (b : ℕ) → list_any (λ g. is_reader m e g.name b) gs ≡ leads_to m (map (moved e) gs) b
moved_leads m e [] b = refl
moved_leads m e (g ∷ gs) b = ap (λ c. is_reader m e g.name b || c) (moved_leads m e gs b)

module _ (m : Readers) (same : AreSame m) (p : List ℕ → Bool) (d : ℕ) (ts : List Tunnel) (named : (n : List ℕ) → p n ≡ gives_name (lines_inside nothing d 0 None ts) n) where
  one_branch : (e b : ℕ) → reads_some p (readers_in m.by_diagram e) b ≡ leads_to m.by_name (lines_inside nothing d e None ts) b
  one_branch e b =
      let gs : List Given = lines_inside nothing d 0 None ts in
      ap (λ q. reads_some q (readers_in m.by_diagram e) b) (fun_ext named)
      ∙ each_way gs (readers_in m.by_diagram e) b
      ∙ ap (λ (q : Given → Bool). list_any q gs) (fun_ext (λ (g : Given). same e g.name b))
      ∙ moved_leads m.by_name e gs b
      ∙ ap (λ xs. leads_to m.by_name xs b) (sym (lines_moved nothing d e 0 None ts))

  pub branches_lead : (arms : List Arm) (b : ℕ) → branch_leads p m.by_diagram arms b ≡ leads_to m.by_name (arms_inside nothing d ts arms) b
  branches_lead [] b = refl
  branches_lead (arm ∷ arms) b =
      ap (λ c. c || branch_leads p m.by_diagram arms b) (one_branch arm.body b)
      ∙ ap (λ c. leads_to m.by_name (lines_inside nothing d arm.body None ts) b || c) (branches_lead arms b)
      ∙ sym (list_any-append (λ (g : Given). is_reader m.by_name g.diagram g.name b) (lines_inside nothing d arm.body None ts) (arms_inside nothing d ts arms))
