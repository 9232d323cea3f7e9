-- What is known of branches, one case after another.
use Rattle.std.proofs.Common.{◌≡◌, ℕ, zero, suc, ◌<◌, ◌==◌, Bool, true, false, not, ◌&&◌, ◌||◌, cond, List, [], ◌∷◌, ◌++◌, length, map, refl, ap, sym, ◌∙◌, subst, arith}
use Rattle.std.specs.Prelude.{if◌then◌else◌, Option, Some, None, is_some, slice_get}
use Rattle.std.specs.List.{list_all}
use Rattle.std.specs.Map.{update}
use Rattle.std.specs.Option.{option_or}
use Rattle.std.specs.Str.{bytes_eq}
use Rattle.std.proofs.lemmas.Slice.Eq.{bytes_eq-Decides}
use Rattle.g_diagram.specs.Lines as lines
use Rattle.g_diagram_table.specs.declared.entry.Arm.{Arm}
use Rattle.g_diagram_table.specs.Seen as table
use Rattle.g_diagram_ports.specs.Branches.{CaseLines, Cases, line_in, line_of, line_at, case_at}
use Rattle.g_diagram_ports.specs.Tunnels.{AreNew, HaveOwnBranches, LookUp, branches_past, is_arm, look_after, look_past}

-- a first value stays
pub first_kept : {V : Type 0} (b : Bool) (o : Option V) (v : V) → (b ≡ true → o ≡ None) → cond b (Some v) o ≡ option_or o (if b then Some v else None)
first_kept true None v h = refl
first_kept true (Some w) v h = let absurd_case : Some w ≡ None = h refl in cc
first_kept false None v h = refl
first_kept false (Some w) v h = refl

none_of : {V : Type 0} (o : Option V) → is_some o ≡ false → o ≡ None
none_of None h = refl
none_of (Some v) h = cc

pub name_added : (old new : CaseLines) (bs : List ℕ) (l : ℕ) → ((cs : List ℕ) → line_in new cs ≡ update bytes_eq (line_in old) bs (Some l) cs) → is_some (line_in old bs) ≡ false
    → (name : List ℕ) → line_in new name ≡ option_or (line_in old name) (if bytes_eq bs name then Some l else None)
name_added old new bs l updates absent name = updates name ∙ first_kept (bytes_eq bs name) (line_in old name) l
    (λ same. let P : List ℕ → Type 0 = λ cs. line_in old cs ≡ None in subst P ((bytes_eq-Decides bs name).0 same) (none_of (line_in old bs) absent))

at_left : {X : Type 0} (xs ys : List X) (k : ℕ) → k < length xs → slice_get (xs ++ ys) k ≡ slice_get xs k
at_left [] ys k lt = absurd (omega (arith, lt))
at_left (x ∷ xs) ys zero lt = refl
at_left (x ∷ xs) ys (suc k) lt = at_left xs ys k (omega (arith, lt))

at_end : {X : Type 0} (xs : List X) (y : X) → slice_get (xs ++ y ∷ []) (length xs) ≡ Some y
at_end [] y = refl
at_end (x ∷ xs) y = at_end xs y

-- where a diagram is a branch of the case that comes last
pub look_pushed : (cases : List CaseLines) (m : CaseLines) (old : Option ℕ) (arm : Bool) (name : List ℕ) (found : Option ℕ) → line_in m name ≡ found
    → ((k : ℕ) → old ≡ Some k → k < length cases) → line_at (cases ++ m ∷ []) (if arm then Some (length cases) else old) name ≡ (if arm then found else line_at cases old name)
look_pushed cases m old true name found h below = ap (λ o. line_of o name) (at_end cases m) ∙ h
look_pushed cases m None false name found h below = refl
look_pushed cases m (Some k) false name found h below = ap (λ o. line_of o name) (at_left cases (m ∷ []) k (below k refl))

abbrev pub is_known : Cases → Arm → Bool
is_known m a = is_some (case_at m a.body)

new_step : (m : Cases) (b d : ℕ) (same known rest more : Bool) → (same ≡ true → b ≡ d) → is_some (case_at m b) ≡ known → (not known && rest) ≡ true → (same || more) ≡ true
    → (rest ≡ true → more ≡ true → is_some (case_at m d) ≡ false) → is_some (case_at m d) ≡ false
new_step m b d same true rest more is k h any next = cc
new_step m b d true false rest more is k h any next = let P : ℕ → Type 0 = λ n. is_some (case_at m n) ≡ false in subst P (is refl) k
new_step m b d false false rest more is k h any next = next h any

-- no branch of a case is known
pub all_new : (m : Cases) (arms : List Arm) (d : ℕ) → list_all (λ (a : Arm). not (is_known m a)) arms ≡ true → is_arm (map table.seen_arm arms) d ≡ true → is_some (case_at m d) ≡ false
all_new m [] d h any = cc
all_new m (a ∷ arms) d h any =
    new_step m a.body d (a.body == d) (is_known m a) (list_all (λ (a : Arm). not (is_known m a)) arms) (is_arm (map table.seen_arm arms) d)
    (λ e. grind (arith, e)) refl h any (λ r s. all_new m arms d r s)

-- what is known after one node more
pub looks_more : (es rest : List lines.Entry) (e : lines.Entry) (old new whole : LookUp) → es ≡ e ∷ rest → ((d : ℕ) (name : List ℕ) → new d name ≡ look_past old e.line e.kind d name)
    → ((d : ℕ) (name : List ℕ) → look_after old es d name ≡ whole d name) → (d : ℕ) (name : List ℕ) → look_after new rest d name ≡ whole d name
looks_more es rest e old new whole is after h d name =
    let same : new ≡ look_past old e.line e.kind = λ i d name. after d name i in
    ap (λ (l : LookUp). look_after l rest d name) same ∙ ap (λ es. look_after old es d name) (sym is) ∙ h d name

pub own_more : (es rest : List lines.Entry) (e : lines.Entry) (old new : ℕ → Bool) {W : Type 0} → es ≡ e ∷ rest → ((d : ℕ) → new d ≡ branches_past old e.kind d) → AreNew old e.kind
    → (HaveOwnBranches old es → W) → HaveOwnBranches new rest → W
own_more es rest e old new is after fresh h own =
    let same : new ≡ branches_past old e.kind = λ i d. after d i in
    let P : (ℕ → Bool) → Type 0 = λ b. HaveOwnBranches b rest in
    let Q : List lines.Entry → Type 0 = HaveOwnBranches old in
    h (subst Q (sym is) (fresh, subst P same own))
