-- The branches of a case, one after the other.
use Rattle.std.proofs.Common.{◌≡◌, ℕ, ◌+◌, ◌<◌, Bool, List, [], ◌∷◌, ◌++◌, length, get_or, take, drop, map, append_assoc, append-nil, sym, ap, ◌∙◌, subst}
use Rattle.std.specs.Prelude.{if◌then◌else◌}
use Rattle.std.specs.List.{flat_map}
use Rattle.std.proofs.lemmas.List.{at_drop_more, take_more, map-append}
use Rattle.std.proofs.lemmas.Grind.{flat_map-append}
use Rattle.g_diagram.specs.declared.node.Selector.{Selector}
use Rattle.g_diagram.specs.Lines as lines
use Rattle.g_diagram_table.specs.declared.entry.Arm.{Arm}
use Rattle.g_diagram_table.specs.Seen.{seen_arm}
use Rattle.g_rules_selectors.specs.declared.taken.Taken.{Taken}
use Rattle.g_rules_selectors.specs.Clashes.{clashes}
use Rattle.g_rules_selectors.specs.Taken.{Keeps}
use Rattle.g_rules_lines.specs.Spots.{Spot, spot_at}
use Rattle.g_rules_lines.specs.CaseValues.{arm_clashes}

abbrev pub selectors_of : List lines.Arm → List Selector
selectors_of arms = flat_map (λ a. a.selectors) arms

-- the selectors of one more branch
selectors_more : (arms : List Arm) (i : ℕ) (x : Arm) → i < length arms → x ≡ get_or arms i x
    → selectors_of (map seen_arm (take (i + 1) arms)) ≡ selectors_of (map seen_arm (take i arms)) ++ (seen_arm x).selectors
selectors_more arms i x lt is =
    ap (λ xs. selectors_of (map seen_arm xs)) (take_more arms i x lt ∙ ap (λ y. take i arms ++ y ∷ []) (sym is))
    ∙ ap selectors_of (map-append seen_arm (take i arms) (x ∷ []))
    ∙ flat_map-append (λ a. a.selectors) (map seen_arm (take i arms)) (seen_arm x ∷ [])
    ∙ ap (λ ss. selectors_of (map seen_arm (take i arms)) ++ ss) (append-nil (seen_arm x).selectors)

pub keeps_more : (arms : List Arm) (i : ℕ) (x : Arm) (t : Taken) → i < length arms → x ≡ get_or arms i x
    → Keeps t (selectors_of (map seen_arm (take i arms)) ++ (seen_arm x).selectors) → Keeps t (selectors_of (map seen_arm (take (i + 1) arms)))
keeps_more arms i x t lt is k = let P : List Selector → Type 0 = λ ss. Keeps t ss in subst P (sym (selectors_more arms i x lt is)) k

pub clash_more : {B : Type 0} (g : Spot → B) (arms : List Arm) (i : ℕ) (x : Arm) (clash : Bool) (old new whole : List B) → i < length arms → x ≡ get_or arms i x
    → clash ≡ clashes (selectors_of (map seen_arm (take i arms))) (seen_arm x).selectors
    → new ≡ old ++ map g (if clash then spot_at (seen_arm x).body 0 ∷ [] else [])
    → old ++ map g (arm_clashes (selectors_of (map seen_arm (take i arms))) (map seen_arm (drop i arms))) ≡ whole
    → new ++ map g (arm_clashes (selectors_of (map seen_arm (take (i + 1) arms))) (map seen_arm (drop (i + 1) arms))) ≡ whole
clash_more g arms i x clash old new whole lt is ec e h =
    let before : List Selector = selectors_of (map seen_arm (take i arms)) in
    let later : List lines.Arm = map seen_arm (drop (i + 1) arms) in
    let rest : List Spot = arm_clashes (before ++ (seen_arm x).selectors) later in
    let told : Bool → List Spot = λ b. if b then spot_at (seen_arm x).body 0 ∷ [] else [] in
    ap (λ bs. bs ++ map g (arm_clashes (selectors_of (map seen_arm (take (i + 1) arms))) later)) e
    ∙ ap (λ ss. (old ++ map g (told clash)) ++ map g (arm_clashes ss later)) (selectors_more arms i x lt is)
    ∙ append_assoc old (map g (told clash)) (map g rest)
    ∙ ap (λ bs. old ++ bs) (sym (map-append g (told clash) rest))
    ∙ ap (λ b. old ++ map g (told b ++ rest)) ec
    ∙ ap (λ y. old ++ map g (arm_clashes before (map seen_arm (y ∷ drop (i + 1) arms)))) is
    ∙ sym (at_drop_more (λ xs. old ++ map g (arm_clashes before (map seen_arm xs))) arms i x lt)
    ∙ h
