-- What is kept of a VI by diagram after one more is kept.
use Rattle.std.proofs.Common.{◌≡◌, ℕ, suc, ◌==◌, Bool, true, false, ◌&&◌, cond, List, [], ◌∷◌, ◌++◌, map, length, refl, sym, ap, ◌∙◌}
use Rattle.std.specs.Prelude.{if◌then◌else◌, Some, None}
use Rattle.std.specs.Ordering.{nat_cmp, is_eq}
use Rattle.std.specs.Cmp.{unsigned_tied}
use Rattle.std.specs.Option.{option_or}
use Rattle.std.specs.Str.{bytes_eq}
use Rattle.std.specs.BTreeMap.{get_by}
use Rattle.std.proofs.lemmas.Bool.{eqb-true}
use Rattle.g_diagram.specs.Lines as lines
use Rattle.g_diagram.specs.Lines.{nodes_of}
use Rattle.g_diagram_table.specs.declared.entry.Entry.{Entry}
use Rattle.g_diagram_table.specs.Seen.{seen}
use Rattle.g_border.specs.declared.place.WireSource.{WireSource}
use Rattle.g_border.specs.Readers.{same_source}
use Rattle.g_wire_values.specs.Names.{Numbers, named, add_name}
use Rattle.g_vi_tables.specs.Kept.{AreNodePlaces, AreSourcePlaces}
use Rattle.g_vi_tables.specs.Places.{node_place, source_place}
use Rattle.g_vi_tables.specs.Tables.{Nodes, NodePlaces, Sources, SourcePlaces, Names, nodes_at, node_place_in, sources_at, source_place_in, names_at, numbers_or_none}
use Rattle.g_vi_tables.proofs.PlaceLemmas.{or_none, place_more, named-add}

pub none_left : {A : Type 0} (xs : List A) → length xs ≡ 0 → xs ≡ []
none_left [] h = refl
none_left (x ∷ xs) h = cc

map-seen : (xs ys : List Entry) → map seen (xs ++ ys) ≡ map seen xs ++ map seen ys
map-seen [] ys = refl
map-seen (x ∷ xs) ys = ap (λ zs. seen x ∷ zs) (map-seen xs ys)

if-seen : (b : Bool) (e : Entry) → map seen (if b then e ∷ [] else []) ≡ (if b then seen e ∷ [] else [])
if-seen true e = refl
if-seen false e = refl

length-seen : (xs : List Entry) → length (map seen xs) ≡ length xs
length-seen [] = refl
length-seen (x ∷ xs) = ap suc (length-seen xs)

-- one node more
abbrev pub AddsNode : Nodes → Nodes → Entry → Type 0
AddsNode old new e = (d : ℕ) → nodes_at new d ≡ nodes_at old d ++ (if e.diagram == d then e ∷ [] else [])

nodes-seen : (old new : Nodes) (e : Entry) → AddsNode old new e → (d : ℕ) → map seen (nodes_at new d) ≡ map seen (nodes_at old d) ++ (if e.diagram == d then seen e ∷ [] else [])
nodes-seen old new e h d =
    ap (map seen) (h d) ∙ map-seen (nodes_at old d) (if e.diagram == d then e ∷ [] else []) ∙ ap (λ es. map seen (nodes_at old d) ++ es) (if-seen (e.diagram == d) e)

pub nodes_more : (old new : Nodes) (e : Entry) → AddsNode old new e → (d : ℕ) → map seen (nodes_at new d) ≡ map seen (nodes_at old d) ++ nodes_of d (seen e ∷ [])
nodes_more old new e h d = nodes-seen old new e h d

pub node_places_more : (old new : Nodes) (p q : NodePlaces) (e : Entry) (k : ℕ) → AreNodePlaces old p → k ≡ length (nodes_at old e.diagram) → AddsNode old new e
    → ((d l : ℕ) → node_place_in q d l ≡ option_or (node_place_in p d l) (if (e.diagram == d) && (e.line == l) then Some k else None)) → AreNodePlaces new q
node_places_more old new p q e k are count adds places d l =
    let es : List lines.Entry = map seen (nodes_at old d) in
    let c : Bool = e.diagram == d in
    let here : c ≡ true → k ≡ length es = λ same. count ∙ ap (λ x. length (nodes_at old x)) (eqb-true e.diagram d same) ∙ sym (length-seen (nodes_at old d)) in
    places d l
    ∙ ap (λ o. option_or o (if c && (e.line == l) then Some k else None)) (are d l)
    ∙ place_more (λ x. x.line == l) es (seen e) c k here
    ∙ ap (node_place l) (sym (nodes-seen old new e adds d))

-- one source more
pub source_places_more : (old new : Sources) (p q : SourcePlaces) (d : ℕ) (s : WireSource) (k : ℕ) → AreSourcePlaces old p → k ≡ length (sources_at old d)
    → ((c : ℕ) → sources_at new c ≡ sources_at old c ++ (if d == c then s ∷ [] else []))
    → ((c : ℕ) (r : WireSource) → source_place_in q c r ≡ option_or (source_place_in p c r) (if (d == c) && same_source s r then Some k else None)) → AreSourcePlaces new q
source_places_more old new p q d s k are count adds places c r =
    let ss : List WireSource = sources_at old c in
    let b : Bool = d == c in
    let here : b ≡ true → k ≡ length ss = λ same. count ∙ ap (λ x. length (sources_at old x)) (eqb-true d c same) in
    places c r
    ∙ ap (λ o. option_or o (if b && same_source s r then Some k else None)) (are c r)
    ∙ place_more (λ x. same_source x r) ss s b k here
    ∙ ap (source_place r) (sym (adds c))

-- one name more
pub names_more : (old mid new : Names) (d : ℕ) (names : Numbers) (n : List ℕ) (k : ℕ)
    → ((c : ℕ) → get_by (nat_cmp c) mid ≡ cond (is_eq (nat_cmp d c)) None (get_by (nat_cmp c) old))
    → ((c : ℕ) → get_by (nat_cmp c) new ≡ cond (is_eq (nat_cmp d c)) (Some names) (get_by (nat_cmp c) mid))
    → names ≡ add_name (names_at old d) n k
    → (c : ℕ) (q : List ℕ) → named (names_at new c) q ≡ option_or (named (names_at old c) q) (if (d == c) && bytes_eq q n then Some k else None)
names_more old mid new d names n k out back are c q = by (d == c) (λ same. eqb-true d c same) (ap (λ b. cond b None (get_by (nat_cmp c) old)) (unsigned_tied d c)) (ap (λ b. cond b (Some names) (get_by (nat_cmp c) mid)) (unsigned_tied d c))
  where
    by : (b : Bool) → (b ≡ true → d ≡ c) → cond (is_eq (nat_cmp d c)) None (get_by (nat_cmp c) old) ≡ cond b None (get_by (nat_cmp c) old)
        → cond (is_eq (nat_cmp d c)) (Some names) (get_by (nat_cmp c) mid) ≡ cond b (Some names) (get_by (nat_cmp c) mid)
        → named (names_at new c) q ≡ option_or (named (names_at old c) q) (if b && bytes_eq q n then Some k else None)
    by true same e f =
        ap (λ o. named (numbers_or_none o) q) (back c ∙ f) ∙ ap (λ ns. named ns q) are ∙ named-add (names_at old d) n k q
        ∙ ap (λ x. option_or (named (names_at old x) q) (if bytes_eq q n then Some k else None)) (same refl)
    by false same e f =
        ap (λ o. named (numbers_or_none o) q) (back c ∙ f ∙ out c ∙ e) ∙ sym (or_none (named (names_at old c) q))
