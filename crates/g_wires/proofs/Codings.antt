-- The ports of a VI by numbers.
use Rattle.std.proofs.Common.{◌≡◌, ℕ, ◌<◌, ◌^◌, Bool, ◌||◌, List, ◌++◌, map, refl, sym, ap, ◌∙◌, subst, append_assoc}
use Rattle.std.specs.Prelude.{Option, Some, None, All}
use Rattle.std.specs.BTreeMap.{btree_map_len}
use Rattle.std.specs.Ordering.{is_eq}
use Rattle.std.proofs.lemmas.List.Folds.{list_any-append}
use Rattle.std.proofs.lemmas.List.Elements.{All-map}
use denote.Ref.{Bor}
use Rattle.g_diagram.specs.declared.hierarchy.Vi.{Vi}
use Rattle.g_diagram.specs.Ports as ports
use Rattle.g_diagram_ports.specs.declared.port.Port.{Port}
use Rattle.g_diagram_ports.specs.Seen.{seen}
use Rattle.g_diagram_ports.specs.Standing.{StandFor}
use Rattle.g_diagram_ports.specs.Callees as callees
use Rattle.g_diagram_ports.specs.Callees.{required_in, flags_of, is_free_by, freedom_by}
use Rattle.g_wires.specs.declared.coded.Coded.{Coded}
use Rattle.g_wires.specs.Coding.{Table, IsBelow, number_at, number_of, code_by, has_wire_of, Numbers}
use Rattle.g_diagram.specs.declared.place.Break.{Break}
use Rattle.g_rules_breaks.specs.Breaks.{break_cmp, has_break}
use Rattle.g_wires.specs.Breaks.{named_in, plain_in}
use Rattle.g_rules_lines.specs.Lists.{lined_by, Known, known_of}
use Rattle.g_rules_lines.specs.Callees.{arities}
use Rattle.g_rules_lines.specs.Queues.{Queues, first_queue, all_queues}
use Rattle.g_rules_lines.specs.Names as names
use Rattle.g_rules_lines.specs.Names.{arity_in, queue_at, known_by}
use Rattle.g_diagram.specs.declared.panel.PanelItem.{PanelItem}
use Rattle.g_diagram.specs.Lines as lines
use Rattle.g_diagram.specs.Lines.{entries_of}
use Rattle.g_wires.specs.Marks.{WireBelow, coded_named}
use Rattle.g_wires.specs.Checked.{AddsBreaks, IsCoding, TellsLines, ports_with}
use Rattle.g_wires.proofs.Faithful.{named_told, steps_same}
use Rattle.g_wires.proofs.Standing.{named_same, same_more, wires_same}

below_at : (m : Table) → Numbers m → (d : ℕ) (w : Option (Bor (List ℕ))) → IsBelow (btree_map_len m) (number_of m d w)
below_at m n d None = tt
below_at m n d (Some name) = at (number_at m d name.now) refl
  where
    at : (o : Option ℕ) → number_at m d name.now ≡ o → IsBelow (btree_map_len m) o
    at None e = tt
    at (Some v) e = n.below d name.now v e

pub is_coding : (m : Table) (given : List Port) (ps : List ports.Port) (cs : List Coded) (count : ℕ) → Numbers m → All (has_wire_of m) given → count ≡ btree_map_len m → count < 2 ^ 63
    → cs ≡ map (code_by m) given → StandFor ps (map seen given) → IsCoding ps cs count
is_coding m given ps cs count n all ec small e stand =
    let P : List Coded → Type 0 = λ xs. IsCoding ps xs count in
    let R : ℕ → Type 0 = λ k. All (WireBelow k) (map (code_by m) given) in
    subst P (sym e) (record {
      small = small;
      wires = subst R (sym ec) (All-map (WireBelow (btree_map_len m)) (code_by m) given (λ k d lt. below_at m n _ _));
      named = λ vi b. ap (λ bs. has_break bs b) (named_told m n given all vi) ∙ named_same ps (map seen given) stand vi b;
      steps = λ a b. steps_same m n given all a b ∙ wires_same ps (map seen given) stand a b;
    })

free_same : (vis : List Vi) (name : List ℕ) (k : ℕ) (o : Option Vi) → is_free_by (flags_of o) k ≡ ports.is_free_in o k
free_same vis name k None = refl
free_same vis name k (Some vi) = refl

-- the ports of a VI, where what is known of called VIs is right
pub ports_same : (m : callees.Table) (vis : List Vi) → ((name : List ℕ) → required_in m name ≡ flags_of (ports.first_vi vis name)) → ports_with (freedom_by m) ≡ ports.ports_of vis
ports_same m vis told =
    let free : freedom_by m ≡ ports.freedom vis = λ i name k. (ap (λ o. is_free_by o k) (told name) ∙ free_same vis name k (ports.first_vi vis name)) i in
    ap ports_with free

-- the breaks of one VI, added to others: those on names, and then those on lines
pub plain_added : (ports : Vi → List ports.Port) (known : Known) (vi : Vi) (cs : List Coded) (count : ℕ) → IsCoding (ports vi) cs count → (number : ℕ) (xs : List Coded) (panel : List PanelItem) (es : List lines.Entry)
    (old named new : List Break) → xs ≡ cs → panel ≡ vi.panel → es ≡ entries_of vi → named ≡ old ++ coded_named number xs → new ≡ named ++ lined_by known number panel es
    → AddsBreaks (plain_in ports known number vi) old new
plain_added ports known vi cs count coding number xs panel es old named new ex ep ee en e b =
    let lined : List Break = lined_by known number vi.panel (entries_of vi) in
    let whole : new ≡ old ++ (coded_named number cs ++ lined) =
    e ∙ ap (λ bs. bs ++ lined_by known number panel es) (en ∙ ap (λ zs. old ++ coded_named number zs) ex)
    ∙ append_assoc old (coded_named number cs) (lined_by known number panel es)
    ∙ ap (λ items. old ++ (coded_named number cs ++ lined_by known number items es)) ep
    ∙ ap (λ zs. old ++ (coded_named number cs ++ lined_by known number vi.panel zs)) ee in
    ap (λ bs. has_break bs b) whole
    ∙ list_any-append (λ c. is_eq (break_cmp b c)) old (coded_named number cs ++ lined)
    ∙ ap (λ x. has_break old b || x) (same_more (coded_named number cs) (named_in (ports vi) number) lined lined (coding.named number) (λ c. refl) b)

-- what is known of the listing
pub known_same : (m : names.Table) (q : names.QueueTable) (vis : List Vi) → ((name : List ℕ) → arity_in m name ≡ arities vis name) → ((name : List ℕ) → queue_at q name ≡ first_queue (all_queues vis) name)
    → known_by m q ≡ known_of vis
known_same m q vis told named =
    ap (λ (a : List ℕ → Option (ℕ × ℕ)). record { arities = a; queues = queue_at q }) (λ i name. told name i)
    ∙ ap (λ (f : Queues). record { arities = arities vis; queues = f }) (λ i name. named name i)

-- the lines of a VI, by marks
pub lines_of_slices : (cs xs : List Coded) (marks ms : List Bool) → xs ≡ cs → ms ≡ marks → TellsLines xs marks → TellsLines cs ms
lines_of_slices cs xs marks ms ex em t =
    let P : List Coded → Type 0 = λ zs. TellsLines zs marks in
    let Q : List Bool → Type 0 = TellsLines cs in
    subst Q (sym em) (subst P ex t)
