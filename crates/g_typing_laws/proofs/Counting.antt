-- The ports of a VI give each name of a diagram at least as often as its lines do.
use Rattle.std.proofs.Common.{◌≡◌, ℕ, ◌+◌, ◌≤◌, Bool, true, false, List, [], ◌∷◌, ◌++◌, map, refl, arith}
use Rattle.std.specs.Prelude.{Option, Some, None}
use Rattle.g_types.specs.declared.ty.Ty.{Ty}
use Rattle.g_diagram.specs.declared.node.Tunnel.{Tunnel}
use Rattle.g_diagram.specs.declared.node.Tunnel.TheVariants as line
use Rattle.g_diagram.specs.declared.panel.PanelItem.{PanelItem}
use Rattle.g_diagram.specs.declared.panel.PanelItem.TheVariants.{Control, Indicator}
use Rattle.g_diagram.specs.declared.hierarchy.Vi.{Vi}
use Rattle.g_diagram.specs.Lines.{Wire, Arm, Part, Entry, Kind, Const, Apply, Shows, Shared, Obtain, Read, Write, Call, Loop, Case, Sequence, InPlace, entries_of}
use Rattle.g_diagram.specs.Operands.{Outside, Operand, Line, Freedom, source, consumer, border, case_border, plain_line, header_line, border_lines, parts_lines, give_line, call_inputs, loop_header, kind_lines, entries_lines, control_lines}
use Rattle.g_diagram.specs.Ports.{ports_in, ports_of, freedom}
use Rattle.g_typing.specs.Types.{Types}
use Rattle.g_typing.specs.Rows.{has_rows}
use Rattle.g_typing.specs.Typing.{Given, Callees, Objects, given, given_each, line_inside, line_outside, lines_inside, lines_outside, arms_inside, result_given, next_result, results_given, parts_given, kind_given, panel_type, controls_given, entries_given, all_given}
use Rattle.g_typing_laws.proofs.Counts.{wire_hit, given_count, port_count, among_hit, operands_count, lines_count, given_both, operands_both, lines_both, in_ports, given_is, wires_hit, each_is, outputs_are, none_among}

-- the wire that a border line gives inside, and those outside

abbrev inner_of : Tunnel → Wire
inner_of (line.Tunnel outer inner) = inner
inner_of (line.Register initial inner next last) = inner
inner_of (line.Kept t inner next last) = inner
inner_of (line.Index array inner) = inner
inner_of (line.Carry earlier inner) = inner
inner_of (line.Ref reference inner next same code) = inner
inner_of (line.Element array index inner next outer) = inner
inner_of (line.Field k cluster inner next outer) = inner
inner_of _ = None

abbrev outer_of : Tunnel → List Wire
outer_of (line.Register initial inner next last) = last ∷ []
outer_of (line.Kept t inner next last) = last ∷ []
outer_of (line.Last inner outer) = outer ∷ []
outer_of (line.Gather inner outer) = outer ∷ []
outer_of (line.Result outer default) = outer ∷ []
outer_of (line.Ref reference inner next same code) = same ∷ code ∷ []
outer_of (line.Element array index inner next outer) = outer ∷ []
outer_of (line.Field k cluster inner next outer) = outer ∷ []
outer_of _ = []

one_more : (x y z : ℕ) → x ≡ y → x ≤ y + z
one_more x y z e = omega (arith, e)

module _ (d : ℕ) (n : List ℕ) where
  abbrev count : List Given → ℕ
  count gs = given_count d n gs

  -- one border line

  inside_is : (M : Types) (z b : ℕ) (before : Option ℕ) (t : Tunnel) → count (line_inside M z b before t) ≡ wire_hit d n b (inner_of t)
  inside_is M z b before (line.Tunnel outer inner) = given_is d n b inner _
  inside_is M z b before (line.Register initial inner next last) = given_is d n b inner _
  inside_is M z b before (line.Kept t inner next last) = given_is d n b inner _
  inside_is M z b before (line.Last inner outer) = refl
  inside_is M z b before (line.Gather inner outer) = refl
  inside_is M z b before (line.Index array inner) = given_is d n b inner _
  inside_is M z b before (line.Result outer default) = refl
  inside_is M z b before (line.Carry earlier inner) = given_is d n b inner _
  inside_is M z b before (line.Ref reference inner next same code) = given_is d n b inner _
  inside_is M z b before (line.Element array index inner next outer) = given_is d n b inner _
  inside_is M z b before (line.Field k cluster inner next outer) = given_is d n b inner _

  two_given : (z : ℕ) (v w : Wire) (t u : Option Ty) → count (given z v t ++ given z w u) ≤ wires_hit d n z (v ∷ w ∷ [])
  two_given z v w t u =
      let x : count (given z v t) ≡ wire_hit d n z v = given_is d n z v t in
      let y : count (given z w u) ≡ wire_hit d n z w = given_is d n z w u in
      let e : count (given z v t ++ given z w u) ≡ count (given z v t) + count (given z w u) = given_both d n (given z v t) (given z w u) in
      omega (arith, x, y, e)

  outside_is : (M : Types) (ok : Bool) (z b : ℕ) (t : Tunnel) → count (line_outside M ok z b t) ≤ wires_hit d n z (outer_of t)
  outside_is M ok z b (line.Tunnel outer inner) = omega arith
  outside_is M ok z b (line.Register initial inner next last) = one_more _ _ 0 (given_is d n z last _)
  outside_is M ok z b (line.Kept t inner next last) = one_more _ _ 0 (given_is d n z last _)
  outside_is M ok z b (line.Last inner outer) = one_more _ _ 0 (given_is d n z outer _)
  outside_is M ok z b (line.Gather inner outer) = one_more _ _ 0 (given_is d n z outer _)
  outside_is M ok z b (line.Index array inner) = omega arith
  outside_is M ok z b (line.Result outer default) = omega arith
  outside_is M ok z b (line.Carry earlier inner) = omega arith
  outside_is M ok z b (line.Ref reference inner next same code) =
      two_given z same code _ _
  outside_is M ok z b (line.Element array index inner next outer) = one_more _ _ 0 (given_is d n z outer _)
  outside_is M ok z b (line.Field k cluster inner next outer) = one_more _ _ 0 (given_is d n z outer _)

  result_is : (M : Types) (z k : ℕ) (arms : List Arm) (t : Tunnel) → count (result_given M z k arms t) ≤ wires_hit d n z (outer_of t)
  result_is M z k arms (line.Result outer default) = one_more _ _ 0 (given_is d n z outer _)
  result_is M z k arms (line.Tunnel outer inner) = omega arith
  result_is M z k arms (line.Register initial inner next last) = omega arith
  result_is M z k arms (line.Kept t inner next last) = omega arith
  result_is M z k arms (line.Last inner outer) = omega arith
  result_is M z k arms (line.Gather inner outer) = omega arith
  result_is M z k arms (line.Index array inner) = omega arith
  result_is M z k arms (line.Carry earlier inner) = omega arith
  result_is M z k arms (line.Ref reference inner next same code) = omega arith
  result_is M z k arms (line.Element array index inner next outer) = omega arith
  result_is M z k arms (line.Field f cluster inner next outer) = omega arith

  consumers_among : (bs : List ℕ) (w : Wire) → among_hit false d n bs w ≡ 0
  consumers_among [] w = refl
  consumers_among (b ∷ bs) w = let e : among_hit false d n bs w ≡ 0 = consumers_among bs w in omega (arith, e)

  -- the operands of a border line that are sources
  border_is : (l : Line) (t : Tunnel) → operands_count d n l (border t) ≡ among_hit true d n l.inside (inner_of t) + wires_hit d n l.outside (outer_of t)
  border_is l (line.Tunnel outer inner) = omega arith
  border_is l (line.Register initial inner next last) = let c = consumers_among l.inside next in omega (arith, c)
  border_is l (line.Kept t inner next last) = let c = consumers_among l.inside next in omega (arith, c)
  border_is l (line.Last inner outer) = let c = consumers_among l.inside inner in let e = none_among true d n l.inside in omega (arith, c, e)
  border_is l (line.Gather inner outer) = let c = consumers_among l.inside inner in let e = none_among true d n l.inside in omega (arith, c, e)
  border_is l (line.Index array inner) = omega arith
  border_is l (line.Result outer default) = let e = none_among true d n l.inside in omega (arith, e)
  border_is l (line.Carry earlier inner) = let c = consumers_among l.before earlier in omega (arith, c)
  border_is l (line.Ref reference inner next same code) = let c = consumers_among l.inside next in omega (arith, c)
  border_is l (line.Element array index inner next outer) = let c = consumers_among l.inside next in omega (arith, c)
  border_is l (line.Field k cluster inner next outer) = let c = consumers_among l.inside next in omega (arith, c)

  case_border_is : (l : Line) (t : Tunnel) → operands_count d n l (case_border t) ≡ among_hit true d n l.inside (inner_of t) + wires_hit d n l.outside (outer_of t)
  case_border_is l (line.Tunnel outer inner) = omega arith
  case_border_is l (line.Register initial inner next last) = border_is l (line.Register initial inner next last)
  case_border_is l (line.Kept t inner next last) = border_is l (line.Kept t inner next last)
  case_border_is l (line.Last inner outer) = border_is l (line.Last inner outer)
  case_border_is l (line.Gather inner outer) = border_is l (line.Gather inner outer)
  case_border_is l (line.Index array inner) = border_is l (line.Index array inner)
  case_border_is l (line.Result outer default) = border_is l (line.Result outer default)
  case_border_is l (line.Carry earlier inner) = border_is l (line.Carry earlier inner)
  case_border_is l (line.Ref reference inner next same code) = border_is l (line.Ref reference inner next same code)
  case_border_is l (line.Element array index inner next outer) = border_is l (line.Element array index inner next outer)
  case_border_is l (line.Field k cluster inner next outer) = border_is l (line.Field k cluster inner next outer)

  -- border lines

  abbrev sources_of : List Line → ℕ
  sources_of ls = lines_count d n ls

  borders_hold : (M : Types) (ok : Bool) (e : Entry) (b : ℕ) (before : Option ℕ) (numbers : List ℕ) (l : ℕ) (ts : List Tunnel)
      → count (lines_inside M e.diagram b before ts) + count (lines_outside M ok e.diagram b ts) ≤ sources_of (border_lines e (b ∷ []) numbers border l ts)
  borders_hold M ok e b before numbers l [] = omega arith
  borders_hold M ok e b before numbers l (t ∷ ts) =
      let own : Line = record { line = l; node = e.line; outside = e.diagram; inside = b ∷ []; before = numbers; operands = border t } in
      let ins : count (line_inside M e.diagram b before t ++ lines_inside M e.diagram b before ts) ≡ count (line_inside M e.diagram b before t) + count (lines_inside M e.diagram b before ts) =
      given_both d n (line_inside M e.diagram b before t) (lines_inside M e.diagram b before ts) in
      let outs : count (line_outside M ok e.diagram b t ++ lines_outside M ok e.diagram b ts) ≡ count (line_outside M ok e.diagram b t) + count (lines_outside M ok e.diagram b ts) =
      given_both d n (line_outside M ok e.diagram b t) (lines_outside M ok e.diagram b ts) in
      let i : count (line_inside M e.diagram b before t) ≡ wire_hit d n b (inner_of t) = inside_is M e.diagram b before t in
      let o : count (line_outside M ok e.diagram b t) ≤ wires_hit d n e.diagram (outer_of t) = outside_is M ok e.diagram b t in
      let c : operands_count d n own (border t) ≡ (wire_hit d n b (inner_of t) + 0) + wires_hit d n e.diagram (outer_of t) = border_is own t in
      let rest : count (lines_inside M e.diagram b before ts) + count (lines_outside M ok e.diagram b ts) ≤ sources_of (border_lines e (b ∷ []) numbers border (l + 1) ts) =
      borders_hold M ok e b before numbers (l + 1) ts in
      omega (arith, ins, outs, i, o, c, rest)

  -- the branches of a case

  -- one line of a case gives its inner name in each branch
  arms_line : (M : Types) (z : ℕ) (t : Tunnel) (ts : List Tunnel) (arms : List Arm)
      → count (arms_inside M z (t ∷ ts) arms) ≡ among_hit true d n (map (λ a. a.body) arms) (inner_of t) + count (arms_inside M z ts arms)
  arms_line M z t ts [] = omega arith
  arms_line M z t ts (a ∷ arms) =
      let own : List Given = line_inside M z a.body None t in
      let others : List Given = lines_inside M z a.body None ts in
      let x : count ((own ++ others) ++ arms_inside M z (t ∷ ts) arms) ≡ count (own ++ others) + count (arms_inside M z (t ∷ ts) arms) =
      given_both d n (own ++ others) (arms_inside M z (t ∷ ts) arms) in
      let y : count (own ++ others) ≡ count own + count others = given_both d n own others in
      let w : count (others ++ arms_inside M z ts arms) ≡ count others + count (arms_inside M z ts arms) = given_both d n others (arms_inside M z ts arms) in
      let i : count own ≡ wire_hit d n a.body (inner_of t) = inside_is M z a.body None t in
      let rest : count (arms_inside M z (t ∷ ts) arms) ≡ among_hit true d n (map (λ a. a.body) arms) (inner_of t) + count (arms_inside M z ts arms) = arms_line M z t ts arms in
      omega (arith, x, y, w, i, rest)

  no_arms : (M : Types) (z : ℕ) (arms : List Arm) → count (arms_inside M z [] arms) ≡ 0
  no_arms M z [] = refl
  no_arms M z (a ∷ arms) = no_arms M z arms

  case_holds : (M : Types) (e : Entry) (arms others : List Arm) (k l : ℕ) (ts : List Tunnel)
      → count (arms_inside M e.diagram ts arms) + count (results_given M e.diagram k others ts) ≤ sources_of (border_lines e (map (λ a. a.body) arms) [] case_border l ts)
  case_holds M e arms others k l [] = let x : count (arms_inside M e.diagram [] arms) ≡ 0 = no_arms M e.diagram arms in omega (arith, x)
  case_holds M e arms others k l (t ∷ ts) =
      let own : Line = record { line = l; node = e.line; outside = e.diagram; inside = map (λ a. a.body) arms; before = []; operands = case_border t } in
      let x : count (arms_inside M e.diagram (t ∷ ts) arms) ≡ among_hit true d n (map (λ a. a.body) arms) (inner_of t) + count (arms_inside M e.diagram ts arms) =
      arms_line M e.diagram t ts arms in
      let y : count (result_given M e.diagram k others t ++ results_given M e.diagram (next_result t k) others ts)
      ≡ count (result_given M e.diagram k others t) + count (results_given M e.diagram (next_result t k) others ts) =
      given_both d n (result_given M e.diagram k others t) (results_given M e.diagram (next_result t k) others ts) in
      let r : count (result_given M e.diagram k others t) ≤ wires_hit d n e.diagram (outer_of t) = result_is M e.diagram k others t in
      let c : operands_count d n own (case_border t) ≡ among_hit true d n (map (λ a. a.body) arms) (inner_of t) + wires_hit d n e.diagram (outer_of t) = case_border_is own t in
      let rest : count (arms_inside M e.diagram ts arms) + count (results_given M e.diagram (next_result t k) others ts)
      ≤ sources_of (border_lines e (map (λ a. a.body) arms) [] case_border (l + 1) ts) =
      case_holds M e arms others (next_result t k) (l + 1) ts in
      omega (arith, x, y, r, c, rest)

  -- frames

  parts_hold : (M : Types) (e : Entry) (before : Option ℕ) (numbers : List ℕ) (ps : List Part)
      → count (parts_given M e.diagram before ps) ≤ sources_of (parts_lines e numbers ps)
  parts_hold M e before numbers [] = omega arith
  parts_hold M e before numbers (p ∷ ps) =
      let ins : List Given = lines_inside M e.diagram p.body before p.lines in
      let outs : List Given = lines_outside M true e.diagram p.body p.lines in
      let more : List Given = parts_given M e.diagram (Some p.body) ps in
      let own : List Line = border_lines e (p.body ∷ []) numbers border (p.body + 1) p.lines in
      let x : count ((ins ++ outs) ++ more) ≡ count (ins ++ outs) + count more = given_both d n (ins ++ outs) more in
      let y : count (ins ++ outs) ≡ count ins + count outs = given_both d n ins outs in
      let s : sources_of (own ++ parts_lines e (p.body ∷ []) ps) ≡ sources_of own + sources_of (parts_lines e (p.body ∷ []) ps) = lines_both d n own (parts_lines e (p.body ∷ []) ps) in
      let b : count ins + count outs ≤ sources_of own = borders_hold M true e p.body before numbers (p.body + 1) p.lines in
      let rest : count more ≤ sources_of (parts_lines e (p.body ∷ []) ps) = parts_hold M e (Some p.body) (p.body ∷ []) ps in
      omega (arith, x, y, s, b, rest)

  -- nodes

  one_given : (e : Entry) (w : Wire) (t : Option Ty) → count (given e.diagram w t) ≤ sources_of (plain_line e (source Outside w ∷ []) ∷ [])
  one_given e w t = let x : count (given e.diagram w t) ≡ wire_hit d n e.diagram w = given_is d n e.diagram w t in omega (arith, x)

  -- outputs after other operands
  each_given : (e : Entry) (ops : List Operand) (ws : List Wire) (ts : List Ty) → count (given_each e.diagram ws ts) ≤ sources_of (plain_line e (ops ++ map (source Outside) ws) ∷ [])
  each_given e ops ws ts =
      let l : Line = plain_line e (ops ++ map (source Outside) ws) in
      let x : count (given_each e.diagram ws ts) ≡ wires_hit d n e.diagram ws = each_is d n e.diagram ws ts in
      let y : operands_count d n l (map (source Outside) ws) ≡ wires_hit d n e.diagram ws = outputs_are d n l ws in
      let s : operands_count d n l (ops ++ map (source Outside) ws) ≡ operands_count d n l ops + operands_count d n l (map (source Outside) ws) = operands_both d n l ops (map (source Outside) ws) in
      omega (arith, x, y, s)

  -- of the first line of a loop the iteration alone is a source
  header_is : (e : Entry) (b : ℕ) (ops : List Operand) (c stop : Option Wire) (iteration : Wire)
      → operands_count d n (header_line e b ops) (loop_header c stop iteration) ≡ wire_hit d n b iteration
  header_is e b ops None None iteration = omega arith
  header_is e b ops None (Some s) iteration = omega arith
  header_is e b ops (Some w) None iteration = omega arith
  header_is e b ops (Some w) (Some s) iteration = omega arith

  loop_holds : (M : Types) (ok : Bool) (e : Entry) (b : ℕ) (iteration : Wire) (t : Option Ty) (ts : List Tunnel)
      → count (given b iteration t ++ (lines_inside M e.diagram b None ts ++ lines_outside M ok e.diagram b ts))
      ≤ wire_hit d n b iteration + sources_of (border_lines e (b ∷ []) [] border (e.line + 1) ts)
  loop_holds M ok e b iteration t ts =
      let ins : List Given = lines_inside M e.diagram b None ts in
      let outs : List Given = lines_outside M ok e.diagram b ts in
      let x : count (given b iteration t ++ (ins ++ outs)) ≡ count (given b iteration t) + count (ins ++ outs) = given_both d n (given b iteration t) (ins ++ outs) in
      let y : count (ins ++ outs) ≡ count ins + count outs = given_both d n ins outs in
      let i : count (given b iteration t) ≡ wire_hit d n b iteration = given_is d n b iteration t in
      let rest : count ins + count outs ≤ sources_of (border_lines e (b ∷ []) [] border (e.line + 1) ts) = borders_hold M ok e b None [] (e.line + 1) ts in
      omega (arith, x, y, i, rest)

  kind_holds : (free : Freedom) (called : Callees) (objects : Objects) (M : Types) (ok : Bool) (e : Entry) (k : Kind)
      → count (kind_given called objects M ok e.diagram k) ≤ sources_of (kind_lines free e k)
  kind_holds free called objects M ok e (Const t literal out) = one_given e out _
  kind_holds free called objects M ok e (Apply p inputs outputs) = each_given e (map (consumer Outside) inputs) outputs _
  kind_holds free called objects M ok e (Shows name t input) = omega arith
  kind_holds free called objects M ok e (Shared op inputs outputs) = each_given e (map (consumer Outside) inputs) outputs _
  kind_holds free called objects M ok e (Obtain queue size item out) = one_given e out _
  kind_holds free called objects M ok e (Read object out) = one_given e out _
  kind_holds free called objects M ok e (Write object input) = omega arith
  kind_holds free called objects M ok e (Call name inputs outputs) = each_given e (call_inputs (free name) 0 inputs) outputs _
  kind_holds free called objects M ok e (Loop c stop iteration ts body) =
      let x : operands_count d n (header_line e body (loop_header c stop iteration)) (loop_header c stop iteration) ≡ wire_hit d n body iteration =
      header_is e body (loop_header c stop iteration) c stop iteration in
      let h : count (kind_given called objects M ok e.diagram (Loop c stop iteration ts body)) ≤ wire_hit d n body iteration + sources_of (border_lines e (body ∷ []) [] border (e.line + 1) ts) =
      loop_holds M ok e body iteration _ ts in
      omega (arith, x, h)
  kind_holds free called objects M ok e (Case selector ts arms) =
      let ls : List Line = border_lines e (map (λ a. a.body) arms) [] case_border (e.line + 1) ts in
      let x : count (arms_inside M e.diagram ts arms ++ results_given M e.diagram 0 arms ts) ≡ count (arms_inside M e.diagram ts arms) + count (results_given M e.diagram 0 arms ts) =
      given_both d n (arms_inside M e.diagram ts arms) (results_given M e.diagram 0 arms ts) in
      let s : sources_of (ls ++ map (give_line e) arms) ≡ sources_of ls + sources_of (map (give_line e) arms) = lines_both d n ls (map (give_line e) arms) in
      let h : count (arms_inside M e.diagram ts arms) + count (results_given M e.diagram 0 arms ts) ≤ sources_of ls = case_holds M e arms arms 0 (e.line + 1) ts in
      omega (arith, x, s, h)
  kind_holds free called objects M ok e (Sequence parts) = parts_hold M e None [] parts
  kind_holds free called objects M ok e (InPlace ts body finish) =
      let ins : List Given = lines_inside M e.diagram body None ts in
      let outs : List Given = lines_outside M ok e.diagram body ts in
      let y : count (ins ++ outs) ≡ count ins + count outs = given_both d n ins outs in
      let rest : count ins + count outs ≤ sources_of (border_lines e (body ∷ []) [] border (e.line + 1) ts) = borders_hold M ok e body None [] (e.line + 1) ts in
      omega (arith, y, rest)

  entries_hold : (free : Freedom) (called : Callees) (objects : Objects) (M : Types) (es : List Entry)
      → count (entries_given called objects M es) ≤ sources_of (entries_lines free es)
  entries_hold free called objects M [] = omega arith
  entries_hold free called objects M (e ∷ es) =
      let own : List Given = kind_given called objects M (has_rows M e) e.diagram e.kind in
      let more : List Given = entries_given called objects M es in
      let x : count (own ++ more) ≡ count own + count more = given_both d n own more in
      let s : sources_of (kind_lines free e e.kind ++ entries_lines free es) ≡ sources_of (kind_lines free e e.kind) + sources_of (entries_lines free es) =
      lines_both d n (kind_lines free e e.kind) (entries_lines free es) in
      let h : count own ≤ sources_of (kind_lines free e e.kind) = kind_holds free called objects M (has_rows M e) e e.kind in
      let rest : count more ≤ sources_of (entries_lines free es) = entries_hold free called objects M es in
      omega (arith, x, s, h, rest)

  controls_hold : (line : ℕ) (items : List PanelItem) → count (controls_given items) ≤ sources_of (control_lines line items)
  controls_hold line [] = omega arith
  controls_hold line (Control name t required default out ∷ items) =
      let x : count (given 0 out (Some t) ++ controls_given items) ≡ count (given 0 out (Some t)) + count (controls_given items) = given_both d n (given 0 out (Some t)) (controls_given items) in
      let i : count (given 0 out (Some t)) ≡ wire_hit d n 0 out = given_is d n 0 out (Some t) in
      let rest : count (controls_given items) ≤ sources_of (control_lines (line + 1) items) = controls_hold (line + 1) items in
      omega (arith, x, i, rest)
  controls_hold line (Indicator name t w ∷ items) = controls_hold (line + 1) items

  -- each name of a diagram is given as often by the ports of a VI at least
  pub given_at_ports : (called : Callees) (vis : List Vi) (vi : Vi) (M : Types) → count (all_given called vi.panel (entries_of vi) M) ≤ port_count d n (ports_of vis vi)
  given_at_ports called vis vi M =
      let own : List Given = controls_given vi.panel in
      let more : List Given = entries_given called (panel_type vi.panel) M (entries_of vi) in
      let first : List Line = control_lines 1 vi.panel in
      let ls : List Line = entries_lines (freedom vis) (entries_of vi) in
      let x : count (own ++ more) ≡ count own + count more = given_both d n own more in
      let s : sources_of (first ++ ls) ≡ sources_of first + sources_of ls = lines_both d n first ls in
      let p : port_count d n (ports_in (first ++ ls)) ≡ sources_of (first ++ ls) = in_ports d n (first ++ ls) in
      let c : count own ≤ sources_of first = controls_hold 1 vi.panel in
      let h : count more ≤ sources_of ls = entries_hold (freedom vis) called (panel_type vi.panel) M (entries_of vi) in
      omega (arith, x, s, p, c, h)
