-- What is known of a VI of a hierarchy in which none of the rules on names, lines and wires is broken.
use Rattle.std.proofs.Common.{◌≡◌, inl, ℕ, true, false, ◌||◌, List, [], ◌∷◌, ◌++◌, map, length, Option, Some, None, refl, ap}
use Rattle.std.specs.Prelude.{is_some, slice_get, if◌then◌else◌}
use Rattle.std.specs.Option.{option_map}
use Rattle.std.proofs.lemmas.Bool.{false≢true}
use Rattle.g_diagram.specs.declared.place.Break.{Break}
use Rattle.g_diagram.specs.declared.panel.PanelItem.{PanelItem}
use Rattle.g_diagram.specs.declared.hierarchy.Hierarchy.{Hierarchy}
use Rattle.g_diagram.specs.declared.hierarchy.Vi.{Vi}
use Rattle.g_diagram.specs.Lines.{Entry, entries_of}
use Rattle.g_diagram.specs.Ports.{ports_of, first_vi}
use Rattle.g_rules_breaks.specs.Breaks.{has_break}
use Rattle.g_rules_breaks.proofs.Ordered.{same_itself}
use Rattle.g_rules_lines.specs.Callees.{arity, arities}
use Rattle.g_rules_lines.specs.Arity.{miscounted}
use Rattle.g_rules_lines.specs.CaseResults.{resultless}
use Rattle.g_rules_lines.specs.CaseValues.{reselected}
use Rattle.g_rules_lines.specs.InPlaceBodies.{misplaced}
use Rattle.g_rules_lines.specs.Lists.{Known, known_of, called_by, structured_by}
use Rattle.g_rules_lines.specs.LoopCounts.{countless}
use Rattle.g_rules_lines.specs.PanelObjects.{panel_name}
use Rattle.g_rules_lines.specs.Queues.{is_unequal, first_queue, all_queues, unequal}
use Rattle.g_rules_lines.specs.RepeatedNames.{renamed_items}
use Rattle.g_rules_lines.specs.Spots.{break, spot_at, whole}
use Rattle.g_rules_lines.specs.UnknownVis.{absent_main}
use Rattle.g_wires.specs.Breaks.{plain_breaks, IsWiring}
use Rattle.g_infer_laws.proofs.Rules.{NoBreak, no_front, no_back, none_told, none_kept, none_lined, none_called}
use Rattle.g_accepted.proofs.Facts.{IsIn, of_one}
use Rattle.g_accepted.proofs.Panels.{one_of_name}

no_list : (bs : List Break) → NoBreak bs → bs ≡ []
no_list [] none = refl
no_list (b ∷ bs) none = absurd (none b (ap (λ v. v || has_break bs b) (same_itself b)))

-- MAIN is there
pub main_there : (h : Hierarchy) (main : List ℕ) → IsWiring h main [] → is_some (first_vi h.vis main) ≡ true
main_there h main wiring = by (first_vi h.vis main) (no_list (absent_main (arities h.vis) (length h.vis) main) none)
  where
    none : NoBreak (absent_main (arities h.vis) (length h.vis) main)
    none = no_back (plain_breaks (ports_of h.vis) (known_of h.vis) h.vis) (absent_main (arities h.vis) (length h.vis) main) (λ b has. false≢true (wiring.each b (inl has)))

    by : (o : Option Vi) → (if is_some (option_map arity o) then [] else break (length h.vis) 9 (spot_at 0 0) ∷ []) ≡ [] → is_some o ≡ true
    by None e = absurd (cc e)
    by (Some v) e = refl

module _ (h : Hierarchy) (main : List ℕ) (wiring : IsWiring h main []) (k : ℕ) (vi : Vi) (stands : slice_get h.vis k ≡ Some vi) where
  abbrev es : List Entry
  es = entries_of vi

  abbrev known : Known
  known = known_of h.vis

  structured : NoBreak (structured_by known.queues k es)
  structured = no_back (called_by known.arities k vi.panel es) (structured_by known.queues k es) (none_lined h main wiring k vi stands)

  past_results : NoBreak (map (break k 12) (misplaced es) ++ (map (break k 13) (countless es) ++ map (break k 14) (unequal known.queues es)))
  past_results = no_back (map (break k 11) (resultless es)) _ (no_back (map (break k 10) (reselected es)) _ structured)

  -- no node stands where it may not
  pub none_misplaced : misplaced es ≡ []
  none_misplaced = none_told (break k 12) (misplaced es) (no_front (map (break k 12) (misplaced es)) _ past_results)

  -- an `obtain` is like the first of its name
  pub equal_queues : (e : Entry) → IsIn e es → is_unequal (first_queue (all_queues h.vis)) e.kind ≡ false
  equal_queues e is =
      of_one (λ x. is_unequal known.queues x.kind ≡ false) es
      (none_kept whole (λ x. is_unequal known.queues x.kind) es
      (none_told (break k 14) (unequal known.queues es)
      (no_back (map (break k 13) (countless es)) (map (break k 14) (unequal known.queues es)) (no_back (map (break k 12) (misplaced es)) _ past_results))))
      e is

  -- the objects of a panel have names of their own
  pub one_item : (x y : PanelItem) → IsIn x vi.panel → IsIn y vi.panel → panel_name x ≡ panel_name y → x ≡ y
  one_item =
      one_of_name panel_name (λ l. break k 7 (spot_at l 0)) 1 [] vi.panel
      (no_list (renamed_items k vi.panel)
      (no_front (renamed_items k vi.panel) _ (no_back (map (break k 5) (miscounted known.arities es)) _ (none_called h main wiring k vi stands))))
