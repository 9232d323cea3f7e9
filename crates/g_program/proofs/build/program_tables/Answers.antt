use Rattle.std.proofs.Common.{◌≡◌, ℕ, List, [], map, refl, ap, sym, ◌∙◌, subst}
use Rattle.std.specs.Ordering.{nat_cmp}
use denote.Ref.{Bor}
use Rattle.g_diagram.specs.declared.hierarchy.Vi.{Vi}
use Rattle.g_hier.specs.LinkOrder.{has_vi}
use Rattle.g_hier.specs.Walking.{space_cmp}
use Rattle.g_frames.specs.declared.program.CellPlace.{CellPlace}
use Rattle.g_frames.specs.declared.program.KeptPlace.{KeptPlace}
use Rattle.g_frames.specs.declared.program.QueueName.{QueueName}
use Rattle.g_frames.specs.Program.{FlatVi, flat_vis, first_of_each, queues_in, pools_in, in_spaces, cell_on, kept_on}
use Rattle.g_vi_tables.specs.declared.table.ViTable.{ViTable}
use Rattle.g_vi_tables.specs.Numbers.{AreNumbers as AreNameNumbers}
use Rattle.g_program.specs.declared.queues.ObtainLine.{ObtainLine}
use Rattle.g_program.specs.Numbers.{AreNumbers}
use Rattle.g_program.specs.Queues.{is_in, seen_queue}
use Rattle.g_program.specs.Tables.{AreAllTables, line_cmp}
use Rattle.g_program.proofs.TableLemmas.{flat-names, obtained_in, pooled_in}
use Rattle.g_program.proofs.build.program_tables.Goals as goal

pub returns : goal.returns
returns c = λ types are.
    let all : List Vi = c.args.h.now.vis in
    let vis : List FlatVi = flat_vis all types 0 all in
    let order : List ℕ = c.args.linked.now.order in
    let main : ℕ = c.args.linked.now.main in
    let there : (ts : List ViTable) → ts ≡ c.args.vis.items → AreAllTables vis ts = λ ts same. subst (AreAllTables vis) (sym same) are in
    let known : (v : ℕ) → is_in c.in_ok-reached.reached v ≡ has_vi order v = λ v. c.in_ok-reached.ensures v ∙ ap (λ (os : List ℕ). has_vi os v) c.as_slice-2.ensures in
    let queues : List QueueName = first_of_each (queues_in order 0 vis) [] in
    let lines : map seen_queue c.in_ok-lines.lines.items ≡ queues =
    c.in_ok-lines.ensures vis (there c.as_slice-3.result.now c.as_slice-3.ensures.value)
    ∙ ap (λ (qs : List QueueName). first_of_each qs []) (obtained_in (is_in c.in_ok-reached.reached) order known 0 vis) in
    let cells : c.in_ok-cells.cells.items ≡ in_spaces (λ space vi e. cell_on vi.types space e e.kind) vis 0 c.args.linked.now.spaces =
    c.in_ok-cells.ensures vis (there c.as_slice-5.result.now c.as_slice-5.ensures.value)
    ∙ ap (in_spaces (λ space vi e. cell_on vi.types space e e.kind) vis 0) c.as_slice-spaces.ensures in
    let kept : c.in_ok-kept.kept.items ≡ in_spaces (λ space vi e. kept_on space e e.kind) vis 0 c.args.linked.now.spaces =
    c.in_ok-kept.ensures vis (there c.as_slice-7.result.now c.as_slice-7.ensures.value) ∙ ap (in_spaces (λ space vi e. kept_on space e e.kind) vis 0) c.as_slice-spaces.ensures in
    let pools : c.in_ok-pools.pools.items ≡ pools_in order main 0 vis =
    c.in_ok-pools.ensures vis (there c.as_slice-9.result.now c.as_slice-9.ensures.value) ∙ pooled_in (is_in c.in_ok-reached.reached) order known main 0 vis in
    let name : Bor (List ℕ) → List ℕ = λ n. n.now in
    let cell_line : CellPlace → ℕ × ℕ = λ x. (x.space, x.line) in
    let kept_line : KeptPlace → ℕ × ℕ = λ k. (k.space, k.line) in
    record {
      main_is = refl;
      vis_are = are;
      spaces_are = c.as_slice-spaces.ensures;
      queues_are = c.in_ok-owned.ensures ∙ ap (map seen_queue) c.as_slice-12.ensures.value ∙ lines;
      cells_are = cells;
      kept_are = kept;
      pools_are = pools;
      vi_numbers_are = subst (λ ns. AreNameNumbers ns c.in_ok-of.field-0)
          (ap (map name) c.as_slice-11.ensures.value ∙ c.in_ok-names.ensures ∙ ap (map (λ (vi : Vi). vi.name)) c.as_slice.ensures ∙ sym (flat-names all types 0 all)) c.in_ok-of.ensures;
      queue_numbers_are = subst (λ ns. AreNameNumbers ns c.in_ok-of-3.field-0)
          (ap (map name) c.as_slice-13.ensures.value ∙ c.in_ok-queue_names.ensures ∙ ap (λ (ls : List ObtainLine). map (λ (q : QueueName). q.name) (map seen_queue ls)) c.as_slice-4.ensures.value
          ∙ ap (map (λ (q : QueueName). q.name)) lines) c.in_ok-of-3.ensures;
      space_numbers_are = subst (λ ks. AreNumbers space_cmp ks c.in_ok-of-2.field-0) c.as_slice-spaces.ensures c.in_ok-of-2.ensures;
      cell_numbers_are = subst (λ ks. AreNumbers line_cmp ks c.in_ok-of-4.field-0)
          (c.as_slice-14.ensures.value ∙ c.in_ok-cell_lines.ensures ∙ ap (map cell_line) (c.as_slice-6.ensures.value ∙ cells)) c.in_ok-of-4.ensures;
      kept_numbers_are = subst (λ ks. AreNumbers line_cmp ks c.in_ok-of-5.field-0)
          (c.as_slice-15.ensures.value ∙ c.in_ok-kept_lines.ensures ∙ ap (map kept_line) (c.as_slice-8.ensures.value ∙ kept)) c.in_ok-of-5.ensures;
      pool_numbers_are = subst (λ ks. AreNumbers nat_cmp ks c.in_ok-pool_numbers.pool_numbers) (c.as_slice-10.ensures.value ∙ pools) c.in_ok-pool_numbers.ensures;
    }
