use Rattle.std.proofs.Common.{◌≡◌, ◌+◌, Bool, sym, ap, ◌∙◌}
use Rattle.std.specs.Prelude.{if◌then◌else◌, is_some}
use Rattle.std.specs.BTreeMap.{btree_map_len}
use Rattle.g_wires.proofs.NumberLemmas.{Adds, numbers_more, has_new, has_kept, port_has}
use Rattle.g_wires.proofs.coded.add_wire.Goals as goal

pub returns-then-contains_key-clause-has : goal.returns-then-contains_key-clause-has
returns-then-contains_key-clause-has c = port_has c.args.numbers.now c.args.port.now c.in-Some.name c.as_slice.result.now c.in-Some.is c.as_slice.ensures (sym c.contains_key.ensures ∙ c.if-contains_key.true)

adds : (c : goal.In_ok-insert) → Adds c.args.numbers.now c.insert.new.self c.args.port.now.diagram c.as_slice.result.now c.len-next.result
adds c = record {
  at = λ e other. c.in_ok-insert.ensures.updates.0 (e, record { ref_ptr = (0, 0); now = other });
  long =
      let none : is_some c.in_ok-insert.field-0 ≡ _ = ap is_some c.in_ok-insert.ensures.old ∙ sym c.contains_key.ensures ∙ c.if-contains_key.false in
      c.in_ok-insert.ensures.len ∙ ap (λ (b : Bool). btree_map_len c.args.numbers.now + (if b then 0 else 1)) none ∙ ap (λ n. n + 1) (sym c.len-next.ensures.len);
  next = sym c.len-next.ensures.len;
}

pub returns-clause-numbers : goal.returns-clause-numbers
returns-clause-numbers c = λ n. numbers_more c.args.numbers.now c.insert.new.self c.args.port.now.diagram c.as_slice.result.now c.len-next.result (adds c) n

pub returns-clause-has : goal.returns-clause-has
returns-clause-has c = port_has c.insert.new.self c.args.port.now c.in-Some.name c.as_slice.result.now c.in-Some.is c.as_slice.ensures
    (has_new c.args.numbers.now c.insert.new.self c.args.port.now.diagram c.as_slice.result.now c.len-next.result (adds c))

pub returns-clause-keeps : goal.returns-clause-keeps
returns-clause-keeps c = λ p h. has_kept c.args.numbers.now c.insert.new.self c.args.port.now.diagram c.as_slice.result.now c.len-next.result (adds c) p h
