use Rattle.std.proofs.Common.{◌≡◌, ◌∙◌, ap, arith, refl, Ok, Err, Result, IfOk, List, [], ◌∷◌, ◌++◌}
use Rattle.g_tokens.specs.declared.token.Token.{Token}
use Rattle.g_tokens.specs.declared.token.Spot.{Spot}
use Rattle.g_tokens.specs.declared.token.Tokens.{Tokens}
use Rattle.g_tokens.proofs.Breaks.{more_bytes, new_line, at_end}
use Rattle.g_tokens.proofs.lines.listing_tokens.Goals as goal
use Rattle.g_tokens.proofs.lines.listing_tokens.Goals.{then-bytes-i-eq10+in_ok-out, else-bytes-i-eq10}

abbrev t : Token × Spot → Token
t x = x.0

abbrev p : Token × Spot → Spot
p x = x.1

pub loop-i-preserved : goal.loop-i-preserved
loop-i-preserved c = elim c.if-bytes-i-eq10.branch [
  | then-bytes-i-eq10+in_ok-out w ↦ rw (w.out-is, w.from-is, w.line-is) (record {
    before = omega arith;
    few = let h = c.loop-i.invariant.few in omega arith;
    tokens = new_line t c.args.bytes.now _ c.loop-i.from c.loop-i.i c.loop-i.line c.loop-i.out.tokens _ w.content.result.now c.loop-i-test.true w.if-bytes-i-eq10.true w.content.ensures w.in_ok-out.ensures.tokens c.loop-i.invariant.tokens;
    places = new_line p c.args.bytes.now _ c.loop-i.from c.loop-i.i c.loop-i.line c.loop-i.out.places _ w.content.result.now c.loop-i-test.true w.if-bytes-i-eq10.true w.content.ensures w.in_ok-out.ensures.places c.loop-i.invariant.places;
  })
  | else-bytes-i-eq10 w ↦ rw (w.out-is, w.from-is, w.line-is) (record {
    before = let h = c.loop-i.invariant.before in omega arith;
    few = let h = c.loop-i.invariant.few in omega arith;
    tokens = more_bytes t c.args.bytes.now _ c.loop-i.from c.loop-i.i c.loop-i.line c.loop-i.out.tokens c.loop-i.invariant.before c.loop-i-test.true w.if-bytes-i-eq10.false c.loop-i.invariant.tokens;
    places = more_bytes p c.args.bytes.now _ c.loop-i.from c.loop-i.i c.loop-i.line c.loop-i.out.places c.loop-i.invariant.before c.loop-i-test.true w.if-bytes-i-eq10.false c.loop-i.invariant.places;
  })
]

ok_tokens : {E : Type 0} (r : Result Tokens E) (a b : List Token) → a ≡ b → IfOk r (λ r. r.tokens ≡ a) → IfOk r (λ r. r.tokens ≡ b)
ok_tokens (Ok x) a b e h = h ∙ e
ok_tokens (Err x) a b e h = tt

ok_places : {E : Type 0} (r : Result Tokens E) (a b : List Spot) → a ≡ b → IfOk r (λ r. r.places ≡ a) → IfOk r (λ r. r.places ≡ b)
ok_places (Ok x) a b e h = h ∙ e
ok_places (Err x) a b e h = tt

pub returns-clause-tokens : goal.returns-clause-tokens
returns-clause-tokens c =
    ok_tokens c.with.result _ _
    (at_end t c.args.bytes.now _ c.loop-i.from c.loop-i.i c.loop-i.line c.loop-i.out.tokens c.in_ok-out-2.out.tokens _ c.content-2.result.now c.loop-i-test.false (let h = c.loop-i.auto.i-end in omega arith)
    c.content-2.ensures c.in_ok-out-2.ensures.tokens refl c.loop-i.invariant.tokens) c.with.ensures.tokens

pub returns-clause-places : goal.returns-clause-places
returns-clause-places c =
    ok_places c.with.result _ _
    (ap (λ (s : Spot). c.in_ok-out-2.out.places ++ s ∷ []) c.spot.ensures
    ∙ at_end p c.args.bytes.now _ c.loop-i.from c.loop-i.i c.loop-i.line c.loop-i.out.places c.in_ok-out-2.out.places _ c.content-2.result.now c.loop-i-test.false (let h = c.loop-i.auto.i-end in omega arith)
    c.content-2.ensures c.in_ok-out-2.ensures.places refl c.loop-i.invariant.places) c.with.ensures.places
