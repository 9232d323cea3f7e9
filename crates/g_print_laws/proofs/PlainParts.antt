-- Nodes without diagrams, and the words that begin nodes.
use Rattle.std.proofs.Common.{◌≡◌, ℕ, zero, suc, Bool, true, false, cond, List, ◌∷◌, ◌++◌, map, ℤ, pos, negsuc, Option, Some, None, refl, sym, ap, ◌∙◌, subst, codes, arith}
use Rattle.std.specs.Prelude.{nat_le}
use Rattle.std.specs.Fmt.{signed_decimal}
use Rattle.std.proofs.lemmas.Bool.Decides.{nat_tests}
use Rattle.g_grammar.specs.Grammar.{take}
use Rattle.g_values.specs.declared.primitive.Primitive.TheVariants as primitive
use Rattle.g_tokens.specs.declared.token.Token.TheVariants as token
use Rattle.g_diagram.specs.declared.node.Node.{Node}
use Rattle.g_diagram.specs.Text as text
use Rattle.g_diagram.specs.Words.{primitive_text, shared_text}
use Rattle.g_print_laws.proofs.TextLemmas.{node-Const, node-Apply, node-Shared, node-Obtain, node-Read, node-Write, node-Call}
use Rattle.g_listing_grammar.specs.declared.NodeWord.{NodeWord}
use Rattle.g_listing_grammar.specs.declared.NodeWord.TheVariants as word_of
use Rattle.g_listing_grammar.specs.declared.PlainWord.{PlainWord}
use Rattle.g_listing_grammar.specs.declared.PlainWord.TheVariants as plain
use Rattle.g_listing_grammar.specs.declared.StructureWord.{StructureWord}
use Rattle.g_listing_grammar.specs.declared.StructureWord.TheVariants as structure
use Rattle.g_listing_grammar.specs.Words.{node_words, or_operation, node_named, queue_size, between, as_pos}
use Rattle.g_listing_grammar.specs.Types.{is_above}
use Rattle.g_listing_grammar.specs.Nodes.{fitting_node, node_first, operation_rest, plain_rest}
use Rattle.g_listing_words.specs.Operations.{lookup, operation_row, words_of, operation_of, in_version, operation_named}
use Rattle.g_listing_words.specs.declared.Operation.{Operation}
use Rattle.g_listing_words.specs.declared.Operation.TheVariants as operation
use Rattle.g_listing_words.specs.declared.TheConstants.{OPERATIONS}
use Rattle.g_print_laws.proofs.Lexing.{Inside, Full}
use Rattle.g_print_laws.proofs.NumberPieces.{number_piece}
use Rattle.g_print_laws.proofs.Tables.{named}
use Rattle.g_print_laws.proofs.Parts.{Rest, Rested, Filled, Says, Goes, gives, binds, one, Stands, some_is, name_says, last_wire_says, to_wire_says, operands_says}
use Rattle.g_print_laws.proofs.BorderParts.{ty_says, literal_says, text_says, field_says, between_is, with_space, a_line, stop_at}

-- ---- the words

abbrev pub operation_word : Operation → List ℕ
operation_word (operation.Apply p) = primitive_text p
operation_word operation.Get = codes "get"
operation_word operation.Set = codes "set"
operation_word (operation.Shared s) = shared_text s

abbrev pub plain_word : PlainWord → List ℕ
plain_word plain.Const = codes "const"
plain_word (plain.Operation o) = operation_word o
plain_word plain.Obtain = codes "obtain"
plain_word plain.Read = codes "read"
plain_word plain.Write = codes "write"
plain_word plain.Call = codes "call"

abbrev pub structure_word : StructureWord → List ℕ
structure_word structure.For = codes "for"
structure_word structure.While = codes "while"
structure_word structure.Case = codes "case"
structure_word structure.Sequence = codes "sequence"
structure_word structure.InPlace = codes "inplace"

abbrev pub spelled : NodeWord → List ℕ
spelled (word_of.Plain w) = plain_word w
spelled (word_of.Structure s) = structure_word s

word_is : (u : List ℕ) (o : Operation) → operation_of u ≡ Some o → u ≡ operation_word o
unfolding operation_of
word_is = named operation_word (words_of OPERATIONS) refl

operation_is : (v : ℕ) (u : List ℕ) (o : Operation) → operation_named v u ≡ Some o → u ≡ operation_word o
operation_is v u o e = go (operation_of u) refl e
  where
    in_row : (x : Operation) (b : Bool) → cond b (Some x) None ≡ Some o → x ≡ o
    in_row x true f = some_is f
    in_row x false f = absurd cc

    go : (r : Option Operation) → operation_of u ≡ r → in_version v r ≡ Some o → u ≡ operation_word o
    go None f h = absurd cc
    go (Some x) f h = word_is u x f ∙ ap operation_word (in_row x (nat_le (operation_row x).since v) h)

named_is : (v : ℕ) (u : List ℕ) (c : NodeWord) → node_named v u ≡ Some c → u ≡ spelled c
named_is v u c e = go (lookup node_words u) (operation_named v u) refl refl e
  where
    go : (a : Option NodeWord) (b : Option Operation) → lookup node_words u ≡ a → operation_named v u ≡ b → or_operation a b ≡ Some c → u ≡ spelled c
    go (Some w) b f g h = named spelled node_words refl u w f ∙ ap spelled (some_is h)
    go None None f g h = absurd cc
    go None (Some o) f g h = operation_is v u o g ∙ ap spelled (some_is h)

fits : (n : ℕ) (o : Option NodeWord) (c : NodeWord) → fitting_node n o ≡ Some c → o ≡ Some c
fits n None c e = absurd cc
fits n (Some (word_of.Plain w)) c e = e
fits n (Some (word_of.Structure s)) c e = go (is_above n) e
  where
    go : (b : Bool) → cond b (Some (word_of.Structure s)) None ≡ Some c → Some (word_of.Structure s) ≡ Some c
    go true f = f
    go false f = absurd cc

pub stands_node : (v n depth : ℕ) → Stands Rested Full (node_first v n) (stop_at depth spelled)
stands_node v n depth (token.Word u) c e g bytes ts r =
    subst (λ (w : List ℕ). Full (text.indent depth (w ++ bytes)) (token.Word u ∷ ts)) (named_is v u c (fits n (node_named v u) c e)) (a_line depth u g r)
stands_node v n depth (token.Mark m) c e g bytes ts r = absurd cc
stands_node v n depth (token.Number z) c e g bytes ts r = absurd cc
stands_node v n depth (token.Text w) c e g bytes ts r = absurd cc
stands_node v n depth token.Eol c e g bytes ts r = absurd cc
stands_node v n depth token.End c e g bytes ts r = absurd cc
stands_node v n depth token.Bad c e g bytes ts r = absurd cc

-- ---- the nodes

size_is : (z n : ℤ) → queue_size (token.Number z) ≡ Some n → z ≡ n
size_is (pos n) m e = go (between 1 1000000 n) refl e
  where
    go : (o : Option ℕ) → between 1 1000000 n ≡ o → as_pos o ≡ Some m → pos n ≡ m
    go None f h = absurd cc
    go (Some k) f h = ap pos (between_is 1 1000000 n k f) ∙ some_is h
size_is (negsuc zero) m e = some_is e
size_is (negsuc (suc n)) m e = absurd (no_more (nat_le (suc n) 0) (below n) e)
  where
    below : (n : ℕ) → nat_le (suc n) 0 ≡ false
    below n = grind (arith, nat_tests)

    no_more : (b : Bool) → b ≡ false → cond b (Some (negsuc 0)) None ≡ Some m → ⊥
    no_more true f h = absurd cc
    no_more false f h = cc

size_says : Says Rested Rest (take queue_size) (λ n bytes. text.word (signed_decimal n) bytes)
size_says = with_space (one queue_size go)
  where
    go : Stands Rested Inside queue_size (λ n bytes. signed_decimal n ++ bytes)
    go (token.Number z) n e g bytes ts r = subst (λ (m : ℤ). Inside (signed_decimal m ++ bytes) (token.Number z ∷ ts)) (size_is z n e) (number_piece z g r.bound r.inside)
    go (token.Mark m) k e g bytes ts r = absurd cc
    go (token.Word w) k e g bytes ts r = absurd cc
    go (token.Text v) k e g bytes ts r = absurd cc
    go token.Eol k e g bytes ts r = absurd cc
    go token.End k e g bytes ts r = absurd cc
    go token.Bad k e g bytes ts r = absurd cc

abbrev pub node_at : ℕ → Node → List ℕ → List ℕ
node_at depth n more = text.node n depth more

operation_goes : (depth : ℕ) (o : Operation) → Goes Filled Rest (operation_rest o) (λ w. text.indent depth (operation_word o ++ w)) (node_at depth)
operation_goes depth (operation.Apply p) = binds operands_says (λ w. gives (λ bytes. sym (node-Apply p w.0 w.1 depth bytes)))
operation_goes depth operation.Get = binds field_says (λ k. binds operands_says (λ w. gives (λ bytes. sym (node-Apply (primitive.Get k) w.0 w.1 depth bytes))))
operation_goes depth operation.Set = binds field_says (λ k. binds operands_says (λ w. gives (λ bytes. sym (node-Apply (primitive.Set k) w.0 w.1 depth bytes))))
operation_goes depth (operation.Shared s) = binds operands_says (λ w. gives (λ bytes. sym (node-Shared s w.0 w.1 depth bytes)))

pub plain_goes : (depth : ℕ) (w : PlainWord) → Goes Filled Rest (plain_rest w) (λ x. text.indent depth (plain_word w ++ x)) (node_at depth)
plain_goes depth plain.Const = binds ty_says (λ t. binds literal_says (λ l. binds to_wire_says (λ o. gives (λ bytes. sym (node-Const t l o depth bytes)))))
plain_goes depth (plain.Operation o) = operation_goes depth o
plain_goes depth plain.Obtain = binds text_says (λ q. binds size_says (λ n. binds ty_says (λ t. binds to_wire_says (λ o. gives (λ bytes. sym (node-Obtain q n t o depth bytes))))))
plain_goes depth plain.Read = binds name_says (λ n. binds to_wire_says (λ o. gives (λ bytes. sym (node-Read n o depth bytes))))
plain_goes depth plain.Write = binds name_says (λ n. binds last_wire_says (λ i. gives (λ bytes. sym (node-Write n i depth bytes))))
plain_goes depth plain.Call = binds name_says (λ n. binds operands_says (λ w. gives (λ bytes. sym (node-Call n w.0 w.1 depth bytes))))
