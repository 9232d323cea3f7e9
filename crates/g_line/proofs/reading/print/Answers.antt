use Rattle.std.proofs.Common.{map, arith}
use Rattle.std.specs.String.{string_bytes}
use Rattle.std.proofs.lemmas.List.{length-map}
use Rattle.g_line.proofs.Stops.{has_print, stops_print}
use Rattle.g_line.proofs.reading.print.Goals as goal

pub returns-then-words-gt1-clause-refused : goal.returns-then-words-gt1-clause-refused
returns-then-words-gt1-clause-refused c = stops_print (map string_bytes c.args.words.now) c.requires (omega (arith, c.if-words-gt1.true, length-map c.args.words.now string_bytes))

pub returns-clause-has : goal.returns-clause-has
returns-clause-has c = has_print (map string_bytes c.args.words.now) c.requires (omega (arith, c.if-words-gt1.false, length-map c.args.words.now string_bytes))
