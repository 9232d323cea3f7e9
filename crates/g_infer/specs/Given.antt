-- Inner: what a line gives to a source, as the definitions have it.
use Rattle.g_typing.specs.Typing as typing
use Rattle.g_infer.specs.declared.giving.Given.{Given}

abbrev pub seen_given : Given → typing.Given
seen_given g = record { diagram = g.diagram; name = g.name.now; type = g.ty }
