use Rattle.g_hier_laws.proofs.Linking.{counted}
use Rattle.g_hier_laws.proofs.Rising.{own_lines}
use Rattle.g_hier_laws.proofs.link_laws.Goals as goal

pub returns : goal.returns
returns c = record { counted = counted; lines = own_lines }
