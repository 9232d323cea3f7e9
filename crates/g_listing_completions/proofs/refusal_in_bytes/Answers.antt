use Rattle.g_listing_completions.proofs.Refused.{refused_in_bytes}
use Rattle.g_listing_completions.proofs.refusal_in_bytes.Goals as goal

pub returns : goal.returns
returns c = refused_in_bytes
