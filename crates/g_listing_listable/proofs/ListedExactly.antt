-- Exactly what can be listed is had by some bytes.
use Rattle.g_listing_listable.specs.Listable.{ListedExactly, CanonicalLists}
use Rattle.g_listing_listable.proofs.ReadListing.{listed}
use Rattle.g_listing_listable.proofs.MakeListing.{written}
use Rattle.g_listing_listable.proofs.WrittenNodes.{text_bytes}
use Rattle.g_diagram.specs.Text.{text_of}

pub canonical : CanonicalLists
canonical h can = (text_bytes h can, written h can)

pub exactly : ListedExactly
exactly h = (λ l. listed l.0 h l.1 l.2, λ can. (text_of h, text_bytes h can, written h can))
