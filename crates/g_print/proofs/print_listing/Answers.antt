use Rattle.std.proofs.Common.{[], ◌++◌, List, ℕ, ap, sym, subst, ◌∙◌, codes}
use Rattle.std.proofs.lemmas.List.{append-nil}
use Rattle.g_diagram.specs.Text as spec
use Rattle.g_listing_grammar.specs.Listing.{IsListing}
use Rattle.g_print_laws.proofs.ListingParts.{reads_back, alone}
use Rattle.g_print.proofs.print_listing.Goals as goal

pub returns-clause-text : goal.returns-clause-text
returns-clause-text c =
    let vis = spec.vis_text c.as_slice.result.now [] in
    c.into_bytes.ensures
    ∙ sym (append-nil c.write_vis.new.page)
    ∙ c.in_ok-write_vis.ensures []
    ∙ c.in_ok-bare_line.ensures.text vis
    ∙ ap (λ l. l ++ spec.bare_line 0 (codes "glisting 1") vis) c.new-page.ensures
    ∙ ap (λ l. spec.bare_line 0 (codes "glisting 1") (spec.vis_text l [])) c.as_slice.ensures

pub returns-clause-reads_back : goal.returns-clause-reads_back
returns-clause-reads_back c bytes are has =
    subst (λ (text : List ℕ). IsListing text c.args.h.now) (sym (returns-clause-text c)) (reads_back bytes c.args.h.now are has)

pub returns-clause-only : goal.returns-clause-only
returns-clause-only c bytes g are has reads =
    alone bytes c.args.h.now g are has (subst (λ (text : List ℕ). IsListing text g) (returns-clause-text c) reads)
