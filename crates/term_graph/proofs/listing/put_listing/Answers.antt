-- Behind the lines of the products comes the name of the term.
use Rattle.std.proofs.Common.{[], ◌∷◌, ◌++◌, refl}
use Rattle.wb_base.proofs.StreamLemmas.{Puts-stopped, Puts-stopped_after, Puts-more, append_known-two}
use Rattle.wb_base.proofs.WaitingLemmas.{waits-stopped, waits-stopped_after, waits-more}
use Rattle.wb_base.specs.Lines.{line}
use Rattle.term_graph.specs.Listings.{distinct_products, name_text, product_lines, listing_text}
use Rattle.term_graph.specs.TermLists.{term_at}
use Rattle.term_graph.proofs.ListingLemmas.{root-listed}
use Rattle.term_graph.proofs.LineTextLemmas.{listing_text-parts}
use Rattle.term_graph.proofs.listing.put_listing.Goals as goal

pub put_name-requires-clause-listed : goal.put_name-requires-clause-listed
put_name-requires-clause-listed g c = root-listed c.args.graph.now _ _ c.root.ensures

pub returns-in_err-put_products-clause-took : goal.returns-in_err-put_products-clause-took
unfolding listing_text
returns-in_err-put_products-clause-took g c =
    let root = term_at c.args.graph.now c.args.listing.now.root in
    Puts-stopped _ _ _ _ (product_lines (distinct_products root) 1 (distinct_products root))
    (line (name_text (distinct_products root) root))
    refl c.from_residual.ensures.0 c.in_err-put_products.ensures.took

pub returns-in_err-put_products-clause-waits : goal.returns-in_err-put_products-clause-waits
unfolding listing_text
returns-in_err-put_products-clause-waits g c =
    let root = term_at c.args.graph.now c.args.listing.now.root in
    waits-stopped _ _ _ (product_lines (distinct_products root) 1 (distinct_products root))
    (line (name_text (distinct_products root) root))
    refl c.in_err-put_products.ensures.waits

pub returns-in_err-put_name-clause-took : goal.returns-in_err-put_name-clause-took
returns-in_err-put_name-clause-took g c =
    let root = term_at c.args.graph.now c.args.listing.now.root in
    Puts-stopped_after _ _ _ _ _ (product_lines (distinct_products root) 1 (distinct_products root))
    (name_text (distinct_products root) root) (10 ∷ [])
    (listing_text-parts root) c.from_residual-in_err-put_name.ensures.0 c.in_ok-put_products.ensures.took
    (rw c.root.ensures at c.in_err-put_name.ensures.took)

pub returns-in_err-put_name-clause-waits : goal.returns-in_err-put_name-clause-waits
returns-in_err-put_name-clause-waits g c =
    let root = term_at c.args.graph.now c.args.listing.now.root in
    waits-stopped_after _ _ _ _ (product_lines (distinct_products root) 1 (distinct_products root))
    (name_text (distinct_products root) root) (10 ∷ [])
    (listing_text-parts root) c.in_ok-put_products.ensures.waits
    (rw c.root.ensures at c.in_err-put_name.ensures.waits)

pub returns-clause-took : goal.returns-clause-took
returns-clause-took g c =
    let root = term_at c.args.graph.now c.args.listing.now.root in
    let lines = product_lines (distinct_products root) 1 (distinct_products root) in
    let name = name_text (distinct_products root) root in
    let both = append_known-two _ _ _ lines name c.in_ok-put_products.ensures.took
    (rw c.root.ensures at c.in_ok-put_name.ensures.took) in
    Puts-more _ _ _ _ _ (lines ++ name) (10 ∷ []) (listing_text-parts root) both c.give_all.ensures.took

pub returns-clause-waits : goal.returns-clause-waits
returns-clause-waits g c =
    let root = term_at c.args.graph.now c.args.listing.now.root in
    let lines = product_lines (distinct_products root) 1 (distinct_products root) in
    let name = name_text (distinct_products root) root in
    let both = waits-more _ _ _ _ lines name refl c.in_ok-put_products.ensures.waits
    (rw c.root.ensures at c.in_ok-put_name.ensures.waits) in
    waits-more _ _ _ _ (lines ++ name) (10 ∷ []) (listing_text-parts root) both c.give_all.ensures.waits
