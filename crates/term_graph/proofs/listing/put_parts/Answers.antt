-- The names of the parts are put in three calls.
use Rattle.std.proofs.Common.{◌++◌, codes, append_assoc, refl, sym}
use Rattle.wb_base.proofs.StreamLemmas.{Puts-stopped, Puts-stopped_after, Puts-more, append_known-two}
use Rattle.term_graph.specs.Listings.{distinct_products, name_text}
use Rattle.term_graph.specs.TermLists.{term_at}
use Rattle.term_graph.proofs.ListingLemmas.{listed-left, listed-right}
use Rattle.term_graph.proofs.listing.put_parts.Goals as goal

pub put_name-requires-clause-listed : goal.put_name-requires-clause-listed
put_name-requires-clause-listed g c =
    listed-left _ (term_at c.args.graph.now c.args.parts.0) (term_at c.args.graph.now c.args.parts.1)
    c.requires.listed

pub returns-in_err-put_name-clause-took : goal.returns-in_err-put_name-clause-took
returns-in_err-put_name-clause-took g c =
    let listed = distinct_products (term_at c.args.graph.now c.args.listing.now.root) in
    let left = name_text listed (term_at c.args.graph.now c.args.parts.0) in
    let right = name_text listed (term_at c.args.graph.now c.args.parts.1) in
    Puts-stopped _ _ _ _ left (codes "*" ++ right) refl c.from_residual.ensures.0
    c.in_err-put_name.ensures.took

pub returns-in_err-give_all-clause-took : goal.returns-in_err-give_all-clause-took
returns-in_err-give_all-clause-took g c =
    let listed = distinct_products (term_at c.args.graph.now c.args.listing.now.root) in
    let left = name_text listed (term_at c.args.graph.now c.args.parts.0) in
    let right = name_text listed (term_at c.args.graph.now c.args.parts.1) in
    Puts-stopped_after _ _ _ _ _ left (codes "*") right (sym (append_assoc left (codes "*") right))
    c.from_residual-in_err-give_all.ensures.0 c.in_ok-put_name.ensures.took c.in_err-give_all.ensures.took

pub put_name-requires-2-clause-listed : goal.put_name-requires-2-clause-listed
put_name-requires-2-clause-listed g c =
    listed-right _ (term_at c.args.graph.now c.args.parts.0) (term_at c.args.graph.now c.args.parts.1)
    c.requires.listed

pub returns-clause-took : goal.returns-clause-took
returns-clause-took g c =
    let listed = distinct_products (term_at c.args.graph.now c.args.listing.now.root) in
    let left = name_text listed (term_at c.args.graph.now c.args.parts.0) in
    let right = name_text listed (term_at c.args.graph.now c.args.parts.1) in
    let both = append_known-two _ _ _ left (codes "*") c.in_ok-put_name.ensures.took
    c.in_ok-give_all.ensures.took in
    Puts-more _ _ _ _ _ (left ++ codes "*") right (sym (append_assoc left (codes "*") right)) both
    c.put_name-2.ensures.took
