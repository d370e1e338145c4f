-- The line of a product is put in three calls.
use Rattle.std.proofs.Common.{◌+◌, ◌++◌, [], ◌∷◌, codes, decimal, append_assoc, refl, ◌∙◌}
use Rattle.wb_base.proofs.StreamLemmas.{Puts-stopped, Puts-stopped_after, Puts-more, append_known-two}
use Rattle.wb_base.proofs.WaitingLemmas.{waits-stopped, waits-stopped_after, waits-more}
use Rattle.term_graph.specs.Listings.{distinct_products}
use Rattle.term_graph.specs.Places.{parts_text}
use Rattle.term_graph.specs.TermLists.{term_at}
use Rattle.term_graph.proofs.PlaceLemmas.{listing-product}
use Rattle.term_graph.proofs.LineTextLemmas.{line_at-listed, line_at-parts}
use Rattle.term_graph.proofs.listing.put_product.Goals as goal

pub unreachable-requires : goal.unreachable-requires
unreachable-requires g c =
    listing-product _ _ _ c.requires.listing c.args.k _ c.requires.within c.number_at.ensures
    c.in_default.ensures

pub returns-in_err-put_front-clause-took : goal.returns-in_err-put_front-clause-took
returns-in_err-put_front-clause-took g c =
    let line = line_at-parts _ _ _ c.requires.listing c.args.k _ c.requires.within c.number_at.ensures _ _
    c.in-Some.ensures.2 in
    let front = (codes "t" ++ decimal (c.args.k + 1)) ++ codes " = (" in
    let parts = parts_text (distinct_products (term_at c.args.graph.now c.args.listing.now.root))
    (term_at c.args.graph.now c.in-Some.parts.0) (term_at c.args.graph.now c.in-Some.parts.1) in
    Puts-stopped _ _ _ _ front (parts ++ (41 ∷ 10 ∷ [])) (line ∙ append_assoc front parts (41 ∷ 10 ∷ []))
    c.from_residual.ensures.0 (rw c.from.ensures at c.in_err-put_front.ensures.took)

pub put_parts-requires-clause-listed : goal.put_parts-requires-clause-listed
put_parts-requires-clause-listed g c =
    line_at-listed _ _ _ c.requires.listing c.args.k _ c.requires.within c.number_at.ensures _ _
    c.in-Some.ensures.2

pub returns-in_err-put_parts-clause-took : goal.returns-in_err-put_parts-clause-took
returns-in_err-put_parts-clause-took g c =
    let line = line_at-parts _ _ _ c.requires.listing c.args.k _ c.requires.within c.number_at.ensures _ _
    c.in-Some.ensures.2 in
    let front = (codes "t" ++ decimal (c.args.k + 1)) ++ codes " = (" in
    let parts = parts_text (distinct_products (term_at c.args.graph.now c.args.listing.now.root))
    (term_at c.args.graph.now c.in-Some.parts.0) (term_at c.args.graph.now c.in-Some.parts.1) in
    Puts-stopped_after _ _ _ _ _ front parts (41 ∷ 10 ∷ []) line c.from_residual-in_err-put_parts.ensures.0
    (rw c.from.ensures at c.in_ok-put_front.ensures.took) c.in_err-put_parts.ensures.took

pub returns-in_err-put_front-clause-waits : goal.returns-in_err-put_front-clause-waits
returns-in_err-put_front-clause-waits g c =
    let line = line_at-parts _ _ _ c.requires.listing c.args.k _ c.requires.within c.number_at.ensures _ _
    c.in-Some.ensures.2 in
    let front = (codes "t" ++ decimal (c.args.k + 1)) ++ codes " = (" in
    let parts = parts_text (distinct_products (term_at c.args.graph.now c.args.listing.now.root))
    (term_at c.args.graph.now c.in-Some.parts.0) (term_at c.args.graph.now c.in-Some.parts.1) in
    waits-stopped _ _ _ front (parts ++ (41 ∷ 10 ∷ [])) (line ∙ append_assoc front parts (41 ∷ 10 ∷ []))
    (rw c.from.ensures at c.in_err-put_front.ensures.waits)

pub returns-in_err-put_parts-clause-waits : goal.returns-in_err-put_parts-clause-waits
returns-in_err-put_parts-clause-waits g c =
    let line = line_at-parts _ _ _ c.requires.listing c.args.k _ c.requires.within c.number_at.ensures _ _
    c.in-Some.ensures.2 in
    let front = (codes "t" ++ decimal (c.args.k + 1)) ++ codes " = (" in
    let parts = parts_text (distinct_products (term_at c.args.graph.now c.args.listing.now.root))
    (term_at c.args.graph.now c.in-Some.parts.0) (term_at c.args.graph.now c.in-Some.parts.1) in
    waits-stopped_after _ _ _ _ front parts (41 ∷ 10 ∷ []) line
    (rw c.from.ensures at c.in_ok-put_front.ensures.waits)
    c.in_err-put_parts.ensures.waits

pub returns-clause-took : goal.returns-clause-took
returns-clause-took g c =
    let line = line_at-parts _ _ _ c.requires.listing c.args.k _ c.requires.within c.number_at.ensures _ _
    c.in-Some.ensures.2 in
    let front = (codes "t" ++ decimal (c.args.k + 1)) ++ codes " = (" in
    let parts = parts_text (distinct_products (term_at c.args.graph.now c.args.listing.now.root))
    (term_at c.args.graph.now c.in-Some.parts.0) (term_at c.args.graph.now c.in-Some.parts.1) in
    let both = append_known-two _ _ _ front parts (rw c.from.ensures at c.in_ok-put_front.ensures.took)
    c.in_ok-put_parts.ensures.took in
    Puts-more _ _ _ _ _ (front ++ parts) (41 ∷ 10 ∷ []) line both c.give_all.ensures.took

pub returns-clause-waits : goal.returns-clause-waits
returns-clause-waits g c =
    let line = line_at-parts _ _ _ c.requires.listing c.args.k _ c.requires.within c.number_at.ensures _ _
    c.in-Some.ensures.2 in
    let front = (codes "t" ++ decimal (c.args.k + 1)) ++ codes " = (" in
    let parts = parts_text (distinct_products (term_at c.args.graph.now c.args.listing.now.root))
    (term_at c.args.graph.now c.in-Some.parts.0) (term_at c.args.graph.now c.in-Some.parts.1) in
    let both = waits-more _ _ _ _ front parts refl (rw c.from.ensures at c.in_ok-put_front.ensures.waits)
    c.in_ok-put_parts.ensures.waits in
    waits-more _ _ _ _ (front ++ parts) (41 ∷ 10 ∷ []) line both c.give_all.ensures.waits
