-- A product that has a place is listed; another one comes behind those of its parts.
use Rattle.std.proofs.Common.{◌≡◌, ◌<◌, ap, ◌∙◌, subst, arith}
use Rattle.term_graph.specs.Places.{place_of}
use Rattle.term_graph.proofs.MakeLemmas.{begun-listed, begun-small, product-begun, product-listed}
use Rattle.term_graph.proofs.listing.+list_products.Goals as goal

pub returns-then-places-index-gt0-clause-listed : goal.returns-then-places-index-gt0-clause-listed
returns-then-places-index-gt0-clause-listed t c =
    let place : 0 < place_of c.args.places.now c.args.a =
    subst (λ z. 0 < place_of c.args.places.now z) c.index.ensures c.if-places-index-gt0.true in
    begun-listed _ _ _ c.requires.begun _ c.requires.there place

pub overflow_cast-places : goal.overflow_cast-places
overflow_cast-places t c =
    let small = begun-small _ _ _ _ _ c.len.result c.in_ok-list_products-2.ensures.begun
    c.in_ok-push.ensures.items
    (c.len.ensures ∙ c.push.new.self.ok.0) in
    omega (arith, small)

pub returns-clause-begun : goal.returns-clause-begun
returns-clause-begun t c =
    let none : place_of c.args.places.now c.args.a ≡ 0 =
    omega (arith, ap (place_of c.args.places.now) c.index.ensures, c.if-places-index-gt0.false) in
    product-begun _ _ _ _ _ _ _ _ _ _ c.len.result c.requires.there none c.in-Some.ensures.2
    c.requires.begun c.in_ok-list_products.ensures.listed c.in_ok-list_products-2.ensures.begun
    c.in_ok-list_products-2.ensures.listed c.in_ok-push.ensures.items (c.len.ensures ∙ c.push.new.self.ok.0)
    c.index-2.result c.index-2.ensures

pub returns-clause-listed : goal.returns-clause-listed
returns-clause-listed t c =
    let none : place_of c.args.places.now c.args.a ≡ 0 =
    omega (arith, ap (place_of c.args.places.now) c.index.ensures, c.if-places-index-gt0.false) in
    product-listed _ _ _ _ _ _ _ _ _ _ c.len.result c.requires.there none c.in-Some.ensures.2
    c.requires.begun c.in_ok-list_products.ensures.listed c.in_ok-list_products-2.ensures.begun
    c.in_ok-list_products-2.ensures.listed c.in_ok-push.ensures.items (c.len.ensures ∙ c.push.new.self.ok.0)
