-- One line more is put.
use Rattle.std.proofs.Common.{◌<◌, length, ◌∙◌, ap, sym, arith}
use Rattle.std.specs.Io.KnownBytes.{append_known}
use Rattle.wb_base.proofs.StreamLemmas.{Puts-stopped_after, append_known-two}
use Rattle.wb_base.proofs.WaitingLemmas.{waits-more}
use Rattle.term_graph.specs.Listings.{distinct_products}
use Rattle.term_graph.specs.TermLists.{term_at}
use Rattle.term_graph.proofs.PlaceLemmas.{listing-length}
use Rattle.term_graph.proofs.LineTextLemmas.{product_lines-more, product_lines-split, length-product_lines}
use Rattle.term_graph.proofs.listing.put_products.Goals as goal

pub returns-in_err-put_product-clause-took : goal.returns-in_err-put_product-clause-took
returns-in_err-put_product-clause-took g c =
    let size = listing-length _ _ _ c.requires in
    let listed = distinct_products (term_at c.args.graph.now c.args.listing.now.root) in
    let within : c.loop-k.k < length listed =
    omega (arith, c.loop-k-test.true, c.count-k-end.ensures, size) in
    Puts-stopped_after _ _ _ _ _ _ _ _ (product_lines-split listed c.loop-k.k within)
    c.from_residual.ensures.0
    c.loop-k.invariant.took c.in_err-put_product.ensures.took

pub returns-in_err-put_product-clause-waits : goal.returns-in_err-put_product-clause-waits
returns-in_err-put_product-clause-waits g c =
    let size = listing-length _ _ _ c.requires in
    let listed = distinct_products (term_at c.args.graph.now c.args.listing.now.root) in
    let within : c.loop-k.k < length listed =
    omega (arith, c.loop-k-test.true, c.count-k-end.ensures, size) in
    let front = length-product_lines listed c.loop-k.k within in
    omega (arith, front, c.loop-k.invariant.waits, c.in_err-put_product.ensures.waits)

pub loop-k-preserved : goal.loop-k-preserved
loop-k-preserved g c =
    let size = listing-length _ _ _ c.requires in
    let listed = distinct_products (term_at c.args.graph.now c.args.listing.now.root) in
    let within : c.loop-k.k < length listed =
    omega (arith, c.loop-k-test.true, c.count-k-end.ensures, size) in
    let more = product_lines-more listed c.loop-k.k within in
    record {
      took = append_known-two _ _ _ _ _ c.loop-k.invariant.took c.in_ok-put_product.ensures.took
          ∙ ap (append_known _) (sym more);
      later = omega (arith, c.loop-k.invariant.later, c.in_ok-put_product.ensures.cause.later);
      waits = waits-more _ _ _ _ _ _ more c.loop-k.invariant.waits c.in_ok-put_product.ensures.waits;
    }
