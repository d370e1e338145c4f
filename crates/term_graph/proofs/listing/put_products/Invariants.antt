-- The sink has taken the lines of the products before this one.
use Rattle.std.proofs.Common.{◌≡◌, ◌+◌, ◌≤◌, length, take}
use Rattle.std.specs.Io.KnownBytes.{append_known}
use Rattle.term_graph.specs.Listings.{distinct_products, product_lines}
use Rattle.term_graph.specs.TermLists.{term_at}
use Rattle.term_graph.proofs.listing.put_products.Given as goal

abbrev pub invariant-loop-k : goal.invariant-loop-k
invariant-loop-k g l =
    let sink = g.K.Sink in
    let listed = distinct_products (term_at l.graph l.listing.root) in
    let given = product_lines listed 1 (take l.k listed) in
    record {
      took : sink.taken l.sink ≡ append_known (sink.taken l.fn.sink) given;
      later : sink.faults l.fn.sink ≤ sink.faults l.sink;
      waits : sink.waiting l.sink ≤ sink.waiting l.fn.sink + length given;
    }
