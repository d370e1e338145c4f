-- The limits of this crate, as numbers: its definitions cite them by name.
use Rattle.std.proofs.Common.{◌≡◌, refl}
use Rattle.term_graph.specs.declared.TheConstants.{MAX_NODES}

-- a graph has at most 100,000 products
nodes_row : MAX_NODES ≡ 100000
nodes_row = refl
