-- A certificate whose right term is small is accepted.
use Rattle.std.proofs.Common.{arith}
use Rattle.term_graph.specs.TermLists.{term_at}
use Rattle.ld_cert.proofs.PathLemmas.{path-accepted}
use Rattle.ld_cert.proofs.derive.derive_certificate.Goals as goal

pub returns-clause-accepted : goal.returns-clause-accepted
returns-clause-accepted c =
    path-accepted c.in_ok-path_text.field-0.items (term_at c.args.graph.now c.args.node)
    (rw c.shared.ensures at c.in_ok-path_text.ensures)
    (omega (arith, c.in_ok-leaves.ensures))
