-- The front of a line is put in two calls.
use Rattle.std.proofs.Common.{◌++◌, codes, decimal, refl}
use Rattle.wb_base.proofs.StreamLemmas.{Puts-stopped, Puts-more}
use Rattle.term_graph.proofs.listing.put_front.Goals as goal

pub returns-in_err-put_numbered-clause-took : goal.returns-in_err-put_numbered-clause-took
returns-in_err-put_numbered-clause-took g c =
    Puts-stopped _ _ _ _ (codes "t" ++ decimal c.args.place) (codes " = (") refl c.from_residual.ensures.0
    c.in_err-put_numbered.ensures.took

pub returns-clause-took : goal.returns-clause-took
returns-clause-took g c =
    Puts-more _ _ _ _ _ (codes "t" ++ decimal c.args.place) (codes " = (") refl
    c.in_ok-put_numbered.ensures.took c.give_all.ensures.took
