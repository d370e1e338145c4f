-- The tokens of an atom give its tree.
use Rattle.std.proofs.Common.{◌∙◌, ◌+◌, ◌++◌, ◌∷◌, refl, sym, ap, arith}
use Rattle.ld_term.specs.Written.{named}
use Rattle.ld_term.specs.Tokens.{star, close_bracket, tokens_of}
use Rattle.ld_term.specs.Grammar.{atom_tokens}
use Rattle.ld_term.proofs.TreeLemmas.{atom-some, atom-other, piece-atom, opened, variable-atom, name-atom, behind-left, behind-star, behind-right, times-atom, parts-low}
use Rattle.ld_term.proofs.tree.+atom_at.Goals as goal

pub unreachable-requires : goal.unreachable-requires
unreachable-requires t c =
    atom-some c.requires.term c.requires.rest (sym (ap tokens_of c.in_default.ensures) ∙ c.requires.tokens)

pub overflow_sub-depth : goal.overflow_sub-depth
overflow_sub-depth t c =
    let parts = opened _ _ _ _ _ _ _ _ c.in-Some.ensures c.in-Open.is c.requires.tokens in
    let low = parts-low _ parts.left parts.right c.args.depth parts.is c.requires.low in
    omega (arith, low.0)

pub atom_at-requires : goal.atom_at-requires
atom_at-requires t c =
    let parts = opened _ _ _ _ _ _ _ _ c.in-Some.ensures c.in-Open.is c.requires.tokens in
    let low = parts-low _ parts.left parts.right c.args.depth parts.is c.requires.low in (
      omega (arith, low.0, c.decreases),
      record {
        within = c.in-Some.ensures.within;
        term = parts.left;
        rest = star ∷ (atom_tokens parts.right ++ (close_bracket ∷ c.requires.rest));
        tokens = parts.tokens;
        low = omega (arith, low.0);
      },
    )

pub skip-at-requires : goal.skip-at-requires
skip-at-requires t c =
    let parts = opened _ _ _ _ _ _ _ _ c.in-Some.ensures c.in-Open.is c.requires.tokens in
    (star, _, behind-left _ _ _ _ _ _ _ parts c.in_ok-left-in-Open.ensures)

pub overflow_sub-depth-in-Open : goal.overflow_sub-depth-in-Open
overflow_sub-depth-in-Open t c =
    let parts = opened _ _ _ _ _ _ _ _ c.in-Some.ensures c.in-Open.is c.requires.tokens in
    let low = parts-low _ parts.left parts.right c.args.depth parts.is c.requires.low in
    omega (arith, low.0)

pub atom_at-requires-in-Open : goal.atom_at-requires-in-Open
atom_at-requires-in-Open t c =
    let parts = opened _ _ _ _ _ _ _ _ c.in-Some.ensures c.in-Open.is c.requires.tokens in
    let low = parts-low _ parts.left parts.right c.args.depth parts.is c.requires.low in
    let behind = behind-star _ _ _ _ _ _ _ _ parts c.in_ok-left-in-Open.ensures c.skip-at.ensures in (
      omega (arith, low.0, c.decreases),
      record {
        within = behind.within;
        term = parts.right;
        rest = close_bracket ∷ c.requires.rest;
        tokens = behind.tokens;
        low = omega (arith, low.1);
      },
    )

pub skip-end-requires : goal.skip-end-requires
skip-end-requires t c =
    let parts = opened _ _ _ _ _ _ _ _ c.in-Some.ensures c.in-Open.is c.requires.tokens in (
      close_bracket,
      _,
      behind-right _ _ _ _ _ _ _ _ _ _ parts c.in_ok-left-in-Open.ensures c.skip-at.ensures
          c.in_ok-right-in-Open.ensures,
    )

pub unreachable-requires-in_default-kind : goal.unreachable-requires-in_default-kind
unreachable-requires-in_default-kind t c =
    atom-other _ _ _ _ _ _ c.in_default-kind.not-Open c.in_default-kind.not-Variable
    c.in_default-kind.not-Name
    (piece-atom _ _ _ _ _ _ _ _ c.in-Some.ensures c.requires.tokens)

pub returns-in-Variable : goal.returns-in-Variable
returns-in-Variable t c = λ u rest. variable-atom _ _ _ _ _ _ u rest _ c.in-Some.ensures c.in-Variable.is refl

pub returns-in-Some-read : goal.returns-in-Some-read
returns-in-Some-read t c = λ u rest. name-atom _ _ _ _ _ _ u rest _ c.in-Some.ensures c.in-Name.is
    (ap (λ n. named n (c.in-Some.piece.start + 1)) c.in-Some-read.ensures.1)

pub returns-in_ok-right-in-Open-2 : goal.returns-in_ok-right-in-Open-2
returns-in_ok-right-in-Open-2 t c = λ u rest e.
    times-atom _ _ _ _ _ _ _ _ _ _ u rest
    (opened _ _ _ _ _ _ u rest c.in-Some.ensures c.in-Open.is e)
    c.in_ok-left-in-Open.ensures c.skip-at.ensures c.in_ok-right-in-Open.ensures c.skip-end.ensures
    (rw (c.in_ok-left-in-Open-2.ensures.ok, c.in_ok-right-in-Open-2.ensures.ok) refl)
