-- A name, an equals sign and a term.
use Rattle.ld_term.proofs.DefinitionLemmas.{fault-nothing, refused-first, refused-name, refused-second, refused-definition}
use Rattle.ld_term.proofs.definition.read_parts.Goals as goal

pub returns-in_default-clause-refused : goal.returns-in_default-clause-refused
returns-in_default-clause-refused c = fault-nothing _ _ c.in_default.ensures

pub returns-in_default-kind : goal.returns-in_default-kind
returns-in_default-kind c = record {
  definition = tt;
  small = tt;
  refused = refused-first _ _ _ _ c.in-Some.ensures c.in_default-kind.not-Name;
}

pub returns-in_default-next_piece-clause-refused : goal.returns-in_default-next_piece-clause-refused
returns-in_default-next_piece-clause-refused c =
    refused-name _ _ _ _ c.in-Some.ensures c.in-Name.is c.in_default-next_piece.ensures

pub returns-in_default-kind-2 : goal.returns-in_default-kind-2
returns-in_default-kind-2 c = record {
  definition = tt;
  small = tt;
  refused = refused-second _ _ _ _ _ _ _ c.in-Some.ensures c.in-Name.is c.in-Some-next_piece.ensures
      c.in_default-kind-2.not-Equals;
}

pub returns-in-Err-clause-refused : goal.returns-in-Err-clause-refused
returns-in-Err-clause-refused c =
    refused-definition _ _ _ _ _ _ _ _ c.in-Some.ensures c.in-Name.is c.in-Some-next_piece.ensures
    c.in-Equals.is c.in-Err.ensures.refused
