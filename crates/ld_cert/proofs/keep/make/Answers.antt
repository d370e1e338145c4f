use Rattle.std.proofs.Common.{inl, inr}
use Rattle.ld_term.specs.TreeTexts.{written}
use Rattle.ld_cert.proofs.KeepLemmas.{first_unknown-nameless, insert-granted, insert-refused}
use Rattle.ld_cert.proofs.keep.make.Goals as goal

pub insert-requires-clause-known : goal.insert-requires-clause-known
insert-requires-clause-known c = first_unknown-nameless _ (written c.args.tree.now) c.requires.nameless

pub returns-in-Ok-clause-made : goal.returns-in-Ok-clause-made
returns-in-Ok-clause-made c = record {
  term =
      insert-granted _ _ _ (written c.args.tree.now) c.in-Ok.number c.new.ensures c.in-Ok.ensures.asked
      c.in-Ok.ensures.number.1;
  within = c.in-Ok.ensures.number.0;
}

pub returns-in-Err-TooDeep-clause-made : goal.returns-in-Err-TooDeep-clause-made
returns-in-Err-TooDeep-clause-made c = record {
  term =
      insert-refused _ _ (written c.args.tree.now) c.in-Err-TooDeep.field-0 c.new.ensures
      (inl c.in-Err-TooDeep.field-0-is) c.in-Err-TooDeep.ensures.refused;
  within = tt;
}

pub returns-in-Err-Full-clause-made : goal.returns-in-Err-Full-clause-made
returns-in-Err-Full-clause-made c = record {
  term =
      insert-refused _ _ (written c.args.tree.now) c.in-Err-Full.field-0 c.new.ensures
      (inr c.in-Err-Full.field-0-is) c.in-Err-Full.ensures.refused;
  within = tt;
}
