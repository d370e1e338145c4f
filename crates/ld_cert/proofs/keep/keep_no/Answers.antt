use Rattle.std.proofs.Common.{Ok, sym, ap, ◌∙◌}
use Rattle.ld_cert.specs.States as due
use Rattle.ld_cert.specs.Keeping.{terms_of}
use Rattle.ld_cert.proofs.KeepLemmas.{kept_no-alike, kept_no-apart}
use Rattle.ld_cert.proofs.keep.keep_no.Goals as goal

pub returns-then-branch : goal.returns-then-branch
returns-then-branch c = record {
  state =
      kept_no-alike (terms_of c.args.both) _ c.in-Some.n _ (sym c.exponent_behind.ensures ∙ c.in-Some.is)
      c.in_ok-are_alike.ensures c.if-branch.true;
  numbers = tt;
}

pub returns : goal.returns
returns c = record {
  state =
      kept_no-apart (terms_of c.args.both) _ c.in-Some.n _ (sym c.exponent_behind.ensures ∙ c.in-Some.is)
      c.in_ok-are_alike.ensures c.if-branch.false
      ∙ ap (λ claim. Ok (due.finish claim)) (sym c.new.ensures);
  numbers = tt;
}
