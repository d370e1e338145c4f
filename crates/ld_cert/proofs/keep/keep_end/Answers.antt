use Rattle.std.proofs.Common.{Ok, ap, sym, ◌∙◌, rules}
use Rattle.ld_cert.specs.Keeping.{pair_of}
use Rattle.ld_cert.specs.States as due
use Rattle.ld_cert.proofs.KeepLemmas.{kept_end-one, kept_end-Differ}
use Rattle.ld_cert.proofs.keep.keep_end.Goals as goal

pub returns-then-not-equal : goal.returns-then-not-equal
returns-then-not-equal c = record {
  state = kept_end-Differ (pair_of c.args.present) _ (search rules) c.if-not-equal.ensures.terms.1;
  numbers = tt;
}

pub returns : goal.returns
returns c = record {
  state =
      kept_end-one (pair_of c.args.present) _ (search rules) (c.equal.ensures.terms.0 c.if-not-equal.false)
      ∙ ap (λ claim. Ok (due.passed claim)) (sym c.new.ensures);
  numbers = tt;
}
