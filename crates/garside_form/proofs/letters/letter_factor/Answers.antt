use Rattle.garside_form.proofs.LetterLemmas.{half_turn_fits, identity_fits}
use Rattle.garside_form.proofs.letters.letter_factor.Goals as goal

pub before-requires-clause-high : goal.before-requires-clause-high
before-requires-clause-high c =
    (half_turn_fits _ c.args.i _ c.in_ok-factor.ensures.value c.requires.least c.requires.below).0

pub before-requires-clause-descent : goal.before-requires-clause-descent
before-requires-clause-descent c =
    (half_turn_fits _ c.args.i _ c.in_ok-factor.ensures.value c.requires.least c.requires.below).1

pub after-requires-clause-high : goal.after-requires-clause-high
after-requires-clause-high c =
    (identity_fits _ c.args.i _ c.in_ok-factor-2.ensures.value c.requires.least c.requires.below).0

pub after-requires-clause-rises : goal.after-requires-clause-rises
after-requires-clause-rises c =
    (identity_fits _ c.args.i _ c.in_ok-factor-2.ensures.value c.requires.least c.requires.below).1
