use Rattle.std.proofs.Common.{◌≡◌, ◌-◌, ◌++◌}
use Rattle.perm_braid.specs.SimpleWords.{delta_word}
use Rattle.garside_form.specs.NormalForms.{times}
use Rattle.braid_gcd.proofs.spell.push_turns.Given as goal

-- The letters so far and the half turns that are left are the whole word.
abbrev pub invariant-loop : goal.invariant-loop
invariant-loop l =
    l.word.items ++ times (l.turns - l.counter) (delta_word l.n)
    ≡ l.fn.word.items ++ times l.turns (delta_word l.n)
