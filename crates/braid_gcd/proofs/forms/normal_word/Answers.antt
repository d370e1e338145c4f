use Rattle.braid_gcd.proofs.FormLemmas.{word_of_form}
use Rattle.braid_gcd.proofs.forms.normal_word.Goals as goal

pub returns : goal.returns
returns c =
    word_of_form c.in_ok-form.form _ _ _ _ _ _ _ c.in_ok-form.ensures.strands c.requires.low
    c.requires.positive c.in_ok-form.ensures.form c.turns_of.ensures c.in_ok-factors_of.ensures
    c.in_ok-word.ensures.items c.in_ok-push_turns.ensures c.in_ok-push_list.ensures
