use Rattle.braid_gcd.proofs.FormLemmas.{list_of_form}
use Rattle.braid_gcd.proofs.forms.greedy_list.Goals as goal

pub returns : goal.returns
returns c =
    list_of_form c.in_ok-form.form _ _ _ _ _ c.in_ok-form.ensures.strands c.requires.low c.requires.positive
    c.in_ok-form.ensures.form c.turns_of.ensures c.in_ok-list.ensures c.in_ok-put_turns.ensures
