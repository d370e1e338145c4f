use Rattle.braid_gcd.proofs.CommonLemmas.{list_letters}
use Rattle.braid_gcd.proofs.forms.list_word.Goals as goal

pub normal_word-requires-clause-most : goal.normal_word-requires-clause-most
normal_word-requires-clause-most c =
    (list_letters _ _ _ _ _ c.requires.orders c.requires.most c.new-letters.ensures.items
    c.in_ok-push_list.ensures c.as_slice.ensures.value).most

pub normal_word-requires-clause-on : goal.normal_word-requires-clause-on
normal_word-requires-clause-on c =
    (list_letters _ _ _ _ _ c.requires.orders c.requires.most c.new-letters.ensures.items
    c.in_ok-push_list.ensures c.as_slice.ensures.value).on

pub normal_word-requires-clause-positive : goal.normal_word-requires-clause-positive
normal_word-requires-clause-positive c =
    (list_letters _ _ _ _ _ c.requires.orders c.requires.most c.new-letters.ensures.items
    c.in_ok-push_list.ensures c.as_slice.ensures.value).positive
