use Rattle.perm_braid.proofs.SimpleWordLemmas.{word_exists, word_unique}
use Rattle.perm_braid.proofs.ArrangedWordLemmas.{IsSimple-word, arranged-word}
use Rattle.perm_braid.proofs.laws.law_word.Goals as goal

pub returns-clause-exists : goal.returns-clause-exists
returns-clause-exists c = word_exists c.strands-strands.ensures.arrangement.order

pub returns-clause-unique : goal.returns-clause-unique
returns-clause-unique c u v one two = word_unique one two

pub returns-clause-simple : goal.returns-clause-simple
returns-clause-simple c w is = IsSimple-word c.strands-strands.ensures.arrangement.order is

pub returns-clause-arranged : goal.returns-clause-arranged
returns-clause-arranged c w is = arranged-word is
