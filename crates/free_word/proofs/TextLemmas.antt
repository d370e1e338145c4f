-- The text of a free word: its first generator and the others, each behind a space.
use Rattle.std.proofs.Common.{◌≡◌, ◌-◌, ◌<◌, ◌≤◌, List, [], ◌++◌, length, get_or, take, drop}
use Rattle.std.specs.List.{flat_map}
use Rattle.wb_base.proofs.JoinLemmas.{join-first, join-empty}
use Rattle.free_word.specs.FreeWords.{Gen}
use Rattle.free_word.specs.FreeText.{gen_text, next_text, free_text}

-- a word with a first generator, by places
pub free_text-first
    : (f g : List Gen) (x : Gen)
    → g ≡ f
    → 1 ≤ length g
    → x ≡ get_or g 0 x
    → free_text f ≡ gen_text x ++ flat_map next_text (take (length g - 1) (drop 1 g))
unfolding free_text
free_text-first f g x same some is = rw (← same) (join-first gen_text g x some is)

-- a word without a first generator has no bytes
pub free_text-empty : (f g : List Gen) → g ≡ f → length g < 1 → free_text f ≡ []
unfolding free_text
free_text-empty f g same none = rw (← same) (join-empty gen_text g none)
