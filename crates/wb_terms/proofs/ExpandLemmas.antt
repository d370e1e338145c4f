-- Laws of the command `expand`.
--
-- An address is read as one, and what is read as one is one (`address_of-read`, `sides_of-Some`).
use Rattle.std.proofs.Common.{◌≡◌, ℕ, ◌&&◌, ◌||◌, ◌⊎◌, inl, inr, Bool, true, false, ltb, eqb, not, List, All, [], ◌∷◌, length, Option, Some, refl, sym, ap, ◌∙◌}
use Rattle.std.specs.List.{list_all, AllByRecursion}
use Rattle.std.proofs.lemmas.Bool.{cond_both, and_parts, and_from, eqb-true, le-ltb, ltb-false, not-true}
use Rattle.std.proofs.lemmas.List.Elements.{All-nil, All-cons, recursion_from_All}
use Rattle.wb_base.specs.Lines.{lines_of}
use Rattle.wb_base.specs.Status.{Answer}
use Rattle.wb_base.specs.declared.status.Status.TheVariants.{Done, Refused, Input}
use Rattle.ld_term.specs.Terms.{Term, Expands, stay, forward}
use Rattle.term_graph.specs.TermLists.{term_at}
use Rattle.term_graph.specs.Asks.{Asked}
use Rattle.term_expand.specs.Expansions.{IsAddress, Expansion, expanded, no_place, not_expandable, expansion_at}
use Rattle.term_expand.specs.declared.TheConstants.{MAX_ADDRESS}
use Rattle.term_expand.proofs.ExpandLemmas.{expansion_at-Expands}
use Rattle.wb_command.specs.Meaning.{IsSound}
use Rattle.wb_command.specs.TermInputs.{IsOnTerm}
use Rattle.wb_command.proofs.TermInputLemmas.{IsOnTerm-one, IsOnTerm-Done, IsOnTerm-Refused}
use Rattle.wb_terms.specs.Listed.{HasListing}
use Rattle.wb_terms.specs.Expand.{expansion_answer, expanded_at, HasExpansion, expand_meaning, is_side, sides_of, address_of}
use Rattle.wb_terms.proofs.ListingLemmas.{listed-Done, listed-Refused, HasListing-of}

-- ---- Addresses ----

-- a byte that passes the test is a side
is_side-true : (byte : ℕ) → is_side byte ≡ true → (byte ≡ 48) ⊎ (byte ≡ 49)
is_side-true byte pass = go (eqb byte 48) refl pass
  where
    go : (left : Bool) → eqb byte 48 ≡ left → (left || eqb byte 49) ≡ true → (byte ≡ 48) ⊎ (byte ≡ 49)
    go true left pass = inl (eqb-true byte 48 left)
    go false left pass = inr (eqb-true byte 49 pass)

-- and a side passes it
side-is_side : (byte : ℕ) → (byte ≡ 48) ⊎ (byte ≡ 49) → is_side byte ≡ true
side-is_side byte (inl left) = rw left refl
side-is_side byte (inr right) = rw right refl

-- sides that pass it are sides
list_all-sides
    : (bytes : List ℕ)
    → list_all is_side bytes ≡ true
    → All (λ byte. (byte ≡ 48) ⊎ (byte ≡ 49)) bytes
list_all-sides [] pass = All-nil (λ byte. (byte ≡ 48) ⊎ (byte ≡ 49))
list_all-sides (byte ∷ bytes) pass =
    let (first, rest) = and_parts (is_side byte) (list_all is_side bytes) pass in
    All-cons (λ byte. (byte ≡ 48) ⊎ (byte ≡ 49)) byte bytes (is_side-true byte first)
    (list_all-sides bytes rest)

-- and sides pass it
sides-list_all
    : (bytes : List ℕ)
    → AllByRecursion (λ byte. (byte ≡ 48) ⊎ (byte ≡ 49)) bytes
    → list_all is_side bytes ≡ true
sides-list_all [] sides = refl
sides-list_all (byte ∷ bytes) (first, rest) =
    and_from (is_side byte) (list_all is_side bytes) (side-is_side byte first) (sides-list_all bytes rest)

-- an address is read as one
pub sides_of-address : (sides : List ℕ) → IsAddress sides → sides_of sides ≡ Some sides
sides_of-address sides address =
    let sides_pass = sides-list_all sides
    (recursion_from_All (λ byte. (byte ≡ 48) ⊎ (byte ≡ 49)) sides address.sides) in
    rw (le-ltb MAX_ADDRESS (length sides) address.short, sides_pass) refl

-- what is read as an address is one
sides_of-Some
    : (sides address : List ℕ)
    → sides_of sides ≡ Some address
    → (address ≡ sides) × IsAddress sides
sides_of-Some sides address is =
    cond_both (not (ltb MAX_ADDRESS (length sides)) && list_all is_side sides) _ _
    (λ (o : Option (List ℕ)). o ≡ Some address → (address ≡ sides) × IsAddress sides)
    (λ pass found.
    let (short, all) = and_parts (not (ltb MAX_ADDRESS (length sides))) (list_all is_side sides) pass in
    let same : sides ≡ address = cc in (
      sym same,
      record {
        short = ltb-false MAX_ADDRESS (length sides) (not-true _ short);
        sides =
            list_all-sides sides all;
      },
    ))
    (λ fail found. absurd cc)
    is

-- the address that a word is, after its dot
pub address_of-read
    : (word sides : List ℕ) (dot : ℕ)
    → word ≡ dot ∷ sides
    → dot ≡ 46
    → IsAddress sides
    → Some sides ≡ address_of word
address_of-read word sides dot is same address = rw (is, same) (sym (sides_of-address sides address))

-- ---- Expansions ----

-- An expansion, and its listing.
record HasExpanded (address : List ℕ) (t : Term) (text : List ℕ) : Type 0 where
  term : Term
  expansion : expansion_at address t ≡ expanded term
  expands : Expands t term
  listing : HasListing t term text

-- an expansion that is answered
expansion_answer-Done
    : (k : ℕ) (address : List ℕ) (t : Term) (expansion : Expansion) (asked : Asked) (a : Answer)
    → expansion_at address t ≡ expansion
    → expansion_answer k expansion asked ≡ a
    → a.status ≡ Done
    → HasExpanded address t a.text
expansion_answer-Done k address t (expanded u) asked a found is done =
    let expands = expansion_at-Expands address t u found in
    record {
      term = u;
      expansion = found;
      expands = expands;
      listing = HasListing-of t u a.text (forward expands (stay u)) (listed-Done asked u a is done);
    }
expansion_answer-Done k address t no_place asked a found is done =
    let other : Input ≡ Done = ap (λ (b : Answer). b.status) is ∙ done in absurd (cc)
expansion_answer-Done k address t not_expandable asked a found is done =
    let other : Input ≡ Done = ap (λ (b : Answer). b.status) is ∙ done in absurd (cc)

-- and one that isn't refused as a trace file is
expansion_answer-Refused
    : (k : ℕ) (expansion : Expansion) (asked : Asked) (a : Answer)
    → expansion_answer k expansion asked ≡ a
    → a.status ≡ Refused
    → ⊥
expansion_answer-Refused k (expanded u) asked a is refused = listed-Refused asked u a is refused
expansion_answer-Refused k no_place asked a is refused =
    let other : Input ≡ Refused = ap (λ (b : Answer). b.status) is ∙ refused in cc
expansion_answer-Refused k not_expandable asked a is refused =
    let other : Input ≡ Refused = ap (λ (b : Answer). b.status) is ∙ refused in cc

-- `expand` on an input
HasExpansion-Done
    : (k : ℕ) (address input : List ℕ) (a : Answer)
    → IsOnTerm (expanded_at k address) input a
    → a.status ≡ Done
    → HasExpansion address input a.text
HasExpansion-Done k address input a on done =
    let has = IsOnTerm-Done (expanded_at k address) input a on done in
    let t : Term = term_at has.made has.first in
    let is = expansion_answer-Done k address t (expansion_at address t) _ a refl has.is done in
    record {
      made = has.made;
      first = has.first;
      file = has.file;
      term = is.term;
      expansion = is.expansion;
      expands = is.expands;
      listing = is.listing;
    }

-- `expand` is sound
pub IsSound-expand : (address : List ℕ) → IsSound (expand_meaning address)
IsSound-expand address = record {
  one = λ input. IsOnTerm-one (expanded_at (length (lines_of input)) address) input;
  promised = λ input. HasExpansion-Done (length (lines_of input)) address input;
  refused = λ input a on refused.
      IsOnTerm-Refused (expanded_at (length (lines_of input)) address) input a
      (λ made t. expansion_answer-Refused _ _ _ a) on refused;
  alone = λ nothing. absurd cc;
  plain = λ pieces before now s. tt;
}
