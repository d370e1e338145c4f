-- Laws of listings, and of the command `derive`.
use Rattle.std.proofs.Common.{◌≡◌, ℕ, List, refl, sym, ap, ◌∙◌}
use Rattle.wb_base.specs.Status.{Answer}
use Rattle.wb_base.specs.declared.status.Status.TheVariants.{Done, Refused, Limit}
use Rattle.ld_term.specs.Terms.{Term, IsEquivalent, derived}
use Rattle.term_graph.specs.TermLists.{term_at}
use Rattle.term_graph.specs.Asks.{Asked, answered, too_deep, full}
use Rattle.term_graph.specs.Listings.{listing_text}
use Rattle.ld_term.proofs.TermLemmas.{IsEquivalent-derived}
use Rattle.term_eval.proofs.BraidLemmas.{Equivalent-braid}
use Rattle.wb_command.specs.Meaning.{IsSound}
use Rattle.wb_command.specs.TermInputs.{IsOnTerm}
use Rattle.wb_command.proofs.TermInputLemmas.{done-Refused, IsOnTerm-one, IsOnTerm-Done, IsOnTerm-Refused}
use Rattle.wb_terms.specs.Listed.{listed, HasListing}
use Rattle.wb_terms.specs.Derive.{derived_in, HasDerivation, derive_meaning}

-- ---- Listings ----

-- what is listed has its text
pub listed-Done
    : (asked : Asked) (t : Term) (a : Answer)
    → listed asked t ≡ a
    → a.status ≡ Done
    → a.text ≡ listing_text t
listed-Done (answered made) t a is done = ap (λ (b : Answer). b.text) (sym is)
listed-Done too_deep t a is done =
    let other : Limit ≡ Done = ap (λ (b : Answer). b.status) is ∙ done in absurd (cc)
listed-Done full t a is done =
    let other : Limit ≡ Done = ap (λ (b : Answer). b.status) is ∙ done in absurd (cc)

-- and isn't refused as a trace file is
pub listed-Refused : (asked : Asked) (t : Term) (a : Answer) → listed asked t ≡ a → a.status ≡ Refused → ⊥
listed-Refused (answered made) t a is refused = done-Refused _ a is refl refused
listed-Refused too_deep t a is refused =
    let other : Limit ≡ Refused = ap (λ (b : Answer). b.status) is ∙ refused in cc
listed-Refused full t a is refused =
    let other : Limit ≡ Refused = ap (λ (b : Answer). b.status) is ∙ refused in cc

-- the listing of an equivalent term
pub HasListing-of : (t u : Term) (text : List ℕ) → IsEquivalent t u → text ≡ listing_text u
    → HasListing t u text
HasListing-of t u text same is = record { equivalent = same; braids = Equivalent-braid same; is = is }

-- ---- derive ----

-- `derive` on an input
HasDerivation-Done
    : (input : List ℕ) (a : Answer)
    → IsOnTerm derived_in input a
    → a.status ≡ Done
    → HasDerivation input a.text
HasDerivation-Done input a on done =
    let has = IsOnTerm-Done derived_in input a on done in
    let t : Term = term_at has.made has.first in
    record {
      made = has.made;
      first = has.first;
      file = has.file;
      listing = HasListing-of t (derived t) a.text (IsEquivalent-derived t)
          (listed-Done _ (derived t) a has.is done);
    }

-- `derive` is sound
pub IsSound-derive : IsSound derive_meaning
IsSound-derive = record {
  one = IsOnTerm-one derived_in;
  promised = HasDerivation-Done;
  refused = λ input a on refused.
      IsOnTerm-Refused derived_in input a (λ made t. listed-Refused _ _ a) on refused;
  alone = λ nothing. absurd cc;
  plain = λ pieces before now s. tt;
}
