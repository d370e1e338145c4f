-- How a distribution and a derivation are made, each of those of two parts and of a third step.
--
-- Where the requests stop in the first or the second, those of the whole do (`first-stopped`,
-- `second-stopped`); behind both the rest is left (`parts-made`).
use Rattle.std.proofs.Common.{◌≡◌, ℕ, ◌<◌, List, [], ◌∷◌, ◌++◌, Result, Ok, Err, IfOk, length, refl, sym, ◌∙◌, subst, arith}
use Rattle.ld_term.specs.Terms.{Term, multiply, IsEquivalent}
use Rattle.ld_term.proofs.TermLemmas.{IsEquivalent-distributed, IsEquivalent-derived}
use Rattle.term_graph.specs.TermLists.{term_at}
use Rattle.term_graph.specs.Asks.{answered, ask, IsRefusal, IsStopped}
use Rattle.term_graph.specs.declared.error.GraphErr.{GraphErr}
use Rattle.term_graph.proofs.StopLemmas.{IsStopped-first, IsStopped-one, AreLeft, AreLeft-asked, AreLeft-one, AreLeft-stopped, AreLeft-granted, AreLeft-more}
use Rattle.term_graph.proofs.RequestLemmas.{term_at-front}
use Rattle.term_expand.specs.Requests.{distribute_requests}
use Rattle.term_expand.specs.Memos.{wanted, requests, HasNumbers, IsMade}
use Rattle.term_expand.specs.declared.memo.Work.{Work}
use Rattle.term_expand.specs.declared.memo.Work.TheVariants.{Distribution, Derivation}
use Rattle.term_expand.proofs.MemoLemmas.{wanted-front, requests-front, IsMade-front}

-- ---- Two parts ----

-- A work begins with two others.
pub record Begins (terms : List Term) (work one two : Work) (rest : List Term) : Type 0 where
  pub first : HasNumbers terms one
  pub second : HasNumbers terms two
  pub is : requests terms work ≡ requests terms one ++ (requests terms two ++ rest)

-- Both of them are made.
pub record AreMade (old last : List Term) (work one two : Work) (rest : List Term) (left right : ℕ) : Type 0
  where
    pub left_is : term_at last left ≡ wanted old one
    pub right_is : term_at last right ≡ wanted old two
    pub due : AreLeft old last (requests old work) rest

module _ (old : List Term) (work one two : Work) (rest : List Term) (begins : Begins old work one two rest)
  where
    -- the requests stop in the first
    pub first-stopped
        : (new : List Term) (e : GraphErr)
        → IsStopped old new (requests old one) e
        → IsStopped old new (requests old work) e
    first-stopped new e stop =
        subst (λ z. IsStopped old new z e) (sym begins.is)
        (IsStopped-first old new (requests old one) _ e stop)

    module _ (mid : List Term) (left : ℕ) (made : IsMade old mid one left) where
      -- behind the first the second is left
      first-made : AreLeft old mid (requests old work) (requests mid two ++ rest)
      first-made =
          let front = IsMade-front old mid one left made in
          let same : requests mid two ≡ requests old two = requests-front old mid front two begins.second in
          subst (λ z. AreLeft old mid (requests old work) (z ++ rest)) (sym same)
          (subst (λ z. AreLeft old mid z (requests old two ++ rest)) (sym begins.is)
          (AreLeft-granted old mid (requests old one) _ made.asked))

      -- the requests stop in the second
      pub second-stopped
          : (new : List Term) (e : GraphErr)
          → IsStopped mid new (requests mid two) e
          → IsStopped old new (requests old work) e
      second-stopped new e stop =
          AreLeft-stopped old mid new (requests old work) _ e first-made
          (IsStopped-first mid new (requests mid two) rest e stop)

      -- behind both the rest is left
      pub parts-made
          : (last : List Term) (right : ℕ)
          → IsMade mid last two right
          → AreMade old last work one two rest left right
      parts-made last right next =
          let front = IsMade-front old mid one left made in
          let behind = IsMade-front mid last two right next in
          record {
            left_is = term_at-front mid last left behind made.within ∙ made.term;
            right_is = next.term ∙ wanted-front old mid front two begins.second;
            due = AreLeft-more old mid last (requests old work) (requests mid two) rest first-made next.asked;
          }

-- ---- Distribution ----

module _
    (old : List Term) (a b left right : ℕ) (in_a : a < length old) (in_b : b < length old)
    (parts : (left < b) × (right < b) × (term_at old b ≡ multiply (term_at old left) (term_at old right)))
  where
    -- The last request.
    abbrev product : List Term
    product = multiply (wanted old (Distribution a left)) (wanted old (Distribution a right)) ∷ []

    -- a distribution over a product begins with those over its parts
    pub distribution-begins
        : Begins old (Distribution a b) (Distribution a left) (Distribution a right) product
    distribution-begins = record {
      first = (in_a, omega (arith, parts.0, in_b));
      second = (in_a, omega (arith, parts.1, in_b));
      is = rw parts.2 refl;
    }

    module _
        (last : List Term) (l r : ℕ)
        (made : AreMade old last (Distribution a b) (Distribution a left) (Distribution a right) product l r)
      where
        -- behind them one product is left
        last-request
            : AreLeft old last (requests old (Distribution a b))
            (multiply (term_at last l) (term_at last r) ∷ [])
        last-request =
            subst (λ z. AreLeft old last (requests old (Distribution a b)) (z ∷ []))
            (rw (made.left_is, made.right_is) refl) made.due

        -- it is refused
        pub last-stopped
            : (new : List Term) (e : GraphErr)
            → IsRefusal (ask last (multiply (term_at last l) (term_at last r))) e
            → new ≡ last
            → IsStopped old new (requests old (Distribution a b)) e
        last-stopped new e refused same =
            AreLeft-stopped old last new _ _ e last-request (IsStopped-one last new _ e refused same)

        -- or made
        pub product-made
            : (new : List Term) (n : ℕ)
            → n < length new
            → term_at new n ≡ multiply (term_at last l) (term_at last r)
            → ask last (multiply (term_at last l) (term_at last r)) ≡ answered new
            → IsMade old new (Distribution a b) n
        product-made new n within is asked = record {
          within = within;
          term = is ∙ rw (made.left_is, made.right_is, parts.2) refl;
          asked = AreLeft-one old last _ _ last-request ∙ asked;
        }

-- a term that was made by distribution is equivalent to the product
pub distribution-equivalent
    : (old new : List Term) (a b : ℕ) (r : Result ℕ GraphErr)
    → IfOk r (IsMade old new (Distribution a b))
    → IfOk r (λ n. IsEquivalent (multiply (term_at old a) (term_at old b)) (term_at new n))
distribution-equivalent old new a b (Ok n) made =
    subst (IsEquivalent (multiply (term_at old a) (term_at old b))) (sym made.term)
    (IsEquivalent-distributed (term_at old a) (term_at old b))
distribution-equivalent old new a b (Err e) made = tt

-- ---- Derivation ----

module _
    (old : List Term) (a left right : ℕ) (in_a : a < length old)
    (parts : (left < a) × (right < a) × (term_at old a ≡ multiply (term_at old left) (term_at old right)))
  where
    -- The requests of the distribution at the end.
    abbrev distribution : List Term
    distribution = distribute_requests (wanted old (Derivation left)) (wanted old (Derivation right))

    -- the derivation of a product begins with those of its parts
    pub derivation-begins : Begins old (Derivation a) (Derivation left) (Derivation right) distribution
    derivation-begins = record {
      first = omega (arith, parts.0, in_a);
      second = omega (arith, parts.1, in_a);
      is = rw parts.2 refl;
    }

    module _
        (last : List Term) (l r : ℕ)
        (made : AreMade old last (Derivation a) (Derivation left) (Derivation right) distribution l r) where
      -- behind them the distribution is left
      last-requests : AreLeft old last (requests old (Derivation a)) (requests last (Distribution l r))
      last-requests =
          subst (AreLeft old last (requests old (Derivation a)))
          (rw (made.left_is, made.right_is) refl) made.due

      -- the requests stop in it
      pub distribution-stopped
          : (new : List Term) (e : GraphErr)
          → IsStopped last new (requests last (Distribution l r)) e
          → IsStopped old new (requests old (Derivation a)) e
      distribution-stopped new e stop = AreLeft-stopped old last new _ _ e last-requests stop

      -- or made
      pub distribution-made
          : (new : List Term) (n : ℕ)
          → IsMade last new (Distribution l r) n
          → IsMade old new (Derivation a) n
      distribution-made new n next = record {
        within = next.within;
        term = next.term ∙ rw (made.left_is, made.right_is, parts.2) refl;
        asked = AreLeft-asked old last _ _ last-requests ∙ next.asked;
      }

-- a term that was made by derivation is equivalent to the one that it was made of
pub derivation-equivalent
    : (old new : List Term) (a : ℕ) (r : Result ℕ GraphErr)
    → IfOk r (IsMade old new (Derivation a))
    → IfOk r (λ n. IsEquivalent (term_at old a) (term_at new n))
derivation-equivalent old new a (Ok n) made =
    subst (IsEquivalent (term_at old a)) (sym made.term) (IsEquivalent-derived (term_at old a))
derivation-equivalent old new a (Err e) made = tt
