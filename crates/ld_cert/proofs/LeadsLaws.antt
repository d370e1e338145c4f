-- What the expansions of a certificate file and its end lead to.
--
-- The lines behind `yes` lead to the end exactly where the expansions are granted and meet (`Leads-Steps`,
-- `AreSteps-Leads`).
use Rattle.std.proofs.Common.{◌≡◌, ℕ, List, [], ◌∷◌, ◌++◌, append_assoc, append-nil, Some, refl, sym, ap, ◌∙◌, subst}
use Rattle.std.specs.List.{AllByRecursion}
use Rattle.wb_base.proofs.PartLemmas.{Some-injective}
use Rattle.line_file.specs.Grammars as grammars
use Rattle.ld_term.specs.Terms.{Term}
use Rattle.term_graph.specs.Asks.{Asked, answered, too_deep, full, ask_all}
use Rattle.term_graph.proofs.AskLemmas.{ask_all-append, ask_all-deep, ask_all-full}
use Rattle.term_expand.specs.Expansions.{IsAddress, expanded, expansion_at}
use Rattle.term_expand.specs.Requests.{expand_requests}
use Rattle.ld_cert.specs.Certificates.{ExpandsAlong}
use Rattle.ld_cert.specs.Accepted.{behind_expansion, along_requests, Claim}
use Rattle.ld_cert.specs.States.{Terms, Pair, State}
use Rattle.ld_cert.specs.States as due
use Rattle.ld_cert.specs.Checking.{claimed, with_left, with_right, certificate_file}
use Rattle.ld_cert.specs.declared.checked.LdAnswer.TheVariants.{Yes}
use Rattle.ld_cert.proofs.SaidLaws.{Said}
use Rattle.ld_cert.proofs.SaidLaws as said
use Rattle.ld_cert.proofs.CertificateLaws.{right_lines, step_lines}
use Rattle.ld_cert.proofs.KeptLaws.{MakesExpansion, FollowsRight, FollowsEnd, Follows, certificate_grammar}

-- The lines lead from what is due to the end of the file, and to what it claims.
abbrev pub Leads : State → List Said → Claim → Type 0
Leads now all claim = grammars.Leads certificate_file certificate_grammar now all claim

-- ---- Requests in parts ----

-- Requests in two parts that are granted.
pub record AreGranted (terms : List Term) (first second new : List Term) : Type 0 where
  pub mid : List Term
  pub before : ask_all (answered terms) first ≡ answered mid
  pub behind : ask_all (answered mid) second ≡ answered new

-- the first part is granted, and then the second
pub granted-parts
    : (terms first second new : List Term)
    → ask_all (answered terms) (first ++ second) ≡ answered new
    → AreGranted terms first second new
granted-parts terms first second new granted =
    go (ask_all (answered terms) first) refl (sym (ask_all-append (answered terms) first second) ∙ granted)
  where
    go
        : (asked : Asked)
        → ask_all (answered terms) first ≡ asked
        → ask_all asked second ≡ answered new
        → AreGranted terms first second new
    go (answered mid) before behind = record { mid = mid; before = before; behind = behind }
    go too_deep before behind = absurd (let none = sym (ask_all-deep second) ∙ behind in cc)
    go full before behind = absurd (let none = sym (ask_all-full second) ∙ behind in cc)

-- and back
pub parts-granted
    : (terms first second mid new : List Term)
    → ask_all (answered terms) first ≡ answered mid
    → ask_all (answered mid) second ≡ answered new
    → ask_all (answered terms) (first ++ second) ≡ answered new
parts-granted terms first second mid new before behind =
    ask_all-append (answered terms) first second ∙ ap (λ asked. ask_all asked second) before ∙ behind

-- the requests along addresses, of which the first gives this
along-requests
    : (address : List ℕ) (addresses : List (List ℕ)) (t u : Term)
    → expansion_at address t ≡ expanded u
    → along_requests (address ∷ addresses) t ≡ expand_requests address t ++ along_requests addresses u
along-requests address addresses t u is =
    ap (λ e. expand_requests address t ++ behind_expansion e (along_requests addresses)) is

-- ---- The end ----

-- What is claimed of the terms of a pair, in a graph of these terms.
abbrev pub claim_in : Terms → List Term → Claim
claim_in terms made = claimed (record terms { made = made }) Yes

-- behind the end nothing follows
pub Leads-Passed
    : (c : Claim) (all : List Said) (claim : Claim)
    → Leads (due.passed c) all claim
    → (all ≡ []) × (claim ≡ c)
Leads-Passed c [] claim leads = (refl, sym (Some-injective leads))
Leads-Passed c (s ∷ all) claim (next, can, follows, leads) = absurd follows

-- ---- Expansions of the right term ----

-- Lines from a pair on are those of expansions of its right term to its left one.
pub record AreRightSteps (pair : Pair) (all : List Said) (claim : Claim) : Type 0 where
  pub right : List (List ℕ)
  pub made : List Term
  pub lines_are : all ≡ right_lines right
  pub addresses : AllByRecursion IsAddress right
  pub along : ExpandsAlong right pair.right_now pair.left_now
  pub granted : ask_all (answered pair.terms.made) (along_requests right pair.right_now) ≡ answered made
  pub claims : claim ≡ claim_in pair.terms made

-- the end alone
right-end
    : (pair : Pair) (all : List Said) (claim : Claim) (next : State)
    → FollowsEnd pair next
    → Leads next all claim
    → AreRightSteps pair (said.finish ∷ all) claim
right-end pair all claim next follows leads =
    let (none, same) = Leads-Passed (claimed pair.terms Yes) all claim
    (subst (λ d. Leads d all claim) follows.due leads) in
    record {
      right = [];
      made = pair.terms.made;
      lines_are = ap (λ rest. said.finish ∷ rest) none;
      addresses = tt;
      along = sym follows.one;
      granted = refl;
      claims = same;
    }

-- one expansion more
right-more
    : (pair : Pair) (address : List ℕ) (new : List Term) (t : Term) (all : List Said) (claim : Claim)
    → IsAddress address
    → MakesExpansion pair.terms.made address pair.right_now new t
    → AreRightSteps (with_right pair new t) all claim
    → AreRightSteps pair (said.right_step address ∷ all) claim
right-more pair address new t all claim can makes more = record {
  right = address ∷ more.right;
  made = more.made;
  lines_are = ap (λ rest. said.right_step address ∷ rest) more.lines_are;
  addresses = (can, more.addresses);
  along = (t, makes.expansion, more.along);
  granted =
      ap (ask_all (answered pair.terms.made))
      (along-requests address more.right pair.right_now t makes.expansion)
      ∙ parts-granted pair.terms.made (expand_requests address pair.right_now)
      (along_requests more.right t) new more.made makes.granted more.granted;
  claims = more.claims;
}

-- the lines from an expansion of the right term on
Leads-RightSteps
    : (pair : Pair) (all : List Said) (claim : Claim)
    → Leads (due.right_step pair) all claim
    → AreRightSteps pair all claim
Leads-RightSteps pair [] claim leads = absurd (cc)
Leads-RightSteps pair (said.right_step address ∷ all) claim (next, can, follows, leads) =
    right-more pair address follows.new follows.term all claim can follows.makes
    (Leads-RightSteps (with_right pair follows.new follows.term) all claim
    (subst (λ d. Leads d all claim) follows.due leads))
Leads-RightSteps pair (said.finish ∷ all) claim (next, can, follows, leads) =
    right-end pair all claim next follows leads
Leads-RightSteps pair (s ∷ all) claim (next, can, follows, leads) = absurd follows

-- ---- Expansions of both ----

-- Lines from a pair on are those of expansions of both terms to one.
pub record AreSteps (pair : Pair) (all : List Said) (claim : Claim) : Type 0 where
  pub left : List (List ℕ)
  pub right : List (List ℕ)
  pub made : List Term
  pub meet : Term
  pub lines_are : all ≡ step_lines left right
  pub left_addresses : AllByRecursion IsAddress left
  pub right_addresses : AllByRecursion IsAddress right
  pub left_along : ExpandsAlong left pair.left_now meet
  pub right_along : ExpandsAlong right pair.right_now meet
  pub granted
      : ask_all (answered pair.terms.made)
      (along_requests left pair.left_now ++ along_requests right pair.right_now)
      ≡ answered made
  pub claims : claim ≡ claim_in pair.terms made

-- no expansion of the left term
no-left
    : (pair : Pair) (all : List Said) (claim : Claim)
    → AreRightSteps pair all claim
    → AreSteps pair all claim
no-left pair all claim steps = record {
  left = [];
  right = steps.right;
  made = steps.made;
  meet = pair.left_now;
  lines_are = steps.lines_are;
  left_addresses = tt;
  right_addresses = steps.addresses;
  left_along = refl;
  right_along = steps.along;
  granted = steps.granted;
  claims = steps.claims;
}

-- one more
left-more
    : (pair : Pair) (address : List ℕ) (new : List Term) (t : Term) (all : List Said) (claim : Claim)
    → IsAddress address
    → MakesExpansion pair.terms.made address pair.left_now new t
    → AreSteps (with_left pair new t) all claim
    → AreSteps pair (said.left_step address ∷ all) claim
left-more pair address new t all claim can makes more = record {
  left = address ∷ more.left;
  right = more.right;
  made = more.made;
  meet = more.meet;
  lines_are = ap (λ rest. said.left_step address ∷ rest) more.lines_are;
  left_addresses = (can, more.left_addresses);
  right_addresses = more.right_addresses;
  left_along = (t, makes.expansion, more.left_along);
  right_along = more.right_along;
  granted =
      let rest = along_requests more.right pair.right_now in
      ap (λ z. ask_all (answered pair.terms.made) (z ++ rest))
      (along-requests address more.left pair.left_now t makes.expansion)
      ∙ ap (ask_all (answered pair.terms.made))
      (append_assoc (expand_requests address pair.left_now) (along_requests more.left t) rest)
      ∙ parts-granted pair.terms.made (expand_requests address pair.left_now)
      (along_requests more.left t ++ rest) new more.made makes.granted more.granted;
  claims = more.claims;
}

-- the lines behind `yes`
pub Leads-Steps
    : (pair : Pair) (all : List Said) (claim : Claim)
    → Leads (due.left_step pair) all claim
    → AreSteps pair all claim
Leads-Steps pair [] claim leads = absurd (cc)
Leads-Steps pair (said.left_step address ∷ all) claim (next, can, follows, leads) =
    left-more pair address follows.new follows.term all claim can follows.makes
    (Leads-Steps (with_left pair follows.new follows.term) all claim
    (subst (λ d. Leads d all claim) follows.due leads))
Leads-Steps pair (said.right_step address ∷ all) claim (next, can, follows, leads) =
    no-left pair (said.right_step address ∷ all) claim
    (right-more pair address follows.new follows.term all claim can follows.makes
    (Leads-RightSteps (with_right pair follows.new follows.term) all claim
    (subst (λ d. Leads d all claim) follows.due leads)))
Leads-Steps pair (said.finish ∷ all) claim (next, can, follows, leads) =
    no-left pair (said.finish ∷ all) claim (right-end pair all claim next follows leads)
Leads-Steps pair (s ∷ all) claim (next, can, follows, leads) = absurd follows

-- ---- And back ----

-- Of a list of granted expansions, the first and the others.
record IsFirstOf (made : List Term) (address : List ℕ) (addresses : List (List ℕ)) (t : Term)
    (requests new : List Term) (end : Term) : Type 0 where
  mid : List Term
  term : Term
  makes : MakesExpansion made address t mid term
  along : ExpandsAlong addresses term end
  granted : ask_all (answered mid) (along_requests addresses term ++ requests) ≡ answered new

first-expansion
    : (made : List Term) (address : List ℕ) (addresses : List (List ℕ)) (t : Term)
    (requests new : List Term) (end : Term)
    → ExpandsAlong (address ∷ addresses) t end
    → ask_all (answered made) (along_requests (address ∷ addresses) t ++ requests) ≡ answered new
    → IsFirstOf made address addresses t requests new end
first-expansion made address addresses t requests new end (u, is, along) granted =
    let asked : along_requests (address ∷ addresses) t ++ requests
    ≡ expand_requests address t ++ (along_requests addresses u ++ requests)
    = ap (λ z. z ++ requests) (along-requests address addresses t u is)
    ∙ append_assoc (expand_requests address t) (along_requests addresses u) requests in
    let parts =
    granted-parts made (expand_requests address t) (along_requests addresses u ++ requests) new
    (sym (ap (ask_all (answered made)) asked) ∙ granted) in
    record {
      mid = parts.mid;
      term = u;
      makes = record { expansion = is; granted = parts.before };
      along = along;
      granted = parts.behind;
    }

-- a list of terms that is granted is one
answered-one : (old new : List Term) → answered old ≡ answered new → old ≡ new
answered-one old new is = cc

-- expansions of the right term that are granted lead to the end, where these may follow
right-Leads
    : (now : State) (pair : Pair) (right : List (List ℕ)) (made : List Term)
    → ((address : List ℕ) (next : State) → FollowsRight pair address next
    → Follows now (said.right_step address) next)
    → ((next : State) → FollowsEnd pair next → Follows now said.finish next)
    → AllByRecursion IsAddress right
    → ExpandsAlong right pair.right_now pair.left_now
    → ask_all (answered pair.terms.made) (along_requests right pair.right_now ++ []) ≡ answered made
    → Leads now (right_lines right) (claim_in pair.terms made)
right-Leads now pair [] made steps ends addresses along granted = (
  due.passed (claimed pair.terms Yes),
  tt,
  ends (due.passed (claimed pair.terms Yes)) (record { one = sym along; due = refl }),
  ap (λ terms. Some (claim_in pair.terms terms)) (answered-one pair.terms.made made granted),
)
right-Leads now pair (address ∷ right) made steps ends addresses along granted =
    let first =
    first-expansion pair.terms.made address right pair.right_now [] made pair.left_now along granted in
    let next = with_right pair first.mid first.term in (
      due.right_step next,
      addresses.0,
      steps address (due.right_step next) (record {
        new = first.mid;
        term = first.term;
        makes = first.makes;
        due = refl;
      }),
      right-Leads (due.right_step next) next right made (λ side after follows. follows)
          (λ after follows. follows) addresses.1 first.along first.granted,
    )

-- expansions of both terms to one that are granted lead to the end
pub AreSteps-Leads
    : (pair : Pair) (left right : List (List ℕ)) (made : List Term) (meet : Term)
    → AllByRecursion IsAddress left
    → AllByRecursion IsAddress right
    → ExpandsAlong left pair.left_now meet
    → ExpandsAlong right pair.right_now meet
    → ask_all (answered pair.terms.made)
    (along_requests left pair.left_now ++ along_requests right pair.right_now)
    ≡ answered made
    → Leads (due.left_step pair) (step_lines left right) (claim_in pair.terms made)
AreSteps-Leads pair [] right made meet left_can right_can left_along right_along granted =
    right-Leads (due.left_step pair) pair right made (λ address next follows. follows)
    (λ next follows. follows) right_can
    (subst (ExpandsAlong right pair.right_now) (sym left_along) right_along)
    (ap (ask_all (answered pair.terms.made)) (append-nil (along_requests right pair.right_now)) ∙ granted)
AreSteps-Leads pair (address ∷ left) right made meet left_can right_can left_along right_along granted =
    let first =
    first-expansion pair.terms.made address left pair.left_now (along_requests right pair.right_now) made meet
    left_along granted in
    let next = with_left pair first.mid first.term in (
      due.left_step next,
      left_can.0,
      record { new = first.mid; term = first.term; makes = first.makes; due = refl },
      AreSteps-Leads next left right made meet left_can.1 right_can first.along right_along first.granted,
    )
