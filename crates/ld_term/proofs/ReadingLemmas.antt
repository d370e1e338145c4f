-- The automaton reads exactly the texts of terms.
use Rattle.std.proofs.Common.{◌≡◌, Bool, true, false, List, [], ◌∷◌, ◌++◌, Option, Some, None, refl, sym, ap, ◌∙◌, subst, append_assoc, append-nil}
use Rattle.std.proofs.lemmas.Option.{none-some}
use Rattle.ld_term.specs.Written.{Written, leaf, named, times}
use Rattle.ld_term.specs.Tokens.{Token, open_bracket, close_bracket, star, equals, variable, name, bad}
use Rattle.ld_term.specs.Grammar.{atom_tokens, IsTermText, atom, bare, IsTerm, Begins}
use Rattle.ld_term.specs.Automaton.{State, expecting, holding, step_star, step_close, step, step_from, run, start, finish, before_tokens, front, IsLegalLevel, IsLegal}
use Rattle.wb_base.proofs.PartLemmas.{Some-injective}

-- ---- Runs ----

-- reading two lists one after the other
pub run-append
    : (strict : Bool) (u v : List Token) (s : Option State)
    → run strict (u ++ v) s ≡ run strict v (run strict u s)
run-append strict [] v s = refl
run-append strict (token ∷ u) v s = run-append strict u v (step_from strict token s)

-- nothing follows where a token may not stand
pub run-none : (strict : Bool) (tokens : List Token) → run strict tokens None ≡ None
run-none strict [] = refl
run-none strict (token ∷ tokens) = run-none strict tokens

-- the tokens of an atom are read where one is expected
pub run-atom
    : (strict : Bool) (t : Written) (k : Option Written) (ks : List (Option Written))
    → run strict (atom_tokens t) (Some (expecting k ks)) ≡ Some (holding t k ks)
run-atom strict leaf k ks = refl
run-atom strict (named bytes place) k ks = refl
run-atom strict (times a b) k ks =
    rw (
      run-append strict (atom_tokens a) (star ∷ (atom_tokens b ++ (close_bracket ∷ [])))
          (Some (expecting None (k ∷ ks))),
      run-atom strict a None (k ∷ ks),
      run-append strict (atom_tokens b) (close_bracket ∷ []) (Some (expecting (Some a) (k ∷ ks))),
      run-atom strict b (Some a) (k ∷ ks),
    ) refl

-- Some tokens are read from the start, and end in a term.
pub record Reads (strict : Bool) (tokens : List Token) (t : Written) : Type 0 where
  pub state : State
  pub reached : run strict tokens (Some start) ≡ Some state
  pub finished : finish state ≡ Some t

-- a text of a term is read, and ends in the term
pub reads-text
    : (strict : Bool) (tokens : List Token) (t : Written)
    → IsTermText strict tokens t
    → Reads strict tokens t
reads-text strict tokens t (atom is) =
    record { state = holding t None []; reached = rw is (run-atom strict t None []); finished = refl }
reads-text strict tokens (times a b) (bare loose is) = record {
  state = holding b (Some a) [];
  reached = rw (is, loose) (rw (
    run-append false (atom_tokens a) (star ∷ atom_tokens b) (Some start),
    run-atom false a None [],
  ) (run-atom false b (Some a) []));
  finished = refl;
}

-- ---- What was read ----

-- a star behind an atom is read
front-star
    : (strict : Bool) (t : Written) (ks : List (Option Written)) (s : State)
    → step_star strict t ks ≡ Some s
    → front s ≡ front (holding t None ks) ++ (star ∷ [])
front-star true t [] s is = cc
front-star false t [] s is = rw (sym (Some-injective is)) refl
front-star true t (k ∷ ks) s is = rw (sym (Some-injective is)) (simp append_assoc)
front-star false t (k ∷ ks) s is = rw (sym (Some-injective is)) (simp append_assoc)

-- a closing bracket is read
front-close
    : (a b : Written) (ks : List (Option Written)) (s : State)
    → step_close a b ks ≡ Some s
    → front s ≡ front (holding b (Some a) ks) ++ (close_bracket ∷ [])
front-close a b [] s is = cc
front-close a b (k ∷ ks) s is = rw (sym (Some-injective is)) (simp append_assoc)

-- the next token is read
pub front-step
    : (strict : Bool) (token : Token) (s r : State)
    → step strict token s ≡ Some r
    → front r ≡ front s ++ (token ∷ [])
front-step strict open_bracket (expecting k ks) r is = rw (sym (Some-injective is)) refl
front-step strict variable (expecting k ks) r is = rw (sym (Some-injective is)) refl
front-step strict (name bytes place) (expecting k ks) r is = rw (sym (Some-injective is)) refl
front-step strict close_bracket (expecting k ks) r is = cc
front-step strict star (expecting k ks) r is = cc
front-step strict equals (expecting k ks) r is = cc
front-step strict bad (expecting k ks) r is = cc
front-step strict star (holding t None ks) r is = front-star strict t ks r is
front-step strict star (holding t (Some a) ks) r is = cc
front-step strict close_bracket (holding t (Some a) ks) r is = front-close a t ks r is
front-step strict close_bracket (holding t None ks) r is = cc
front-step strict open_bracket (holding t k ks) r is = cc
front-step strict variable (holding t k ks) r is = cc
front-step strict (name bytes place) (holding t k ks) r is = cc
front-step strict equals (holding t k ks) r is = cc
front-step strict bad (holding t k ks) r is = cc

-- all tokens are read, after those before
pub front-run
    : (strict : Bool) (tokens : List Token) (s r : State)
    → run strict tokens (Some s) ≡ Some r
    → front r ≡ front s ++ tokens
front-run strict [] s r is = rw (Some-injective is, append-nil (front r)) refl
front-run strict (token ∷ tokens) s r is =
    by_step (λ q. front-run strict tokens q r) (step strict token s) refl
  where
    by_step : ((q : State) → run strict tokens (Some q) ≡ Some r → front r ≡ front q ++ tokens)
        → (o : Option State) → step strict token s ≡ o → front r ≡ front s ++ (token ∷ tokens)
    by_step more None stops =
        absurd (none-some r (sym (run-none strict tokens) ∙ ap (run strict tokens) (sym stops) ∙ is))
    by_step more (Some q) goes =
        more q (sym (ap (run strict tokens) goes) ∙ is)
        ∙ ap (λ w. w ++ tokens) (front-step strict token s q goes)
        ∙ append_assoc (front s) (token ∷ []) tokens

-- ---- Strict lines ----

-- a star keeps the line without one
legal-star
    : (strict : Bool) (t : Written) (ks : List (Option Written)) (s : State)
    → IsLegalLevel strict None ks
    → step_star strict t ks ≡ Some s
    → IsLegal strict s
legal-star true t [] s legal is = cc
legal-star false t [] s legal is = subst (IsLegal false) (Some-injective is) refl
legal-star true t (k ∷ ks) s legal is = subst (IsLegal true) (Some-injective is) legal
legal-star false t (k ∷ ks) s legal is = subst (IsLegal false) (Some-injective is) legal

-- and so does a closing bracket
legal-close
    : (strict : Bool) (a b : Written) (ks : List (Option Written)) (s : State)
    → IsLegalLevel strict (Some a) ks
    → step_close a b ks ≡ Some s
    → IsLegal strict s
legal-close strict a b [] s legal is = cc
legal-close strict a b (k ∷ ks) s legal is = subst (IsLegal strict) (Some-injective is) legal

-- and any token
pub legal-step
    : (strict : Bool) (token : Token) (s r : State)
    → IsLegal strict s
    → step strict token s ≡ Some r
    → IsLegal strict r
legal-step strict open_bracket (expecting k ks) r legal is = subst (IsLegal strict) (Some-injective is) legal
legal-step strict variable (expecting k ks) r legal is = subst (IsLegal strict) (Some-injective is) legal
legal-step strict (name bytes place) (expecting k ks) r legal is =
    subst (IsLegal strict) (Some-injective is) legal
legal-step strict close_bracket (expecting k ks) r legal is = cc
legal-step strict star (expecting k ks) r legal is = cc
legal-step strict equals (expecting k ks) r legal is = cc
legal-step strict bad (expecting k ks) r legal is = cc
legal-step strict star (holding t None ks) r legal is = legal-star strict t ks r legal is
legal-step strict star (holding t (Some a) ks) r legal is = cc
legal-step strict close_bracket (holding t (Some a) ks) r legal is = legal-close strict a t ks r legal is
legal-step strict close_bracket (holding t None ks) r legal is = cc
legal-step strict open_bracket (holding t k ks) r legal is = cc
legal-step strict variable (holding t k ks) r legal is = cc
legal-step strict (name bytes place) (holding t k ks) r legal is = cc
legal-step strict equals (holding t k ks) r legal is = cc
legal-step strict bad (holding t k ks) r legal is = cc

-- and any tokens
pub legal-run
    : (strict : Bool) (tokens : List Token) (s r : State)
    → IsLegal strict s
    → run strict tokens (Some s) ≡ Some r
    → IsLegal strict r
legal-run strict [] s r legal is = subst (IsLegal strict) (Some-injective is) legal
legal-run strict (token ∷ tokens) s r legal is =
    by_step (λ q. legal-run strict tokens q r) (step strict token s) refl
  where
    by_step : ((q : State) → IsLegal strict q → run strict tokens (Some q) ≡ Some r → IsLegal strict r)
        → (o : Option State) → step strict token s ≡ o → IsLegal strict r
    by_step more None stops =
        absurd (none-some r (sym (run-none strict tokens) ∙ ap (run strict tokens) (sym stops) ∙ is))
    by_step more (Some q) goes =
        more q (legal-step strict token s q legal goes) (sym (ap (run strict tokens) goes) ∙ is)

-- ---- Ends ----

-- The tokens can go on to a text.
pub record Ends (strict : Bool) (tokens : List Token) : Type 0 where
  pub rest : List Token
  pub term : Written
  pub text : IsTermText strict (tokens ++ rest) term

-- what can go on after more tokens can go on
ends-more : (strict : Bool) (tokens more : List Token) → Ends strict (tokens ++ more) → Ends strict tokens
ends-more strict tokens more ends = record {
  rest = more ++ ends.rest;
  term = ends.term;
  text = subst (λ w. IsTermText strict w ends.term) (append_assoc tokens more ends.rest) ends.text;
}

-- behind an atom
ends-holding
    : (strict : Bool) (ks : List (Option Written)) (k : Option Written) (t : Written)
    → IsLegalLevel strict k ks
    → Ends strict (front (holding t k ks))
ends-holding strict [] None t legal = record { rest = []; term = t; text = atom (append-nil (atom_tokens t)) }
ends-holding strict [] (Some a) t legal = record {
  rest = [];
  term = times a t;
  text = bare legal (simp (append_assoc, append-nil));
}
ends-holding strict (j ∷ ks) (Some a) t legal =
    ends-more strict (front (holding t (Some a) (j ∷ ks))) (close_bracket ∷ [])
    (subst (Ends strict) (front-close a t (j ∷ ks) (holding (times a t) j ks) refl)
    (ends-holding strict ks j (times a t) legal))
ends-holding strict (j ∷ ks) None t legal =
    let closed : Ends strict (front (holding leaf (Some t) (j ∷ ks)) ++ (close_bracket ∷ [])) =
    subst (Ends strict) (front-close t leaf (j ∷ ks) (holding (times t leaf) j ks) refl)
    (ends-holding strict ks j (times t leaf) legal) in
    ends-more strict (front (holding t None (j ∷ ks))) (star ∷ (variable ∷ (close_bracket ∷ [])))
    (subst (Ends strict) (simp append_assoc) closed)

-- each line so far can go on
pub ends-state : (strict : Bool) (s : State) → IsLegal strict s → Ends strict (front s)
ends-state strict (holding t k ks) legal = ends-holding strict ks k t legal
ends-state strict (expecting k ks) legal =
    ends-more strict (before_tokens k ks) (variable ∷ []) (ends-holding strict ks k leaf legal)

-- ---- What the automaton says ----

-- the start is legal
legal-start : (strict : Bool) → IsLegal strict start
legal-start true = tt
legal-start false = tt

-- tokens that are read are the beginning of a text
pub begins-run
    : (strict : Bool) (tokens : List Token) (s : State)
    → run strict tokens (Some start) ≡ Some s
    → Begins (IsTerm strict) tokens
begins-run strict tokens s is =
    let ends = ends-state strict s (legal-run strict tokens start s (legal-start strict) is) in (
      ends.rest,
      (
        ends.term,
        subst (λ w. IsTermText strict (w ++ ends.rest) ends.term)
            (front-run strict tokens start s is) ends.text,
      ),
    )

-- the beginning of a text is read
pub run-begins
    : (strict : Bool) (tokens : List Token)
    → Begins (IsTerm strict) tokens
    → run strict tokens (Some start) ≡ None
    → ⊥
run-begins strict tokens (rest, (t, text)) stops =
    let reads = reads-text strict (tokens ++ rest) t text in
    none-some reads.state
    (sym (run-none strict rest) ∙ ap (run strict rest) (sym stops)
    ∙ sym (run-append strict tokens rest (Some start)) ∙ reads.reached)

-- a token that may not stand behind others isn't there in a text
pub begins-not
    : (strict : Bool) (tokens : List Token) (token : Token) (s : State)
    → run strict tokens (Some start) ≡ Some s
    → step strict token s ≡ None
    → Begins (IsTerm strict) (tokens ++ (token ∷ []))
    → ⊥
begins-not strict tokens token s is stops begins =
    run-begins strict (tokens ++ (token ∷ [])) begins
    (run-append strict tokens (token ∷ []) (Some start) ∙ ap (run strict (token ∷ [])) is ∙ stops)

-- what ends in a term is a text of it
pub finish-text
    : (strict : Bool) (s : State) (t : Written)
    → IsLegal strict s
    → finish s ≡ Some t
    → IsTermText strict (front s) t
finish-text strict (expecting k ks) t legal is = cc
finish-text strict (holding u None []) t legal is = atom (ap atom_tokens (Some-injective is))
finish-text strict (holding u (Some a) []) t legal is =
    subst (IsTermText strict (front (holding u (Some a) []))) (Some-injective is)
    (bare legal (append_assoc (atom_tokens a) (star ∷ []) (atom_tokens u)))
finish-text strict (holding u None (j ∷ ks)) t legal is = cc
finish-text strict (holding u (Some a) (j ∷ ks)) t legal is = cc

-- tokens that are read and end in a term are a text of it
pub text-run
    : (strict : Bool) (tokens : List Token) (s : State) (t : Written)
    → run strict tokens (Some start) ≡ Some s
    → finish s ≡ Some t
    → IsTermText strict tokens t
text-run strict tokens s t is ends =
    subst (λ w. IsTermText strict w t) (front-run strict tokens start s is)
    (finish-text strict s t (legal-run strict tokens start s (legal-start strict) is) ends)

-- tokens that are read and don't end in a term are no text
pub no_text-run
    : (strict : Bool) (tokens : List Token) (s : State)
    → run strict tokens (Some start) ≡ Some s
    → finish s ≡ None
    → IsTerm strict tokens
    → ⊥
no_text-run strict tokens s is none (t, text) =
    let reads = reads-text strict tokens t text in
    none-some t (sym none ∙ ap finish (Some-injective (sym is ∙ reads.reached)) ∙ reads.finished)

-- a text is a text of one term
pub text-unique
    : (strict : Bool) (tokens : List Token) (t u : Written)
    → IsTermText strict tokens t
    → IsTermText strict tokens u
    → t ≡ u
text-unique strict tokens t u one two =
    let first = reads-text strict tokens t one in
    let second = reads-text strict tokens u two in
    Some-injective
    (sym first.finished ∙ ap finish (Some-injective (sym first.reached ∙ second.reached))
    ∙ second.finished)
