-- Laws of what is due after one line, for the code that keeps it.
use Rattle.std.proofs.Common.{◌≡◌, ℕ, ◌^◌, ◌⊎◌, inl, inr, Bool, true, false, List, [], ◌∷◌, ◌++◌, length, take, drop, Option, Some, None, Ok, Err, refl, sym, ap, ap₂, ◌∙◌, subst, arith}
use Rattle.std.specs.Bool.{Decides}
use Rattle.std.specs.Str.{bytes_eq}
use Rattle.std.proofs.lemmas.Bool.{cases_Bool}
use Rattle.std.proofs.lemmas.Bool.Decides.{same_from_decides}
use Rattle.std.proofs.lemmas.Bool.{eq-eqb, eqb-true}
use Rattle.ld_term.specs.Terms.{Term}
use Rattle.ld_term.specs.Written.{Written, leaf, named, times, HasNoName}
use Rattle.ld_term.specs.Refusals.{IsSmall}
use Rattle.ld_term.specs.StrictTexts.{as_written, as_term, strict_term_of}
use Rattle.ld_term.proofs.StrictLemmas.{as_term-as_written, written_height-as_written, written_products-as_written}
use Rattle.laver_table.specs.Product.{product_rows}
use Rattle.laver_table.proofs.LaverLemmas.{IsLaver-product_rows, IsLaver-only}
use Rattle.term_eval.specs.Values.{value_of}
use Rattle.term_graph.specs.Asks.{same_term, answered, ask_all, IsRefusal}
use Rattle.term_graph.specs.Listings.{products}
use Rattle.term_graph.specs.Requests.{first_unknown, meaning, text_requests, named_terms}
use Rattle.term_graph.specs.TermLists.{term_at}
use Rattle.term_graph.specs.declared.error.GraphErr.{GraphErr}
use Rattle.term_graph.specs.declared.error.GraphErr.TheVariants.{TooDeep, Full}
use Rattle.term_graph.proofs.AskLemmas.{same_term-self, same_term-true}
use Rattle.term_graph.proofs.GrantLemmas.{meaning-as_term}
use Rattle.term_expand.specs.Expansions.{IsAddress}
use Rattle.ld_cert.specs.Accepted.{IsReadable}
use Rattle.ld_cert.specs.Differences.{AreAlikeIn}
use Rattle.ld_cert.specs.States.{Terms, Pair}
use Rattle.ld_cert.specs.States as due
use Rattle.ld_cert.specs.Checking.{behind_front, text_behind, readable, term_by, term_behind, address_in, address_behind, made_term, claimed, are_alike, kept_no, kept_end}
use Rattle.ld_cert.specs.declared.checked.LdAnswer.TheVariants.{Yes, No}
use Rattle.ld_cert.specs.declared.checked.LdWhy.TheVariants.{Large, Differ, Alike}
use Rattle.ld_cert.proofs.TextLemmas.{readable-some, Decides-is_address}

-- ---- Parts of a line ----

-- the term of a tree that was read
pub term_behind-read
    : (keyword line text : List ℕ) (t : Term) (w : Written)
    → text_behind keyword line ≡ Ok text
    → strict_term_of text ≡ Some t
    → w ≡ as_written t
    → IsSmall w
    → term_behind keyword line ≡ Ok (as_term w)
term_behind-read keyword line text t w behind read is small =
    let low = small.low in
    let few = small.few in
    let height_is = written_height-as_written t in
    let products_are = written_products-as_written t in
    let readable_t : IsReadable t =
    subst (λ z. IsSmall z → IsReadable t) (sym is) (λ (own : IsSmall (as_written t)). record {
      low = omega (arith, own.low, height_is);
      few = omega (arith, own.few, products_are);
    }) small in
    ap term_by behind ∙ ap readable read ∙ readable-some t readable_t
    ∙ ap (λ u. Ok u) (sym (ap as_term is ∙ as_term-as_written t))

-- the address that a line ends with
pub address_behind-read
    : (front line address : List ℕ)
    → bytes_eq (take (length front) line) front ≡ true
    → address ≡ drop (length front) line
    → IsAddress address
    → (address_behind front line ≡ Some address) × IsAddress address
address_behind-read front line address begins rest is =
    let found : behind_front front line ≡ Some address = rw begins (ap (λ r. Some r) (sym rest)) in
    (ap address_in found ∙ rw ((Decides-is_address address).1 is) refl, is)

-- ---- A term is made ----

-- a term without names has none that isn't known
pub first_unknown-nameless
    : (names : List (List ℕ)) (w : Written)
    → HasNoName w
    → first_unknown names w ≡ None
first_unknown-nameless names leaf nameless = refl
first_unknown-nameless names (named name place) nameless = absurd nameless
first_unknown-nameless names (times a b) nameless =
    rw (first_unknown-nameless names a nameless.0, first_unknown-nameless names b nameless.1) refl

-- it asks for its products
text_requests-products : (w : Written) → text_requests [] w ≡ products (as_term w)
text_requests-products leaf = refl
text_requests-products (named name place) = refl
text_requests-products (times a b) =
    ap₂ (λ (xs ys : List Term). xs ++ ys) (text_requests-products a)
    (ap₂ (λ (xs ys : List Term). xs ++ ys) (text_requests-products b)
    (ap (λ t. t ∷ []) (meaning-as_term (times a b))))

-- with no names
pub insert-asks
    : (terms : List Term) (names : List (List ℕ × ℕ)) (w : Written)
    → names ≡ []
    → text_requests (named_terms terms names) w ≡ products (as_term w)
insert-asks terms names w none =
    ap (λ own. text_requests (named_terms terms own) w) none ∙ text_requests-products w

-- what is granted is the term
pub insert-granted
    : (old new : List Term) (names : List (List ℕ × ℕ)) (w : Written) (n : ℕ)
    → names ≡ []
    → ask_all (answered old) (text_requests (named_terms old names) w) ≡ answered new
    → term_at new n ≡ meaning (named_terms old names) w
    → made_term (as_term w) (ask_all (answered old) (products (as_term w))) ≡ Ok (new, term_at new n)
insert-granted old new names w n none granted is =
    let asked = ap (ask_all (answered old)) (sym (insert-asks old names w none)) ∙ granted in
    let term = is ∙ ap (λ own. meaning (named_terms old own) w) none ∙ meaning-as_term w in
    ap (made_term (as_term w)) asked ∙ ap (λ t. Ok (new, t)) (sym term)

-- what is refused is too large
pub insert-refused
    : (old : List Term) (names : List (List ℕ × ℕ)) (w : Written) (e : GraphErr)
    → names ≡ []
    → (e ≡ TooDeep) ⊎ (e ≡ Full)
    → IsRefusal (ask_all (answered old) (text_requests (named_terms old names) w)) e
    → made_term (as_term w) (ask_all (answered old) (products (as_term w))) ≡ Err Large
insert-refused old names w e none which refused = go which
  where
    asks : ask_all (answered old) (products (as_term w))
        ≡ ask_all (answered old) (text_requests (named_terms old names) w)
    asks = ap (ask_all (answered old)) (sym (insert-asks old names w none))

    go
        : (e ≡ TooDeep) ⊎ (e ≡ Full)
        → made_term (as_term w) (ask_all (answered old) (products (as_term w))) ≡ Err Large
    go (inl deep) = ap (made_term (as_term w)) (asks ∙ subst (IsRefusal _) deep refused)
    go (inr many) = ap (made_term (as_term w)) (asks ∙ subst (IsRefusal _) many refused)

-- ---- The answer ----

-- whether two terms are alike in a table
pub are_alike-Decides
    : (alike : Bool) (n : ℕ) (t u : Term)
    → Decides alike (AreAlikeIn n t u)
    → are_alike n t u ≡ alike
are_alike-Decides alike n t u decides = same_from_decides _ alike (both n t u) decides
  where
    both : (n : ℕ) (t u : Term) → Decides (are_alike n t u) (AreAlikeIn n t u)
    both n t u = (
      λ pass. λ rows laver.
          subst (λ z. value_of z t ≡ value_of z u) (sym (IsLaver-only n rows laver)) (eqb-true _ _ pass),
      λ alike. eq-eqb _ _ (alike (product_rows (2 ^ n)) (IsLaver-product_rows n)),
    )

-- a no of terms that are alike, and of terms that aren't
module _
    (terms : Terms) (number : Option ℕ) (n : ℕ) (alike : Bool)
    (read : number ≡ Some n)
    (decides : Decides alike (AreAlikeIn n terms.left terms.right))
  where
    pub kept_no-alike : alike ≡ true → kept_no terms number ≡ Err Alike
    kept_no-alike is =
        let test = are_alike-Decides alike n terms.left terms.right decides ∙ is in
        rw (read, test) refl

    pub kept_no-apart : alike ≡ false → kept_no terms number ≡ Ok (due.finish (claimed terms (No n)))
    kept_no-apart is =
        let test = are_alike-Decides alike n terms.left terms.right decides ∙ is in
        rw (read, test) refl

-- the end where both terms have become one, and where they haven't
pub kept_end-one
    : (pair : Pair) (end : Bool)
    → end ≡ true
    → pair.left_now ≡ pair.right_now
    → kept_end pair end ≡ Ok (due.passed (claimed pair.terms Yes))
kept_end-one pair end is one =
    let test : same_term pair.left_now pair.right_now ≡ true
    = subst (λ z. same_term pair.left_now z ≡ true) one (same_term-self pair.left_now) in
    rw (is, test) refl

pub kept_end-Differ
    : (pair : Pair) (end : Bool)
    → end ≡ true
    → (pair.left_now ≡ pair.right_now → false ≡ true)
    → kept_end pair end ≡ Err Differ
kept_end-Differ pair end is apart = elim (cases_Bool (same_term pair.left_now pair.right_now)) [
  | inl pass ↦ absurd (let no = apart (same_term-true pair.left_now pair.right_now pass) in cc)
  | inr fail ↦ rw (is, fail) refl
]
