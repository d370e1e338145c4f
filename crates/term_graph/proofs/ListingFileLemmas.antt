-- The listing of a term is a term file of this one term.
--
-- Behind some lines the names are those of the products so far, and each stands for its product
-- (`lookup-listed`). So the next line has no fault and asks for the next product, and the last line is the
-- term (`AreRead-lines`). All products are granted (`ask_all-Follows`).
use Rattle.std.proofs.Common.{◌≡◌, ◌≢◌, ℕ, suc, ◌+◌, ◌^◌, ◌<◌, ◌≤◌, inl, inr, not, nat_lt, true, false, List, [], ◌∷◌, ◌++◌, length, decimal, Some, None, is_some, refl, sym, ap, ◌∙◌, subst, append_assoc, append-nil, length-append, arith, true≢false}
use Rattle.std.specs.List.{prefix_len}
use Rattle.std.specs.Map.{keys_of, lookup}
use Rattle.std.specs.Option.{unwrap_or}
use Rattle.std.specs.Str.{bytes_eq}
use Rattle.std.specs.Str.Parse.{digits_value}
use Rattle.std.proofs.lemmas.Bool.{cases_Bool, le-ltb}
use Rattle.std.proofs.lemmas.List.{map-append}
use Rattle.std.proofs.lemmas.List.Sums.{prefix_len-le-length}
use Rattle.std.proofs.lemmas.Map.Made.{is_some-lookup}
use Rattle.std.proofs.lemmas.Slice.Eq.{bytes_eq-Decides}
use Rattle.wb_base.specs.Lines.{lines_of}
use Rattle.wb_base.proofs.NumberLemmas.{digits_value-of_decimal}
use Rattle.ld_term.specs.Terms.{Term, variable, multiply, height}
use Rattle.ld_term.specs.Written.{Written, times, written_height, written_products}
use Rattle.ld_term.specs.declared.TheConstants.{MAX_HEIGHT, MAX_PRODUCTS}
use Rattle.term_graph.specs.Asks.{same_term, has_term, answered, ask, ask_all}
use Rattle.term_graph.specs.Requests.{is_known, first_unknown, meaning, text_requests}
use Rattle.term_graph.specs.TermFiles.{Line, definition, closing, line_term, due_lines, size_fault, IsSound, AreSound, file_requests, last_terms, IsTermFile}
use Rattle.term_graph.specs.Listings.{distinct_products, listing_text, number_in, name_text}
use Rattle.term_graph.specs.declared.TheConstants.{MAX_NODES}
use Rattle.term_graph.proofs.AskLemmas.{same_term-true, ask-new}
use Rattle.term_graph.proofs.DistinctLemmas.{IsThere, IsNew, Follows, Follows-distinct, IsThere-distinct, term_at-distinct}
use Rattle.term_graph.proofs.ListingTextLemmas.{number_name, line_texts, lines_of-listing, written_name, product_text, left_place, right_place, written_line, Says-product, Says-term}

-- ---- Names ----

-- the names of different numbers differ
name-other : (k n : ℕ) → k < 2 ^ 64 → n < 2 ^ 64 → k ≢ n → bytes_eq (number_name k) (number_name n) ≡ false
name-other k n low also other = elim (cases_Bool (bytes_eq (number_name k) (number_name n))) [
  | inr differ ↦ differ
  | inl one ↦
      let names : number_name k ≡ number_name n = (bytes_eq-Decides (number_name k) (number_name n)).0 one in
      let digits : decimal k ≡ decimal n = cc in
      absurd (other (sym (digits_value-of_decimal k low) ∙ ap (digits_value 10) digits
      ∙ digits_value-of_decimal n also))
]

-- a name is itself
name-self : (k : ℕ) → bytes_eq (number_name k) (number_name k) ≡ true
name-self k = (bytes_eq-Decides (number_name k) (number_name k)).1 refl

-- Products with their names, which are numbered from a number on.
abbrev named_products : ℕ → List Term → List (List ℕ × Term)
named_products k [] = []
named_products k (t ∷ ts) = (number_name k, t) ∷ named_products (k + 1) ts

-- one product more
named_products-push
    : (k : ℕ) (ts : List Term) (t : Term)
    → named_products k (ts ++ (t ∷ [])) ≡ named_products k ts ++ ((number_name (k + length ts), t) ∷ [])
named_products-push k [] t =
    let at : k ≡ k + 0 = omega arith in
    ap (λ n. (number_name n, t) ∷ []) at
named_products-push k (u ∷ ts) t =
    let at : k + 1 + length ts ≡ k + length (u ∷ ts) = omega arith in
    ap (λ z. (number_name k, u) ∷ z)
    (named_products-push (k + 1) ts t ∙ ap (λ n. named_products (k + 1) ts ++ ((number_name n, t) ∷ [])) at)

-- How many terms stand before the first of a list that is this term.
abbrev places_before : Term → List Term → ℕ
places_before t ts = prefix_len (λ u. not (same_term t u)) ts

-- the name of a product stands for it, also where more are listed
lookup-named
    : (k : ℕ) (before after : List Term) (t : Term)
    → has_term t before ≡ true
    → k + length (before ++ after) < 2 ^ 64
    → lookup (bytes_eq (number_name (k + places_before t (before ++ after)))) (named_products k before)
    ≡ Some t
lookup-named k [] after t there fits = absurd (true≢false (sym there))
lookup-named k (u ∷ before) after t there fits = elim (cases_Bool (same_term t u)) [
  | inl one ↦
      let at : k + places_before t (u ∷ (before ++ after)) ≡ k = rw one (omega arith) in
      ap (λ n. lookup (bytes_eq (number_name n)) (named_products k (u ∷ before))) at
      ∙ rw (name-self k) (ap Some (sym (same_term-true t u one)))
  | inr other ↦
      let places = places_before t (before ++ after) in
      let at : k + places_before t (u ∷ (before ++ after)) ≡ k + 1 + places = rw other (omega arith) in
      let within = prefix_len-le-length (λ v. not (same_term t v)) (before ++ after) in
      ap (λ n. lookup (bytes_eq (number_name n)) (named_products k (u ∷ before))) at
      ∙ rw (name-other (k + 1 + places) k (omega arith) (omega arith) (λ e. omega arith))
      (lookup-named (k + 1) before after t (rw other at there) (omega arith))
]

-- the name of a later product is new
name-new
    : (k n : ℕ) (before : List Term)
    → k + length before ≤ n
    → n < 2 ^ 64
    → is_known (number_name n) (keys_of (named_products k before)) ≡ false
name-new k n [] past fits = refl
name-new k n (u ∷ before) past fits =
    rw (name-other n k fits (omega arith) (λ e. omega arith), name-new (k + 1) n before (omega arith) fits)
    refl

-- ---- Parts ----

-- A list starts with these products, and isn't too long for its numbers.
record StartsWith (listed before after : List Term) : Type 0 where
  is : listed ≡ before ++ after
  fits : length listed + 1 < 2 ^ 64

-- the name of a listed product stands for it
lookup-listed
    : (listed before after : List Term) (t : Term)
    → StartsWith listed before after
    → has_term t before ≡ true
    → lookup (bytes_eq (number_name (number_in listed t))) (named_products 1 before) ≡ Some t
lookup-listed listed before after t front there =
    let size : length listed ≡ length (before ++ after) = ap length front.is in
    let at : number_in listed t ≡ 1 + places_before t (before ++ after) =
    ap (λ z. places_before t z + 1) front.is ∙ omega arith in
    ap (λ n. lookup (bytes_eq (number_name n)) (named_products 1 before)) at
    ∙ lookup-named 1 before after t there (omega (arith, front.fits))

-- the name of a term that is there is known
known-name
    : (listed before after : List Term) (place : ℕ) (t : Term)
    → StartsWith listed before after
    → IsThere before t
    → first_unknown (keys_of (named_products 1 before)) (written_name listed place t) ≡ None
known-name listed before after place variable front there = refl
known-name listed before after place (multiply l r) front there =
    let name = number_name (number_in listed (multiply l r)) in
    let known : is_known name (keys_of (named_products 1 before)) ≡ true =
    sym (is_some-lookup (bytes_eq name) (named_products 1 before))
    ∙ ap is_some (lookup-listed listed before after (multiply l r) front there) in
    rw known refl

-- it stands for the term
meaning-name
    : (listed before after : List Term) (place : ℕ) (t : Term)
    → StartsWith listed before after
    → IsThere before t
    → meaning (named_products 1 before) (written_name listed place t) ≡ t
meaning-name listed before after place variable front there = refl
meaning-name listed before after place (multiply l r) front there =
    ap (λ o. unwrap_or o variable) (lookup-listed listed before after (multiply l r) front there)

-- it asks for nothing
requests-name
    : (terms : List (List ℕ × Term)) (listed : List Term) (place : ℕ) (t : Term)
    → text_requests terms (written_name listed place t) ≡ []
requests-name terms listed place variable = refl
requests-name terms listed place (multiply l r) = refl

-- it has no height
height-name : (listed : List Term) (place : ℕ) (t : Term) → written_height (written_name listed place t) ≡ 0
height-name listed place variable = refl
height-name listed place (multiply l r) = refl

-- and no products
products-name
    : (listed : List Term) (place : ℕ) (t : Term)
    → written_products (written_name listed place t) ≡ 0
products-name listed place variable = refl
products-name listed place (multiply l r) = refl

-- ---- Lines ----

-- a term that is neither high nor large has no fault of size
size-small
    : (k : ℕ) (w : Written)
    → written_height w ≤ 1
    → written_products w ≤ 1
    → size_fault k w ≡ None
size-small k w low small =
    rw (
      le-ltb MAX_HEIGHT (written_height w) (omega arith),
      le-ltb MAX_PRODUCTS (written_products w) (omega arith),
    ) refl

-- the line of the next product has no fault
sound-product
    : (limit : ℕ) (listed before after : List Term) (l r : Term)
    → StartsWith listed before (multiply l r ∷ after)
    → IsNew limit before l r
    → IsSound (length before + 1) (keys_of (named_products 1 before))
    record { defines = true; bytes = product_text listed (length before + 1) (multiply l r) }
    (written_line listed (length before + 1) (multiply l r))
sound-product limit listed before after l r front new =
    let k = length before + 1 in
    let size : length listed ≡ length before + suc (length after) =
    ap length front.is ∙ length-append before (multiply l r ∷ after) in
    let low : k < 2 ^ 64 = omega (arith, front.fits) in
    let small = size-small k (line_term (written_line listed k (multiply l r)))
    (omega (arith, height-name listed (left_place k) l, height-name listed (right_place listed k l) r))
    (omega (
      arith,
      products-name listed (left_place k) l,
      products-name listed (right_place listed k l) r,
    )) in
    record {
      says = Says-product listed k l r low front.fits;
      none = rw (
        small,
        name-new 1 k before (omega arith) low,
        known-name listed before (multiply l r ∷ after) (left_place k) l front new.left,
        known-name listed before (multiply l r ∷ after) (right_place listed k l) r front new.right,
      ) refl;
    }

-- the last line has none
sound-term
    : (listed : List Term) (k : ℕ) (t : Term)
    → length listed + 1 < 2 ^ 64
    → IsThere listed t
    → IsSound k (keys_of (named_products 1 listed)) record { defines = false; bytes = name_text listed t }
    (closing (written_name listed 1 t))
sound-term listed k t fits there = record {
  says = Says-term listed t fits;
  none =
      rw (
        size-small k (written_name listed 1 t) (omega (arith, height-name listed 1 t))
            (omega (arith, products-name listed 1 t)),
        known-name listed listed [] 1 t record { is = sym (append-nil listed); fits = fits } there,
      ) refl;
}

-- ---- The lines one after the other ----

-- Lines of which the last is a term: they have no fault, and they ask for these products and are this term.
record AreRead (k : ℕ) (terms : List (List ℕ × Term)) (texts : List (List ℕ)) (read : List Line)
    (asked : List Term) (t : Term) : Type 0 where
  sound : AreSound k (keys_of terms) (due_lines 1 texts) read
  requests : file_requests terms read ≡ asked
  last : last_terms terms read ≡ t ∷ []

-- a line more that defines a name
AreRead-more
    : (k : ℕ) (terms : List (List ℕ × Term)) (texts : List (List ℕ)) (read : List Line) (asked : List Term)
    (t u : Term)
    (text name : List ℕ) (w : Written)
    → 0 < length texts
    → IsSound k (keys_of terms) record { defines = true; bytes = text } (definition name 1 w)
    → meaning terms w ≡ u
    → text_requests terms w ≡ u ∷ []
    → AreRead (k + 1) (terms ++ ((name, u) ∷ [])) texts read asked t
    → AreRead k terms (text ∷ texts) (definition name 1 w ∷ read) (u ∷ asked) t
AreRead-more k terms texts read asked t u text name w some line is one rest =
    let defines : true ≡ not (nat_lt (length texts) 1) = rw (le-ltb (length texts) 1 some) refl in
    let names : keys_of (terms ++ ((name, u) ∷ [])) ≡ keys_of terms ++ (name ∷ []) =
    map-append _ terms ((name, u) ∷ []) in
    let behind : terms ++ ((name, u) ∷ []) ≡ terms ++ ((name, meaning terms w) ∷ []) =
    ap (λ z. terms ++ ((name, z) ∷ [])) (sym is) in
    record {
      sound = (
        subst (λ b. IsSound k (keys_of terms) record { defines = b; bytes = text } (definition name 1 w))
            defines line,
        subst (λ z. AreSound (k + 1) z (due_lines 1 texts) read) names rest.sound,
      );
      requests = rw one (ap (λ z. u ∷ file_requests z read) (sym behind) ∙ ap (λ z. u ∷ z) rest.requests);
      last = ap (λ z. last_terms z read) (sym behind) ∙ rest.last;
    }

-- What the lines of a listing say from that of a product on.
abbrev written_lines : List Term → ℕ → List Term → Term → List Line
written_lines listed k [] t = closing (written_name listed 1 t) ∷ []
written_lines listed k (u ∷ us) t = written_line listed k u ∷ written_lines listed (k + 1) us t

-- there is a last line
some-texts : (listed : List Term) (k : ℕ) (us : List Term) (t : Term) → 0 < length (line_texts listed k us t)
some-texts listed k [] t = omega arith
some-texts listed k (u ∷ us) t = omega arith

-- the last line is the term
AreRead-last
    : (listed before : List Term) (t : Term)
    → StartsWith listed before []
    → IsThere listed t
    → AreRead (length before + 1) (named_products 1 before) (name_text listed t ∷ [])
    (closing (written_name listed 1 t) ∷ []) [] t
AreRead-last listed before t front there =
    let all : listed ≡ before = front.is ∙ append-nil before in
    record {
      sound = (
        subst (λ z. IsSound (length before + 1) (keys_of (named_products 1 z))
            record { defines = false; bytes = name_text listed t } (closing (written_name listed 1 t)))
            all (sound-term listed (length before + 1) t front.fits there),
        tt,
      );
      requests = rw (requests-name (named_products 1 before) listed 1 t) refl;
      last = ap (λ z. z ∷ []) (meaning-name listed before [] 1 t front (subst (λ z. IsThere z t) all there));
    }

-- the lines of a listing ask for the products that are listed
AreRead-lines
    : (limit : ℕ) (listed before us : List Term) (t : Term)
    → Follows limit before us
    → StartsWith listed before us
    → IsThere listed t
    → AreRead (length before + 1) (named_products 1 before) (line_texts listed (length before + 1) us t)
    (written_lines listed (length before + 1) us t) us t
AreRead-lines limit listed before [] t follows front there = AreRead-last listed before t front there
AreRead-lines limit listed before (variable ∷ us) t follows front there = absurd follows.0
AreRead-lines limit listed before (multiply l r ∷ us) t follows front there =
    let k = length before + 1 in
    let u = multiply l r in
    let terms = named_products 1 before in
    let left = written_name listed (left_place k) l in
    let right = written_name listed (right_place listed k l) r in
    let left_is : meaning terms left ≡ l =
    meaning-name listed before (u ∷ us) (left_place k) l front follows.0.left in
    let right_is : meaning terms right ≡ r =
    meaning-name listed before (u ∷ us) (right_place listed k l) r front follows.0.right in
    let next : StartsWith listed (before ++ (u ∷ [])) us =
    record { is = front.is ∙ sym (append_assoc before (u ∷ []) us); fits = front.fits } in
    let more = AreRead-lines limit listed (before ++ (u ∷ [])) us t follows.1 next there in
    let size : length (before ++ (u ∷ [])) ≡ k = length-append before (u ∷ []) ∙ omega arith in
    let named : named_products 1 (before ++ (u ∷ [])) ≡ terms ++ ((number_name k, u) ∷ []) =
    named_products-push 1 before u ∙ ap (λ n. terms ++ ((number_name n, u) ∷ [])) (omega arith) in
    let rest : AreRead (k + 1) (terms ++ ((number_name k, u) ∷ [])) (line_texts listed (k + 1) us t)
    (written_lines listed (k + 1) us t) us t =
    subst (λ z. AreRead (k + 1) z (line_texts listed (k + 1) us t) (written_lines listed (k + 1) us t) us t)
    named
    (subst (λ n. AreRead (n + 1) (named_products 1 (before ++ (u ∷ []))) (line_texts listed (n + 1) us t)
    (written_lines listed (n + 1) us t) us t) size more) in
    AreRead-more k terms (line_texts listed (k + 1) us t) (written_lines listed (k + 1) us t) us t u
    (product_text listed k u) (number_name k) (times left right)
    (some-texts listed (k + 1) us t)
    (sound-product limit listed before us l r front follows.0)
    (λ i. multiply (left_is i) (right_is i))
    (rw (
      requests-name terms listed (left_place k) l,
      requests-name terms listed (right_place listed k l) r,
      left_is,
      right_is,
    ) refl)
    rest

-- ---- Requests ----

-- products that follow their parts are granted
ask_all-Follows
    : (before us : List Term)
    → Follows MAX_HEIGHT before us
    → length (before ++ us) ≤ MAX_NODES
    → ask_all (answered (variable ∷ before)) us ≡ answered (variable ∷ (before ++ us))
ask_all-Follows before [] follows few = ap (λ z. answered (variable ∷ z)) (sym (append-nil before))
ask_all-Follows before (variable ∷ us) follows few = absurd follows.0
ask_all-Follows before (multiply l r ∷ us) follows few =
    let u = multiply l r in
    let size : length (before ++ (u ∷ us)) ≡ length before + suc (length us) =
    length-append before (u ∷ us) in
    let all : (before ++ (u ∷ [])) ++ us ≡ before ++ (u ∷ us) = append_assoc before (u ∷ []) us in
    let here : ask (variable ∷ before) u ≡ answered (variable ∷ (before ++ (u ∷ []))) =
    ask-new (variable ∷ before) u follows.0.absent follows.0.low (omega arith) in
    ap (λ z. ask_all z us) here
    ∙ ask_all-Follows (before ++ (u ∷ [])) us follows.1 (subst (λ z. length z ≤ MAX_NODES) (sym all) few)
    ∙ ap (λ z. answered (variable ∷ z)) all

-- ---- The file ----

-- a listing is a term file
pub IsTermFile-listing
    : (t : Term)
    → height t ≤ MAX_HEIGHT
    → length (distinct_products t) ≤ MAX_NODES
    → IsTermFile 1 (lines_of (listing_text t)) (variable ∷ distinct_products t) (length (distinct_products t))
    None
IsTermFile-listing t low few =
    let all = distinct_products t in
    let follows = Follows-distinct MAX_HEIGHT t low in
    let lines = lines_of-listing MAX_HEIGHT t low (omega arith) in
    let file = AreRead-lines MAX_HEIGHT all [] all t follows record { is = refl; fits = omega arith }
    (IsThere-distinct t) in
    rw lines record {
      read = written_lines all 1 all t;
      enough = some-texts all 1 all t;
      sound = file.sound;
      asked = ap (ask_all (answered (variable ∷ []))) file.requests ∙ ask_all-Follows [] all follows few;
      last = file.last ∙ ap (λ z. z ∷ []) (sym (term_at-distinct t));
      within = omega arith;
    }
