-- What a check of a source has read.
--
-- It stands for the bytes that were taken (`HasRead`), a piece more in each step (`HasRead-more`), up to the
-- end of the source (`Checks-end`).
use Rattle.std.proofs.Common.{◌≡◌, ℕ, ◌+◌, ◌≤◌, List, [], ◌++◌, length, length-append, take, Option, Some, None, Result, Ok, Err, refl, sym, ap, ◌∙◌, subst, arith}
use Rattle.std.specs.Io.KnownBytes.{prepend_known, IsAtEnd}
use Rattle.std.proofs.lemmas.List.{length-take}
use Rattle.wb_base.specs.Streams.{ReadsAll}
use Rattle.wb_base.proofs.PartLemmas.{Some-injective}
use Rattle.wb_base.proofs.StreamLemmas.{prepend_known-append}
use Rattle.line_file.specs.Formats.{Format, checked_of}
use Rattle.line_file.specs.Pieces.{Held, finished, StandsFor}
use Rattle.line_file.specs.Sources.{Checks, EndsSource}
use Rattle.line_file.specs.declared.source.SourceErr.{SourceErr}
use Rattle.line_file.specs.declared.source.SourceErr.TheVariants.{Refused, TooLarge, Fault, Memory}
use Rattle.line_file.proofs.PieceLaws.{finished-held_of}

-- So many bytes were taken, and what is held stands for them.
pub record HasRead {D W C : Type 0} (f : Format D W C) (old new : Option (List ℕ)) (count : ℕ)
    (held : Held D W) : Type 0 where
  pub bytes : List ℕ
  pub counted : length bytes ≡ count
  pub took : old ≡ prepend_known bytes new
  pub stands : StandsFor f held bytes

-- one piece more
pub HasRead-more
    : {D W C : Type 0} (f : Format D W C) (old mid new : Option (List ℕ)) (count n : ℕ)
    (held next : Held D W) (into : List ℕ)
    → HasRead f old mid count held
    → mid ≡ prepend_known (take n into) new
    → n ≤ length into
    → ((bytes : List ℕ) → StandsFor f held bytes → StandsFor f next (bytes ++ take n into))
    → HasRead f old new (count + n) next
HasRead-more f old mid new count n held next into read took within feeds = record {
  bytes = read.bytes ++ take n into;
  counted = omega (arith, length-append read.bytes (take n into), length-take n into, read.counted);
  took = read.took ∙ ap (prepend_known read.bytes) took ∙ prepend_known-append new read.bytes (take n into);
  stands = feeds read.bytes read.stands;
}

-- at the end of the source it is the check of all its bytes
pub Checks-end
    : {D W C : Type 0} (f : Format D W C) (limit : ℕ) (old mid new : Option (List ℕ)) (count n : ℕ)
    (held : Held D W) (into : List ℕ) (result : Result C (SourceErr W))
    → HasRead f old mid count held
    → count ≤ limit
    → mid ≡ prepend_known (take n into) new
    → n ≡ 0
    → IsAtEnd mid
    → EndsSource result (finished f held)
    → Checks f limit old new result
Checks-end {W = W} {C = C} f limit old mid new count n held into result read low took nothing ended ends =
    go result ends
  where
    same : (known : Option (List ℕ)) → prepend_known [] known ≡ known
    same None = refl
    same (Some xs) = refl

    mid_is : mid ≡ new
    mid_is = took ∙ ap (λ n. prepend_known (take n into) new) nothing ∙ same new

    all : ReadsAll old new read.bytes
    all = record {
      taken = read.took ∙ ap (prepend_known read.bytes) mid_is;
      ended = subst IsAtEnd mid_is ended;
    }

    file : finished f held ≡ Some (checked_of f read.bytes)
    file = ap (finished f) read.stands ∙ finished-held_of f read.bytes

    go
        : (result : Result C (SourceErr W))
        → EndsSource result (finished f held)
        → Checks f limit old new result
    go (Ok claim) is = (read.bytes, omega (arith, read.counted), all, Some-injective (sym file ∙ is))
    go (Err (Refused line why)) is =
        (read.bytes, omega (arith, read.counted), all, Some-injective (sym file ∙ is))
    go (Err TooLarge) is = absurd is
    go (Err Fault) is = absurd is
    go (Err Memory) is = let none = sym file ∙ is in absurd (cc)
