-- Directories that are read from those that a graft made, and else from what a source tells.
use Rattle.std.proofs.Common.{◌≡◌, ◌≢◌, ℕ, zero, suc, ◌<◌, List, [], ◌∷◌, refl, ap, sym, ◌∙◌, subst, arith, map, length, get_or}
use Rattle.std.specs.Prelude.{Result, Ok, Err, IfOk, IfErr}
use Rattle.std.specs.List.{AllByRecursion, AllWithin, HoldsAt}
use Rattle.std.specs.declared.vec.Vec.{Vec}
use Rattle.blob_digest.specs.Digest.{DigestValue, digest_of}
use Rattle.messages.specs.declared.error.MessageError.{MessageError}
use Rattle.messages.specs.declared.error.MessageError.TheVariants as errors
use Rattle.messages.specs.Gives.{FailsUnlessMemory}
use Rattle.tree.specs.declared.error.TreeError.{TreeError}
use Rattle.tree.specs.declared.error.TreeError.TheVariants.{Absent, BlobMissing, BlobWrong, BlobMalformed, TooDeep, Conflict, Fetch, Memory}
use Rattle.blob_source.specs.Told.{Fault, missing, wrong, malformed}
use Rattle.tree.specs.TreeError.{Explains}
use Rattle.tree.specs.Folded.{items_of}
use Rattle.tree.specs.Difference.{IsFirstOf, IsNoneOf}
use Rattle.tree.specs.Comparing.{IsEncoding}

none_in : (own : List (List ℕ)) (d : DigestValue) → AllWithin (λ e. e ≢ d) (map digest_of own) 0 (length (map digest_of own)) → IsNoneOf own d
none_in [] d h = tt
none_in (b ∷ own) d h = (h 0 (digest_of b) (omega arith) (omega arith), none_in own d (λ k e low high. h (suc k) e (omega arith) (omega (arith, high))))

-- no digest beside the encodings is the one that is looked for
pub none_of : (own : List (List ℕ)) (digests : List DigestValue) (d : DigestValue) → digests ≡ map digest_of own → AllWithin (λ e. e ≢ d) digests 0 (length digests) → IsNoneOf own d
none_of own digests d is h = none_in own d (subst (λ ds. AllWithin (λ e. e ≢ d) ds 0 (length ds)) is h)

module _ {A : Type 0} where
  first_in : (own : List (Vec ℕ A)) (d : DigestValue) (i : ℕ) (v : Vec ℕ A) → i < length (map digest_of (items_of own)) → HoldsAt (λ e. e ≡ d) (map digest_of (items_of own)) i → AllWithin (λ e. e ≢ d) (map digest_of (items_of own)) 0 i
      → v ≡ get_or own i v → IsFirstOf (items_of own) d v.items
  first_in [] d i v lt at before is = absurd (omega (arith, lt))
  first_in (w ∷ own) d zero v lt at before is = record {
    before = [];
    behind = items_of own;
    stands = ap (λ (u : Vec ℕ A). u.items ∷ items_of own) (sym is);
    right = ap (λ (u : Vec ℕ A). digest_of u.items) is ∙ at d;
    first = tt;
  }
  first_in (w ∷ own) d (suc i) v lt at before is =
      let rest = first_in own d i v (omega (arith, lt)) at (λ k e low high. before (suc k) e (omega arith) (omega (arith, high))) is in
      record {
        before = w.items ∷ rest.before;
        behind = rest.behind;
        stands = ap (λ bs. w.items ∷ bs) rest.stands;
        right = rest.right;
        first = (before 0 d (omega arith) (omega arith), rest.first);
      }

  -- the first digest beside the encodings that is the one that is looked for
  pub first_of : (own : List (Vec ℕ A)) (digests : List DigestValue) (d : DigestValue) (i : ℕ) (v : Vec ℕ A) → digests ≡ map digest_of (items_of own)
      → (i < length digests) × HoldsAt (λ e. e ≡ d) digests i × AllWithin (λ e. e ≢ d) digests 0 i → v ≡ get_or own i v → IsFirstOf (items_of own) d v.items
  first_of own digests d i v same h is =
      let at = subst (λ ds. (i < length ds) × HoldsAt (λ e. e ≡ d) ds i × AllWithin (λ e. e ≢ d) ds 0 i) same h in
      first_in own d i v at.0 at.1 at.2 is

  encoding_in : (own : List (Vec ℕ A)) (i : ℕ) (v : Vec ℕ A) → i < length (map digest_of (items_of own)) → AllByRecursion IsEncoding (items_of own) → v ≡ get_or own i v → IsEncoding v.items
  encoding_in [] i v lt h is = absurd (omega (arith, lt))
  encoding_in (w ∷ own) zero v lt h is = subst (λ (u : Vec ℕ A). IsEncoding u.items) (sym is) h.0
  encoding_in (w ∷ own) (suc i) v lt h is = encoding_in own i v (omega (arith, lt)) h.1 is

  pub encoding_at : (own : List (Vec ℕ A)) (digests : List DigestValue) (i : ℕ) (v : Vec ℕ A) → digests ≡ map digest_of (items_of own) → i < length digests → AllByRecursion IsEncoding (items_of own) → v ≡ get_or own i v → IsEncoding v.items
  encoding_at own digests i v same lt h is = encoding_in own i v (subst (λ ds. i < length ds) same lt) h is

pub digests_beside : {A : Type 0} (own : List (Vec ℕ A)) → map (λ (v : Vec ℕ A). digest_of v.items) own ≡ map digest_of (items_of own)
digests_beside [] = refl
digests_beside (v ∷ own) = ap (λ ds. digest_of v.items ∷ ds) (digests_beside own)

-- ---- answers

pub ok_more : {T E : Type 0} (P Q : T → Type 0) (r : Result T E) → ((x : T) → P x → Q x) → IfOk r P → IfOk r Q
ok_more P Q (Ok x) f h = f x h
ok_more P Q (Err e) f h = h

pub err_more : {T E : Type 0} (P Q : E → Type 0) (r : Result T E) → ((e : E) → P e → Q e) → IfErr r P → IfErr r Q
err_more P Q (Ok x) f h = h
err_more P Q (Err e) f h = f e h

pub explains_more : {A : Type 0} (P Q : Fault → Type 0) (e : TreeError A) → ((f : Fault) → P f → Q f) → Explains P e → Explains Q e
explains_more P Q (Absent path) f h = h
explains_more P Q (BlobMissing d) f h = f (missing d) h
explains_more P Q (BlobWrong d) f h = f (wrong d) h
explains_more P Q (BlobMalformed d) f h = f (malformed d) h
explains_more P Q (TooDeep path) f h = h
explains_more P Q (Conflict path) f h = h
explains_more P Q Fetch f h = h
explains_more P Q Memory f h = h

-- what is the encoding of a Directory is refused for lack of memory alone
pub no_refusal : {T : Type 0} (e : MessageError) (m : T) → (e ≡ errors.Memory → ⊥) → FailsUnlessMemory e (Ok m) → ⊥
no_refusal errors.Memory m other h = other refl
no_refusal _ m other h = cc
