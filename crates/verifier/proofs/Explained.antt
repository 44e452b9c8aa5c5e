-- Errors of calls on trees, as faults of what is checked.
use Rattle.std.proofs.Common.{◌≡◌, refl, ℕ, zero, suc, ◌<◌, List, [], ◌∷◌, length, ap, sym, subst, arith}
use Rattle.blob_digest.specs.Digest.{DigestValue}
use Rattle.std.specs.List.{AllByRecursion}
use Rattle.std.specs.Prelude.{Some, slice_get}
use Rattle.actions.specs.Outcome.{OutcomeValue}
use Rattle.actions.specs.OutcomeLookup.{LooksIn, LiesWithin}
use Rattle.plan.specs.Values.{OriginValue, source, output, LineValue, IsOrigin, IsLine}
use Rattle.tree.specs.Tree.{Name}
use Rattle.blob_source.specs.Source.{Blobs}
use Rattle.blob_source.specs.Told as told
use Rattle.blob_source.specs.Told.{IsTold, missing, wrong, malformed}
use Rattle.tree.specs.Lookup.{Looked, fault, nothing, found, Looks}
use Rattle.tree.specs.Difference.{unread, FindsFirst, ExplainsDifference}
use Rattle.tree.specs.Merging.{NodeWithin, MergeFault, conflict, unreadable, ExplainsMerge}
use Rattle.tree.specs.TreeError as errors
use Rattle.tree.specs.TreeError.{ExplainsLookup}
use Rattle.tree.specs.declared.error.TreeError.{TreeError}
use Rattle.tree.specs.declared.error.TreeError.TheVariants as tree
use Rattle.verifier.specs.declared.verdict.Cause.{Cause}
use Rattle.verifier.specs.declared.fault.Fault.{Fault}
use Rattle.verifier.specs.declared.fault.Fault.TheVariants as faults
use Rattle.verifier.specs.Together.{Earlier, IsThere, AreThere, LooksUpOrigin, StandsAtOrigin, LinesFault, no_origin, in_conflict, not_read, of_merge, IsFaultOfLook, LineFault, ExplainsLines}
use Rattle.verifier.specs.Answers.{IsFaultOf, IsDifference}
use Rattle.verifier.specs.Stage.{ExplainsFault}
use Rattle.verifier.specs.Faults.{cause_of_fault, cause_of_lines}

module _ {A : Type 0} where
  pub explains_map : (P Q : Cause A → Type 0) (f : Fault A) → ((c : Cause A) → P c → Q c) → ExplainsFault P f → ExplainsFault Q f
  explains_map P Q (faults.Cause c) by h = by c h
  explains_map P Q faults.Fetch by h = tt
  explains_map P Q faults.Memory by h = tt

  -- the fault of a blob
  pub blob_explained : (P : told.Fault → Type 0) (error : TreeError A) (f : Fault A) → errors.Explains P error → IsFaultOf error f → ExplainsFault (λ c. (t : told.Fault) × P t × (c ≡ cause_of_fault t)) f
  blob_explained P (tree.Absent q) f h is = elim h [ ]
  blob_explained P (tree.BlobMissing d) f h is = subst (ExplainsFault (λ c. (t : told.Fault) × P t × (c ≡ cause_of_fault t))) (sym is) (missing d, h, refl)
  blob_explained P (tree.BlobWrong d) f h is = subst (ExplainsFault (λ c. (t : told.Fault) × P t × (c ≡ cause_of_fault t))) (sym is) (wrong d, h, refl)
  blob_explained P (tree.BlobMalformed d) f h is = subst (ExplainsFault (λ c. (t : told.Fault) × P t × (c ≡ cause_of_fault t))) (sym is) (malformed d, h, refl)
  blob_explained P (tree.TooDeep q) f h is = elim h [ ]
  blob_explained P (tree.Conflict q) f h is = elim h [ ]
  blob_explained P tree.Fetch f h is = subst (ExplainsFault (λ c. (t : told.Fault) × P t × (c ≡ cause_of_fault t))) (sym is) tt
  blob_explained P tree.Memory f h is = subst (ExplainsFault (λ c. (t : told.Fault) × P t × (c ≡ cause_of_fault t))) (sym is) tt

  pub difference_explained : (own : List (List ℕ)) (B : Blobs) (g r : DigestValue) (error : TreeError A) (f : Fault A) → ExplainsDifference (FindsFirst own B g r) error → IsFaultOf error f → ExplainsFault (IsDifference own B g r) f
  difference_explained own B g r (tree.Absent q) f h is = elim h [ ]
  difference_explained own B g r (tree.BlobMissing d) f h is = subst (ExplainsFault (IsDifference own B g r)) (sym is) (unread (missing d), h, refl)
  difference_explained own B g r (tree.BlobWrong d) f h is = subst (ExplainsFault (IsDifference own B g r)) (sym is) (unread (wrong d), h, refl)
  difference_explained own B g r (tree.BlobMalformed d) f h is = subst (ExplainsFault (IsDifference own B g r)) (sym is) (unread (malformed d), h, refl)
  difference_explained own B g r (tree.TooDeep q) f h is = elim h [ ]
  difference_explained own B g r (tree.Conflict q) f h is = elim h [ ]
  difference_explained own B g r tree.Fetch f h is = subst (ExplainsFault (IsDifference own B g r)) (sym is) tt
  difference_explained own B g r tree.Memory f h is = subst (ExplainsFault (IsDifference own B g r)) (sym is) tt

  -- it is the failure of the source exactly where the error is
  pub fault_fetches : (error : TreeError A) (f : Fault A) → IsFaultOf error f → f ≡ faults.Fetch → error ≡ tree.Fetch
  fault_fetches (tree.Absent q) f is e = absurd cc
  fault_fetches (tree.BlobMissing d) f is e = absurd cc
  fault_fetches (tree.BlobWrong d) f is e = absurd cc
  fault_fetches (tree.BlobMalformed d) f is e = absurd cc
  fault_fetches (tree.TooDeep q) f is e = elim is [ ]
  fault_fetches (tree.Conflict q) f is e = absurd cc
  fault_fetches tree.Fetch f is e = refl
  fault_fetches tree.Memory f is e = absurd cc

  pub fetch_faults : (error : TreeError A) (f : Fault A) → IsFaultOf error f → error ≡ tree.Fetch → f ≡ faults.Fetch
  fetch_faults (tree.Absent q) f is e = absurd cc
  fetch_faults (tree.BlobMissing d) f is e = absurd cc
  fetch_faults (tree.BlobWrong d) f is e = absurd cc
  fetch_faults (tree.BlobMalformed d) f is e = absurd cc
  fetch_faults (tree.TooDeep q) f is e = elim is [ ]
  fetch_faults (tree.Conflict q) f is e = absurd cc
  fetch_faults tree.Fetch f is e = is
  fetch_faults tree.Memory f is e = absurd cc

  -- the fault of lines that weren't put together
  pub lines_explained : (Fails : LinesFault → Type 0) (error : TreeError A) (f : Fault A) → ExplainsLines Fails error → IsFaultOf error f → ExplainsFault (λ c. (why : LinesFault) × Fails why × (c ≡ cause_of_lines why)) f
  lines_explained Fails error f h is = by error h is
    where
      P : Fault A → Type 0
      P = ExplainsFault (λ c. (why : LinesFault) × Fails why × (c ≡ cause_of_lines why))

      stands : (why : LinesFault) → Fails why → f ≡ faults.Cause (cause_of_lines why) → P f
      stands why fails is = subst P (sym is) (why, fails, refl)

      by : (error : TreeError A) → ExplainsLines Fails error → IsFaultOf error f → P f
      by (tree.Absent q) h is = stands (no_origin q) h is
      by (tree.BlobMissing d) h is = stands (not_read (missing d)) h is
      by (tree.BlobWrong d) h is = stands (not_read (wrong d)) h is
      by (tree.BlobMalformed d) h is = stands (not_read (malformed d)) h is
      by (tree.TooDeep q) h is = elim h [ ]
      by (tree.Conflict q) h is = stands (in_conflict q) h is
      by tree.Fetch h is = subst P (sym is) tt
      by tree.Memory h is = subst P (sym is) tt

  -- ---- lines

  pub lines_map : (P Q : LinesFault → Type 0) (error : TreeError A) → ((why : LinesFault) → P why → Q why) → ExplainsLines P error → ExplainsLines Q error
  lines_map P Q (tree.Absent q) by h = by (no_origin q) h
  lines_map P Q (tree.BlobMissing d) by h = by (not_read (missing d)) h
  lines_map P Q (tree.BlobWrong d) by h = by (not_read (wrong d)) h
  lines_map P Q (tree.BlobMalformed d) by h = by (not_read (malformed d)) h
  lines_map P Q (tree.TooDeep q) by h = h
  lines_map P Q (tree.Conflict q) by h = by (in_conflict q) h
  lines_map P Q tree.Fetch by h = h
  lines_map P Q tree.Memory by h = h

  -- they don't merge
  pub merge_explained : (P : MergeFault → Type 0) (Q : LinesFault → Type 0) (error : TreeError A) → ((why : MergeFault) → P why → Q (of_merge why)) → ExplainsMerge P error → ExplainsLines Q error
  merge_explained P Q (tree.Absent q) by h = elim h [ ]
  merge_explained P Q (tree.BlobMissing d) by h = by (unreadable (missing d)) h
  merge_explained P Q (tree.BlobWrong d) by h = by (unreadable (wrong d)) h
  merge_explained P Q (tree.BlobMalformed d) by h = by (unreadable (malformed d)) h
  merge_explained P Q (tree.TooDeep q) by h = h
  merge_explained P Q (tree.Conflict q) by h = by (conflict q) h
  merge_explained P Q tree.Fetch by h = h
  merge_explained P Q tree.Memory by h = h

  -- a line has no origin in the source tree
  pub source_missing : (B : Blobs) (d : DigestValue) (os : Earlier) (l : LineValue) (p : List Name) (error : TreeError A) → l.origin ≡ source p → ExplainsLookup B d p error → ExplainsLines (LineFault B d os l) error
  source_missing B d os l p error from h = by error h
    where
      stands : (r : Looked) (why : LinesFault) → Looks B d p r → IsFaultOfLook (source p) r why → LineFault B d os l why
      stands r why look gives = (r, subst (λ o. LooksUpOrigin B d os o r) (sym from) look, subst (λ o. IsFaultOfLook o r why) (sym from) gives)

      by : (error : TreeError A) → ExplainsLookup B d p error → ExplainsLines (LineFault B d os l) error
      by (tree.Absent q) h = stands nothing (no_origin q) h.1 (ap no_origin h.0)
      by (tree.BlobMissing e) h = stands (fault (missing e)) (not_read (missing e)) h refl
      by (tree.BlobWrong e) h = stands (fault (wrong e)) (not_read (wrong e)) h refl
      by (tree.BlobMalformed e) h = stands (fault (malformed e)) (not_read (malformed e)) h refl
      by (tree.TooDeep q) h = h
      by (tree.Conflict q) h = elim h [ ]
      by tree.Fetch h = h
      by tree.Memory h = h

-- a node in what a step came to
pub output_stands : (B : Blobs) (d : DigestValue) (os : Earlier) (l : LineValue) (step : ℕ) (p : List Name) (o : OutcomeValue) (x : NodeWithin) → l.origin ≡ output step p → os step ≡ Some o
    → LooksIn o p (found x.node) → LiesWithin o p x.within → StandsAtOrigin B d os l.origin x
output_stands B d os l step p o x from there look within =
    subst (λ origin. StandsAtOrigin B d os origin x) (sym from) (record { node = (o, there, look); within = (o, there, within) })

pub output_missing : (B : Blobs) (d : DigestValue) (os : Earlier) (l : LineValue) (step : ℕ) (p : List Name) (o : OutcomeValue) (q : List Name) → l.origin ≡ output step p → os step ≡ Some o
    → LooksIn o p nothing → q ≡ p → LineFault B d os l (no_origin q)
output_missing B d os l step p o q from there look same = (
  nothing,
  subst (λ origin. LooksUpOrigin B d os origin nothing) (sym from) (o, there, look),
  subst (λ origin. IsFaultOfLook origin nothing (no_origin q)) (sym from) (ap no_origin same),
)

-- each step that lines before it read is there
pub lines_there : (os : List OutcomeValue) (ls : List LineValue) → AllByRecursion (IsLine (length os)) ls → AreThere (slice_get os) ls
lines_there os [] h = tt
lines_there os (l ∷ ls) h = (one l.origin h.0.origin, lines_there os ls h.1)
  where
    at : (os : List OutcomeValue) (i : ℕ) → i < length os → (o : OutcomeValue) × (slice_get os i ≡ Some o)
    at [] i lt = absurd (omega arith)
    at (o ∷ os) zero lt = (o, refl)
    at (o ∷ os) (suc i) lt = at os i (omega (arith, lt))

    one : (o : OriginValue) → IsOrigin (length os) o → IsThere (slice_get os) o
    one (source p) h = tt
    one (output i p) h = at os i h.0

-- ---- what was told, as it is named elsewhere

pub told_at : {M : Type 0} {keeps : M → Type 0} {spells : M → List ℕ} {B : Blobs} {d e : DigestValue} {m : M} → d ≡ e → IsTold keeps spells B d m → IsTold keeps spells B e m
told_at {M} {keeps} {spells} {B} {d} {e} {m} same told = subst (λ x. IsTold keeps spells B x m) same told
