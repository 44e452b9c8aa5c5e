-- What was told of a tree, and what wasn't made.
use Rattle.std.proofs.Common.{◌≡◌, ◌≢◌, ℕ, ap, ◌∙◌, ◌+◌, ◌≤◌, List, [], ◌∷◌, ◌++◌, refl, subst, sym, arith, inl, inr}
use Rattle.std.specs.Prelude.{◌⊎◌, Bool, if◌then◌else◌, Result, Ok, Err, IfErr, Contains}
use Rattle.std.proofs.lemmas.List.Elements.{Contains-append_left, Contains-append_right}
use Rattle.std.proofs.lemmas.List.Sums.{sum_by-append, sum_by-cons}
use Rattle.std.specs.declared.io.Error.{Error}
use Rattle.blob_digest.specs.Digest.{DigestValue, empty_digest}
use Rattle.messages.specs.declared.node.Node.TheVariants.{File}
use Rattle.blob_source.specs.Source.{Asks, Blobs, Grows, Telling}
use Rattle.blob_source.proofs.Digests.{other_digests}
use Rattle.tree.specs.Tree.{Name, Standing, a_leaf}
use Rattle.tree.specs.LooksAt.{UnfoldLooksAt}
use Rattle.tree.specs.Memo.{Asked, AsksNoOther}
use Rattle.tree.specs.Form.{NodeValue}
use Rattle.tree.specs.FlatTree.{FlatValue}
use Rattle.tree.proofs.Memos.{same_or_other}
use Rattle.tree.proofs.Ways.{unfold_still}
use Rattle.checkout.specs.declared.error.CheckoutError.{CheckoutError}
use Rattle.checkout.specs.declared.error.CheckoutError.TheVariants as errors
use Rattle.tree.specs.Unfolded.{IsUnfolded, directories_in}
use Rattle.tree.proofs.Leaving.{others_more, others_then}
use Rattle.checkout.specs.Folder.{Tried}
use Rattle.checkout.specs.Refused.{Refuses, FailsOneEntry, FailsPlace}
use Rattle.checkout.specs.Refused.FailsOneEntry.{refused}
use Rattle.checkout.specs.Written.{AsksContents, AsksEachOnce, AsksUpTo, EntryLooksAt, EntriesLookAt, CheckoutLooksAt, contents_at, contents_in}
use Rattle.checkout.specs.Written.Reach.{of_entries}
use Rattle.checkout.specs.Written.AsksEachOnce.{in_entries}

-- ---- what isn't asked for

pub asks_nothing : {looks : Asked → Type 0} {t : Telling} → AsksNoOther looks t t
asks_nothing = record { blobs = λ d not. refl; results = λ d not. refl }

-- the content of an entry that stands among others
pub entry_looks : (done left : FlatValue) (p : List Name) (s : Standing NodeValue) (all : FlatValue) (a : Asked) → all ≡ done ++ (p, s) ∷ left → EntryLooksAt s a → EntriesLookAt all a
entry_looks done left p s all a split h =
    ((p, s), subst (λ es. Contains es (p, s)) (sym split) (Contains-append_right done ((p, s) ∷ left) (p, s) (0, omega arith, refl)), h)

-- ---- how often the source is asked

-- for a file's content
pub content_few : {old new : Telling} (d : DigestValue) (x : Bool) → Asks 1 old new → (d ≡ empty_digest → new ≡ old) → new.calls ≤ old.calls + contents_at (a_leaf (File d x))
content_few {old} {new} d x asks unasked = by (same_or_other d empty_digest)
  where
    by : (d ≡ empty_digest) ⊎ (d ≢ empty_digest) → new.calls ≤ old.calls + contents_at (a_leaf (File d x))
    by (inl empty) = let none = ap (λ (t : Telling). t.calls) (unasked empty) in omega (arith, none)
    by (inr other) = subst (λ (b : Bool). new.calls ≤ old.calls + (if b then 0 else 1)) (sym (other_digests d empty_digest (λ e. other (sym e)))) asks.most_calls

-- for those of one entry more
pub contents_more : (e : List Name × Standing NodeValue) (es : FlatValue) → contents_in (e ∷ es) ≡ contents_at e.1 + contents_in es
contents_more e es = sum_by-cons (λ (e : List Name × Standing NodeValue). contents_at e.1) e es

pub contents_none : (t : Telling) → AsksContents t t []
contents_none t = record { few = omega arith; only = asks_nothing }

pub contents_then : {told : Telling} (m n : Telling) (done : FlatValue) (p : List Name) (s : Standing NodeValue) → AsksContents told m done → n.calls ≤ m.calls + contents_at s → AsksNoOther (EntryLooksAt s) m n
    → AsksContents told n (done ++ (p, s) ∷ [])
contents_then m n done p s h few only =
    let sum = sum_by-append (λ (e : List Name × Standing NodeValue). contents_at e.1) done ((p, s) ∷ []) in
    let one = contents_more (p, s) [] in
    record {
      few = omega (arith, h.few, few, sum, one);
      only = others_then (λ a k. (k.0, Contains-append_left done ((p, s) ∷ []) k.0 k.1, k.2)) (λ a k. entry_looks done [] p s (done ++ (p, s) ∷ []) a refl k) h.only only;
    }

-- for some of the entries, and so at most for all
pub contents_among : {old new : Telling} {all : FlatValue} (some left : FlatValue) → all ≡ some ++ left → AsksContents old new some → AsksContents old new all
contents_among some left whole h =
    let sum = ap contents_in whole ∙ sum_by-append (λ (e : List Name × Standing NodeValue). contents_at e.1) some left in
    record {
      few = omega (arith, h.few, sum);
      only = others_more (λ a k. (k.0, subst (λ es. Contains es k.0) (sym whole) (Contains-append_left some left k.0 k.1), k.2)) h.only;
    }

-- for a tree, and then for entries of it
pub tree_then : {d : DigestValue} {new : Telling} {entries : FlatValue} (old mid : Telling) (tree : FlatValue) → Grows mid.blobs new.blobs → mid.calls ≤ old.calls + 1 + directories_in tree → AsksNoOther (UnfoldLooksAt mid.blobs d) old mid
    → AsksContents mid new entries → AsksUpTo d old new (of_entries tree entries)
tree_then {d = d} old mid tree grows few only next = (omega (arith, few, next.few), others_then (λ a h. inl (unfold_still d a grows h)) (λ a h. inr h) only next.only)

-- so for a tree and all of its files
pub asks_files : {d : DigestValue} {tree : FlatValue} (old new : Telling) → IsUnfolded new.blobs d tree → AsksUpTo d old new (of_entries tree tree) → AsksEachOnce d old new
asks_files {tree = tree} old new told h = in_entries tree told h.0

pub tree_looked : {d : DigestValue} {tree : FlatValue} (old new : Telling) → IsUnfolded new.blobs d tree → AsksUpTo d old new (of_entries tree tree) → AsksNoOther (CheckoutLooksAt new.blobs d) old new
tree_looked {d} {tree} old new told h = others_more by h.1
  where
    by : (a : Asked) → UnfoldLooksAt new.blobs d a ⊎ EntriesLookAt tree a → CheckoutLooksAt new.blobs d a
    by a (inl k) = inl k
    by a (inr k) = inr (tree, told, k)

-- ---- refusals

-- what wasn't made at a path
pub place_fails : {A T : Type 0} (refuses : Refuses) (path : List ℕ) (made : Result T Error) (e : CheckoutError A) → FailsPlace (λ _ fault. made ≡ Err fault) path e → IfErr made (refuses path) → FailsPlace refuses path e
place_fails refuses path made (errors.Place p fault) h why = (h.0, h.1, subst (λ r. IfErr r (refuses path)) h.2 why)
place_fails refuses path made errors.Memory h why = (h.0, h.1, subst (λ r. IfErr r (refuses path)) h.2 why)
place_fails refuses path made (errors.Missing d) h why = absurd h
place_fails refuses path made (errors.Wrong d) h why = absurd h
place_fails refuses path made (errors.Malformed d) h why = absurd h
place_fails refuses path made (errors.TooDeep p) h why = absurd h
place_fails refuses path made errors.Fetch h why = absurd h

-- the call for an entry, by a text of its place, made nothing
pub call_fails : {A T U : Type 0} (refuses : Refuses) (tries : Tried) (B : Blobs) {text : List ℕ} (place : List ℕ) (s : Standing NodeValue) (made : Result T Error) (r : Result U (CheckoutError A)) → text ≡ place → tries (text ∷ [])
    → IfErr r (FailsPlace (λ _ fault. made ≡ Err fault) place) → IfErr made (refuses text) → IfErr r (FailsOneEntry refuses tries B place s)
call_fails refuses tries B place s made (Ok x) is call h why = tt
call_fails refuses tries B place s made (Err e) is call h why =
    refused (subst (λ q. tries (q ∷ [])) is call) (place_fails refuses place made e h (subst (λ q. IfErr made (refuses q)) is why))
