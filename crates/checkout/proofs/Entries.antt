-- What is written, entry by entry.
use Rattle.std.proofs.Common.{◌≡◌, ℕ, ap, List, [], ◌∷◌, ◌++◌, refl, sym, ◌∙◌, subst, append_assoc, append-nil, arith, length}
use Rattle.std.proofs.lemmas.List.{map-append}
use Rattle.std.specs.Prelude.{◌≤◌, ◌+◌, Result, Ok, Err, OnErr, OnOk, IfOk}
use Rattle.blob_digest.specs.Digest.{DigestValue}
use Rattle.messages.specs.Path.{path_text}
use Rattle.messages.specs.declared.node.Node.TheVariants.{File, Link, Dir}
use Rattle.blob_source.specs.Source.{Blobs, Grows, Telling}
use Rattle.tree.specs.Tree.{Name, Standing, nothing, a_leaf, a_directory}
use Rattle.tree.specs.Form.{NodeValue}
use Rattle.tree.specs.declared.flat_tree.FlatEntry.{FlatEntry}
use Rattle.tree.specs.FlatTree.{FlatValue, entry_value, path_values}
use Rattle.tree.specs.Memo.{AsksNoOther}
use Rattle.tree.proofs.Descent.{under_still}
use Rattle.checkout.specs.declared.error.CheckoutError.{CheckoutError}
use Rattle.checkout.specs.Refused.{Refuses, FailsOneEntry, FailsEntries, FailsCheckout}
use Rattle.checkout.specs.Refused.FailsOneEntry.{untried, refused}
use Rattle.checkout.specs.Refused.FailsCheckout.{in_tree, in_folder, in_entries}
use Rattle.checkout.specs.Folder.{FolderValue, Has, Written, Tried, Tries, with_written}
use Rattle.checkout.specs.Folder.Written.{a_folder, a_file, a_link}
use Rattle.checkout.specs.Written.{place_below, places_of, IsWrittenFor, AreWritten, IsGained, MakesEntry, MakesEntries, EntryLooksAt, contents_at, AsksContents, Reach}
use Rattle.checkout.specs.Written.Reach.{of_tree, of_entries}
use Rattle.checkout.proofs.Telling.{contents_among, contents_none, contents_then}

-- what was told stays told
pub written_still : {B C : Blobs} → Grows B C → (s : Standing NodeValue) (w : Written) → IsWrittenFor B s w → IsWrittenFor C s w
written_still grows a_directory a_folder h = h
written_still grows (a_leaf (File d x)) (a_file b y) h = (record { held = under_still grows h.0.held; right = h.0.right }, h.1)
written_still grows (a_leaf (Link t)) (a_link u) h = h
written_still grows nothing w h = absurd h
written_still grows a_directory (a_file b y) h = absurd h
written_still grows a_directory (a_link u) h = absurd h
written_still grows (a_leaf (File d x)) a_folder h = absurd h
written_still grows (a_leaf (File d x)) (a_link u) h = absurd h
written_still grows (a_leaf (Link t)) a_folder h = absurd h
written_still grows (a_leaf (Link t)) (a_file b y) h = absurd h
written_still grows (a_leaf (Dir d)) w h = absurd h

pub all_still : {B C : Blobs} → Grows B C → (folder : List ℕ) (es : FlatValue) (ws : List (List ℕ × Written)) → AreWritten B folder es ws → AreWritten C folder es ws
all_still grows folder [] ws h = h
all_still grows folder (e ∷ es) [] h = absurd h
all_still grows folder (e ∷ es) (w ∷ ws) h = (h.0, written_still grows e.1 w.1 h.1, all_still grows folder es ws h.2)

-- one more
pub one_more : (B : Blobs) (folder : List ℕ) (es : FlatValue) (ws : List (List ℕ × Written)) (p : List Name) (s : Standing NodeValue) (w : Written)
    → AreWritten B folder es ws → IsWrittenFor B s w → AreWritten B folder (es ++ (p, s) ∷ []) (ws ++ (place_below folder (path_text p), w) ∷ [])
one_more B folder [] ws p s w h of = subst (λ vs. AreWritten B folder ((p, s) ∷ []) (vs ++ (place_below folder (path_text p), w) ∷ [])) (sym h) (refl, of, refl)
one_more B folder (e ∷ es) [] p s w h of = absurd h
one_more B folder (e ∷ es) (v ∷ vs) p s w h of = (h.0, h.1, one_more B folder es vs p s w h.2 of)

-- ---- calls, and those after them

pub tries_none : {W : Type 0} (tried : W → Tried) (w : W) → Tries tried w w []
tries_none tried w paths h = subst (tried w) (sym (append-nil paths)) h

pub tries_then : {W : Type 0} (tried : W → Tried) (old mid new : W) (ps qs : List (List ℕ)) → Tries tried old mid ps → Tries tried mid new qs → Tries tried old new (ps ++ qs)
tries_then tried old mid new ps qs first next paths h = subst (tried new) (append_assoc paths ps qs) (next (paths ++ ps) (first paths h))

one_tried : {A : Type 0} {refuses : Refuses} {tries later : Tried} {B : Blobs} {place : List ℕ} {s : Standing NodeValue} {e : CheckoutError A} → ((more : List (List ℕ)) → tries more → later more)
    → FailsOneEntry refuses tries B place s e → FailsOneEntry refuses later B place s e
one_tried by (untried none why) = untried (by [] none) why
one_tried {place = place} by (refused one why) = refused (by (place ∷ []) one) why

-- ---- the entries before those that are left are written, each by one call

pub record SoFar {F : Type 0} (has : Has F) (tries : Tried) (told tells : Telling) (old now : F) (folder : List ℕ) (all left : FlatValue) : Type 0 where
  pub done : FlatValue
  pub split : all ≡ done ++ left
  pub made : MakesEntries has tells.blobs old now folder done
  pub calls : tries (places_of folder done)
  pub asked : AsksContents told tells done

none_left : {X : Type 0} (xs : List X) → length xs ≡ 0 → xs ≡ []
none_left [] h = refl
none_left (x ∷ xs) h = absurd (omega (arith, h))

-- those that are left, said otherwise
left_is : {A F : Type 0} {has : Has F} {tries : Tried} {told tells : Telling} {old now : F} {folder : List ℕ} {all : FlatValue} {es fs : List (List Name × FlatEntry A)}
    → es ≡ fs → SoFar has tries told tells old now folder all (path_values es) → SoFar has tries told tells old now folder all (path_values fs)
left_is {has = has} {tries} {told} {tells} {old} {now} {folder} {all} is so_far = subst (λ es. SoFar has tries told tells old now folder all (path_values es)) is so_far

module _ {F W : Type 0} (has : Has F) (tried : W → Tried) (first : W) (folder : List ℕ) (all : FlatValue) where
  pub none_yet : (told : Telling) (old : F) → SoFar has (Tries tried first first) told told old old folder all all
  none_yet told old = record {
    done = [];
    split = refl;
    made = record {
      written = [];
      of_entries = refl;
      gains = λ v h. subst (λ ws. has old (record v { written = ws })) (sym (append-nil v.written)) h;
    };
    calls = tries_none tried first;
    asked = contents_none told;
  }

  pub next_one : {A : Type 0} {told m n : Telling} {es left : List (List Name × FlatEntry A)} {p : List Name} {x : FlatEntry A} (old mid new : F) (before after : W) (place : List ℕ) → es ≡ (p, x) ∷ left → Grows m.blobs n.blobs
      → place ≡ place_below folder (path_text p) → SoFar has (Tries tried first before) told m old mid folder all (path_values es) → MakesEntry has n.blobs mid new place (entry_value x) → Tries tried before after (place ∷ [])
      → n.calls ≤ m.calls + contents_at (entry_value x) → AsksNoOther (EntryLooksAt (entry_value x)) m n → SoFar has (Tries tried first after) told n old new folder all (path_values left)
  next_one {told = told} {m} {n} {left = left} {p} {x} old mid new before after place steps grows at yet one call few only =
      let s = entry_value x in
      let so_far = left_is steps yet in
      let ws = so_far.made.written in
      let done = so_far.done in
      record {
        done = done ++ (p, s) ∷ [];
        split = so_far.split ∙ sym (append_assoc done ((p, s) ∷ []) (path_values left));
        made = record {
          written = ws ++ (place_below folder (path_text p), one.written) ∷ [];
          of_entries = one_more n.blobs folder done ws p s one.written (all_still grows folder done ws so_far.made.of_entries) one.of_entry;
          gains = λ v h.
              subst (λ q. has new (record v { written = v.written ++ (ws ++ (q, one.written) ∷ []) })) at
              (subst (λ vs. has new (record v { written = vs })) (append_assoc v.written ws ((place, one.written) ∷ []))
              (one.gains (with_written ws v) (so_far.made.gains v h)));
        };
        calls = subst (Tries tried first after)
            (ap (λ q. places_of folder done ++ q ∷ []) at ∙ sym (map-append (λ (e : List Name × Standing NodeValue). place_below folder (path_text e.0)) done ((p, s) ∷ [])))
            (tries_then tried first before after (places_of folder done) (place ∷ []) so_far.calls call);
        asked = contents_then m n done p s so_far.asked few only;
      }

  -- the next one isn't written
  pub next_fails : {A : Type 0} {told m n : Telling} {es left : List (List Name × FlatEntry A)} {p : List Name} {x : FlatEntry A} (refuses : Refuses) (old mid : F) (before after : W) (place : List ℕ) (e : CheckoutError A) → es ≡ (p, x) ∷ left → Grows m.blobs n.blobs
      → place ≡ place_below folder (path_text p) → SoFar has (Tries tried first before) told m old mid folder all (path_values es) → FailsOneEntry refuses (Tries tried before after) n.blobs place (entry_value x) e
      → n.calls ≤ m.calls + contents_at (entry_value x) → AsksNoOther (EntryLooksAt (entry_value x)) m n → FailsEntries (IsGained has old) refuses (Tries tried first after) (AsksContents told n) n.blobs folder all e
  next_fails {told = told} {m} {n} {left = left} {p} {x} refuses old mid before after place e steps grows at yet fails few only =
      let so_far = left_is steps yet in
      record {
        done = so_far.done;
        path = p;
        standing = entry_value x;
        left = path_values left;
        whole = so_far.split;
        written = so_far.made.written;
        of_done = all_still grows folder so_far.done so_far.made.written so_far.made.of_entries;
        before = (mid, so_far.made.gains);
        asked = contents_then m n so_far.done p (entry_value x) so_far.asked few only;
        fails = subst (λ q. FailsOneEntry refuses (λ more. Tries tried first after (places_of folder so_far.done ++ more)) n.blobs q (entry_value x) e) at
            (one_tried (λ more. tries_then tried first before after (places_of folder so_far.done) more so_far.calls) fails);
      }

  -- none is left
  pub all_done : {A : Type 0} {told tells : Telling} {tries : Tried} (es : List (List Name × FlatEntry A)) (old now : F) → length es ≡ 0 → SoFar has tries told tells old now folder all (path_values es)
      → MakesEntries has tells.blobs old now folder all × tries (places_of folder all) × AsksContents told tells all
  all_done {told = told} {tells} {tries} es old now none yet =
      let so_far = left_is (none_left es none) yet in
      let is = sym (so_far.split ∙ append-nil so_far.done) in
      (subst (MakesEntries has tells.blobs old now folder) is so_far.made, subst (λ fs. tries (places_of folder fs)) is so_far.calls, subst (AsksContents told tells) is so_far.asked)

-- ---- what a folder has, and what was tried, when an entry isn't written, said otherwise

pub fails_had : {A : Type 0} {has has' : List (List ℕ × Written) → Type 0} {refuses : Refuses} {tries tries' : Tried} {asks asks' : FlatValue → Type 0} {B : Blobs} {folder : List ℕ} {es : FlatValue} {e : CheckoutError A}
    → ((ws : List (List ℕ × Written)) → has ws → has' ws) → ((ps : List (List ℕ)) → tries ps → tries' ps) → ((some : FlatValue) → asks some → asks' some) → FailsEntries has refuses tries asks B folder es e → FailsEntries has' refuses tries' asks' B folder es e
fails_had {folder = folder} by on so h = record {
  done = h.done;
  path = h.path;
  standing = h.standing;
  left = h.left;
  whole = h.whole;
  written = h.written;
  of_done = h.of_done;
  before = by h.written h.before;
  asked = so (h.done ++ (h.path, h.standing) ∷ []) h.asked;
  fails = one_tried (λ more. on (places_of folder h.done ++ more)) h.fails;
}

-- no content was asked for but those of the entries
pub asked_among : {A : Type 0} {has : List (List ℕ × Written) → Type 0} {refuses : Refuses} {tries : Tried} {old new : Telling} {B : Blobs} {folder : List ℕ} {es : FlatValue} {e : CheckoutError A}
    → FailsEntries has refuses tries (AsksContents old new) B folder es e → AsksContents old new es
asked_among h = contents_among (h.done ++ (h.path, h.standing) ∷ []) h.left (h.whole ∙ sym (append_assoc h.done ((h.path, h.standing) ∷ []) h.left)) h.asked

-- and so when a tree isn't written
pub checkout_had : {A : Type 0} {has has' : FolderValue → Type 0} {refuses : Refuses} {tries tries' : Tried} {asks asks' : Reach → Type 0} {B : Blobs} {d : DigestValue} {folder : List ℕ} {e : CheckoutError A}
    → ((v : FolderValue) → has v → has' v) → ((ps : List (List ℕ)) → tries ps → tries' ps) → ((reach : Reach) → asks reach → asks' reach) → FailsCheckout has refuses tries asks B d folder e → FailsCheckout has' refuses tries' asks' B d folder e
checkout_had by on so (in_tree none asked why) = in_tree (on [] none) (so of_tree asked) why
checkout_had {folder = folder} by on so (in_folder es told one asked why) = in_folder es told (on (folder ∷ []) one) (so (of_entries es []) asked) why
checkout_had {folder = folder} by on so (in_entries es told fails) =
    in_entries es told (fails_had (λ ws. by (record { path = folder; written = ws })) (λ ps. on (folder ∷ ps)) (λ some. so (of_entries es some)) fails)

-- what was made, where the call that made it came to a value
pub where_ok : {T E F : Type 0} {P Q : Type 0} (r : Result T E) (made : Result T F) → IfOk r (λ value. made ≡ Ok value) → OnOk made P → (P → Q) → OnOk r Q
where_ok (Ok value) (Ok w) same h by = by h
where_ok (Ok value) (Err e) same h by = absurd (err_is_no_ok e value same)
  where
    err_is_no_ok : {T F : Type 0} (e : F) (value : T) → ◌≡◌ {A = Result T F} (Err e) (Ok value) → ⊥
    err_is_no_ok e value same = cc
where_ok (Err e) made same h by = tt

pub told_anyway : {T E : Type 0} {P : Type 0} (r : Result T E) → P → OnErr r P
told_anyway (Ok value) p = tt
told_anyway (Err e) p = p
