-- Directories and files among entries, entry by entry, and what a tree's error is as one of a layout.
use Rattle.std.proofs.Common.{◌≡◌, ℕ, suc, Bool, List, [], ◌∷◌, ◌++◌, length, refl, ap, arith, sym, subst, ◌∙◌, append_assoc, append-nil, inl, inr}
use Rattle.std.specs.List.{AllByRecursion}
use Rattle.std.specs.declared.vec.Vec.{Vec}
use Rattle.blob_digest.specs.Digest.{DigestValue}
use Rattle.messages.specs.declared.node.Node.TheVariants as nodes
use Rattle.blob_source.specs.Source.{Blobs, Grows}
use Rattle.tree.specs.Tree.{Name, Standing, nothing, a_leaf, a_directory}
use Rattle.tree.specs.Form.{NodeValue}
use Rattle.tree.specs.FlatTree.{FlatValue}
use Rattle.tree.proofs.Descent.{under_still}
use Rattle.tree.proofs.Listings.{all_join}
use Rattle.std.specs.Prelude.{Err, IsErrOf}
use Rattle.blob_source.specs.Called.{Calls}
use Rattle.blob_source.specs.Source.{Telling}
use Rattle.blob_source.proofs.Calling.{called_as, called_no}
use Rattle.tree.specs.TreeError.{Explains, FailsBlob}
use Rattle.tree.specs.Unfolded.{ExplainsUnfold, directories_in}
use Rattle.tree.specs.declared.error.TreeError.{TreeError}
use Rattle.tree.specs.declared.error.TreeError.TheVariants as tree
use Rattle.worker.specs.declared.laid.LayoutError.TheVariants as laying
use Rattle.worker.specs.declared.laid.LayoutError.{LayoutError}
use Rattle.worker.specs.Gathering.{AreGathered, IsGathered}
use Rattle.worker.specs.Layout.{IsFileWith}
use Rattle.worker.specs.Values.{contents_of}
use Rattle.worker.specs.Refusals.{FailsToLay, IsLaid, IsTreeFault, StopsAt, StopsLayout, of_tree}

file_still : {B C : Blobs} → Grows B C → (b : List ℕ) (s : Standing NodeValue) → IsFileWith B b s → IsFileWith C b s
file_still grows b nothing h = absurd h
file_still grows b a_directory h = absurd h
file_still grows b (a_leaf (nodes.File d x)) h = record { held = under_still grows h.held; right = h.right }
file_still grows b (a_leaf (nodes.Link t)) h = absurd h
file_still grows b (a_leaf (nodes.Dir d)) h = absurd h

gathered_still : {B C : Blobs} → Grows B C → (es : FlatValue) (ps : List (List Name)) (fs : List (List Name × List ℕ)) → AreGathered B es ps fs → AreGathered C es ps fs
gathered_still grows [] ps fs h = h
gathered_still grows ((p, nothing) ∷ es) ps fs h = absurd h
gathered_still grows ((p, a_directory) ∷ es) ps fs (rest, is, h) = (rest, is, gathered_still grows es rest fs h)
gathered_still grows ((p, a_leaf x) ∷ es) ps fs (b, file, rest, is, h) = (b, file_still grows b (a_leaf x) file, rest, is, gathered_still grows es ps rest h)

module _ (B : Blobs) where
  gathered_join : (es ds : FlatValue) (ps qs : List (List Name)) (fs gs : List (List Name × List ℕ)) → AreGathered B es ps fs → AreGathered B ds qs gs → AreGathered B (es ++ ds) (ps ++ qs) (fs ++ gs)
  gathered_join [] ds ps qs fs gs h k = rw (h.0, h.1) k
  gathered_join ((p, nothing) ∷ es) ds ps qs fs gs h k = absurd h
  gathered_join ((p, a_directory) ∷ es) ds ps qs fs gs (rest, is, h) k = (rest ++ qs, ap (λ xs. xs ++ qs) is, gathered_join es ds rest qs fs gs h k)
  gathered_join ((p, a_leaf x) ∷ es) ds ps qs fs gs (b, file, rest, is, h) k = (b, file, rest ++ gs, ap (λ xs. xs ++ gs) is, gathered_join es ds ps qs rest gs h k)

  all_laid : (es : FlatValue) (ps : List (List Name)) (fs : List (List Name × List ℕ)) → AreGathered B es ps fs → AllByRecursion (λ e. IsLaid B e.1) es
  all_laid [] ps fs h = tt
  all_laid ((p, nothing) ∷ es) ps fs h = absurd h
  all_laid ((p, a_directory) ∷ es) ps fs (rest, is, h) = (inl refl, all_laid es rest fs h)
  all_laid ((p, a_leaf x) ∷ es) ps fs (b, file, rest, is, h) = (inr (b, file), all_laid es ps rest h)

  pub folders_count : (es : FlatValue) (ps : List (List Name)) (fs : List (List Name × List ℕ)) → AreGathered B es ps fs → length ps ≡ directories_in es
  folders_count [] ps fs h = ap length h.0
  folders_count ((p, nothing) ∷ es) ps fs h = absurd h
  folders_count ((p, a_directory) ∷ es) ps fs (rest, is, h) = let len = ap length is in let more = folders_count es rest fs h in omega (arith, len, more)
  folders_count ((p, a_leaf x) ∷ es) ps fs (b, file, rest, is, h) = let more = folders_count es ps rest h in omega (arith, more)

pub contents_count : {A : Type 0} (fs : List (List (List ℕ) × Vec ℕ A)) → length (contents_of fs) ≡ length fs
contents_count [] = refl
contents_count (f ∷ fs) = ap suc (contents_count fs)

-- The first entries are gathered, and these are left.
pub record GoesOn (B : Blobs) (all : FlatValue) (folders : List (List Name)) (files : List (List Name × List ℕ)) (left : FlatValue) : Type 0 where
  pub done : FlatValue
  pub whole : all ≡ done ++ left
  pub gathered : AreGathered B done folders files

pub gathers_first : (B : Blobs) (all : FlatValue) → GoesOn B all [] [] all
gathers_first B all = record { done = []; whole = refl; gathered = (refl, refl) }

pub gathers_end : (B : Blobs) (all : FlatValue) (folders : List (List Name)) (files : List (List Name × List ℕ)) → GoesOn B all folders files [] → AreGathered B all folders files
gathers_end B all folders files g = subst (λ es. AreGathered B es folders files) (sym (append-nil g.done) ∙ sym g.whole) g.gathered

module _ {B C : Blobs} (grows : Grows B C) (all left : FlatValue) (folders : List (List Name)) (files : List (List Name × List ℕ)) (p : List Name) (s : Standing NodeValue) (g : GoesOn B all folders files ((p, s) ∷ left)) where
  pub gathers_more : (ps : List (List Name)) (fs : List (List Name × List ℕ)) → IsGathered C p s folders ps files fs → GoesOn C all ps fs left
  gathers_more ps fs h = record {
    done = g.done ++ (p, s) ∷ [];
    whole = g.whole ∙ sym (append_assoc g.done ((p, s) ∷ []) left);
    gathered = rw (h.folders_are, h.files_are) (gathered_join C g.done ((p, s) ∷ []) folders h.more_folders files h.more_files (gathered_still grows g.done folders files g.gathered) h.gathered);
  }

  stops_at : {A : Type 0} (e : LayoutError A) → StopsAt C ((p, s) ∷ []) e → StopsAt C all e
  stops_at e h = record {
    done = g.done ++ h.done;
    path = h.path;
    standing = h.standing;
    left = h.left ++ left;
    whole = g.whole ∙ ap (λ es. g.done ++ (es ++ left)) h.whole ∙ ap (λ es. g.done ++ es) (append_assoc h.done ((h.path, h.standing) ∷ h.left) left) ∙ sym (append_assoc g.done h.done ((h.path, h.standing) ∷ (h.left ++ left)));
    laid = all_join (λ e. IsLaid C e.1) g.done h.done (all_laid C g.done folders files (gathered_still grows g.done folders files g.gathered)) h.laid;
    fails = h.fails;
  }

  pub gathering_stops : {A : Type 0} (e : LayoutError A) → StopsLayout C ((p, s) ∷ []) e → StopsLayout C all e
  gathering_stops (laying.Source why) h = stops_at (laying.Source why) h
  gathering_stops (laying.LinkInput q) h = stops_at (laying.LinkInput q) h
  gathering_stops laying.Memory h = tt

-- ---- an entry that isn't taken

stops_here : {A : Type 0} (B : Blobs) (p : List Name) (s : Standing NodeValue) (e : LayoutError A) → FailsToLay B p s e → StopsAt B ((p, s) ∷ []) e
stops_here B p s e h = record { done = []; path = p; standing = s; left = []; whole = refl; laid = tt; fails = h }

pub link_fault : {A : Type 0} (B : Blobs) (p : List Name) (t : List ℕ) → StopsLayout {A = A} B ((p, a_leaf (nodes.Link t)) ∷ []) (laying.LinkInput p)
link_fault B p t = stops_here B p (a_leaf (nodes.Link t)) (laying.LinkInput p) refl

pub file_fault : {A : Type 0} (B : Blobs) (p : List Name) (d : DigestValue) (x : Bool) (e : TreeError A) → Explains (FailsBlob B d) e → StopsLayout B ((p, a_leaf (nodes.File d x)) ∷ []) (of_tree e)
file_fault B p d x (tree.Absent q) h = absurd h
file_fault B p d x (tree.BlobMissing b) h = stops_here B p (a_leaf (nodes.File d x)) (laying.Source (tree.BlobMissing b)) h
file_fault B p d x (tree.BlobWrong b) h = stops_here B p (a_leaf (nodes.File d x)) (laying.Source (tree.BlobWrong b)) h
file_fault B p d x (tree.BlobMalformed b) h = absurd h
file_fault B p d x (tree.TooDeep q) h = absurd h
file_fault B p d x (tree.Conflict q) h = absurd h
file_fault B p d x tree.Fetch h = stops_here B p (a_leaf (nodes.File d x)) (laying.Source tree.Fetch) h
file_fault B p d x tree.Memory h = tt

-- ---- a tree's error, as one of a layout

pub tree_fault : {A : Type 0} (B : Blobs) (d : DigestValue) (e : TreeError A) → ExplainsUnfold B d [] e → IsTreeFault B d (of_tree e)
tree_fault B d (tree.Absent q) h = h
tree_fault B d (tree.BlobMissing b) h = h
tree_fault B d (tree.BlobWrong b) h = h
tree_fault B d (tree.BlobMalformed b) h = h
tree_fault B d (tree.TooDeep q) h = h
tree_fault B d (tree.Conflict q) h = h
tree_fault B d tree.Fetch h = h
tree_fault B d tree.Memory h = h

pub tree_called : {T U A : Type 0} {does : Telling → Telling → Type 0} {old new : Telling} (e : TreeError A)
    → Calls does old new (IsErrOf {T = T} (Err e) tree.Fetch) → Calls does old new (IsErrOf {T = U} (Err (of_tree e)) (laying.Source tree.Fetch))
tree_called (tree.Absent q) h = called_no (λ e. cc) (λ e. cc) h
tree_called (tree.BlobMissing b) h = called_no (λ e. cc) (λ e. cc) h
tree_called (tree.BlobWrong b) h = called_no (λ e. cc) (λ e. cc) h
tree_called (tree.BlobMalformed b) h = called_no (λ e. cc) (λ e. cc) h
tree_called (tree.TooDeep q) h = called_no (λ e. cc) (λ e. cc) h
tree_called (tree.Conflict q) h = called_no (λ e. cc) (λ e. cc) h
tree_called tree.Fetch h = called_as (λ is. refl) (λ is. refl) h
tree_called tree.Memory h = called_no (λ e. cc) (λ e. cc) h
