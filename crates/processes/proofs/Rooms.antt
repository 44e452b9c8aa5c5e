-- What a room has, step by step.
use Rattle.std.proofs.Common.{◌≡◌, ℕ, ◌+◌, ◌<◌, length, take, get_or, List, [], ◌∷◌, ◌++◌, sym, subst, ◌∙◌, ap, refl, append_assoc, append-nil}
use Rattle.std.specs.Prelude.{map}
use Rattle.std.specs.Path.{path_parent}
use Rattle.std.specs.declared.vec.Vec.{Vec}
use Rattle.std.proofs.lemmas.List.{map-append, take_more}
use Rattle.messages.specs.Path.{path_text}
use Rattle.worker.specs.Values.{contents_of}
use Rattle.processes.specs.Workshop.{Works, Becomes, with_folders, with_files}
use Rattle.processes.specs.Laying.{place_in, files_placed, above_in, folders_above}
use Rattle.processes.proofs.Lists.{map_taken}

above_append : (start : List ℕ) (ps qs : List (List (List ℕ))) → folders_above start (ps ++ qs) ≡ folders_above start ps ++ folders_above start qs
above_append start [] qs = refl
above_append start (p ∷ ps) qs =
    ap (λ xs. above_in start (path_parent (path_text p)) ++ xs) (above_append start ps qs)
    ∙ sym (append_assoc (above_in start (path_parent (path_text p))) (folders_above start ps) (folders_above start qs))

module _ {R C E : Type 0} (works : Works R C E) where
  pub folders_then : (old mid new : R) (xs ys zs : List (List ℕ)) → zs ≡ xs ++ ys → Becomes works old mid (with_folders xs) → Becomes works mid new (with_folders ys)
      → Becomes works old new (with_folders zs)
  folders_then old mid new xs ys zs is first then v h =
      subst (λ all. works.has new (record v { folders = all })) (append_assoc v.folders xs ys ∙ ap (λ more. v.folders ++ more) (sym is)) (then (with_folders xs v) (first v h))

  pub files_then : (old mid new : R) (xs ys zs : List (List ℕ × List ℕ)) → zs ≡ xs ++ ys → Becomes works old mid (with_files xs) → Becomes works mid new (with_files ys)
      → Becomes works old new (with_files zs)
  files_then old mid new xs ys zs is first then v h =
      subst (λ all. works.has new (record v { files = all })) (append_assoc v.files xs ys ∙ ap (λ more. v.files ++ more) (sym is)) (then (with_files xs v) (first v h))

  pub file_more : {A : Type 0} (old mid new : R) (folder : List ℕ) (files : List (List (List ℕ) × Vec ℕ A)) (i : ℕ) (f : List (List ℕ) × Vec ℕ A) (place bytes : List ℕ)
      → i < length files → f ≡ get_or files i f → place ≡ place_in folder (path_text f.0) → bytes ≡ f.1.items
      → Becomes works old mid (with_files (files_placed folder (contents_of (take i files)))) → Becomes works mid new (with_files ((place, bytes) ∷ []))
      → Becomes works old new (with_files (files_placed folder (contents_of (take (i + 1) files))))
  file_more {A} old mid new folder files i f place bytes lt is at content first then =
      let value : List (List ℕ) × Vec ℕ A → List (List ℕ) × List ℕ = λ e. (e.0, e.1.items) in
      let placed : List (List ℕ) × List ℕ → List ℕ × List ℕ = λ e. (place_in folder (path_text e.0), e.1) in
      let some : List (List ℕ × List ℕ) = files_placed folder (contents_of (take i files)) in
      let more : files_placed folder (contents_of (take (i + 1) files)) ≡ some ++ placed (value f) ∷ [] =
      ap (map placed) (map_taken value files i f lt is) ∙ map-append placed (contents_of (take i files)) (value f ∷ []) in
      let same : placed (value f) ≡ (place, bytes) = cc in
      files_then old mid new some ((place, bytes) ∷ []) (files_placed folder (contents_of (take (i + 1) files))) (more ∙ ap (λ x. some ++ x ∷ []) same) first then

  pub above_more : (old mid new : R) (start : List ℕ) (paths : List (List (List ℕ))) (i : ℕ) (p : List (List ℕ)) → i < length paths → p ≡ get_or paths i p
      → Becomes works old mid (with_folders (folders_above start (take i paths))) → Becomes works mid new (with_folders (above_in start (path_parent (path_text p))))
      → Becomes works old new (with_folders (folders_above start (take (i + 1) paths)))
  above_more old mid new start paths i p lt is first then =
      let taken : take (i + 1) paths ≡ take i paths ++ p ∷ [] = take_more paths i p lt ∙ ap (λ y. take i paths ++ y ∷ []) (sym is) in
      let one : folders_above start (p ∷ []) ≡ above_in start (path_parent (path_text p)) = append-nil (above_in start (path_parent (path_text p))) in
      folders_then old mid new (folders_above start (take i paths)) (above_in start (path_parent (path_text p))) (folders_above start (take (i + 1) paths))
      (ap (folders_above start) taken ∙ above_append start (take i paths) (p ∷ []) ∙ ap (λ xs. folders_above start (take i paths) ++ xs) one) first then
