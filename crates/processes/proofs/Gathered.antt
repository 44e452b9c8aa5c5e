-- What is collected so far, path by path.
use Rattle.std.proofs.Common.{◌≡◌, ℕ, zero, suc, ◌+◌, ◌<◌, length, take, get_or, List, [], ◌∷◌, ◌++◌, sym, subst, ◌∙◌, ap, refl, arith, inl, inr, append-nil}
use Rattle.std.specs.Prelude.{◌⊎◌, Contains, ℤ}
use Rattle.std.specs.List.{AllByRecursion}
use Rattle.std.proofs.lemmas.List.{map-append, take_more}
use Rattle.std.proofs.lemmas.List.Elements.{Contains-append_left, Contains-append_right, Contains-append_cases}
use Rattle.messages.specs.Path.{path_text}
use Rattle.actions.specs.Outcome.{OutputValue, OutcomeValue, AddsOutput, paths_of_outputs}
use Rattle.processes.specs.declared.workshop.Standing.TheVariants as standings
use Rattle.processes.specs.Workshop.{Works}
use Rattle.processes.specs.Laying.{place_in}
use Rattle.processes.specs.Collected.{AreKept, IsOutputAt, IsFound, IsSettled, IsOfOutput, IsMore, WasCollected}
use Rattle.processes.proofs.Lists.{all_more, all_still, kept_trans}

there : {X : Type 0} (y x : X) (ys : List X) → Contains ys x → Contains (y ∷ ys) x
there y x ys (k, lt, at) = (suc k, omega (arith, lt), at)

contains_inserted : {X : Type 0} (xs ys : List X) (y x : X) → Contains (xs ++ ys) x → Contains (xs ++ y ∷ ys) x
contains_inserted {X} xs ys y x h = by (Contains-append_cases xs ys x h)
  where
    by : Contains xs x ⊎ Contains ys x → Contains (xs ++ y ∷ ys) x
    by (inl l) = Contains-append_left xs (y ∷ ys) x l
    by (inr r) = Contains-append_right xs (y ∷ ys) x (there y x ys r)

all_inserted : {X : Type 0} (P : X → Type 0) (xs ys : List X) (y : X) → AllByRecursion P (xs ++ ys) → P y → AllByRecursion P (xs ++ y ∷ ys)
all_inserted P [] ys y h p = (p, h)
all_inserted P (x ∷ xs) ys y h p = (h.0, all_inserted P xs ys y h.1 p)

module _ {R C E : Type 0} (works : Works R C E) (ended : E) where
  module _ (folder : List ℕ) (paths : List (List (List ℕ))) where
    -- what is collected at some of the paths
    pub record IsSoFar (some : List (List (List ℕ))) (code : ℤ) (o : OutcomeValue) (blobs : List (List ℕ)) : Type 0 where
      pub code_is : o.exit_code ≡ code
      pub found : AllByRecursion (IsFound works ended folder paths blobs) o.outputs
      pub settled : AllByRecursion (IsSettled works ended folder o.outputs) some
      pub only : (b : List ℕ) → Contains blobs b → IsOfOutput works ended folder o.outputs b
      pub among : (q : List (List ℕ)) → Contains (paths_of_outputs o.outputs) q → Contains some q

    still_found : (before after : List (List ℕ)) → AreKept before after → (os : List (List (List ℕ) × OutputValue))
        → AllByRecursion (IsFound works ended folder paths before) os → AllByRecursion (IsFound works ended folder paths after) os
    still_found before after k os h =
        all_still (IsFound works ended folder paths before) (IsFound works ended folder paths after) os (λ e f. (f.0, (f.1.0, f.1.1, kept_trans f.1.2 k))) h

    module _ (some : List (List (List ℕ))) (code : ℤ) (path : List (List ℕ)) (old : OutcomeValue) (before : List (List ℕ)) (new : OutcomeValue) (after own : List (List ℕ))
        (blobs : after ≡ before ++ own) (s : IsSoFar some code old before) where
      before_kept : AreKept before after
      before_kept = record { kept = λ b h. subst (λ bs. Contains bs b) (sym blobs) (Contains-append_left before own b h) }

      own_kept : AreKept own after
      own_kept = record { kept = λ b h. subst (λ bs. Contains bs b) (sym blobs) (Contains-append_right before own b h) }

      nothing_more : own ≡ [] → works.stands ended (place_in folder (path_text path)) standings.Nothing → IsSoFar (some ++ path ∷ []) code old after
      nothing_more none stands =
          let same : after ≡ before = blobs ∙ ap (λ xs. before ++ xs) none ∙ append-nil before in
          record {
            code_is = s.code_is;
            found = still_found before after before_kept old.outputs s.found;
            settled = all_more (IsSettled works ended folder old.outputs) some path s.settled (inl stands);
            only = λ b h. s.only b (subst (λ bs. Contains bs b) same h);
            among = λ q h. Contains-append_left some (path ∷ []) q (s.among q h);
          }

      output_more : Contains paths path → (o : OutputValue) → IsOutputAt works ended (place_in folder (path_text path)) o own
          → AddsOutput old path o new → IsSoFar (some ++ path ∷ []) code new after
      output_more listed o at adds =
          let P = IsFound works ended folder paths after in
          let e : List (List ℕ) × OutputValue = (path, o) in
          let here = still_found before after before_kept old.outputs s.found in
          let split : AllByRecursion P (adds.before ++ adds.behind) = subst (AllByRecursion P) adds.others here in
          let mine : Contains new.outputs e = subst (λ xs. Contains xs e) (sym adds.placed) (Contains-append_right adds.before (e ∷ adds.behind) e (0, omega arith, refl)) in
          record {
            code_is = adds.exit_code ∙ s.code_is;
            found = subst (AllByRecursion P) (sym adds.placed) (all_inserted P adds.before adds.behind e split (listed, (own, at, own_kept)));
            settled = all_more (IsSettled works ended folder new.outputs) some path
                (all_still (IsSettled works ended folder old.outputs) (IsSettled works ended folder new.outputs) some settled_still s.settled) (inr named);
            only = λ b h. only_more mine b (Contains-append_cases before own b (subst (λ bs. Contains bs b) blobs h));
            among = λ q h. among_more q (subst (λ ps. Contains ps q) names h);
          }
        where
          names : paths_of_outputs new.outputs ≡ paths_of_outputs adds.before ++ path ∷ paths_of_outputs adds.behind
          names = ap paths_of_outputs adds.placed ∙ map-append (λ (x : List (List ℕ) × OutputValue). x.0) adds.before ((path, o) ∷ adds.behind)

          olds : paths_of_outputs old.outputs ≡ paths_of_outputs adds.before ++ paths_of_outputs adds.behind
          olds = ap paths_of_outputs adds.others ∙ map-append (λ (x : List (List ℕ) × OutputValue). x.0) adds.before adds.behind

          named : Contains (paths_of_outputs new.outputs) path
          named = subst (λ ps. Contains ps path) (sym names) (Contains-append_right (paths_of_outputs adds.before) (path ∷ paths_of_outputs adds.behind) path (0, omega arith, refl))

          still : (e : List (List ℕ) × OutputValue) → Contains old.outputs e → Contains new.outputs e
          still e h = subst (λ xs. Contains xs e) (sym adds.placed) (contains_inserted adds.before adds.behind (path, o) e (subst (λ xs. Contains xs e) adds.others h))

          among_more : (q : List (List ℕ)) → Contains (paths_of_outputs adds.before ++ path ∷ paths_of_outputs adds.behind) q → Contains (some ++ path ∷ []) q
          among_more q h = by (Contains-append_cases (paths_of_outputs adds.before) (path ∷ paths_of_outputs adds.behind) q h)
            where
              was : Contains (paths_of_outputs adds.before ++ paths_of_outputs adds.behind) q → Contains (some ++ path ∷ []) q
              was k = Contains-append_left some (path ∷ []) q (s.among q (subst (λ ps. Contains ps q) (sym olds) k))

              by : Contains (paths_of_outputs adds.before) q ⊎ Contains (path ∷ paths_of_outputs adds.behind) q → Contains (some ++ path ∷ []) q
              by (inl l) = was (Contains-append_left (paths_of_outputs adds.before) (paths_of_outputs adds.behind) q l)
              by (inr (zero, lt, at)) = subst (Contains (some ++ path ∷ [])) at (Contains-append_right some (path ∷ []) path (0, omega arith, refl))
              by (inr (suc k, lt, at)) = was (Contains-append_right (paths_of_outputs adds.before) (paths_of_outputs adds.behind) q (k, omega (arith, lt), at))

          settled_still : (q : List (List ℕ)) → IsSettled works ended folder old.outputs q → IsSettled works ended folder new.outputs q
          settled_still q (inl stands) = inl stands
          settled_still q (inr h) =
              inr (subst (λ ps. Contains ps q) (sym names) (contains_inserted (paths_of_outputs adds.before) (paths_of_outputs adds.behind) path q (subst (λ ps. Contains ps q) olds h)))

          only_more : Contains new.outputs (path, o) → (b : List ℕ) → Contains before b ⊎ Contains own b → IsOfOutput works ended folder new.outputs b
          only_more mine b (inl h) =
              let f = s.only b h in
              record { path = f.path; output = f.output; inside = still (f.path, f.output) f.inside; own = f.own; at = f.at; one = f.one }
          only_more mine b (inr h) = record { path = path; output = o; inside = mine; own = own; at = at; one = h }

    module _ (some : List (List (List ℕ))) (code : ℤ) (path : List (List ℕ)) (old : OutcomeValue) (before : List (List ℕ)) (new : OutcomeValue) (after : List (List ℕ)) where
      pub so_far_more : IsSoFar some code old before → Contains paths path → IsMore works ended (place_in folder (path_text path)) path old before new after → IsSoFar (some ++ path ∷ []) code new after
      so_far_more s listed m = by m.more
        where
          by : (works.stands ended (place_in folder (path_text path)) standings.Nothing × (new ≡ old) × (m.own ≡ []))
              ⊎ ((o : OutputValue) × IsOutputAt works ended (place_in folder (path_text path)) o m.own × AddsOutput old path o new)
              → IsSoFar (some ++ path ∷ []) code new after
          by (inl (stands, same, none)) = subst (λ n. IsSoFar (some ++ path ∷ []) code n after) (sym same) (nothing_more some code path old before new after m.own m.blobs s none stands)
          by (inr (o, at, adds)) = output_more some code path old before new after m.own m.blobs s listed o at adds

    pub so_far_taken : (i : ℕ) (code : ℤ) (path : List (List ℕ)) (old : OutcomeValue) (before : List (List ℕ)) (new : OutcomeValue) (after : List (List ℕ)) (place : List ℕ)
        → i < length paths → path ≡ get_or paths i path → IsSoFar (take i paths) code old before → place ≡ place_in folder (path_text path)
        → IsMore works ended place path old before new after → IsSoFar (take (i + 1) paths) code new after
    so_far_taken i code path old before new after place lt is s at m =
        let taken : take (i + 1) paths ≡ take i paths ++ path ∷ [] = take_more paths i path lt ∙ ap (λ y. take i paths ++ y ∷ []) (sym is) in
        subst (λ ps. IsSoFar ps code new after) (sym taken)
        (so_far_more (take i paths) code path old before new after s (i, lt, sym is) (subst (λ p. IsMore works ended p path old before new after) at m))

    -- at each path so far nothing stood, or an output
    named_found : (blobs : List (List ℕ)) (q : List (List ℕ)) (os : List (List (List ℕ) × OutputValue)) → AllByRecursion (IsFound works ended folder paths blobs) os → Contains (paths_of_outputs os) q → WasCollected works ended folder q
    named_found blobs q [] all (k, lt, at) = absurd (omega (arith, lt))
    named_found blobs q (e ∷ os) all (zero, lt, at) =
        let found = all.0.1 in inr (e.1, found.0, subst (λ p. IsOutputAt works ended (place_in folder (path_text p)) e.1 found.0) at found.1)
    named_found blobs q (e ∷ os) all (suc k, lt, at) = named_found blobs q os all.1 (k, omega (arith, lt), at)

    pub all_collected : (some : List (List (List ℕ))) (code : ℤ) (o : OutcomeValue) (blobs : List (List ℕ)) → IsSoFar some code o blobs → AllByRecursion (WasCollected works ended folder) some
    all_collected some code o blobs s = all_still (IsSettled works ended folder o.outputs) (WasCollected works ended folder) some by s.settled
      where
        by : (q : List (List ℕ)) → IsSettled works ended folder o.outputs q → WasCollected works ended folder q
        by q (inl stands) = inl stands
        by q (inr named) = named_found blobs q o.outputs s.found named
