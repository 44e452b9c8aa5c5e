-- What a walk through a folder found so far, name by name.
use Rattle.std.proofs.Common.{◌≡◌, ◌≢◌, ℕ, zero, suc, ◌+◌, ◌<◌, ◌≤◌, length, take, get_or, List, [], ◌∷◌, ◌++◌, sym, subst, ◌∙◌, ap, refl, arith, inl, inr, Bool, true, false, append_assoc, append-nil, length-append}
use Rattle.std.specs.Prelude.{◌⊎◌, ◌↔◌, ◌-◌, Contains, Some, SomeIff, bytes_eq, map}
use Rattle.std.proofs.Math.Seq.{take-length}
use Rattle.std.proofs.lemmas.List.{append_cancel_left, take-append-le, length-take}
use Rattle.std.proofs.lemmas.List.Elements.{Contains-append_left, Contains-append_right, Contains-append_cases}
use Rattle.std.proofs.lemmas.Slice.Eq.{bytes_eq-Decides}
use Rattle.blob_digest.specs.Digest.{DigestValue, digest_of}
use Rattle.messages.specs.declared.node.Node.TheVariants as nodes
use Rattle.std.proofs.lemmas.Bool.Decides.{eqb_tells}
use Rattle.messages.specs.declared.error.MessageError.{MessageError}
use Rattle.messages.specs.declared.error.MessageError.TheVariants as messages
use Rattle.messages.specs.Gives.{FailsUnlessMemory}
use Rattle.messages.specs.Name.{IsName}
use Rattle.messages.specs.Path.{path_below}
use Rattle.messages.proofs.Paths.{below_given}
use Rattle.tree.proofs.OwnDirectories.{no_refusal}
use Rattle.messages.specs.Tree.{TreeValue}
use Rattle.tree.specs.Tree.{Name, Standing, nothing, a_leaf, a_directory, Tree, stands_at}
use Rattle.tree.specs.Form.{NodeValue}
use Rattle.tree.specs.Folded.{first_visits}
use Rattle.tree.specs.FlatTree.{FlatValue, standing_in, IsAdded, IsTaken, IsListOf}
use Rattle.tree.proofs.FlatTrees.{list_maps}
use Rattle.worker.specs.Outcomes.{directories_of}
use Rattle.processes.specs.declared.workshop.Standing.{Standing as PlaceStanding}
use Rattle.processes.specs.declared.workshop.Standing.TheVariants as standings
use Rattle.processes.specs.Workshop.{Works}
use Rattle.processes.specs.Laying.{place_in}
use Rattle.processes.specs.Collected.{AreKept, IsFileAt, IsFolderAt, place_at, HasNames, IsStandingOf, IsContentAt, IsTreeAt, IsNoOutput, IsBadFolder}
use Rattle.processes.specs.Walking.{HasAbove, IsBare, IsOfMessage, LeavesOthers, IsWalked}
use Rattle.processes.specs.declared.trouble.Trouble.{Trouble}
use Rattle.processes.specs.declared.trouble.Trouble.TheVariants.{NoOutput}
use Rattle.processes.proofs.Lists.{map_taken}

-- ---- lists

pub contains_one : {X : Type 0} (y x : X) → Contains (y ∷ []) x → y ≡ x
contains_one y x (zero, lt, at) = at
contains_one y x (suc k, lt, at) = absurd (omega (arith, lt))

one_contained : {X : Type 0} (xs : List X) (y x : X) → x ≡ y → Contains (xs ++ y ∷ []) x
one_contained xs y x is = subst (λ z. Contains (xs ++ y ∷ []) z) (sym is) (Contains-append_right xs (y ∷ []) y (0, omega arith, refl))

kept_left : (xs ys : List (List ℕ)) → AreKept xs (xs ++ ys)
kept_left xs ys = record { kept = λ b h. Contains-append_left xs ys b h }

kept_right : (xs ys : List (List ℕ)) → AreKept ys (xs ++ ys)
kept_right xs ys = record { kept = λ b h. Contains-append_right xs ys b h }

not_nothing : (s : Standing NodeValue) → ((s ≢ nothing) → ⊥) → s ≡ nothing
not_nothing nothing h = refl
not_nothing (a_leaf x) h = absurd (h (λ e. cc))
not_nothing a_directory h = absurd (h (λ e. cc))

fewer_or_more : (d k : ℕ) → (k < d) ⊎ (d ≤ k)
fewer_or_more zero k = inr (omega arith)
fewer_or_more (suc d) zero = inl (omega arith)
fewer_or_more (suc d) (suc k) = elim (fewer_or_more d k) [ inl h ↦ inl (omega (arith, h)) | inr h ↦ inr (omega (arith, h)) ]

-- ---- what stands in a folder

module _ {R C E : Type 0} (works : Works R C E) (ended : E) where
  names_same : (place : List ℕ) (f g : List Name → Standing NodeValue) (p q : List Name) → ((m : Name) → f (p ++ m ∷ []) ≡ g (q ++ m ∷ []))
      → HasNames works ended place f p → HasNames works ended place g q
  names_same place f g p q same h = record {
    names = h.names;
    listed = h.listed;
    each = λ n. ((λ c e. (h.each n).0 c (same n ∙ e)), (λ some. (h.each n).1 (λ e. some (sym (same n) ∙ e))));
  }

  stands_same : (blobs : List (List ℕ)) (place : List ℕ) (f g : List Name → Standing NodeValue) (p q : List Name) (s : Standing NodeValue)
      → ((m : Name) → f (p ++ m ∷ []) ≡ g (q ++ m ∷ [])) → IsStandingOf works ended blobs place f p s → IsStandingOf works ended blobs place g q s
  stands_same blobs place f g p q nothing same h = tt
  stands_same blobs place f g p q (a_leaf (nodes.File d x)) same h = h
  stands_same blobs place f g p q (a_leaf (nodes.Link t)) same h = h
  stands_same blobs place f g p q (a_leaf (nodes.Dir d)) same h = h
  stands_same blobs place f g p q a_directory same h = (h.0, names_same place f g p q same h.1)

  file_kept : (before after : List (List ℕ)) → AreKept before after → (place : List ℕ) (d : DigestValue) (x : Bool) → IsFileAt works ended before place d x → IsFileAt works ended after place d x
  file_kept before after k place d x (bit, stands, (b, holds, is, held)) = (bit, stands, (b, holds, is, k.kept b held))

  stands_kept : (before after : List (List ℕ)) → AreKept before after → (place : List ℕ) (f : List Name → Standing NodeValue) (p : List Name) (s : Standing NodeValue)
      → IsStandingOf works ended before place f p s → IsStandingOf works ended after place f p s
  stands_kept before after k place f p nothing h = tt
  stands_kept before after k place f p (a_leaf (nodes.File d x)) h = file_kept before after k place d x h
  stands_kept before after k place f p (a_leaf (nodes.Link t)) h = h
  stands_kept before after k place f p (a_leaf (nodes.Dir d)) h = h
  stands_kept before after k place f p a_directory h = h

  module _ (place : List ℕ) where
    -- what stands below a place by the names that were seen
    pub record IsPartly (seen : List Name) (at : List Name → Standing NodeValue) (blobs : List (List ℕ)) : Type 0 where
      pub names : (n : Name) → Contains seen n ↔ (at (n ∷ []) ≢ nothing)
      pub none : (n : Name) (p : List Name) → (Contains seen n → ⊥) → at (n ∷ p) ≡ nothing
      pub below : (n : Name) (p : List Name) → IsStandingOf works ended blobs (place_at place (n ∷ p)) at (n ∷ p) (at (n ∷ p))
      pub only : (b : List ℕ) → Contains blobs b → IsContentAt works ended place at b

    module _ (n : Name) (f g : List Name → Standing NodeValue) (seen : List Name) (before own : List (List ℕ))
        (unseen : Contains seen n → ⊥) (same : (m : Name) (p : List Name) → m ≢ n → g (m ∷ p) ≡ f (m ∷ p)) (some : g (n ∷ []) ≢ nothing)
        (mine : (p : List Name) → IsStandingOf works ended own (place_at place (n ∷ p)) g (n ∷ p) (g (n ∷ p)))
        (content : (b : List ℕ) → Contains own b → IsContentAt works ended place g b) (s : IsPartly seen f before) where
      names_more : (m : Name) (b : Bool) → bytes_eq m n ≡ b → Contains (seen ++ n ∷ []) m ↔ (g (m ∷ []) ≢ nothing)
      names_more m true e =
          let is : m ≡ n = (bytes_eq-Decides m n).0 e in
          ((λ c. subst (λ k. g (k ∷ []) ≢ nothing) (sym is) some), (λ h. one_contained seen n m is))
      names_more m false e =
          let other : m ≢ n = λ q. let yes : bytes_eq m n ≡ true = (bytes_eq-Decides m n).1 q in cc in (
            (λ c. forth other (Contains-append_cases seen (n ∷ []) m c)),
            (λ h. Contains-append_left seen (n ∷ []) m ((s.names m).1 (λ z. h (same m [] other ∙ z)))),
          )
        where
          forth : m ≢ n → Contains seen m ⊎ Contains (n ∷ []) m → g (m ∷ []) ≢ nothing
          forth other (inl c) z = (s.names m).0 c (sym (same m [] other) ∙ z)
          forth other (inr c) z = other (sym (contains_one n m c))

      below_more : (m : Name) (p : List Name) (b : Bool) → bytes_eq m n ≡ b
          → IsStandingOf works ended (before ++ own) (place_at place (m ∷ p)) g (m ∷ p) (g (m ∷ p))
      below_more m p true e =
          let is : m ≡ n = (bytes_eq-Decides m n).0 e in
          subst (λ x. IsStandingOf works ended (before ++ own) (place_at place (x ∷ p)) g (x ∷ p) (g (x ∷ p))) (sym is)
          (stands_kept own (before ++ own) (kept_right before own) (place_at place (n ∷ p)) g (n ∷ p) (g (n ∷ p)) (mine p))
      below_more m p false e =
          let other : m ≢ n = λ q. let yes : bytes_eq m n ≡ true = (bytes_eq-Decides m n).1 q in cc in
          subst (λ v. IsStandingOf works ended (before ++ own) (place_at place (m ∷ p)) g (m ∷ p) v) (sym (same m p other))
          (stands_same (before ++ own) (place_at place (m ∷ p)) f g (m ∷ p) (m ∷ p) (f (m ∷ p)) (λ k. sym (same m (p ++ k ∷ []) other))
          (stands_kept before (before ++ own) (kept_left before own) (place_at place (m ∷ p)) f (m ∷ p) (f (m ∷ p)) (s.below m p)))

      content_more : (b : List ℕ) → Contains before b ⊎ Contains own b → IsContentAt works ended place g b
      content_more b (inr h) = content b h
      content_more b (inl h) =
          let c = s.only b h in
          let other : c.name ≢ n = λ is.
          let gone : f (c.name ∷ c.path) ≡ nothing = s.none c.name c.path (λ h. unseen (subst (Contains seen) is h)) in
          let file : f (c.name ∷ c.path) ≡ a_leaf (nodes.File (digest_of b) false) = c.file in
          cc in
          record { name = c.name; path = c.path; file = same c.name c.path other ∙ c.file; holds = c.holds }

      name_more : IsPartly (seen ++ n ∷ []) g (before ++ own)
      name_more = record {
        names = λ m. names_more m (bytes_eq m n) refl;
        none = λ m p h. same m p (λ is. h (one_contained seen n m is)) ∙ s.none m p (λ c. h (Contains-append_left seen (n ∷ []) m c));
        below = λ m p. below_more m p (bytes_eq m n) refl;
        only = λ b h. content_more b (Contains-append_cases before own b h);
      }

-- ---- paths

module _ (path : List Name) (n : Name) where
  longer : (m : Name) (p : List Name) (k : ℕ) → k ≤ length path → path ++ m ∷ p ≢ take k path
  longer m p k le e =
      let l = ap (λ (xs : List Name). length xs) e in
      omega (arith, simp length-append at l, length-take k path)

  first_names : (k : ℕ) → k ≤ length path → take k (path ++ n ∷ []) ≡ take k path
  first_names k le = take-append-le k path (n ∷ []) le

  count : length (path ++ n ∷ []) ≡ length path + 1
  count = omega (arith, length-append {A = Name})

  same_name : (m k : Name) (p q : List Name) → path ++ m ∷ p ≡ path ++ k ∷ q → m ≡ k
  same_name m k p q e = let h = append_cancel_left path (m ∷ p) (k ∷ q) e in cc

  module _ (s : Standing NodeValue) (old new : FlatValue) (add : IsAdded 1 (path ++ n ∷ []) s old new) where
    added_other : (q : List Name) → q ≢ path ++ n ∷ [] → ((k : ℕ) → k ≤ length path → q ≢ take k path) → standing_in new q ≡ standing_in old q
    added_other q other prefix = add.others q other
        (λ k some lt e. let le : k ≤ length path = omega (arith, count, lt) in prefix k le (e ∙ first_names k le))

    added_above : HasAbove new path
    added_above k some le = subst (λ q. standing_in new q ≡ a_directory) (first_names k le) (add.above k (omega (arith, some)) (omega (arith, count, le)))

    added_others : LeavesOthers path old new
    added_others q below prefix = added_other q (below n []) prefix

    added_same : (m : Name) (p : List Name) → m ≢ n → standing_in new (path ++ m ∷ p) ≡ standing_in old (path ++ m ∷ p)
    added_same m p other = added_other (path ++ m ∷ p) (λ e. other (same_name m n p [] e)) (longer m p)

    added_below : (m : Name) (p : List Name) → standing_in new (path ++ n ∷ m ∷ p) ≡ standing_in old (path ++ n ∷ m ∷ p)
    added_below m p = added_other (path ++ n ∷ m ∷ p) (λ e. let h = append_cancel_left path (n ∷ m ∷ p) (n ∷ []) e in cc) (longer n (m ∷ p))

    directory_above : s ≡ a_directory → HasAbove new (path ++ n ∷ [])
    directory_above is k some le = elim (fewer_or_more (length path + 1) k) [
      | inl h ↦ (let below : k ≤ length path = omega (arith, h) in subst (λ q. standing_in new q ≡ a_directory) (sym (first_names k below)) (added_above k some below))
      | inr h ↦ (let all : length (path ++ n ∷ []) ≡ k = omega (arith, count, h, le) in
          subst (λ i. standing_in new (take i (path ++ n ∷ [])) ≡ a_directory) all (ap (standing_in new) (take-length (path ++ n ∷ [])) ∙ add.at ∙ is))
    ]

-- ---- the names of one folder

module _ {R C E : Type 0} (works : Works R C E) (ended : E) (place : List ℕ) (path : List Name) where
  -- the folder so far, by the names that were seen
  pub record IsSoFar (seen : List Name) (old new : FlatValue) (before after : List (List ℕ)) : Type 0 where
    pub above : HasAbove new path
    pub others : LeavesOthers path old new
    pub more : List (List ℕ)
    pub blobs : after ≡ before ++ more
    pub found : IsPartly works ended place seen (λ q. standing_in new (path ++ q)) more

  pub none_seen : (old : FlatValue) (before : List (List ℕ)) → IsBare old path → IsSoFar [] old old before before
  none_seen old before bare = record {
    above = bare.above;
    others = λ q h k. refl;
    more = [];
    blobs = sym (append-nil before);
    found = record {
      names = λ n. ((λ (k, lt, at). absurd (omega (arith, lt))), (λ h. absurd (h (bare.none n []))));
      none = λ n p h. bare.none n p;
      below = λ n p. subst (λ v. IsStandingOf works ended [] (place_at place (n ∷ p)) (λ q. standing_in old (path ++ q)) (n ∷ p) v) (sym (bare.none n p)) tt;
      only = λ b (k, lt, at). absurd (omega (arith, lt));
    };
  }

  pub all_seen : (names : List Name) (old new : FlatValue) (before after : List (List ℕ)) → works.lists ended place (Some names)
      → IsSoFar names old new before after → IsWalked works ended place path old new before after
  all_seen names old new before after listed s = record {
    above = s.above;
    others = s.others;
    more = s.more;
    blobs = s.blobs;
    folder = record { names = record { names = names; listed = listed; each = s.found.names }; below = s.found.below };
    only = s.found.only;
  }

  module _ (seen : List Name) (n : Name) (standing : Standing NodeValue) (old was mid : FlatValue) (before between : List (List ℕ))
      (s : IsSoFar seen old was before between) (add : IsAdded 1 (path ++ n ∷ []) standing was mid) (free : IsTaken was (path ++ n ∷ []) → ⊥) where
    gone : standing_in was (path ++ n ∷ []) ≡ nothing
    gone = not_nothing (standing_in was (path ++ n ∷ [])) (λ h. free (inl h))

    unseen : Contains seen n → ⊥
    unseen c = (s.found.names n).0 c gone

    pub file_seen : (after : List (List ℕ)) (b : List ℕ) (d : DigestValue) → standing ≡ a_leaf (nodes.File d false) → works.stands ended (place_in place n) standings.File
        → works.holds ended (place_in place n) (Some b) → d ≡ digest_of b → after ≡ between ++ b ∷ [] → IsSoFar (seen ++ n ∷ []) old mid before after
    file_seen after b d leaf stands holds digest blobs = record {
      above = added_above path n standing was mid add;
      others = λ q below prefix. added_others path n standing was mid add q below prefix ∙ s.others q below prefix;
      more = s.more ++ b ∷ [];
      blobs = blobs ∙ ap (λ xs. xs ++ b ∷ []) s.blobs ∙ append_assoc before s.more (b ∷ []);
      found = name_more works ended place n (λ q. standing_in was (path ++ q)) (λ q. standing_in mid (path ++ q)) seen s.more (b ∷ []) unseen
          (λ m p other. added_same path n standing was mid add m p other) some mine content s.found;
    }
      where
        at : standing_in mid (path ++ n ∷ []) ≡ a_leaf (nodes.File d false)
        at = add.at ∙ leaf

        some : standing_in mid (path ++ n ∷ []) ≢ nothing
        some e = let h = at in cc

        mine : (p : List Name) → IsStandingOf works ended (b ∷ []) (place_at place (n ∷ p)) (λ q. standing_in mid (path ++ q)) (n ∷ p) (standing_in mid (path ++ n ∷ p))
        mine [] = subst (λ v. IsStandingOf works ended (b ∷ []) (place_at place (n ∷ [])) (λ q. standing_in mid (path ++ q)) (n ∷ []) v) (sym at)
            (refl, stands, (b, holds, digest, (0, omega arith, refl)))
        mine (k ∷ p) = subst (λ v. IsStandingOf works ended (b ∷ []) (place_at place (n ∷ k ∷ p)) (λ q. standing_in mid (path ++ q)) (n ∷ k ∷ p) v)
            (sym (added_below path n standing was mid add k p ∙ s.found.none n (k ∷ p) unseen)) tt

        content : (x : List ℕ) → Contains (b ∷ []) x → IsContentAt works ended place (λ q. standing_in mid (path ++ q)) x
        content x h = let is : b ≡ x = contains_one b x h in subst (λ y. IsContentAt works ended place (λ q. standing_in mid (path ++ q)) y) is
            (record { name = n; path = []; file = at ∙ ap (λ e. a_leaf (nodes.File e false)) digest; holds = holds })

    pub bare_below : standing ≡ a_directory → IsBare mid (path ++ n ∷ [])
    bare_below is = record {
      above = directory_above path n standing was mid add is;
      none = λ m p. ap (standing_in mid) (append_assoc path (n ∷ []) (m ∷ p)) ∙ added_below path n standing was mid add m p ∙ s.found.none n (m ∷ p) unseen;
    }

    pub folder_seen : (new : FlatValue) (after : List (List ℕ)) → standing ≡ a_directory → works.stands ended (place_in place n) standings.Folder
        → IsWalked works ended (place_in place n) (path ++ n ∷ []) mid new between after → IsSoFar (seen ++ n ∷ []) old new before after
    folder_seen new after is stands w = record {
      above = λ k pos le. subst (λ q. standing_in new q ≡ a_directory) (first_names path n k le) (w.above k pos (omega (arith, count path n, le)));
      others = λ q below prefix.
          walked_other q (λ m p e. below n (m ∷ p) e) (λ e. below n [] e) prefix ∙ added_others path n standing was mid add q below prefix ∙ s.others q below prefix;
      more = s.more ++ w.more;
      blobs = w.blobs ∙ ap (λ xs. xs ++ w.more) s.blobs ∙ append_assoc before s.more w.more;
      found = name_more works ended place n (λ q. standing_in was (path ++ q)) (λ q. standing_in new (path ++ q)) seen s.more w.more unseen
          same some mine content s.found;
    }
      where
        inner : (q : List Name) → standing_in new ((path ++ n ∷ []) ++ q) ≡ standing_in new (path ++ n ∷ q)
        inner q = ap (standing_in new) (append_assoc path (n ∷ []) q)

        walked_other : (q : List Name) → ((m : Name) (p : List Name) → q ≢ path ++ n ∷ m ∷ p) → q ≢ path ++ n ∷ [] → ((k : ℕ) → k ≤ length path → q ≢ take k path)
            → standing_in new q ≡ standing_in mid q
        walked_other q below here prefix = w.others q (λ m p e. below m p (e ∙ append_assoc path (n ∷ []) (m ∷ p))) (λ k le. by k le (fewer_or_more (length path + 1) k))
          where
            by : (k : ℕ) → k ≤ length (path ++ n ∷ []) → (k < length path + 1) ⊎ (length path + 1 ≤ k) → q ≢ take k (path ++ n ∷ [])
            by k le (inl h) e = let less : k ≤ length path = omega (arith, h) in prefix k less (e ∙ first_names path n k less)
            by k le (inr h) e = let all : k ≡ length (path ++ n ∷ []) = omega (arith, count path n, h, le) in
                here (e ∙ ap (λ i. take i (path ++ n ∷ [])) all ∙ take-length (path ++ n ∷ []))

        same : (m : Name) (p : List Name) → m ≢ n → standing_in new (path ++ m ∷ p) ≡ standing_in was (path ++ m ∷ p)
        same m p other =
            walked_other (path ++ m ∷ p) (λ k r e. other (same_name path n m n p (k ∷ r) e)) (λ e. other (same_name path n m n p [] e)) (longer path n m p)
            ∙ added_same path n standing was mid add m p other

        at : standing_in new (path ++ n ∷ []) ≡ a_directory
        at = subst (λ q. standing_in new q ≡ a_directory) (take-length (path ++ n ∷ [])) (w.above (length (path ++ n ∷ [])) (omega (arith, count path n)) (omega arith))

        some : standing_in new (path ++ n ∷ []) ≢ nothing
        some e = let h = at in cc

        mine : (p : List Name) → IsStandingOf works ended w.more (place_at place (n ∷ p)) (λ q. standing_in new (path ++ q)) (n ∷ p) (standing_in new (path ++ n ∷ p))
        mine [] = subst (λ v. IsStandingOf works ended w.more (place_in place n) (λ q. standing_in new (path ++ q)) (n ∷ []) v) (sym at)
            (stands, names_same works ended (place_in place n) (λ q. standing_in new ((path ++ n ∷ []) ++ q)) (λ q. standing_in new (path ++ q)) [] (n ∷ []) (λ m. inner (m ∷ [])) w.folder.names)
        mine (k ∷ p) = subst (λ v. IsStandingOf works ended w.more (place_at place (n ∷ k ∷ p)) (λ q. standing_in new (path ++ q)) (n ∷ k ∷ p) v) (inner (k ∷ p))
            (stands_same works ended w.more (place_at place (n ∷ k ∷ p)) (λ q. standing_in new ((path ++ n ∷ []) ++ q)) (λ q. standing_in new (path ++ q)) (k ∷ p) (n ∷ k ∷ p)
            (standing_in new ((path ++ n ∷ []) ++ k ∷ p)) (λ m. inner (k ∷ p ++ m ∷ [])) (w.folder.below k p))

        content : (b : List ℕ) → Contains w.more b → IsContentAt works ended place (λ q. standing_in new (path ++ q)) b
        content b h = let c = w.only b h in record { name = n; path = c.name ∷ c.path; file = sym (inner (c.name ∷ c.path)) ∙ c.file; holds = c.holds }

  -- ---- one name more

  module _ {X : Type 0} (f : X → Name) (names : List X) (i : ℕ) (x : X) (lt : i < length names) (is : x ≡ get_or names i x) (old was mid : FlatValue) (before between : List (List ℕ))
      (s : IsSoFar (map f (take i names)) old was before between) (standing : Standing NodeValue) (p : List Name) (at : p ≡ path ++ f x ∷ [])
      (add : IsAdded 1 p standing was mid) (free : IsTaken was p → ⊥) (look : List ℕ) (looked : look ≡ place_in place (f x)) where
    added : IsAdded 1 (path ++ f x ∷ []) standing was mid
    added = subst (λ q. IsAdded 1 q standing was mid) at add

    room : IsTaken was (path ++ f x ∷ []) → ⊥
    room = subst (λ q. IsTaken was q → ⊥) at free

    pub one_bare : standing ≡ a_directory → IsBare mid (path ++ f x ∷ [])
    one_bare = bare_below (map f (take i names)) (f x) standing old was mid before between s added room

    pub one_file : (after : List (List ℕ)) (b : List ℕ) (d : DigestValue) → standing ≡ a_leaf (nodes.File d false) → works.stands ended look standings.File
        → (read : List ℕ) → read ≡ place_in place (f x) → works.holds ended read (Some b) → d ≡ digest_of b → after ≡ between ++ b ∷ []
        → IsSoFar (map f (take (i + 1) names)) old mid before after
    one_file after b d leaf stands read is_read holds digest blobs =
        subst (λ seen. IsSoFar seen old mid before after) (sym (map_taken f names i x lt is))
        (file_seen (map f (take i names)) (f x) standing old was mid before between s added room after b d leaf (subst (λ q. works.stands ended q standings.File) looked stands)
        (subst (λ q. works.holds ended q (Some b)) is_read holds) digest blobs)

    pub one_folder : (new : FlatValue) (after : List (List ℕ)) → standing ≡ a_directory → works.stands ended look standings.Folder
        → (inside : List ℕ) → inside ≡ place_in place (f x) → (q : List Name) → q ≡ path ++ f x ∷ [] → IsWalked works ended inside q mid new between after
        → IsSoFar (map f (take (i + 1) names)) old new before after
    one_folder new after folder stands inside is_inside q is_q walked =
        subst (λ seen. IsSoFar seen old new before after) (sym (map_taken f names i x lt is))
        (folder_seen (map f (take i names)) (f x) standing old was mid before between s added room new after folder (subst (λ q. works.stands ended q standings.Folder) looked stands)
        (subst (λ r. IsWalked works ended r (path ++ f x ∷ []) mid new between after) is_inside (subst (λ r. IsWalked works ended inside r mid new between after) is_q walked)))

-- ---- the Tree of a folder

module _ {R C E : Type 0} (works : Works R C E) (ended : E) (place : List ℕ) (entries : FlatValue) (tree : Tree NodeValue) (list : IsListOf entries tree) where
  pub walked_folder : (old : FlatValue) (before after : List (List ℕ)) → (w : IsWalked works ended place [] old entries before after) → IsFolderAt works ended w.more place (stands_at tree)
  walked_folder old before after walked = record {
    names = names_same works ended place (λ q. standing_in entries q) (stands_at tree) [] [] (λ k. list_maps entries tree list k []) walked.folder.names;
    below = λ n p.
        subst (λ v. IsStandingOf works ended walked.more (place_at place (n ∷ p)) (stands_at tree) (n ∷ p) v) (list_maps entries tree list n p)
        (stands_same works ended walked.more (place_at place (n ∷ p)) (λ q. standing_in entries q) (stands_at tree) (n ∷ p) (n ∷ p) (standing_in entries (n ∷ p)) (λ k. list_maps entries tree list n (p ++ k ∷ [])) (walked.folder.below n p));
  }

  pub folder_tree : (m : TreeValue) → directories_of m ≡ first_visits tree → (old : FlatValue) (before after : List (List ℕ)) → IsWalked works ended place [] old entries before after → (more : List (List ℕ)) × IsTreeAt works ended place m more × (after ≡ before ++ more)
  folder_tree m directories old before after walked = (
    walked.more,
    record {
      tree = tree;
      ordered = list.ordered;
      folder = walked_folder old before after walked;
      directories = directories;
      only = λ b h. let c = walked.only b h in record { name = c.name; path = c.path; file = sym (list_maps entries tree list c.name c.path) ∙ c.file; holds = c.holds };
    },
    walked.blobs,
  )

-- ---- a folder that is no output

pub one_of : {X Y : Type 0} (f : X → Y) (xs : List X) (i : ℕ) (x : X) → i < length xs → x ≡ get_or xs i x → Contains (map f xs) (f x)
one_of f [] i x lt is = absurd (omega (arith, lt))
one_of f (y ∷ xs) zero x lt is = (0, omega arith, ap f (sym is))
one_of f (y ∷ xs) (suc i) x lt is = let r = one_of f xs i x (omega (arith, lt)) is in let more = r.1 in (suc r.0, omega (arith, more), r.2)

module _ {R C E : Type 0} (works : Works R C E) (ended : E) (place : List ℕ) where
  -- a name in it that is one of no path, or one too many
  pub bad_name : (most : ℕ) (names : List Name) (n : Name) → works.lists ended place (Some names) → Contains names n → (0 < most → IsName n → ⊥) → IsBadFolder works ended most place
  bad_name zero names n listed one why = inr (names, n, listed, one)
  bad_name (suc most) names n listed one why = inr (names, n, listed, one, inl (why (omega arith)))

  -- what stands at a name
  pub bad_below : (most fewer : ℕ) (names : List Name) (n : Name) (s : PlaceStanding) → most ≡ fewer + 1 → works.lists ended place (Some names) → Contains names n → works.stands ended (place_in place n) s
      → (s ≡ standings.Nothing) ⊎ IsNoOutput works ended (IsBadFolder works ended fewer) (place_in place n) s → IsBadFolder works ended most place
  bad_below zero fewer names n s is listed one stands why = absurd (omega (arith, is))
  bad_below (suc most) fewer names n s is listed one stands why =
      let same : fewer ≡ most = omega (arith, is) in
      inr (names, n, listed, one, inr (s, stands, subst (λ k. (s ≡ standings.Nothing) ⊎ IsNoOutput works ended (IsBadFolder works ended k) (place_in place n) s) same why))

-- a path below which there is no room
pub full_path : (path : List Name) (n : Name) (e : MessageError) → (e ≡ messages.Memory → ⊥) → FailsUnlessMemory e (path_below path n) → length path ≡ 64
full_path path n e other fails = elim (eqb_tells (length path) 64) [
  | inl full ↦ full.1
  | inr room ↦ absurd (no_refusal e _ other (subst (FailsUnlessMemory e) (below_given path n room.1) fails))
]

-- one name fewer
pub one_fewer : (most fewer : ℕ) → SomeIff (Some fewer) (1 ≤ most) (most - 1) → most ≡ fewer + 1
one_fewer most fewer h = let some = h.0 in let is = h.1 in omega (arith, some, is)

-- nothing, or neither a file nor a folder
pub bad_standing : {R C E : Type 0} (works : Works R C E) (ended : E) (IsBad : List ℕ → Type 0) (place : List ℕ) (s : PlaceStanding) → (s ≡ standings.Nothing) ⊎ (s ≡ standings.Other)
    → (s ≡ standings.Nothing) ⊎ IsNoOutput works ended IsBad place s
bad_standing works ended IsBad place s (inl e) = inl e
bad_standing works ended IsBad place s (inr e) = inr (subst (IsNoOutput works ended IsBad place) (sym e) tt)

-- what no path could be made of isn't lack of memory
pub message_bad : (x : MessageError) (t : Trouble) → IsOfMessage x t → t ≡ NoOutput → x ≢ messages.Memory
message_bad x t (inl (memory, is)) told = λ e. absurd (let both = sym is ∙ told in cc)
message_bad x t (inr (other, is)) told = other
