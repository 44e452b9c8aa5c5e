-- The child of a name is what stands under it, and nothing else does.
use Rattle.std.proofs.Common.{◌≡◌, ◌≢◌, ℕ, suc, ◌<◌, List, [], ◌∷◌, length, map, Option, Some, None, option_map, Result, Ok, Err, refl, sym, subst, ◌∙◌, arith}
use Rattle.std.specs.Prelude.{IfOk, find}
use Rattle.std.specs.List.{AllByRecursion, Contains}
use Rattle.std.proofs.lemmas.List.{map-id}
use Rattle.messages.specs.declared.node.Node.{Node}
use Rattle.messages.specs.declared.node.Node.TheVariants.{File, Link, Dir}
use Rattle.messages.specs.FileNode.{FileNodeValue}
use Rattle.messages.specs.DirectoryNode.{DirectoryNodeValue}
use Rattle.messages.specs.SymlinkNode.{SymlinkNodeValue}
use Rattle.messages.specs.Order.{ShareNone}
use Rattle.messages.specs.DirectoryRules.{DirectoryValue, IsDirectory, AreNames, file_names, directory_names, symlink_names}
use Rattle.messages.specs.Node.{IsChild, or_else, of_file, of_directory, of_symlink, child}
use Rattle.messages.proofs.Searches.{named, of_contained, found_there, there_found, none_there, none_found}

-- a name that differs from each of a list, and one that the list doesn't hold
not_contained : (name : List ℕ) (names : List (List ℕ)) → AllByRecursion (λ other. name ≢ other) names → ¬ Contains names name
not_contained name names all = λ there. of_contained (λ n. n) (λ other. name ≢ other) names name (subst (AllByRecursion (λ other. name ≢ other)) (sym (map-id names)) all) there refl

absent : (name : List ℕ) (names : List (List ℕ)) → ¬ Contains names name → AllByRecursion (λ other. name ≢ other) names
absent name [] none = tt
absent name (other ∷ names) none =
    let some : 0 < length (other ∷ names) = omega arith in
    (λ same. none (0, some, sym same), absent name names (λ there. let lt : suc there.0 < length (other ∷ names) = let less = there.1 in omega arith in none (suc there.0, lt, there.2)))

-- of two lists that share no name, the first hasn't a name of the second
apart_from : {X : Type 0} (key : X → List ℕ) (others : List (List ℕ)) (xs : List X) (x : X) → ShareNone others (map key xs) → Contains xs x → AllByRecursion (λ other. key x ≢ other) others
apart_from key [] xs x all there = tt
apart_from key (other ∷ others) xs x all there = (λ same. of_contained key (λ n. other ≢ n) xs x all.0 there (sym same), apart_from key others xs x all.1 there)

module _ (A : Type 0) (name : List ℕ) (d : DirectoryValue) where
  found : (f : Option FileNodeValue) (n : Option DirectoryNodeValue) (l : Option SymlinkNodeValue) → find (named (λ n. n.name) name) d.files ≡ f → find (named (λ n. n.name) name) d.directories ≡ n → find (named (λ n. n.name) name) d.symlinks ≡ l
      → IsChild {A = A} name d (or_else (option_map of_file f) (or_else (option_map of_directory n) (option_map of_symlink l)))
  found (Some f) n l e g h =
      let there = found_there (λ x. x.name) name d.files f e in
      subst (λ x. Contains d.files (record { name = x; digest = f.digest; executable = f.executable })) there.1 there.0
  found None (Some n) l e g h =
      let there = found_there (λ x. x.name) name d.directories n g in
      subst (λ x. Contains d.directories (record { name = x; digest = n.digest })) there.1 there.0
  found None None (Some l) e g h =
      let there = found_there (λ x. x.name) name d.symlinks l h in
      subst (λ x. Contains d.symlinks (record { name = x; target = l.target })) there.1 there.0
  found None None None e g h =
      (not_contained name (file_names d.files) (none_there (λ x. x.name) name d.files e), not_contained name (directory_names d.directories) (none_there (λ x. x.name) name d.directories g), not_contained name (symlink_names d.symlinks) (none_there (λ x. x.name) name d.symlinks h))

  pub child_stands : IsChild {A = A} name d (child name d)
  child_stands = found (find (named (λ n. n.name) name) d.files) (find (named (λ n. n.name) name) d.directories) (find (named (λ n. n.name) name) d.symlinks) refl refl refl

  pub child_found : AreNames (file_names d.files) (directory_names d.directories) (symlink_names d.symlinks) → (node : Option (Node A)) → IsChild {A = A} name d node → child name d ≡ node
  child_found names (Some (File digest executable)) there = rw (there_found (λ x. x.name) name d.files (record { name = name; digest = digest; executable = executable }) names.files_ascend there refl) refl
  child_found names (Some (Dir digest)) there =
      let node : DirectoryNodeValue = record { name = name; digest = digest } in
      let no_file = none_found (λ x. x.name) name d.files (apart_from (λ x. x.name) (file_names d.files) d.directories node names.files_and_directories there) in
      let found = there_found (λ x. x.name) name d.directories node names.directories_ascend there refl in
      rw (no_file, found) refl
  child_found names (Some (Link target)) there =
      let node : SymlinkNodeValue = record { name = name; target = target } in
      let no_file = none_found (λ x. x.name) name d.files (apart_from (λ x. x.name) (file_names d.files) d.symlinks node names.files_and_symlinks there) in
      let no_directory = none_found (λ x. x.name) name d.directories (apart_from (λ x. x.name) (directory_names d.directories) d.symlinks node names.directories_and_symlinks there) in
      let found = there_found (λ x. x.name) name d.symlinks node names.symlinks_ascend there refl in
      rw (no_file, no_directory, found) refl
  child_found names None none =
      let no_file = none_found (λ x. x.name) name d.files (absent name (file_names d.files) none.0) in
      let no_directory = none_found (λ x. x.name) name d.directories (absent name (directory_names d.directories) none.1) in
      let no_link = none_found (λ x. x.name) name d.symlinks (absent name (symlink_names d.symlinks) none.2) in
      rw (no_file, no_directory, no_link) refl

  -- what is answered, if memory is there
  pub child_answered : {E : Type 0} (r : Result (Option (Node A)) E) → IfOk r (λ node. node ≡ child name d) → IfOk r (IsChild {A = A} name d)
  child_answered (Ok answer) e = subst (IsChild {A = A} name d) (sym e) child_stands
  child_answered (Err e) h = tt

  pub child_alone : {E : Type 0} (r : Result (Option (Node A)) E) → IfOk r (λ node. node ≡ child name d) → IsDirectory d → (node : Option (Node A)) → IsChild {A = A} name d node → IfOk r (λ answer. answer ≡ node)
  child_alone (Ok answer) e is other stands = e ∙ child_found is.names other stands
  child_alone (Err e) h is other stands = tt
