-- Names of children, which ascend where the names that were read do.
use Rattle.std.proofs.Common.{◌≡◌, ◌≢◌, ◌∙◌, ◌+◌, ◌<◌, ℕ, List, [], ◌∷◌, ◌++◌, ap, arith, false, get_or, inl, inr, length, map, string_bytes, subst, sym}
use Rattle.std.proofs.lemmas.List.{get_or-map, length-map}
use Rattle.std.specs.Ordering.{is_lt}
use Rattle.std.specs.Prelude.{IsSorted, string_cmp}
use Rattle.std.specs.declared.alloc.Global.{Global}
use Rattle.std.specs.declared.string.String.{String}
use Rattle.std.specs.List.{AllByRecursion}
use Rattle.std.specs.declared.cmp.Ordering.TheVariants.{Less, Equal}
use Rattle.messages.specs.DirectoryRules.{AreNames, DirectoryValue, directory_names, file_names, symlink_names}
use Rattle.messages.specs.Order.{IsAscending, ShareNone, bytes_cmp}
use Rattle.messages.proofs.Orders.{itself}
use Rattle.commands.specs.Children.{AddsName}

-- they all come before this name
abbrev pub Before : List ℕ → List (List ℕ) → Type 0
Before n names = AllByRecursion (λ x. bytes_cmp x n ≡ Less) names

before_both : (n : List ℕ) (names : List (List ℕ)) (m : List ℕ) → Before n (names ++ m ∷ []) → Before n names × (bytes_cmp m n ≡ Less)
before_both n [] m all = (tt, all.0)
before_both n (x ∷ names) m all = let rest = before_both n names m all.1 in ((all.0, rest.0), rest.1)

one_before : (n : List ℕ) (names : List (List ℕ)) (m : List ℕ) → Before n names → bytes_cmp m n ≡ Less → Before n (names ++ m ∷ [])
one_before n [] m all less = (less, tt)
one_before n (x ∷ names) m all less = (all.0, one_before n names m all.1 less)

-- what ascends up to a last name ascends without it, and all comes before it
all_behind : (x : List ℕ) (names : List (List ℕ)) (n : List ℕ) → AllByRecursion (λ y. bytes_cmp x y ≡ Less) (names ++ n ∷ [])
    → AllByRecursion (λ y. bytes_cmp x y ≡ Less) names × (bytes_cmp x n ≡ Less)
all_behind x [] n all = (tt, all.0)
all_behind x (y ∷ names) n all = let rest = all_behind x names n all.1 in ((all.0, rest.0), rest.1)

ascends_before : (names : List (List ℕ)) (n : List ℕ) → IsAscending (names ++ n ∷ []) → IsAscending names × Before n names
ascends_before [] n up = (tt, tt)
ascends_before (x ∷ names) n up =
    let first = all_behind x names n up.0 in
    let rest = ascends_before names n up.1 in
    ((first.0, rest.0), (first.1, rest.1))

behind_all : (x : List ℕ) (names : List (List ℕ)) (n : List ℕ) → AllByRecursion (λ y. bytes_cmp x y ≡ Less) names → bytes_cmp x n ≡ Less
    → AllByRecursion (λ y. bytes_cmp x y ≡ Less) (names ++ n ∷ [])
behind_all x [] n all less = (less, tt)
behind_all x (y ∷ names) n all less = (all.0, behind_all x names n all.1 less)

ascends_on : (names : List (List ℕ)) (n : List ℕ) → IsAscending names → Before n names → IsAscending (names ++ n ∷ [])
ascends_on [] n up before = (tt, tt)
ascends_on (x ∷ names) n up before = (behind_all x names n up.0 before.0, ascends_on names n up.1 before.1)

other : (x n : List ℕ) → bytes_cmp x n ≡ Less → x ≢ n
other x n less same = let is : Less ≡ Equal = sym less ∙ ap (bytes_cmp x) (sym same) ∙ itself x in cc

-- a name behind all of a list isn't in it
apart_on : (others : List (List ℕ)) (n : List ℕ) → Before n others → AllByRecursion (λ x. n ≢ x) others
apart_on [] n before = tt
apart_on (x ∷ others) n before = ((λ same. other x n before.0 (sym same)), apart_on others n before.1)

apart_last : (names others : List (List ℕ)) (n : List ℕ) → ShareNone names others → Before n others → ShareNone (names ++ n ∷ []) others
apart_last [] others n apart before = (apart_on others n before, tt)
apart_last (x ∷ names) others n apart before = (apart.0, apart_last names others n apart.1 before)

apart_one : (x : List ℕ) (others : List (List ℕ)) (n : List ℕ) → AllByRecursion (λ y. x ≢ y) others → x ≢ n → AllByRecursion (λ y. x ≢ y) (others ++ n ∷ [])
apart_one x [] n apart is = (is, tt)
apart_one x (y ∷ others) n apart is = (apart.0, apart_one x others n apart.1 is)

last_apart : (names others : List (List ℕ)) (n : List ℕ) → ShareNone names others → Before n names → ShareNone names (others ++ n ∷ [])
last_apart [] others n apart before = tt
last_apart (x ∷ names) others n apart before = (apart_one x others n apart.0 (other x n before.0), last_apart names others n apart.1 before.1)

-- what comes behind the names that were read comes behind those of the children, which ascend where they do
pub record FollowsNames (read files directories symlinks : List (List ℕ)) : Type 0 where
  pub files_before : (m : List ℕ) → Before m read → Before m files
  pub directories_before : (m : List ℕ) → Before m read → Before m directories
  pub symlinks_before : (m : List ℕ) → Before m read → Before m symlinks
  pub named : IsAscending read → AreNames files directories symlinks

module _ (read files directories symlinks : List (List ℕ)) (n : List ℕ) (so_far : FollowsNames read files directories symlinks) where
  within : (names : List (List ℕ)) → ((m : List ℕ) → Before m read → Before m names) → (m : List ℕ) → Before m (read ++ n ∷ []) → Before m names
  within names is m before = is m (before_both m read n before).0

  within_on : (names : List (List ℕ)) → ((m : List ℕ) → Before m read → Before m names) → (m : List ℕ) → Before m (read ++ n ∷ []) → Before m (names ++ n ∷ [])
  within_on names is m before = let both = before_both m read n before in one_before m names n (is m both.0) both.1

  file_more : FollowsNames (read ++ n ∷ []) (files ++ n ∷ []) directories symlinks
  file_more = record {
    files_before = within_on files so_far.files_before;
    directories_before = within directories so_far.directories_before;
    symlinks_before = within symlinks so_far.symlinks_before;
    named = λ up.
        let was = ascends_before read n up in
        let names = so_far.named was.0 in
        record {
          files_ascend = ascends_on files n names.files_ascend (so_far.files_before n was.1);
          directories_ascend = names.directories_ascend;
          symlinks_ascend = names.symlinks_ascend;
          files_and_directories = apart_last files directories n names.files_and_directories (so_far.directories_before n was.1);
          files_and_symlinks = apart_last files symlinks n names.files_and_symlinks (so_far.symlinks_before n was.1);
          directories_and_symlinks = names.directories_and_symlinks;
        };
  }

  directory_more : FollowsNames (read ++ n ∷ []) files (directories ++ n ∷ []) symlinks
  directory_more = record {
    files_before = within files so_far.files_before;
    directories_before = within_on directories so_far.directories_before;
    symlinks_before = within symlinks so_far.symlinks_before;
    named = λ up.
        let was = ascends_before read n up in
        let names = so_far.named was.0 in
        record {
          files_ascend = names.files_ascend;
          directories_ascend = ascends_on directories n names.directories_ascend (so_far.directories_before n was.1);
          symlinks_ascend = names.symlinks_ascend;
          files_and_directories = last_apart files directories n names.files_and_directories (so_far.files_before n was.1);
          files_and_symlinks = names.files_and_symlinks;
          directories_and_symlinks = apart_last directories symlinks n names.directories_and_symlinks (so_far.symlinks_before n was.1);
        };
  }

  symlink_more : FollowsNames (read ++ n ∷ []) files directories (symlinks ++ n ∷ [])
  symlink_more = record {
    files_before = within files so_far.files_before;
    directories_before = within directories so_far.directories_before;
    symlinks_before = within_on symlinks so_far.symlinks_before;
    named = λ up.
        let was = ascends_before read n up in
        let names = so_far.named was.0 in
        record {
          files_ascend = names.files_ascend;
          directories_ascend = names.directories_ascend;
          symlinks_ascend = ascends_on symlinks n names.symlinks_ascend (so_far.symlinks_before n was.1);
          files_and_directories = names.files_and_directories;
          files_and_symlinks = last_apart files symlinks n names.files_and_symlinks (so_far.files_before n was.1);
          directories_and_symlinks = last_apart directories symlinks n names.directories_and_symlinks (so_far.directories_before n was.1);
        };
  }

abbrev pub Follows : List (List ℕ) → DirectoryValue → Type 0
Follows read d = FollowsNames read (file_names d.files) (directory_names d.directories) (symlink_names d.symlinks)

pub follows_on : (read : List (List ℕ)) (n : List ℕ) (old new : DirectoryValue) → Follows read old → AddsName n old new → Follows (read ++ n ∷ []) new
follows_on read n old new so_far (inl is) =
    subst (λ l. FollowsNames (read ++ n ∷ []) l (directory_names new.directories) (symlink_names new.symlinks)) (sym is.0)
    (subst (λ l. FollowsNames (read ++ n ∷ []) (file_names old.files ++ n ∷ []) (directory_names l) (symlink_names new.symlinks)) (sym is.1)
    (subst (λ l. FollowsNames (read ++ n ∷ []) (file_names old.files ++ n ∷ []) (directory_names old.directories) (symlink_names l)) (sym is.2)
    (file_more read (file_names old.files) (directory_names old.directories) (symlink_names old.symlinks) n so_far)))
follows_on read n old new so_far (inr (inl is)) =
    subst (λ l. FollowsNames (read ++ n ∷ []) (file_names l) (directory_names new.directories) (symlink_names new.symlinks)) (sym is.0)
    (subst (λ l. FollowsNames (read ++ n ∷ []) (file_names old.files) l (symlink_names new.symlinks)) (sym is.1)
    (subst (λ l. FollowsNames (read ++ n ∷ []) (file_names old.files) (directory_names old.directories ++ n ∷ []) (symlink_names l)) (sym is.2)
    (directory_more read (file_names old.files) (directory_names old.directories) (symlink_names old.symlinks) n so_far)))
follows_on read n old new so_far (inr (inr is)) =
    subst (λ l. FollowsNames (read ++ n ∷ []) (file_names l) (directory_names new.directories) (symlink_names new.symlinks)) (sym is.0)
    (subst (λ l. FollowsNames (read ++ n ∷ []) (file_names old.files) (directory_names l) (symlink_names new.symlinks)) (sym is.1)
    (subst (λ l. FollowsNames (read ++ n ∷ []) (file_names old.files) (directory_names old.directories) l) (sym is.2)
    (symlink_more read (file_names old.files) (directory_names old.directories) (symlink_names old.symlinks) n so_far)))

pub nothing_follows : Follows [] record { files = []; directories = []; symlinks = [] }
nothing_follows = record {
  files_before = λ m all. all;
  directories_before = λ m all. all;
  symlinks_before = λ m all. all;
  named = λ up. record { files_ascend = tt; directories_ascend = tt; symlinks_ascend = tt; files_and_directories = tt; files_and_symlinks = tt; directories_and_symlinks = tt };
}

-- texts in order are so by their bytes
pub ordered_bytes : (names : List (String Global)) → IsSorted string_cmp names → IsSorted bytes_cmp (map string_bytes names)
ordered_bytes [] ordered = λ k d low less. absurd (omega (arith, less))
ordered_bytes (x ∷ names) ordered = λ k d low less.
    let all = x ∷ names in
    let long : k + 1 < length all = subst (λ n. k + 1 < n) (length-map all string_bytes) less in
    let first = get_or-map string_bytes all k x d (omega (arith, long)) in
    let next = get_or-map string_bytes all (k + 1) x d long in
    subst (λ a. is_lt (bytes_cmp a (get_or (map string_bytes all) k d)) ≡ false) (sym next)
    (subst (λ b. is_lt (bytes_cmp (string_bytes (get_or all (k + 1) x)) b) ≡ false) (sym first) (ordered k x low long))
