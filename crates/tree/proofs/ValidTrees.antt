-- The Directories of a valid tree keep their rules.
use Rattle.std.proofs.Common.{◌≡◌, ◌≢◌, ℕ, List, [], ◌∷◌, ◌++◌, refl, ap, sym, ◌∙◌, subst, true, false, cond, map}
use Rattle.std.specs.Prelude.{bytes_eq}
use Rattle.std.specs.List.{AllByRecursion, list_any}
use Rattle.std.specs.declared.cmp.Ordering.TheVariants.{Less}
use Rattle.messages.specs.declared.node.Node.TheVariants.{File, Link, Dir}
use Rattle.messages.specs.DirectoryRules.{DirectoryValue, IsDirectory}
use Rattle.messages.specs.Name.{IsName}
use Rattle.messages.specs.Order.{ShareNone}
use Rattle.tree.specs.Tree.{Name, name_cmp, Tree, empty, leaf, folder, IsBelowAll, IsOrdered}
use Rattle.tree.specs.Form.{NodeValue, with_child, directory_of, top, root}
use Rattle.tree.specs.declared.folding.Folded.{Folded}
use Rattle.tree.specs.Folded.{IsNode, AreValid, IsFoldOfValid, tops_below, unseen, first_visits}
use Rattle.tree.specs.Difference.{made_by}
use Rattle.tree.specs.Comparing.{IsEncoding}
use Rattle.tree.proofs.TreeLemmas.{name_itself}
use Rattle.tree.proofs.TreeDigests.{IsDigest-digest_of}
use Rattle.tree.proofs.ChildOrder.{AreLater, later_child}
use Rattle.tree.proofs.Listings.{all_join}

-- ---- names

-- the children of a tree of later names have later names
later_names : (n : Name) (t : Tree NodeValue) → IsBelowAll n t → AreLater n (directory_of t)
later_names n empty h = record { files = tt; directories = tt; symlinks = tt }
later_names n (leaf m x rest) h = later_child n m x (directory_of rest) h.0 (later_names n rest h.1)
later_names n (folder m below rest) h = later_child n m (Dir (root below)) (directory_of rest) h.0 (later_names n rest h.1)

all_later : {X : Type 0} (name : X → Name) (n : Name) (xs : List X) → AllByRecursion (λ x. name_cmp n (name x) ≡ Less) xs → AllByRecursion (λ other. name_cmp n other ≡ Less) (map name xs)
all_later name n [] h = tt
all_later name n (x ∷ xs) h = (h.0, all_later name n xs h.1)

later_other : (n m : Name) → name_cmp n m ≡ Less → n ≢ m
later_other n m h = λ e. (let own = name_itself n in let less : name_cmp n n ≡ Less = ap (name_cmp n) e ∙ h in cc)

-- a name that comes before all others of a list is none of them
all_other : (n : Name) (others : List Name) → AllByRecursion (λ other. name_cmp n other ≡ Less) others → AllByRecursion (λ other. n ≢ other) others
all_other n [] h = tt
all_other n (m ∷ others) h = (later_other n m h.0, all_other n others h.1)

apart_more : (n : Name) (names others : List Name) → AllByRecursion (λ name. name_cmp n name ≡ Less) names → ShareNone names others → ShareNone names (n ∷ others)
apart_more n [] others h k = tt
apart_more n (m ∷ names) others h k = (((λ e. later_other n m h.0 (sym e)), k.0), apart_more n names others h.1 k.1)

-- ---- Directories

valid_child : (n : Name) (x : NodeValue) (m : DirectoryValue) → IsName n → IsNode x → AreLater n m → IsDirectory m → IsDirectory (with_child n x m)
valid_child n (File d executable) m name node later h =
    let files = all_later (λ f. f.name) n m.files later.files in
    let directories = all_later (λ c. c.name) n m.directories later.directories in
    let symlinks = all_later (λ l. l.name) n m.symlinks later.symlinks in
    record {
      files = (record { name = name; digest = node }, h.files);
      directories = h.directories;
      symlinks = h.symlinks;
      names = record {
        files_ascend = (files, h.names.files_ascend);
        directories_ascend = h.names.directories_ascend;
        symlinks_ascend = h.names.symlinks_ascend;
        files_and_directories = (all_other n (map (λ c. c.name) m.directories) directories, h.names.files_and_directories);
        files_and_symlinks = (all_other n (map (λ l. l.name) m.symlinks) symlinks, h.names.files_and_symlinks);
        directories_and_symlinks = h.names.directories_and_symlinks;
      };
    }
valid_child n (Link target) m name node later h =
    let files = all_later (λ f. f.name) n m.files later.files in
    let directories = all_later (λ c. c.name) n m.directories later.directories in
    let symlinks = all_later (λ l. l.name) n m.symlinks later.symlinks in
    record {
      files = h.files;
      directories = h.directories;
      symlinks = (record { name = name; target = node }, h.symlinks);
      names = record {
        files_ascend = h.names.files_ascend;
        directories_ascend = h.names.directories_ascend;
        symlinks_ascend = (symlinks, h.names.symlinks_ascend);
        files_and_directories = h.names.files_and_directories;
        files_and_symlinks = apart_more n (map (λ f. f.name) m.files) (map (λ l. l.name) m.symlinks) files h.names.files_and_symlinks;
        directories_and_symlinks = apart_more n (map (λ c. c.name) m.directories) (map (λ l. l.name) m.symlinks) directories h.names.directories_and_symlinks;
      };
    }
valid_child n (Dir d) m name node later h =
    let files = all_later (λ f. f.name) n m.files later.files in
    let directories = all_later (λ c. c.name) n m.directories later.directories in
    let symlinks = all_later (λ l. l.name) n m.symlinks later.symlinks in
    record {
      files = h.files;
      directories = (record { name = name; digest = node }, h.directories);
      symlinks = h.symlinks;
      names = record {
        files_ascend = h.names.files_ascend;
        directories_ascend = (directories, h.names.directories_ascend);
        symlinks_ascend = h.names.symlinks_ascend;
        files_and_directories = apart_more n (map (λ f. f.name) m.files) (map (λ c. c.name) m.directories) files h.names.files_and_directories;
        files_and_symlinks = h.names.files_and_symlinks;
        directories_and_symlinks = (all_other n (map (λ l. l.name) m.symlinks) symlinks, h.names.directories_and_symlinks);
      };
    }

pub valid_directory : (t : Tree NodeValue) → IsOrdered t → AreValid t → IsDirectory (directory_of t)
valid_directory empty o h = record {
  files = tt;
  directories = tt;
  symlinks = tt;
  names = record { files_ascend = tt; directories_ascend = tt; symlinks_ascend = tt; files_and_directories = tt; files_and_symlinks = tt; directories_and_symlinks = tt };
}
valid_directory (leaf n x rest) o h = valid_child n x (directory_of rest) h.0.0 h.0.1 (later_names n rest o.0) (valid_directory rest o.1 h.1)
valid_directory (folder n below rest) o h = valid_child n (Dir (root below)) (directory_of rest) h.0.0 (IsDigest-digest_of (top below)) (later_names n rest o.0) (valid_directory rest o.2 h.1)

-- ---- encodings

valid_top : (t : Tree NodeValue) → IsOrdered t → AreValid t → IsEncoding (top t)
valid_top t o h = (directory_of t, valid_directory t o h, refl)

valid_tops : (t : Tree NodeValue) → IsOrdered t → AreValid t → AllByRecursion IsEncoding (tops_below t)
valid_tops empty o h = tt
valid_tops (leaf n x rest) o h = valid_tops rest o.1 h.1
valid_tops (folder n below rest) o h = all_join IsEncoding (top below ∷ tops_below below) (tops_below rest) (valid_top below o.1 h.0.1, valid_tops below o.1 h.0.1) (valid_tops rest o.2 h.1)

all_unseen : (P : List ℕ → Type 0) (seen bs : List (List ℕ)) → AllByRecursion P bs → AllByRecursion P (unseen seen bs)
all_unseen P seen [] h = tt
all_unseen P seen (b ∷ bs) h =
    elim (list_any (bytes_eq b) seen) as (λ q. AllByRecursion P (cond q (unseen seen bs) (b ∷ unseen (seen ++ b ∷ []) bs))) [
      | true ↦ all_unseen P seen bs h.1
      | false ↦ (h.0, all_unseen P (seen ++ b ∷ []) bs h.1)
    ]

-- the Directories of a valid tree are encodings
pub visits_valid : (t : Tree NodeValue) → IsOrdered t → AreValid t → AllByRecursion IsEncoding (first_visits t)
visits_valid t ordered h = all_unseen IsEncoding [] (top t ∷ tops_below t) (valid_top t ordered h, valid_tops t ordered h)

-- and so are those that were made
pub valid_own : {A : Type 0} (f : Folded A) → IsFoldOfValid f → AllByRecursion IsEncoding (made_by f)
valid_own f h = subst (AllByRecursion IsEncoding) (sym h.1.fold.directories) (visits_valid h.0 h.1.ordered h.1.valid)
