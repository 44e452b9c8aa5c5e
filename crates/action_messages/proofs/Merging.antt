-- A walk over three ascending lists gives their elements in one ascending list.
use Rattle.std.proofs.Common.{◌≡◌, ◌≢◌, ℕ, Bool, true, false, cond, List, [], ◌∷◌, ◌++◌, drop, length, map, Option, Some, None, option_map, refl, sym, ap, subst, ◌∙◌, append_assoc, Less, Equal, Greater, inl, inr, arith}
use Rattle.std.specs.Prelude.{◌⊎◌, ◌<◌, slice_get}
use Rattle.std.specs.declared.cmp.Ordering.{Ordering}
use Rattle.std.specs.Ordering.{is_gt}
use Rattle.std.specs.List.{AllByRecursion}
use Rattle.std.proofs.lemmas.List.{append-nil, map-append}
use Rattle.std.proofs.lemmas.Cmp.{upto}
use Rattle.std.proofs.lemmas.Map.Lookups.{exact_bytes}
use Rattle.std.specs.Cmp.Lexicographic.{nat_list_cmp_total}
use Rattle.messages.specs.Order.{bytes_cmp, ShareNone}
use Rattle.messages.specs.Path.{path_text}
use Rattle.messages.proofs.Orders.{flipped, itself}
use Rattle.action_messages.specs.Ascending.{IsAscendingBy}
use Rattle.action_messages.specs.Overlaps.{texts_of}
use Rattle.action_messages.specs.OutputFile.{OutputFileValue}
use Rattle.action_messages.specs.OutputDirectory.{OutputDirectoryValue}
use Rattle.action_messages.specs.OutputSymlink.{OutputSymlinkValue}
use Rattle.action_messages.specs.ActionResult.{ActionResultValue, IsActionResult, file_paths, directory_paths, symlink_paths}
use Rattle.action_messages.specs.declared.recorded_output.RecordedOutput.{RecordedOutput}
use Rattle.action_messages.specs.Outputs.{RecordedValue, recorded_value, recorded_values, file, directory, link, recorded_path, files_among, directories_among, links_among, AreOutputs}
use Rattle.action_messages.specs.Merging.{earlier, first_of}
use Rattle.action_messages.proofs.Apart.{firsts, rests, weaker, text_rows, apart_parts, from_parts}
use Rattle.action_messages.proofs.Results.{file_paths_valid, directory_paths_valid, symlink_paths_valid}

abbrev text_at : RecordedValue → List ℕ
text_at x = path_text (recorded_path x)

abbrev pub texts : List RecordedValue → List (List ℕ)
texts xs = texts_of (map recorded_path xs)

-- ---- the first of three

-- its text is that of no later one
abbrev pub NotAfter : RecordedValue → Option RecordedValue → Type 0
NotAfter x None = Unit {0}
NotAfter x (Some y) = is_gt (bytes_cmp (text_at x) (text_at y)) ≡ false

own : (o : Option RecordedValue) (x : RecordedValue) → o ≡ Some x → NotAfter x o
own None x e = tt
own (Some y) x e = let same : y ≡ x = cc in subst (λ z. is_gt (bytes_cmp (text_at x) (text_at z)) ≡ false) (sym same) (ap is_gt (itself (text_at x)))

not_both : (o : Ordering) → is_gt o ≡ true → o ≡ Greater
not_both Less e = absurd cc
not_both Equal e = absurd cc
not_both Greater e = refl

turned : (x y : List ℕ) → is_gt (bytes_cmp x y) ≡ true → is_gt (bytes_cmp y x) ≡ false
turned x y e = ap is_gt (flipped x y Greater (not_both (bytes_cmp x y) e))

earlier_some : (a b : Option RecordedValue) (x : RecordedValue) → earlier a b ≡ Some x → ((a ≡ Some x) ⊎ (b ≡ Some x)) × NotAfter x a × NotAfter x b
earlier_some None b x e = (inr e, tt, own b x e)
earlier_some (Some y) None x e = (inl e, own (Some y) x e, tt)
earlier_some (Some y) (Some z) x e = by (is_gt (bytes_cmp (text_at y) (text_at z))) refl e
  where
    by : (g : Bool) → is_gt (bytes_cmp (text_at y) (text_at z)) ≡ g → cond g (Some z) (Some y) ≡ Some x → ((Some y ≡ Some x) ⊎ (Some z ≡ Some x)) × NotAfter x (Some y) × NotAfter x (Some z)
    by true later f =
        let same : z ≡ x = cc in
        (inr f, subst (λ w. is_gt (bytes_cmp (text_at w) (text_at y)) ≡ false) same (turned (text_at y) (text_at z) later), own (Some z) x f)
    by false sooner f =
        let same : y ≡ x = cc in
        (inl f, own (Some y) x f, subst (λ w. is_gt (bytes_cmp (text_at w) (text_at z)) ≡ false) same sooner)

earlier_none : (a b : Option RecordedValue) → earlier a b ≡ None → (a ≡ None) × (b ≡ None)
earlier_none None b e = (refl, e)
earlier_none (Some y) None e = absurd cc
earlier_none (Some y) (Some z) e = by (is_gt (bytes_cmp (text_at y) (text_at z))) e
  where
    by : (g : Bool) → cond g (Some z) (Some y) ≡ None → (Some y ≡ None) × (Some z ≡ None)
    by true f = absurd cc
    by false f = absurd cc

through : (x y : RecordedValue) (o : Option RecordedValue) → is_gt (bytes_cmp (text_at x) (text_at y)) ≡ false → NotAfter y o → NotAfter x o
through x y None h k = tt
through x y (Some z) h k = upto nat_list_cmp_total (text_at x) (text_at y) (text_at z) h k

-- the first is one of them, and none of them comes before it
pub record IsLeast (a b c : Option RecordedValue) (x : RecordedValue) : Type 0 where
  pub which : (a ≡ Some x) ⊎ ((b ≡ Some x) ⊎ (c ≡ Some x))
  pub one : NotAfter x a
  pub two : NotAfter x b
  pub three : NotAfter x c

least : (a b c : Option RecordedValue) (x : RecordedValue) → earlier (earlier a b) c ≡ Some x → IsLeast a b c x
least a b c x e = by (earlier a b) refl (earlier_some (earlier a b) c x e)
  where
    first : (o : Option RecordedValue) → earlier a b ≡ o → o ≡ Some x → NotAfter x c → IsLeast a b c x
    first o is f three =
        let h = earlier_some a b x (is ∙ f) in
        elim h.0 [
          | inl p ↦ record { which = inl p; one = h.1; two = h.2; three = three }
          | inr p ↦ record { which = inr (inl p); one = h.1; two = h.2; three = three }
        ]

    last : (o : Option RecordedValue) → earlier a b ≡ o → c ≡ Some x → NotAfter x o → NotAfter x c → IsLeast a b c x
    last None is f h three =
        let none = earlier_none a b is in
        record { which = inr (inr f); one = subst (NotAfter x) (sym none.0) tt; two = subst (NotAfter x) (sym none.1) tt; three = three }
    last (Some y) is f h three =
        let k = earlier_some a b y is in
        record { which = inr (inr f); one = through x y a h k.1; two = through x y b h k.2; three = three }

    by : (o : Option RecordedValue) → earlier a b ≡ o → ((o ≡ Some x) ⊎ (c ≡ Some x)) × NotAfter x o × NotAfter x c → IsLeast a b c x
    by o is h = elim h.0 [ inl f ↦ first o is f h.2 | inr f ↦ last o is f h.1 h.2 ]

-- ---- what is left of the three lists

pub record AreLeft (F D L : List (List ℕ)) : Type 0 where
  pub files : IsAscendingBy bytes_cmp F
  pub directories : IsAscendingBy bytes_cmp D
  pub links : IsAscendingBy bytes_cmp L
  pub files_directories : ShareNone F D
  pub files_links : ShareNone F L
  pub directories_links : ShareNone D L

-- a text comes before all that is left
abbrev pub Precedes : List (List ℕ) → List (List ℕ) → List (List ℕ) → List ℕ → Type 0
Precedes F D L t = AllByRecursion (λ u. bytes_cmp t u ≡ Less) F × AllByRecursion (λ u. bytes_cmp t u ≡ Less) D × AllByRecursion (λ u. bytes_cmp t u ≡ Less) L

less : (t u : List ℕ) (o : Ordering) → bytes_cmp t u ≡ o → is_gt o ≡ false → t ≢ u → o ≡ Less
less t u Less e h differ = refl
less t u Equal e h differ = absurd (differ (exact_bytes t u e))
less t u Greater e h differ = absurd cc

behind_all : (t u : List ℕ) (ts : List (List ℕ)) → bytes_cmp t u ≡ Less → AllByRecursion (λ v. bytes_cmp u v ≡ Less) ts → AllByRecursion (λ v. bytes_cmp t v ≡ Less) ts
behind_all t u [] e h = tt
behind_all t u (v ∷ ts) e h = (nat_list_cmp_total.trans t u v e h.0, behind_all t u ts e h.1)

-- what comes no later than the first of an ascending list, and is none of it, comes before all of it
before_all : {Y : Type 0} (kind : Y → RecordedValue) (x : RecordedValue) (ys : List Y) → NotAfter x (option_map kind (slice_get ys 0)) → AllByRecursion (λ u. text_at x ≢ u) (texts (map kind ys)) → IsAscendingBy bytes_cmp (texts (map kind ys)) → AllByRecursion (λ u. bytes_cmp (text_at x) u ≡ Less) (texts (map kind ys))
before_all kind x [] h differ up = tt
before_all kind x (y ∷ ys) h differ up =
    let first : bytes_cmp (text_at x) (text_at (kind y)) ≡ Less = less (text_at x) (text_at (kind y)) (bytes_cmp (text_at x) (text_at (kind y))) refl h differ.0 in
    (first, behind_all (text_at x) (text_at (kind y)) (texts (map kind ys)) first up.0)

-- the texts of each kind
texts_kind : {Y : Type 0} (kind : Y → RecordedValue) (path : Y → List (List ℕ)) → ((y : Y) → recorded_path (kind y) ≡ path y) → (ys : List Y) → texts (map kind ys) ≡ texts_of (map path ys)
texts_kind kind path is [] = refl
texts_kind kind path is (y ∷ ys) = λ i. path_text (is y i) ∷ texts_kind kind path is ys i

before_kind : {Y : Type 0} (kind : Y → RecordedValue) (path : Y → List (List ℕ)) → ((y : Y) → recorded_path (kind y) ≡ path y) → (x : RecordedValue) (ys : List Y) → NotAfter x (option_map kind (slice_get ys 0)) → AllByRecursion (λ u. text_at x ≢ u) (texts_of (map path ys)) → IsAscendingBy bytes_cmp (texts_of (map path ys)) → AllByRecursion (λ u. bytes_cmp (text_at x) u ≡ Less) (texts_of (map path ys))
before_kind kind path is x ys h differ up =
    let same = texts_kind kind path is ys in
    subst (AllByRecursion (λ u. bytes_cmp (text_at x) u ≡ Less)) same
    (before_all kind x ys h (subst (AllByRecursion (λ u. text_at x ≢ u)) (sym same) differ) (subst (IsAscendingBy bytes_cmp) (sym same) up))

differ_back : (t : List ℕ) (ts : List (List ℕ)) → AllByRecursion (λ u. u ≢ t) ts → AllByRecursion (λ u. t ≢ u) ts
differ_back t ts h = weaker (λ u. u ≢ t) (λ u. t ≢ u) (λ u n e. n (sym e)) ts h

-- ---- one more at the end

texts_push : (xs : List RecordedValue) (x : RecordedValue) → texts (xs ++ x ∷ []) ≡ texts xs ++ text_at x ∷ []
texts_push [] x = refl
texts_push (y ∷ xs) x = ap (λ l. text_at y ∷ l) (texts_push xs x)

pub files_append : (xs ys : List RecordedValue) → files_among (xs ++ ys) ≡ files_among xs ++ files_among ys
files_append [] ys = refl
files_append (file f ∷ xs) ys = ap (λ l. f ∷ l) (files_append xs ys)
files_append (directory d ∷ xs) ys = files_append xs ys
files_append (link l ∷ xs) ys = files_append xs ys

pub directories_append : (xs ys : List RecordedValue) → directories_among (xs ++ ys) ≡ directories_among xs ++ directories_among ys
directories_append [] ys = refl
directories_append (file f ∷ xs) ys = directories_append xs ys
directories_append (directory d ∷ xs) ys = ap (λ l. d ∷ l) (directories_append xs ys)
directories_append (link l ∷ xs) ys = directories_append xs ys

pub links_append : (xs ys : List RecordedValue) → links_among (xs ++ ys) ≡ links_among xs ++ links_among ys
links_append [] ys = refl
links_append (file f ∷ xs) ys = links_append xs ys
links_append (directory d ∷ xs) ys = links_append xs ys
links_append (link l ∷ xs) ys = ap (λ k. l ∷ k) (links_append xs ys)

pub all_push : {X : Type 0} (P : X → Type 0) (xs : List X) (x : X) → AllByRecursion P xs → P x → AllByRecursion P (xs ++ x ∷ [])
all_push P [] x h p = (p, tt)
all_push P (y ∷ xs) x h p = (h.0, all_push P xs x h.1 p)

ascends_push : (ts : List (List ℕ)) (t : List ℕ) → IsAscendingBy bytes_cmp ts → AllByRecursion (λ s. bytes_cmp s t ≡ Less) ts → IsAscendingBy bytes_cmp (ts ++ t ∷ [])
ascends_push [] t up h = (tt, tt)
ascends_push (s ∷ ts) t up h = (all_push (λ u. bytes_cmp s u ≡ Less) ts t up.0 h.0, ascends_push ts t up.1 h.1)

-- ---- the walk

-- what was taken so far, and what is left
pub record Walks (r : ActionResultValue) (xs : List RecordedValue) (fs : List OutputFileValue) (ds : List OutputDirectoryValue) (ls : List OutputSymlinkValue) : Type 0 where
  pub files : files_among xs ++ fs ≡ r.files
  pub directories : directories_among xs ++ ds ≡ r.directories
  pub symlinks : links_among xs ++ ls ≡ r.symlinks
  pub ascend : IsAscendingBy bytes_cmp (texts xs)
  pub before : AllByRecursion (Precedes (texts_of (file_paths fs)) (texts_of (directory_paths ds)) (texts_of (symlink_paths ls))) (texts xs)
  pub left : AreLeft (texts_of (file_paths fs)) (texts_of (directory_paths ds)) (texts_of (symlink_paths ls))

same_kind : {Y : Type 0} (xs ys : List Y) (kept : List Y) → kept ≡ xs ++ [] → kept ++ ys ≡ xs ++ ys
same_kind xs ys kept e = ap (λ l. l ++ ys) (e ∙ append-nil xs)

taken : {Y : Type 0} (xs ys : List Y) (y : Y) (more : List Y) → more ≡ xs ++ y ∷ [] → more ++ ys ≡ xs ++ y ∷ ys
taken xs ys y more e = ap (λ l. l ++ ys) e ∙ append_assoc xs (y ∷ []) ys

module _ (r : ActionResultValue) (xs : List RecordedValue) where
  pushed : (x : RecordedValue) (F D L F' D' L' : List (List ℕ)) → IsAscendingBy bytes_cmp (texts xs) → AllByRecursion (Precedes F D L) (texts xs) → ((t : List ℕ) → Precedes F D L t → Precedes F' D' L' t × (bytes_cmp t (text_at x) ≡ Less)) → Precedes F' D' L' (text_at x)
      → IsAscendingBy bytes_cmp (texts (xs ++ x ∷ [])) × AllByRecursion (Precedes F' D' L') (texts (xs ++ x ∷ []))
  pushed x F D L F' D' L' up before less first =
      let still = weaker (Precedes F D L) (Precedes F' D' L') (λ t p. (less t p).0) (texts xs) before in
      let sooner = weaker (Precedes F D L) (λ t. bytes_cmp t (text_at x) ≡ Less) (λ t p. (less t p).1) (texts xs) before in (
        subst (IsAscendingBy bytes_cmp) (sym (texts_push xs x)) (ascends_push (texts xs) (text_at x) up sooner),
        subst (AllByRecursion (Precedes F' D' L')) (sym (texts_push xs x)) (all_push (Precedes F' D' L') (texts xs) (text_at x) still first),
      )

  take_file : (f : OutputFileValue) (fs : List OutputFileValue) (ds : List OutputDirectoryValue) (ls : List OutputSymlinkValue) → Walks r xs (f ∷ fs) ds ls → NotAfter (file f) (option_map directory (slice_get ds 0)) → NotAfter (file f) (option_map link (slice_get ls 0)) → Walks r (xs ++ file f ∷ []) fs ds ls
  take_file f fs ds ls w two three =
      let F = texts_of (file_paths fs) in
      let D = texts_of (directory_paths ds) in
      let L = texts_of (symlink_paths ls) in
      let before_d = before_kind directory (λ d. d.path) (λ d. refl) (file f) ds two w.left.files_directories.0 w.left.directories in
      let before_l = before_kind link (λ l. l.path) (λ l. refl) (file f) ls three w.left.files_links.0 w.left.links in
      let p = pushed (file f) (path_text f.path ∷ F) D L F D L w.ascend w.before (λ t h. ((h.0.1, h.1, h.2), h.0.0)) (w.left.files.0, before_d, before_l) in
      record {
        files = taken (files_among xs) fs f (files_among (xs ++ file f ∷ [])) (files_append xs (file f ∷ [])) ∙ w.files;
        directories = same_kind (directories_among xs) ds (directories_among (xs ++ file f ∷ [])) (directories_append xs (file f ∷ [])) ∙ w.directories;
        symlinks = same_kind (links_among xs) ls (links_among (xs ++ file f ∷ [])) (links_append xs (file f ∷ [])) ∙ w.symlinks;
        ascend = p.0;
        before = p.1;
        left = record { files = w.left.files.1; directories = w.left.directories; links = w.left.links; files_directories = w.left.files_directories.1; files_links = w.left.files_links.1; directories_links = w.left.directories_links };
      }

  take_directory : (d : OutputDirectoryValue) (fs : List OutputFileValue) (ds : List OutputDirectoryValue) (ls : List OutputSymlinkValue) → Walks r xs fs (d ∷ ds) ls → NotAfter (directory d) (option_map file (slice_get fs 0)) → NotAfter (directory d) (option_map link (slice_get ls 0)) → Walks r (xs ++ directory d ∷ []) fs ds ls
  take_directory d fs ds ls w one three =
      let F = texts_of (file_paths fs) in
      let D = texts_of (directory_paths ds) in
      let L = texts_of (symlink_paths ls) in
      let differ = differ_back (path_text d.path) F (firsts (λ (t : List ℕ) (u : List ℕ). t ≢ u) (path_text d.path) D F w.left.files_directories) in
      let before_f = before_kind file (λ f. f.path) (λ f. refl) (directory d) fs one differ w.left.files in
      let before_l = before_kind link (λ l. l.path) (λ l. refl) (directory d) ls three w.left.directories_links.0 w.left.links in
      let p = pushed (directory d) F (path_text d.path ∷ D) L F D L w.ascend w.before (λ t h. ((h.0, h.1.1, h.2), h.1.0)) (before_f, w.left.directories.0, before_l) in
      record {
        files = same_kind (files_among xs) fs (files_among (xs ++ directory d ∷ [])) (files_append xs (directory d ∷ [])) ∙ w.files;
        directories = taken (directories_among xs) ds d (directories_among (xs ++ directory d ∷ [])) (directories_append xs (directory d ∷ [])) ∙ w.directories;
        symlinks = same_kind (links_among xs) ls (links_among (xs ++ directory d ∷ [])) (links_append xs (directory d ∷ [])) ∙ w.symlinks;
        ascend = p.0;
        before = p.1;
        left = record { files = w.left.files; directories = w.left.directories.1; links = w.left.links; files_directories = rests (λ (t : List ℕ) (u : List ℕ). t ≢ u) (path_text d.path) D F w.left.files_directories; files_links = w.left.files_links; directories_links = w.left.directories_links.1 };
      }

  take_link : (l : OutputSymlinkValue) (fs : List OutputFileValue) (ds : List OutputDirectoryValue) (ls : List OutputSymlinkValue) → Walks r xs fs ds (l ∷ ls) → NotAfter (link l) (option_map file (slice_get fs 0)) → NotAfter (link l) (option_map directory (slice_get ds 0)) → Walks r (xs ++ link l ∷ []) fs ds ls
  take_link l fs ds ls w one two =
      let F = texts_of (file_paths fs) in
      let D = texts_of (directory_paths ds) in
      let L = texts_of (symlink_paths ls) in
      let differ_f = differ_back (path_text l.path) F (firsts (λ (t : List ℕ) (u : List ℕ). t ≢ u) (path_text l.path) L F w.left.files_links) in
      let differ_d = differ_back (path_text l.path) D (firsts (λ (t : List ℕ) (u : List ℕ). t ≢ u) (path_text l.path) L D w.left.directories_links) in
      let before_f = before_kind file (λ f. f.path) (λ f. refl) (link l) fs one differ_f w.left.files in
      let before_d = before_kind directory (λ d. d.path) (λ d. refl) (link l) ds two differ_d w.left.directories in
      let p = pushed (link l) F D (path_text l.path ∷ L) F D L w.ascend w.before (λ t h. ((h.0, h.1, h.2.1), h.2.0)) (before_f, before_d, w.left.links.0) in
      record {
        files = same_kind (files_among xs) fs (files_among (xs ++ link l ∷ [])) (files_append xs (link l ∷ [])) ∙ w.files;
        directories = same_kind (directories_among xs) ds (directories_among (xs ++ link l ∷ [])) (directories_append xs (link l ∷ [])) ∙ w.directories;
        symlinks = taken (links_among xs) ls l (links_among (xs ++ link l ∷ [])) (links_append xs (link l ∷ [])) ∙ w.symlinks;
        ascend = p.0;
        before = p.1;
        left = record { files = w.left.files; directories = w.left.directories; links = w.left.links.1; files_directories = w.left.files_directories; files_links = rests (λ (t : List ℕ) (u : List ℕ). t ≢ u) (path_text l.path) L F w.left.files_links; directories_links = rests (λ (t : List ℕ) (u : List ℕ). t ≢ u) (path_text l.path) L D w.left.directories_links };
      }

-- ---- which of the three was first

not_directory : (o : Option OutputDirectoryValue) (f : OutputFileValue) → option_map directory o ≡ Some (file f) → ⊥
not_directory None f e = cc
not_directory (Some d) f e = cc

not_link : (o : Option OutputSymlinkValue) (f : OutputFileValue) → option_map link o ≡ Some (file f) → ⊥
not_link None f e = cc
not_link (Some l) f e = cc

directory_not_file : (o : Option OutputFileValue) (d : OutputDirectoryValue) → option_map file o ≡ Some (directory d) → ⊥
directory_not_file None d e = cc
directory_not_file (Some f) d e = cc

directory_not_link : (o : Option OutputSymlinkValue) (d : OutputDirectoryValue) → option_map link o ≡ Some (directory d) → ⊥
directory_not_link None d e = cc
directory_not_link (Some l) d e = cc

link_not_file : (o : Option OutputFileValue) (l : OutputSymlinkValue) → option_map file o ≡ Some (link l) → ⊥
link_not_file None l e = cc
link_not_file (Some f) l e = cc

link_not_directory : (o : Option OutputDirectoryValue) (l : OutputSymlinkValue) → option_map directory o ≡ Some (link l) → ⊥
link_not_directory None l e = cc
link_not_directory (Some d) l e = cc

file_in_front : (fs : List OutputFileValue) (f : OutputFileValue) → option_map file (slice_get fs 0) ≡ Some (file f) → fs ≡ f ∷ drop 1 fs
file_in_front [] f e = absurd cc
file_in_front (g ∷ fs) f e = let same : g ≡ f = cc in ap (λ x. x ∷ fs) same

directory_in_front : (ds : List OutputDirectoryValue) (d : OutputDirectoryValue) → option_map directory (slice_get ds 0) ≡ Some (directory d) → ds ≡ d ∷ drop 1 ds
directory_in_front [] d e = absurd cc
directory_in_front (g ∷ ds) d e = let same : g ≡ d = cc in ap (λ x. x ∷ ds) same

link_in_front : (ls : List OutputSymlinkValue) (l : OutputSymlinkValue) → option_map link (slice_get ls 0) ≡ Some (link l) → ls ≡ l ∷ drop 1 ls
link_in_front [] l e = absurd cc
link_in_front (g ∷ ls) l e = let same : g ≡ l = cc in ap (λ x. x ∷ ls) same

module _ (fs : List OutputFileValue) (ds : List OutputDirectoryValue) (ls : List OutputSymlinkValue) where
  least_of : (x : RecordedValue) → first_of fs ds ls ≡ Some x → IsLeast (option_map file (slice_get fs 0)) (option_map directory (slice_get ds 0)) (option_map link (slice_get ls 0)) x
  least_of x e = least (option_map file (slice_get fs 0)) (option_map directory (slice_get ds 0)) (option_map link (slice_get ls 0)) x e

  pub file_first : (f : OutputFileValue) → first_of fs ds ls ≡ Some (file f) → fs ≡ f ∷ drop 1 fs
  file_first f e = elim ((least_of (file f) e).which) [
    | inl h ↦ file_in_front fs f h
    | inr h ↦ elim h [ inl k ↦ absurd (not_directory (slice_get ds 0) f k) | inr k ↦ absurd (not_link (slice_get ls 0) f k) ]
  ]

  pub directory_first : (d : OutputDirectoryValue) → first_of fs ds ls ≡ Some (directory d) → ds ≡ d ∷ drop 1 ds
  directory_first d e = elim ((least_of (directory d) e).which) [
    | inl h ↦ absurd (directory_not_file (slice_get fs 0) d h)
    | inr h ↦ elim h [ inl k ↦ directory_in_front ds d k | inr k ↦ absurd (directory_not_link (slice_get ls 0) d k) ]
  ]

  pub link_first : (l : OutputSymlinkValue) → first_of fs ds ls ≡ Some (link l) → ls ≡ l ∷ drop 1 ls
  link_first l e = elim ((least_of (link l) e).which) [
    | inl h ↦ absurd (link_not_file (slice_get fs 0) l h)
    | inr h ↦ elim h [ inl k ↦ absurd (link_not_directory (slice_get ds 0) l k) | inr k ↦ link_in_front ls l k ]
  ]

  -- ---- a step of the walk

  pub walks_file : (r : ActionResultValue) (xs : List RecordedValue) (f : OutputFileValue) → Walks r xs fs ds ls → first_of fs ds ls ≡ Some (file f) → Walks r (xs ++ file f ∷ []) (drop 1 fs) ds ls
  walks_file r xs f w e =
      let t = least_of (file f) e in
      take_file r xs f (drop 1 fs) ds ls (subst (λ l. Walks r xs l ds ls) (file_first f e) w) t.two t.three

  pub walks_directory : (r : ActionResultValue) (xs : List RecordedValue) (d : OutputDirectoryValue) → Walks r xs fs ds ls → first_of fs ds ls ≡ Some (directory d) → Walks r (xs ++ directory d ∷ []) fs (drop 1 ds) ls
  walks_directory r xs d w e =
      let t = least_of (directory d) e in
      take_directory r xs d fs (drop 1 ds) ls (subst (λ l. Walks r xs fs l ls) (directory_first d e) w) t.one t.three

  pub walks_link : (r : ActionResultValue) (xs : List RecordedValue) (l : OutputSymlinkValue) → Walks r xs fs ds ls → first_of fs ds ls ≡ Some (link l) → Walks r (xs ++ link l ∷ []) fs ds (drop 1 ls)
  walks_link r xs l w e =
      let t = least_of (link l) e in
      take_link r xs l fs ds (drop 1 ls) (subst (Walks r xs fs ds) (link_first l e) w) t.one t.two

  none_left : {Y : Type 0} (kind : Y → RecordedValue) (ys : List Y) → option_map kind (slice_get ys 0) ≡ None → ys ≡ []
  none_left kind [] e = refl
  none_left kind (y ∷ ys) e = absurd cc

  -- ---- its end

  pub walks_end : (r : ActionResultValue) (xs : List RecordedValue) → Walks r xs fs ds ls → first_of fs ds ls ≡ None → AreOutputs r xs
  walks_end r xs w e =
      let a = earlier_none (earlier (option_map file (slice_get fs 0)) (option_map directory (slice_get ds 0))) (option_map link (slice_get ls 0)) e in
      let b = earlier_none (option_map file (slice_get fs 0)) (option_map directory (slice_get ds 0)) a.0 in
      record {
        ascend = w.ascend;
        files = sym (ap (λ l. files_among xs ++ l) (none_left file fs b.0) ∙ append-nil (files_among xs)) ∙ w.files;
        directories = sym (ap (λ l. directories_among xs ++ l) (none_left directory ds b.1) ∙ append-nil (directories_among xs)) ∙ w.directories;
        symlinks = sym (ap (λ l. links_among xs ++ l) (none_left link ls a.1) ∙ append-nil (links_among xs)) ∙ w.symlinks;
      }

-- ---- its beginning

pub walks_begin : (r : ActionResultValue) → IsActionResult r → Walks r [] r.files r.directories r.symlinks
walks_begin r k =
    let f = file_paths r.files in
    let d = directory_paths r.directories in
    let l = symlink_paths r.symlinks in
    let whole = apart_parts (f ++ d) l k.paths.apart in
    let both = apart_parts f d whole.0 in
    let crossed = from_parts f d l whole.2 in
    let fs = file_paths_valid r.files k.files in
    let ds = directory_paths_valid r.directories k.directories in
    let ls = symlink_paths_valid r.symlinks k.symlinks in
    record {
      files = refl;
      directories = refl;
      symlinks = refl;
      ascend = tt;
      before = tt;
      left = record {
        files = k.paths.files_ascend;
        directories = k.paths.directories_ascend;
        links = k.paths.symlinks_ascend;
        files_directories = text_rows f d fs ds both.2;
        files_links = text_rows f l fs ls crossed.0;
        directories_links = text_rows d l ds ls crossed.1;
      };
    }

-- ---- the same as the code has it

pub walks_alike : (r : ActionResultValue) (xs ys : List RecordedValue) (fs gs : List OutputFileValue) (ds es : List OutputDirectoryValue) (ls ms : List OutputSymlinkValue) → ys ≡ xs → gs ≡ fs → es ≡ ds → ms ≡ ls → Walks r xs fs ds ls → Walks r ys gs es ms
walks_alike r xs ys fs gs ds es ls ms x f d l w = rw (x, f, d, l) w

pub recorded_push : {A : Type 0} (xs ys : List (RecordedOutput A)) (x : RecordedOutput A) (v : RecordedValue) → ys ≡ xs ++ x ∷ [] → recorded_value x ≡ v → recorded_values ys ≡ recorded_values xs ++ v ∷ []
recorded_push xs ys x v e is = ap recorded_values e ∙ map-append recorded_value xs (x ∷ []) ∙ ap (λ (w : RecordedValue). recorded_values xs ++ w ∷ []) is

pub fewer : {Y : Type 0} (y : Y) (ys zs : List Y) → zs ≡ y ∷ drop 1 zs → ys ≡ drop 1 zs → length ys < length zs
fewer y ys zs e f = let a = ap length e in let b = ap length f in omega arith
