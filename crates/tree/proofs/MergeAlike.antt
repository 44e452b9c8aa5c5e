-- Lines that give the same nodes merge alike wherever these are read: in one Tree or in another, or in a source that tells
-- what is wanted.
use Rattle.std.proofs.Common.{◌≡◌, ◌≢◌, ℕ, zero, suc, List, [], ◌∷◌, ◌++◌, map, refl, ap, sym, ◌∙◌, subst, inl, inr, Bool, true, false, cond, arith}
use Rattle.std.specs.Prelude.{◌||◌, Option, Some, None, Contains}
use Rattle.std.specs.List.{AllByRecursion, list_any}
use Rattle.std.proofs.lemmas.List.{map-append}
use Rattle.blob_digest.specs.Digest.{DigestValue, digest_of, NoClash}
use Rattle.messages.specs.FileNode.{FileNodeValue}
use Rattle.messages.specs.DirectoryNode.{DirectoryNodeValue}
use Rattle.messages.specs.SymlinkNode.{SymlinkNodeValue}
use Rattle.messages.specs.declared.node.Node.TheVariants.{File, Link, Dir}
use Rattle.messages.specs.DirectoryRules.{DirectoryValue}
use Rattle.messages.specs.Directory.{directory_bytes}
use Rattle.messages.specs.Tree.{digests_of, same_digest}
use Rattle.blob_source.specs.Source.{Blobs, IsUnder}
use Rattle.blob_source.specs.Told.{TellsDirectory}
use Rattle.tree.specs.Tree.{Name, Tree, Entry}
use Rattle.tree.specs.Form.{NodeValue}
use Rattle.tree.specs.Lookup.{IsValue}
use Rattle.tree.specs.MergeAgrees.{IsBlobIn}
use Rattle.tree.specs.Stage.{Stage, ◌and_then◌}
use Rattle.tree.specs.Merging.{WithinValue, in_source, in_tree, NodeWithin, MergeLines, MergeFault, IsHeldIn, AreHeld, NamesDirectory, IsFirstIn, ReadsWithin, gives_node, is_repeated, counted, child_lines, node_opened, line_opened, opened, CanMeetAt, CanMeet, met, node_here, lone, stands_or, entry_merged, each_name, first_names, names_with, add_first, lines_at, merged_in, merged}
use Rattle.tree.proofs.DirectoryBytes.{directory_bytes_injective}
use Rattle.tree.proofs.TreeDigests.{valid_digests, only_empty}
use Rattle.tree.proofs.Listings.{all_join}
use Rattle.tree.proofs.MergeBridge.{digest_is, all_at_name}
use Rattle.tree.proofs.MergeCounts.{digest_itself}
use Rattle.tree.proofs.MergeHeld.{next_first, first_among, opened_held}
use Rattle.tree.proofs.MergeValid.{read_valid}
use Rattle.tree.proofs.MergePairs.{at_mapped, contains_mapped}
use Rattle.tree.proofs.MergeStages.{all_lines_at, all_counted}

-- a node, and two places where what is below it is read
pub record Twin : Type 0 where
  pub node : NodeValue
  pub one : WithinValue
  pub other : WithinValue

abbrev pub Twins : Type 0
Twins = List (List Name × Twin)

abbrev pub first_of : Twin → NodeWithin
first_of t = record { node = t.node; within = t.one }

abbrev pub second_of : Twin → NodeWithin
second_of t = record { node = t.node; within = t.other }

abbrev pub firsts : Twins → MergeLines
firsts ts = map {B = List Name × NodeWithin} (λ (t : List Name × Twin). (t.0, first_of t.1)) ts

abbrev pub seconds : Twins → MergeLines
seconds ts = map {B = List Name × NodeWithin} (λ (t : List Name × Twin). (t.0, second_of t.1)) ts

-- a directory that is read in a source for the second is read there for the first
pub record IsTwin (S : List ℕ → Type 0) (t : Twin) : Type 0 where
  pub alike : NamesDirectory t.node → t.other ≡ in_source → t.one ≡ in_source
  pub first : (b : List ℕ) → IsBlobIn t.one b → S b
  pub second : (b : List ℕ) → IsBlobIn t.other b → S b

abbrev pub AllTwins : (Twin → Type 0) → Twins → Type 0
AllTwins P ts = AllByRecursion (λ (t : List Name × Twin). P t.1) ts

abbrev pub AreTwins : (List ℕ → Type 0) → Twins → Type 0
AreTwins S ts = AllTwins (IsTwin S) ts

-- ---- the same is counted

gives_alike : (x : NodeValue) (es : Twins) → list_any (λ (l : List Name × NodeWithin). gives_node x l.0 l.1) (firsts es) ≡ list_any (λ (l : List Name × NodeWithin). gives_node x l.0 l.1) (seconds es)
gives_alike x [] = refl
gives_alike x (e ∷ es) = (λ i. here e.0 i || gives_alike x es i)
  where
    here : (p : List Name) → gives_node x p (first_of e.1) ≡ gives_node x p (second_of e.1)
    here [] = refl
    here (n ∷ p) = refl

repeated_alike : (es : Twins) (p : List Name) (t : Twin) → is_repeated (firsts es) p (first_of t) ≡ is_repeated (seconds es) p (second_of t)
repeated_alike es [] t = gives_alike t.node es
repeated_alike es (n ∷ p) t = refl

abbrev pub kept : Twins → Twins → Twins
kept earlier [] = []
kept earlier (t ∷ ts) = cond (is_repeated (firsts earlier) t.0 (first_of t.1)) (kept earlier ts) (t ∷ kept (earlier ++ t ∷ []) ts)

pub kept_firsts : (earlier ts : Twins) → firsts (kept earlier ts) ≡ counted (firsts earlier) (firsts ts)
kept_firsts earlier [] = refl
kept_firsts earlier (t ∷ ts) = elim (is_repeated (firsts earlier) t.0 (first_of t.1)) as (λ b. firsts (cond b (kept earlier ts) (t ∷ kept (earlier ++ t ∷ []) ts)) ≡ cond b (counted (firsts earlier) (firsts ts)) (line ∷ counted (firsts earlier ++ line ∷ []) (firsts ts))) [
  | true ↦ kept_firsts earlier ts
  | false ↦ ap (λ l. line ∷ l) (kept_firsts (earlier ++ t ∷ []) ts ∙ ap (λ l. counted l (firsts ts)) (map-append {B = List Name × NodeWithin} (λ (t : List Name × Twin). (t.0, first_of t.1)) earlier (t ∷ [])))
]
  where
    line : List Name × NodeWithin
    line = (t.0, first_of t.1)

pub kept_seconds : (earlier ts : Twins) → seconds (kept earlier ts) ≡ counted (seconds earlier) (seconds ts)
kept_seconds earlier [] = refl
kept_seconds earlier (t ∷ ts) =
    by (is_repeated (firsts earlier) t.0 (first_of t.1)) (kept_seconds earlier ts) (kept_seconds (earlier ++ t ∷ []) ts)
    ∙ ap (λ b. cond b (counted (seconds earlier) (seconds ts)) (line ∷ counted (seconds earlier ++ line ∷ []) (seconds ts))) (repeated_alike earlier t.0 t.1)
  where
    line : List Name × NodeWithin
    line = (t.0, second_of t.1)

    by : (b : Bool) → seconds (kept earlier ts) ≡ counted (seconds earlier) (seconds ts) → seconds (kept (earlier ++ t ∷ []) ts) ≡ counted (seconds (earlier ++ t ∷ [])) (seconds ts)
        → seconds (cond b (kept earlier ts) (t ∷ kept (earlier ++ t ∷ []) ts)) ≡ cond b (counted (seconds earlier) (seconds ts)) (line ∷ counted (seconds earlier ++ line ∷ []) (seconds ts))
    by true old new = old
    by false old new = ap (λ l. line ∷ l) (new ∙ ap (λ l. counted l (seconds ts)) (map-append {B = List Name × NodeWithin} (λ (t : List Name × Twin). (t.0, second_of t.1)) earlier (t ∷ [])))

pub all_kept : (P : Twin → Type 0) (earlier ts : Twins) → AllTwins P ts → AllTwins P (kept earlier ts)
all_kept P earlier [] h = tt
all_kept P earlier (t ∷ ts) h = elim (is_repeated (firsts earlier) t.0 (first_of t.1)) as (λ b. AllTwins P (cond b (kept earlier ts) (t ∷ kept (earlier ++ t ∷ []) ts))) [
  | true ↦ all_kept P earlier ts h.1
  | false ↦ (h.0, all_kept P (earlier ++ t ∷ []) ts h.1)
]

-- ---- the same names, and the same alone

pub names_along : {X Y : Type 0} (f : X → Y) (ns : List Name) (xs : List (List Name × X)) → names_with ns (map {B = List Name × Y} (λ (x : List Name × X). (x.0, f x.1)) xs) ≡ names_with ns xs
names_along f ns [] = refl
names_along f ns (x ∷ xs) = names_along f (add_first x.0 ns) xs

pub lone_alike : (ts : Twins) → lone (firsts ts) ≡ lone (seconds ts)
lone_alike [] = refl
lone_alike (t ∷ []) = by t.0
  where
    by : (p : List Name) → node_here p (first_of t.1) ≡ node_here p (second_of t.1)
    by [] = refl
    by (n ∷ p) = refl
lone_alike (t ∷ u ∷ ts) = refl

meet_alike : (k : ℕ) (ts : Twins) → CanMeet k (firsts ts) → CanMeet k (seconds ts)
meet_alike zero ts h = h
meet_alike (suc k) ts h = by ts h
  where
    here : (p : List Name) (t : Twin) → CanMeetAt p (first_of t) → CanMeetAt p (second_of t)
    here [] t h = h
    here (n ∷ p) t h = h

    by : (ts : Twins) → AllByRecursion (λ (l : List Name × NodeWithin). CanMeetAt l.0 l.1) (firsts ts) → AllByRecursion (λ (l : List Name × NodeWithin). CanMeetAt l.0 l.1) (seconds ts)
    by [] h = tt
    by (t ∷ ts) h = (here t.0 t.1 h.0, by ts h.1)

-- ---- the first directory with a digest

first_found : (ms : List DirectoryValue) (d : DigestValue) → Contains (digests_of (map directory_bytes ms)) d → (m : DirectoryValue) × IsFirstIn ms d m
first_found [] d (k, lt, e) = absurd (omega arith)
first_found (x ∷ ms) d there = by (same_digest (digest_of (directory_bytes x)) d) refl (first_found ms d)
  where
    later : (digest_of (directory_bytes x) ≢ d) → Contains (digests_of (map directory_bytes (x ∷ ms))) d → Contains (digests_of (map directory_bytes ms)) d
    later other (zero, lt, e) = absurd (other e)
    later other (suc k, lt, e) = (k, omega (arith, lt), e)

    by : (b : Bool) → same_digest (digest_of (directory_bytes x)) d ≡ b → (Contains (digests_of (map directory_bytes ms)) d → (m : DirectoryValue) × IsFirstIn ms d m) → (m : DirectoryValue) × IsFirstIn (x ∷ ms) d m
    by true same rest = (x, record { before = []; behind = ms; stands = refl; right = digest_is (digest_of (directory_bytes x)) d same; first = tt })
    by false same rest =
        let other : digest_of (directory_bytes x) ≢ d = λ is. (let both : false ≡ true = sym same ∙ ap (λ e. same_digest e d) is ∙ digest_itself d in cc) in
        let found = rest (later other there) in
        (found.0, next_first d x ms found.0 other found.1)

-- ---- children

abbrev pub child_twin : WithinValue → WithinValue → Name → NodeValue → List Name × Twin
child_twin w v n x = (n ∷ [], record { node = x; one = w; other = v })

abbrev pub child_twins : WithinValue → WithinValue → DirectoryValue → Twins
child_twins w v m =
    map (λ (f : FileNodeValue). child_twin w v f.name (File f.digest f.executable)) m.files
    ++ (map (λ (d : DirectoryNodeValue). child_twin w v d.name (Dir d.digest)) m.directories
    ++ map (λ (l : SymlinkNodeValue). child_twin w v l.name (Link l.target)) m.symlinks)

module _ (w v : WithinValue) (pick : Twin → NodeWithin) (u : WithinValue) (picks : (x : NodeValue) → pick (record { node = x; one = w; other = v }) ≡ record { node = x; within = u }) where
  abbrev pub picked : Twins → MergeLines
  picked ts = map {B = List Name × NodeWithin} (λ (t : List Name × Twin). (t.0, pick t.1)) ts

  picked_kind : {X : Type 0} (name : X → Name) (node : X → NodeValue) (xs : List X) → picked (map (λ (x : X). child_twin w v (name x) (node x)) xs) ≡ map {B = List Name × NodeWithin} (λ (x : X). (name x ∷ [], record { node = node x; within = u })) xs
  picked_kind name node [] = refl
  picked_kind name node (x ∷ xs) = λ i. (name x ∷ [], picks (node x) i) ∷ picked_kind name node xs i

  pub picked_children : (m : DirectoryValue) → picked (child_twins w v m) ≡ child_lines u m
  picked_children m =
      let files = map (λ (f : FileNodeValue). child_twin w v f.name (File f.digest f.executable)) m.files in
      let directories = map (λ (d : DirectoryNodeValue). child_twin w v d.name (Dir d.digest)) m.directories in
      let links = map (λ (l : SymlinkNodeValue). child_twin w v l.name (Link l.target)) m.symlinks in
      map-append (λ (t : List Name × Twin). (t.0, pick t.1)) files (directories ++ links)
      ∙ ap (λ l. picked files ++ l) (map-append (λ (t : List Name × Twin). (t.0, pick t.1)) directories links)
      ∙ (λ i. picked_kind (λ (f : FileNodeValue). f.name) (λ (f : FileNodeValue). File f.digest f.executable) m.files i
      ++ (picked_kind (λ (d : DirectoryNodeValue). d.name) (λ (d : DirectoryNodeValue). Dir d.digest) m.directories i ++ picked_kind (λ (l : SymlinkNodeValue). l.name) (λ (l : SymlinkNodeValue). Link l.target) m.symlinks i))

twins_kind : (P : Twin → Type 0) (w v : WithinValue) → ((x : NodeValue) → P (record { node = x; one = w; other = v })) → {X : Type 0} (name : X → Name) (node : X → NodeValue) (xs : List X)
    → AllTwins P (map (λ (x : X). child_twin w v (name x) (node x)) xs)
twins_kind P w v h name node [] = tt
twins_kind P w v h name node (x ∷ xs) = (h (node x), twins_kind P w v h name node xs)

pub twins_children : (P : Twin → Type 0) (w v : WithinValue) → ((x : NodeValue) → P (record { node = x; one = w; other = v })) → (m : DirectoryValue) → AllTwins P (child_twins w v m)
twins_children P w v h m =
    all_join (λ (t : List Name × Twin). P t.1) _ _ (twins_kind P w v h (λ (f : FileNodeValue). f.name) (λ (f : FileNodeValue). File f.digest f.executable) m.files)
    (all_join (λ (t : List Name × Twin). P t.1) _ _ (twins_kind P w v h (λ (d : DirectoryNodeValue). d.name) (λ (d : DirectoryNodeValue). Dir d.digest) m.directories)
    (twins_kind P w v h (λ (l : SymlinkNodeValue). l.name) (λ (l : SymlinkNodeValue). Link l.target) m.symlinks))

module _ (B : Blobs) (S : List ℕ → Type 0) (apart : NoClash S) (values : (b : List ℕ) → IsValue B b → S b) where
  -- ---- one directory, wherever it is read

  told_is : (d : DigestValue) (m other : DirectoryValue) → TellsDirectory B d m → S (directory_bytes other) → digest_of (directory_bytes other) ≡ d → directory_bytes m ≡ directory_bytes other
  told_is d m other told own right = held told.blob.held
    where
      held : IsUnder B d (Some (directory_bytes m)) → directory_bytes m ≡ directory_bytes other
      held (inl h) =
          let none : directory_bytes m ≡ [] = (let found : ◌≡◌ {A = Option (List ℕ)} (Some (directory_bytes m)) (Some []) = h.1 in cc) in
          none ∙ sym (only_empty (directory_bytes other) (right ∙ h.0))
      held (inr h) = apart (directory_bytes m) (directory_bytes other) (values (directory_bytes m) (d, sym h.1)) own (told.blob.right ∙ sym right)

  reads_also : (t : Twin) → IsTwin S t → (t.other ≡ in_source → t.one ≡ in_source) → (d : DigestValue) → IsHeldIn t.one (Dir d) → IsHeldIn t.other (Dir d) → (m : DirectoryValue) → ReadsWithin B t.one d m → ReadsWithin B t.other d m
  reads_also t is alike d held_one held_other m read = by t.other refl held_other
    where
      same_bytes : (w : WithinValue) → ((b : List ℕ) → IsBlobIn w b → S b) → ReadsWithin B w d m → (n : DirectoryValue) → S (directory_bytes n) → digest_of (directory_bytes n) ≡ d → directory_bytes m ≡ directory_bytes n
      same_bytes in_source inside read n own right = told_is d m n read own right
      same_bytes (in_tree u) inside read n own right =
          apart (directory_bytes m) (directory_bytes n) (inside (directory_bytes m) (contains_mapped directory_bytes (u.root ∷ u.children) m (first_among (u.root ∷ u.children) d m read))) own (read.right ∙ sym right)

      by : (w : WithinValue) → t.other ≡ w → IsHeldIn w (Dir d) → ReadsWithin B w d m
      by in_source at held = subst (λ w. ReadsWithin B w d m) (alike at) read
      by (in_tree u) at held =
          let n = first_found (u.root ∷ u.children) d held.1 in
          let own : S (directory_bytes n.0) = is.second (directory_bytes n.0) (subst (λ w. IsBlobIn w (directory_bytes n.0)) (sym at) (contains_mapped directory_bytes (u.root ∷ u.children) n.0 (first_among (u.root ∷ u.children) d n.0 n.1))) in
          let bytes = same_bytes t.one is.first read n.0 own n.1.right in
          let same : n.0 ≡ m =
          directory_bytes_injective n.0 m (valid_digests n.0 (read_valid B (in_tree u) d n.0 held n.1)) (valid_digests m (read_valid B t.one d m held_one read)) (sym bytes) in
          subst (λ x. IsFirstIn (u.root ∷ u.children) d x) same n.1

  -- ---- what is opened

  record Opened (ts : Twins) (new : MergeLines) : Type 0 where
    twins : Twins
    gives : firsts twins ≡ new
    opens : (opened B (seconds ts)).passes (seconds twins)
    are : AreTwins S twins

  record LineOpened (p : List Name) (t : Twin) (new : MergeLines) : Type 0 where
    twins : Twins
    gives : firsts twins ≡ new
    opens : (line_opened B p (second_of t)).passes (seconds twins)
    are : AreTwins S twins

  node_also : (x : NodeValue) (w v : WithinValue) → IsTwin S (record { node = x; one = w; other = v }) → IsHeldIn w x → IsHeldIn v x → (new : MergeLines) → (node_opened B x w).passes new → LineOpened [] (record { node = x; one = w; other = v }) new
  unfolding ◌and_then◌
  node_also (File d b) w v is held_one held_other new h = record { twins = []; gives = sym h; opens = refl; are = tt }
  node_also (Link l) w v is held_one held_other new h = record { twins = []; gives = sym h; opens = refl; are = tt }
  node_also (Dir d) w v is held_one held_other new (m, read, made) = record {
    twins = child_twins w v m;
    gives = picked_children w v first_of w (λ x. refl) m ∙ sym made;
    opens = (m, reads_also (record { node = Dir d; one = w; other = v }) is (is.alike tt) d held_one held_other m read, picked_children w v second_of v (λ x. refl) m);
    are = twins_children (IsTwin S) w v (λ x. record { alike = λ directory. is.alike tt; first = is.first; second = is.second }) m;
  }

  line_also : (p : List Name) (t : Twin) → IsTwin S t → IsHeldIn t.one t.node → IsHeldIn t.other t.node → (new : MergeLines) → (line_opened B p (first_of t)).passes new → LineOpened p t new
  line_also [] t is held_one held_other new h = node_also t.node t.one t.other is held_one held_other new h
  line_also (n ∷ p) t is held_one held_other new h = record { twins = (n ∷ p, t) ∷ []; gives = sym h; opens = refl; are = (is, tt) }

  opened_also : (ts : Twins) → AreTwins S ts → AreHeld (firsts ts) → AreHeld (seconds ts) → (new : MergeLines) → (opened B (firsts ts)).passes new → Opened ts new
  unfolding ◌and_then◌
  opened_also [] are one other new h = record { twins = []; gives = sym h; opens = refl; are = tt }
  opened_also (t ∷ ts) are one other new (here, now, (rest, more, is)) =
      let l = line_also t.0 t.1 are.0 one.0 other.0 here now in
      let o = opened_also ts are.1 one.1 other.1 rest more in
      record {
        twins = l.twins ++ o.twins;
        gives = map-append (λ (t : List Name × Twin). (t.0, first_of t.1)) l.twins o.twins ∙ (λ i. l.gives i ++ o.gives i) ∙ sym is;
        opens = (seconds l.twins, l.opens, (seconds o.twins, o.opens, map-append (λ (t : List Name × Twin). (t.0, second_of t.1)) l.twins o.twins));
        are = all_join (λ (t : List Name × Twin). IsTwin S t.1) l.twins o.twins l.are o.are;
      }

  -- ---- what is put together

  abbrev Goes : ℕ → Type 0
  Goes k = (path : List Name) (ts : Twins) → AreTwins S ts → AreHeld (firsts ts) → AreHeld (seconds ts) → (T : Tree NodeValue) → (merged_in B k path (firsts ts)).passes T → (merged_in B k path (seconds ts)).passes T

  met_also : (k : ℕ) (path : List Name) → Goes k → (ts : Twins) → AreTwins S ts → AreHeld (firsts ts) → AreHeld (seconds ts) → (E : Entry NodeValue)
      → (met B (merged_in B k path) k path (firsts ts)).passes E → (met B (merged_in B k path) k path (seconds ts)).passes E
  unfolding ◌and_then◌
  met_also k path below ts are one other E (u, can, (new, read, (T, more, same))) =
      let o = opened_also ts are one other new read in
      let first = opened_held B (firsts ts) new one read in
      let second = opened_held B (seconds ts) (seconds o.twins) other o.opens in
      (u, meet_alike k ts can, (seconds o.twins, o.opens, (T, below path o.twins o.are (subst AreHeld (sym o.gives) first) second T (subst (λ l. (merged_in B k path l).passes T) (sym o.gives) more), same)))

  entry_also : (k : ℕ) (path : List Name) → Goes k → (ts : Twins) → AreTwins S ts → AreHeld (firsts ts) → AreHeld (seconds ts) → (E : Entry NodeValue)
      → (entry_merged B (merged_in B k path) k path (counted [] (firsts ts))).passes E → (entry_merged B (merged_in B k path) k path (counted [] (seconds ts))).passes E
  entry_also k path below ts are one other E h =
      subst (λ l. (entry_merged B (merged_in B k path) k path l).passes E) (kept_seconds [] ts)
      (by (lone (firsts us)) (lone (seconds us)) (lone_alike us) (subst (λ l. (entry_merged B (merged_in B k path) k path l).passes E) (sym (kept_firsts [] ts)) h))
    where
      us : Twins
      us = kept [] ts

      held_first : AreHeld (firsts us)
      held_first = subst AreHeld (sym (kept_firsts [] ts)) (all_counted (λ g. IsHeldIn g.within g.node) [] (firsts ts) one)

      held_second : AreHeld (seconds us)
      held_second = subst AreHeld (sym (kept_seconds [] ts)) (all_counted (λ g. IsHeldIn g.within g.node) [] (seconds ts) other)

      by : (x y : Option NodeValue) → x ≡ y → (stands_or x (met B (merged_in B k path) k path (firsts us))).passes E → (stands_or y (met B (merged_in B k path) k path (seconds us))).passes E
      by x y same h = subst (λ z. (stands_or z (met B (merged_in B k path) k path (seconds us))).passes E) same (on x h)
        where
          on : (x : Option NodeValue) → (stands_or x (met B (merged_in B k path) k path (firsts us))).passes E → (stands_or x (met B (merged_in B k path) k path (seconds us))).passes E
          on (Some v) h = h
          on None h = met_also k path below us (all_kept (IsTwin S) [] ts are) held_first held_second E h

  module _ (k : ℕ) (path : List Name) (below : Goes k) (ts : Twins) (are : AreTwins S ts) (one : AreHeld (firsts ts)) (other : AreHeld (seconds ts)) where
    abbrev at : Name → MergeLines → Stage MergeFault (Entry NodeValue)
    at n ls = entry_merged B (merged_in B k (path ++ n ∷ [])) k (path ++ n ∷ []) (counted [] ls)

    name_also : (n : Name) (E : Entry NodeValue) → (at n (lines_at n (firsts ts))).passes E → (at n (lines_at n (seconds ts))).passes E
    name_also n E h =
        let first : firsts (lines_at n ts) ≡ lines_at n (firsts ts) = at_mapped first_of n ts in
        let second : seconds (lines_at n ts) ≡ lines_at n (seconds ts) = at_mapped second_of n ts in
        subst (λ l. (at n l).passes E) second
        (entry_also k (path ++ n ∷ []) below (lines_at n ts) (all_at_name n (λ p t. IsTwin S t) (λ p t. IsTwin S t) (λ p t h. h) ts are)
        (subst AreHeld (sym first) (all_lines_at (λ g. IsHeldIn g.within g.node) n (firsts ts) one)) (subst AreHeld (sym second) (all_lines_at (λ g. IsHeldIn g.within g.node) n (seconds ts) other)) E
        (subst (λ l. (at n l).passes E) (sym first) h))

    each_also : (ns : List Name) (T : Tree NodeValue) → (each_name at (map (λ n. (n, lines_at n (firsts ts))) ns)).passes T → (each_name at (map (λ n. (n, lines_at n (seconds ts))) ns)).passes T
    unfolding ◌and_then◌
    each_also [] T h = h
    each_also (n ∷ ns) T (E, here, (R, rest, same)) = (E, name_also n E here, (R, each_also ns R rest, same))

  goes : (k : ℕ) → Goes k
  goes zero path ts are one other T h = h
  goes (suc k) path ts are one other T h =
      let names : first_names (firsts ts) ≡ first_names (seconds ts) = names_along first_of [] ts ∙ sym (names_along second_of [] ts) in
      subst (λ ns. (each_name (at k path (goes k) ts are one other) (map (λ n. (n, lines_at n (seconds ts))) ns)).passes T) names
      (each_also k path (goes k) ts are one other (first_names (firsts ts)) T h)

  pub merge_alike : (ts : Twins) → AreTwins S ts → AreHeld (firsts ts) → AreHeld (seconds ts) → (T : Tree NodeValue) → (merged B (firsts ts)).passes T → (merged B (seconds ts)).passes T
  unfolding merged
  merge_alike ts are one other T h = goes 64 [] ts are one other T h
