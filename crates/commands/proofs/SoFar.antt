-- What a folder has, so far as it was read and taken.
use Rattle.std.proofs.Common.{true, false, ◌≡◌, ◌∙◌, ◌+◌, ◌-◌, ◌<◌, ◌≤◌, ℕ, suc, List, [], ◌∷◌, ◌++◌, Result, Ok, Err, IfErr, IfOk, OnOk, ap, arith, get_or, inl, inr, length, map, refl, subst, sym, take, drop, drop-cons, take-append-drop, string_bytes}
use Rattle.std.specs.Prelude.{Bool, IsSorted, ◌&&◌, codes}
use Rattle.std.proofs.lemmas.List.{get_or-map, length-map, take_all, take_more}
use Rattle.std.specs.declared.alloc.Global.{Global}
use Rattle.std.specs.declared.string.String.{String}
use Rattle.messages.specs.Directory.{directory_bytes}
use Rattle.messages.specs.DirectoryRules.{DirectoryValue, IsDirectory}
use Rattle.messages.specs.Name.{IsName}
use Rattle.messages.specs.Order.{bytes_cmp}
use Rattle.messages.specs.declared.node.Node.{Node}
use Rattle.messages.specs.declared.node.Node.TheVariants.{Dir, File, Link}
use Rattle.blob_digest.specs.Digest.{DigestValue, digest_of}
use Rattle.tree.specs.Form.{NodeValue, directory_of, entry_node, form, no_children, node_value, top}
use Rattle.tree.specs.Tree.{Leaf, Tree, empty, file, link, single, whole}
use Rattle.commands.specs.Children.{AddsName, AreNamed, with_last_child}
use Rattle.commands.specs.Faults.{OrMemory, TellsOfEntry}
use Rattle.commands.specs.Read.{AreRead, IsDigestAt, IsTreeReadAt, ReadBlob, TakesAll, blobs_below, blobs_of, depth, file_blob, folder_blob, names_of}
use Rattle.commands.specs.Read.IsDigestAt.{of_file, of_tree}
use Rattle.commands.specs.ReadRefused.{FailsFile, FailsTaking, HasNameTwice, HasNoName, LinksToNoText, ReachesEntry, StopsBelow, StopsHere, at_blob, for_error}
use Rattle.commands.specs.ReadRefused.StopsBelow.{below, here, too_deep}
use Rattle.commands.specs.ReadRefused.StopsHere.{at_file, at_folder, name_twice, no_name, no_text, unread}
use Rattle.commands.specs.Walked.{TakesEntry, TakesFile, TakesPath, TakesTree, entry_blobs, entry_depth}
use Rattle.commands.specs.World.{Sight, a_link, what_stands}
use Rattle.commands.specs.declared.error.CommandError.{CommandError}
use Rattle.commands.specs.declared.world.Found.{Found}
use Rattle.commands.specs.declared.world.Found.TheVariants as found
use Rattle.commands.proofs.Order.{Follows, follows_on, nothing_follows}
use Rattle.commands.proofs.Refused.{or_weaker}
use Rattle.commands.proofs.Reading.{AreOrderedBelow, blobs-with_last, depth-with_last, directory-with_last, names-with_last, ordered_by_names, ordered_more, read-with_last, takes_more, takes_one, with_last}

-- so many names further down
pub further_down : (left : ℕ) → (left ≡ 0 → ⊥) → suc (left - 1) ≡ left
further_down left some = omega (arith, some)

module _ {S : Type 0} (takes : S → S → ReadBlob → Type 0) (refuses : S → ReadBlob → CommandError → Type 0) (sees : Sight) (bits : Bool) where
  -- each name that was read has an entry of this tree, which was read at its place, and whose blobs were taken; the Directory is that of the tree
  pub record IsReadSoFar (left : ℕ) (place : List ℕ) (names : List (List ℕ)) (d : DirectoryValue) (old now : S) : Type 0 where
    pub tree : Tree Leaf
    pub named : names_of tree ≡ names
    pub read : AreRead sees bits place tree
    pub within : depth tree ≤ left
    pub inner : AreOrderedBelow tree
    pub shape : d ≡ directory_of (form tree)
    pub taken : TakesAll takes old now (blobs_below tree)
    pub follows : Follows names d

  module _ (left : ℕ) (place : List ℕ) where
    pub nothing_read : (now : S) → IsReadSoFar left place [] no_children now now
    nothing_read now = record { tree = empty; named = refl; read = tt; within = omega arith; inner = tt; shape = refl; taken = refl; follows = nothing_follows }

    one_more_read : (names : List (List ℕ)) (n : List ℕ) (x : NodeValue) (d more : DirectoryValue) (old mid new : S) → IsReadSoFar left place names d old mid
        → more ≡ with_last_child n x d → AddsName n d more → (left ≡ 0 → ⊥) → TakesEntry takes sees bits (left - 1) (place ++ 47 ∷ n) x mid new
        → IsReadSoFar left place (names ++ n ∷ []) more old new
    one_more_read names n x d more old mid new so_far adds named some entry =
        let t = so_far.tree in
        let e = entry.entry in
        let less : entry_depth e ≤ left - 1 = entry.within in
        let deep : entry_depth e + 1 ≤ left = omega (arith, less, some) in
        record {
          tree = with_last t n e;
          named = names-with_last t n e ∙ ap (λ l. l ++ n ∷ []) so_far.named;
          read = read-with_last sees bits place t n e so_far.read entry.read;
          within = depth-with_last left t n e so_far.within deep;
          inner = ordered_more sees bits (place ++ 47 ∷ n) t n e so_far.inner entry.read;
          shape = adds ∙ ap (λ y. with_last_child n y d) entry.named ∙ ap (with_last_child n (entry_node e)) so_far.shape ∙ sym (directory-with_last t n e);
          taken = subst (TakesAll takes old new) (sym (blobs-with_last t n e)) (takes_more takes (blobs_below t) (entry_blobs e) old mid new so_far.taken entry.taken);
          follows = follows_on names n d more so_far.follows named;
        }

    -- the next of the names
    pub next_so_far : (names : List (String Global)) (i : ℕ) (item : String Global) (n : List ℕ) (x : NodeValue) (d more : DirectoryValue) (old mid new : S)
        → i < length names → item ≡ get_or names i item → n ≡ string_bytes item
        → IsReadSoFar left place (take i (map string_bytes names)) d old mid
        → more ≡ with_last_child n x d → AddsName n d more → (left ≡ 0 → ⊥) → TakesEntry takes sees bits (left - 1) (place ++ 47 ∷ n) x mid new
        → IsReadSoFar left place (take (i + 1) (map string_bytes names)) more old new
    next_so_far names i item n x d more old mid new less is named so_far adds adds_name some entry =
        let long : i < length (map string_bytes names) = subst (λ k. i < k) (sym (length-map names string_bytes)) less in
        let next = take_more (map string_bytes names) i n long in
        let same : get_or (map string_bytes names) i n ≡ n = get_or-map string_bytes names i item n less ∙ ap string_bytes (sym is) ∙ sym named in
        subst (λ l. IsReadSoFar left place l more old new) (sym (next ∙ ap (λ m. take i (map string_bytes names) ++ m ∷ []) same))
        (one_more_read (take i (map string_bytes names)) n x d more old mid new so_far adds adds_name some entry)

    module _ (d : DirectoryValue) (old now : S) where
      pub all_names_read : (names : List (String Global)) (i : ℕ) → length names ≤ i
          → IsReadSoFar left place (take i (map string_bytes names)) d old now → IsReadSoFar left place (map string_bytes names) d old now
      all_names_read names i all so_far =
          let long : length (map string_bytes names) ≤ i = subst (λ k. k ≤ i) (sym (length-map names string_bytes)) all in
          subst (λ l. IsReadSoFar left place l d old now) (take_all i (map string_bytes names) long) so_far

      module _ (names : List (List ℕ)) (so_far : IsReadSoFar left place names d old now) (lists : sees.lists place names) where
        listed : sees.lists place (names_of so_far.tree)
        listed = subst (sees.lists place) (sym so_far.named) lists

        module _ (ordered : IsSorted bytes_cmp names) (valid : IsDirectory d) where
          -- the tree was read there
          whole_tree : IsTreeReadAt sees bits place so_far.tree
          whole_tree = record {
            listed = listed;
            read = so_far.read;
            ordered = ordered_by_names so_far.tree (subst (IsSorted bytes_cmp) (sym so_far.named) ordered) so_far.inner (subst AreNamed so_far.shape valid.names);
          }

          module _ (bytes : List ℕ) (is : bytes ≡ directory_bytes d) where
            is_top : bytes ≡ top (form so_far.tree)
            is_top = is ∙ ap directory_bytes so_far.shape

            -- its Directory is taken as the last of its blobs
            pub folder_taken : (new : S) (result : Result DigestValue CommandError) → IfOk result (λ digest. digest ≡ digest_of bytes) → OnOk result (takes now new (folder_blob bytes))
                → IfOk result (λ digest. TakesTree takes sees bits left place digest old new)
            folder_taken new (Ok digest) named taken = record {
              tree = so_far.tree;
              read = whole_tree;
              within = so_far.within;
              named = named ∙ ap digest_of is_top;
              taken = takes_more takes (blobs_below so_far.tree) (folder_blob (top (form so_far.tree)) ∷ []) old now new so_far.taken (takes_one takes (folder_blob (top (form so_far.tree))) now new (subst (λ b. takes now new (folder_blob b)) is_top taken));
            }
            folder_taken new (Err e) named taken = tt

            -- it isn't taken
            pub folder_refused : (result : Result DigestValue CommandError) → IfErr result (OrMemory (refuses now (folder_blob bytes))) → IfErr result (OrMemory (FailsTaking takes refuses sees bits left place old))
            folder_refused (Ok digest) fails = tt
            folder_refused (Err e) fails = or_weaker (refuses now (folder_blob bytes)) (FailsTaking takes refuses sees bits left place old) e (λ h. record {
              stop = at_blob (folder_blob bytes);
              blobs = blobs_below so_far.tree;
              now = now;
              stops = here left place (blobs_below so_far.tree) (subst (λ b. StopsHere sees bits left place (blobs_below so_far.tree) (at_blob (folder_blob b))) (sym is_top) (at_folder so_far.tree whole_tree so_far.within));
              taken = so_far.taken;
              told = h;
            }) fails

        -- one name stands twice
        pub names_fail : (ordered : IsSorted bytes_cmp names) (e : CommandError) → OrMemory (λ x. ¬ AreNamed d × TellsOfEntry place (codes "two entries of one name") x) e → OrMemory (FailsTaking takes refuses sees bits left place old) e
        names_fail ordered e = or_weaker (λ x. ¬ AreNamed d × TellsOfEntry place (codes "two entries of one name") x) (FailsTaking takes refuses sees bits left place old) e (λ is. record {
          stop = for_error e;
          blobs = blobs_below so_far.tree;
          now = now;
          stops = here left place (blobs_below so_far.tree) (name_twice so_far.tree e listed so_far.read so_far.within
              (subst (λ l. HasNameTwice place l e) (sym so_far.named) (record { ordered = ordered; twice = λ up. is.0 (so_far.follows.named up); told = is.1 })));
          taken = so_far.taken;
          told = refl;
        })

    -- a name that was read in the folder, and those before it
    pub record IsAtEntry (name : List ℕ) (old now : S) : Type 0 where
      pub before : Tree Leaf
      pub reaches : ReachesEntry sees bits left place name before
      pub taken : TakesAll takes old now (blobs_below before)

    pub entry_at : (names : List (String Global)) (i : ℕ) (item : String Global) (n : List ℕ)
        (d : DirectoryValue) (old now : S) → sees.lists place (map string_bytes names) → i < length names → item ≡ get_or names i item → n ≡ string_bytes item
        → IsReadSoFar left place (take i (map string_bytes names)) d old now → IsAtEntry n old now
    entry_at names i item n d old now lists less is named so_far =
        let all = map string_bytes names in
        let long : i < length all = subst (λ k. i < k) (sym (length-map names string_bytes)) less in
        let same : get_or all i n ≡ n = get_or-map string_bytes names i item n less ∙ ap string_bytes (sym is) ∙ sym named in
        let cut : all ≡ take i all ++ n ∷ drop (suc i) all =
        sym (take-append-drop i all) ∙ ap (λ l. take i all ++ l) (drop-cons all i n long ∙ ap (λ m. m ∷ drop (suc i) all) same) in
        record {
          before = so_far.tree;
          reaches = record {
            behind = drop (suc i) all;
            listed = subst (sees.lists place) (cut ∙ ap (λ l. l ++ n ∷ drop (suc i) all) (sym so_far.named)) lists;
            read = so_far.read;
            within = so_far.within;
          };
          taken = so_far.taken;
        }

  -- ---- why it isn't read

  module _ (place : List ℕ) (old : S) where
    -- something below the place is at fault, or memory ran out
    abbrev pub Unread : ℕ → CommandError → Type 0
    Unread left = OrMemory (FailsTaking takes refuses sees bits left place old)

    -- what stands there is, before anything of it is taken
    pub fails_first : (left : ℕ) (e : CommandError) → StopsHere sees bits left place [] (for_error e) → FailsTaking takes refuses sees bits left place old e
    fails_first left e stops = record { stop = for_error e; blobs = []; now = old; stops = here left place [] stops; taken = refl; told = refl }

    pub target_fails : (left : ℕ) (target : List ℕ) (e : CommandError) → sees.stands place (a_link target) → OrMemory (LinksToNoText place target) e → Unread left e
    target_fails left target e stands = or_weaker (LinksToNoText place target) (FailsTaking takes refuses sees bits left place old) e (λ h. fails_first left e (no_text target e stands h))

    pub file_fails : (left : ℕ) (e : CommandError) → OrMemory (FailsFile refuses sees place old) e → Unread left e
    file_fails left e = or_weaker (FailsFile refuses sees place old) (FailsTaking takes refuses sees bits left place old) e by
      where
        by : FailsFile refuses sees place old e → FailsTaking takes refuses sees bits left place old e
        by (inl h) = fails_first left e (subst (λ x. StopsHere sees bits left place [] (for_error x)) (sym h.2) (unread h.0 h.1))
        by (inr h) = record { stop = at_blob (file_blob h.0); blobs = []; now = old; stops = here left place [] (at_file h.0 h.1); taken = refl; told = h.2 }

    module _ (left : ℕ) (name path : List ℕ) (now : S) (e : CommandError) (entry : IsAtEntry left place name old now) (at : path ≡ place ++ 47 ∷ name) where
      pub name_fails : OrMemory (HasNoName path name) e → Unread left e
      name_fails = or_weaker (HasNoName path name) (FailsTaking takes refuses sees bits left place old) e (λ is. record {
        stop = for_error e;
        blobs = blobs_below entry.before;
        now = now;
        stops = here left place (blobs_below entry.before) (no_name name entry.before e entry.reaches (subst (λ p. HasNoName p name e) at is));
        taken = entry.taken;
        told = refl;
      })

      pub deepest : left ≡ 0 → IsName name → OrMemory (TellsOfEntry path (codes "more than 64 names deep")) e → Unread left e
      deepest none valid = or_weaker (TellsOfEntry path (codes "more than 64 names deep")) (FailsTaking takes refuses sees bits left place old) e (λ is. record {
        stop = for_error e;
        blobs = blobs_below entry.before;
        now = now;
        stops = subst (λ k. StopsBelow sees bits (for_error e) k place (blobs_below entry.before)) (sym none)
            (too_deep place name entry.before e (subst (λ k. ReachesEntry sees bits k place name entry.before) none entry.reaches) valid
            (subst (λ p. TellsOfEntry p (codes "more than 64 names deep") e) at is) refl);
        taken = entry.taken;
        told = refl;
      })

      -- what is at fault at an entry is so for its folder, where paths may go further down
      pub further : (left ≡ 0 → ⊥) → IsName name → OrMemory (FailsTaking takes refuses sees bits (left - 1) path now) e → Unread left e
      further some valid = or_weaker (FailsTaking takes refuses sees bits (left - 1) path now) (FailsTaking takes refuses sees bits left place old) e (λ h. record {
        stop = h.stop;
        blobs = blobs_below entry.before ++ h.blobs;
        now = h.now;
        stops = subst (λ k. StopsBelow sees bits h.stop k place (blobs_below entry.before ++ h.blobs)) (further_down left some)
            (below (left - 1) place name entry.before h.blobs (subst (λ k. ReachesEntry sees bits k place name entry.before) (sym (further_down left some)) entry.reaches) valid
            (subst (λ p. StopsBelow sees bits h.stop (left - 1) p h.blobs) at h.stops));
        taken = takes_more takes (blobs_below entry.before) h.blobs old now h.now entry.taken h.taken;
        told = h.told;
      })

-- ---- what was found at a path

module _ {S : Type 0} (takes : S → S → ReadBlob → Type 0) (sees : Sight) (bits : Bool) (left : ℕ) (path : List ℕ) (old new : S) {A : Type 0} (there : Found) (node : Node A)
    (stands : sees.stands path (what_stands there)) where
  pub folder_there : (digest : DigestValue) → there ≡ found.Folder → node ≡ Dir digest → TakesTree takes sees bits left path digest old new
      → TakesEntry takes sees bits left path (node_value node) old new
  folder_there digest is named h = record {
    entry = whole h.tree;
    read = (subst (λ f. sees.stands path (what_stands f)) is stands, h.read);
    within = h.within;
    named = ap node_value named ∙ ap Dir h.named;
    taken = h.taken;
  }

  pub file_there : (digest : DigestValue) (executable : Bool) → there ≡ found.File executable → node ≡ File digest (bits && executable) → TakesFile takes sees path old new digest
      → TakesEntry takes sees bits left path (node_value node) old new
  file_there digest executable is named h = record {
    entry = single (file h.content (bits && executable));
    read = (h.read, (executable, subst (λ f. sees.stands path (what_stands f)) is stands, refl));
    within = omega arith;
    named = ap node_value named ∙ ap (λ d. File d (bits && executable)) h.named;
    taken = takes_one takes (file_blob h.content) old new h.taken;
  }

  pub link_there : (text : String Global) (target : List ℕ) → there ≡ found.Link text → node ≡ Link target → target ≡ string_bytes text → new ≡ old
      → TakesEntry takes sees bits left path (node_value node) old new
  link_there text target is named same still = record {
    entry = single (link target);
    read = subst (λ t. sees.stands path (a_link t)) (sym same) (subst (λ f. sees.stands path (what_stands f)) is stands);
    within = omega arith;
    named = ap node_value named;
    taken = still;
  }

-- ---- what was read at a path where links are followed

module _ {S : Type 0} (takes : S → S → ReadBlob → Type 0) (sees : Sight) (bits : Bool) (path : List ℕ) (digest : DigestValue) (old new : S) where
  pub tree_path : sees.leads path true → TakesTree takes sees bits 64 path digest old new → TakesPath takes sees bits path digest old new
  tree_path leads h = record {
    blobs = blobs_of h.tree;
    read = subst (λ d. IsDigestAt sees bits path d (blobs_of h.tree)) (sym h.named) (of_tree h.tree leads h.read h.within);
    taken = h.taken;
  }

  pub file_path : sees.leads path false → TakesFile takes sees path old new digest → TakesPath takes sees bits path digest old new
  file_path leads h = record {
    blobs = file_blob h.content ∷ [];
    read = subst (λ d. IsDigestAt sees bits path d (file_blob h.content ∷ [])) (sym h.named) (of_file h.content leads h.read);
    taken = takes_one takes (file_blob h.content) old new h.taken;
  }
