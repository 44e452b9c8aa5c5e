-- What lines put together, and how that differs from a recorded directory, by two sources that tell the same wherever merging and
-- comparing look.
use Rattle.std.proofs.Common.{ℕ, zero, suc, List, [], ◌∷◌, ◌++◌, Option, Some, None, inl, inr, refl}
use Rattle.std.specs.Prelude.{◌↔◌}
use Rattle.blob_digest.specs.Digest.{DigestValue}
use Rattle.messages.specs.DirectoryRules.{DirectoryValue}
use Rattle.messages.specs.declared.node.Node.TheVariants.{Dir, File, Link}
use Rattle.blob_source.specs.Source.{Blobs}
use Rattle.blob_source.specs.Told.{Fault}
use Rattle.tree.specs.Difference.{Differing, FailsToRead, Finds, FindsAt, ReadsDirectory, child_of}
use Rattle.tree.specs.Form.{NodeValue}
use Rattle.tree.specs.LooksAt.{Compares, ComparesBoth, LooksAtOther}
use Rattle.tree.specs.Memo.{Asked}
use Rattle.tree.specs.MergeLooks.{EachLooksAt, LineLooksAt, MergeLooksAt, MergeLooksIn, MetLooksAt, NodeLooksAt, OpenedLooksAt, StandsOrLooksAt}
use Rattle.tree.specs.Merging.{CanMeet, MergeFault, MergeLines, NodeWithin, WithinValue, counted, directory_read, each_name, entry_merged, grouped, in_source, in_tree, line_opened, lone, merged, merged_in, met, node_opened, opened, stands_or}
use Rattle.tree.specs.Stage.{Stage}
use Rattle.tree.specs.Tree.{Entry, Name, Tree}
use Rattle.verifier.proofs.Alike.{Agree, IsSameUnder, LookAlike, SameAt, after_two_way, after_way, agree_then, agree_without, at_first, at_next, directory_alike, either_way, given_way, look_then, same_way, under_blob, unread_alike}

module _ (B C : Blobs) where
  -- ---- Directories that are read

  read_agrees : (d : DigestValue) → IsSameUnder B C d → Agree (directory_read B in_source d) (directory_read C in_source d)
  read_agrees d same = record { passes = directory_alike B C d same; fails = λ why. after_way (unread_alike B C d same) (λ f fails. same_way) }

  node_agrees : (w : WithinValue) (x : NodeValue) → SameAt (NodeLooksAt w x) B C → Agree (node_opened B x w) (node_opened C x w)
  node_agrees in_source (Dir d) same = agree_then (read_agrees d (under_blob B C d same)) (λ m read. agree_without)
  node_agrees (in_tree t) (Dir d) same = agree_without
  node_agrees w (File d executable) same = agree_without
  node_agrees w (Link target) same = agree_without

  line_agrees : (p : List Name) (x : NodeWithin) → SameAt (LineLooksAt p x) B C → Agree (line_opened B p x) (line_opened C p x)
  line_agrees [] x same = node_agrees x.within x.node same
  line_agrees (n ∷ p) x same = agree_without

  opened_agrees : (ls : MergeLines) → SameAt (OpenedLooksAt B ls) B C → Agree (opened B ls) (opened C ls)
  opened_agrees [] same = agree_without
  opened_agrees (l ∷ ls) same =
      agree_then (line_agrees l.0 l.1 (at_first (line_opened B l.0 l.1) (LineLooksAt l.0 l.1) (λ _. OpenedLooksAt B ls) B C same)) (λ new read.
      agree_then (opened_agrees ls (at_next (line_opened B l.0 l.1) (LineLooksAt l.0 l.1) (λ _. OpenedLooksAt B ls) B C same new read)) (λ rest _. agree_without))

  opened_looks : (ls : MergeLines) → SameAt (OpenedLooksAt B ls) B C → LookAlike (OpenedLooksAt B ls) (OpenedLooksAt C ls)
  opened_looks [] same = λ a. same_way
  opened_looks (l ∷ ls) same =
      look_then (line_agrees l.0 l.1 (at_first (line_opened B l.0 l.1) (LineLooksAt l.0 l.1) (λ _. OpenedLooksAt B ls) B C same)) (λ a. same_way) (λ new read.
      opened_looks ls (at_next (line_opened B l.0 l.1) (LineLooksAt l.0 l.1) (λ _. OpenedLooksAt B ls) B C same new read))

  -- ---- what lines come to at a path

  module _ (below after : MergeLines → Stage MergeFault (Tree NodeValue)) (Below After : MergeLines → Asked → Type 0) (deeper : ℕ) (path : List Name) (ls : MergeLines) (same : SameAt (MetLooksAt B Below deeper ls) B C) where
    at_opened : CanMeet deeper ls → SameAt (OpenedLooksAt B ls) B C
    at_opened can = at_first (opened B ls) (OpenedLooksAt B ls) Below B C (λ d look. same d (can, look))

    at_below : CanMeet deeper ls → (new : MergeLines) → (opened B ls).passes new → SameAt (Below new) B C
    at_below can = at_next (opened B ls) (OpenedLooksAt B ls) Below B C (λ d look. same d (can, look))

    met_agrees : ((new : MergeLines) → SameAt (Below new) B C → Agree (below new) (after new)) → Agree (met B below deeper path ls) (met C after deeper path ls)
    met_agrees h = agree_then agree_without (λ _ can. agree_then (opened_agrees ls (at_opened can)) (λ new read. agree_then (h new (at_below can new read)) (λ t _. agree_without)))

    met_looks : ((new : MergeLines) → SameAt (Below new) B C → LookAlike (Below new) (After new)) → LookAlike (MetLooksAt B Below deeper ls) (MetLooksAt C After deeper ls)
    met_looks h = λ a. given_way (λ can. look_then (opened_agrees ls (at_opened can)) (opened_looks ls (at_opened can)) (λ new read. h new (at_below can new read)) a)

  or_agrees : (o : Option NodeValue) (f g : Stage MergeFault (Entry NodeValue)) (Others : Asked → Type 0) → (SameAt Others B C → Agree f g) → SameAt (λ a. StandsOrLooksAt o (Others a)) B C → Agree (stands_or o f) (stands_or o g)
  or_agrees (Some x) f g Others h same = agree_without
  or_agrees None f g Others h same = h same

  or_looks : (o : Option NodeValue) (One Other : Asked → Type 0) → (SameAt One B C → LookAlike One Other) → SameAt (λ a. StandsOrLooksAt o (One a)) B C → LookAlike (λ a. StandsOrLooksAt o (One a)) (λ a. StandsOrLooksAt o (Other a))
  or_looks (Some x) One Other h same = λ a. same_way
  or_looks None One Other h same = h same

  -- ---- name by name

  module _ (at by : Name → MergeLines → Stage MergeFault (Entry NodeValue)) (One Other : Name → MergeLines → Asked → Type 0) (h : (n : Name) (ls : MergeLines) → SameAt (One n ls) B C → Agree (at n ls) (by n ls)) where
    each_agrees : (gs : List (Name × MergeLines)) → SameAt (EachLooksAt at One gs) B C → Agree (each_name at gs) (each_name by gs)
    each_agrees [] same = agree_without
    each_agrees (g ∷ gs) same =
        agree_then (h g.0 g.1 (at_first (at g.0 g.1) (One g.0 g.1) (λ _. EachLooksAt at One gs) B C same)) (λ e here.
        agree_then (each_agrees gs (at_next (at g.0 g.1) (One g.0 g.1) (λ _. EachLooksAt at One gs) B C same e here)) (λ rest _. agree_without))

    each_looks : ((n : Name) (ls : MergeLines) → SameAt (One n ls) B C → LookAlike (One n ls) (Other n ls)) → (gs : List (Name × MergeLines)) → SameAt (EachLooksAt at One gs) B C → LookAlike (EachLooksAt at One gs) (EachLooksAt by Other gs)
    each_looks k [] same = λ a. same_way
    each_looks k (g ∷ gs) same =
        look_then (h g.0 g.1 (at_first (at g.0 g.1) (One g.0 g.1) (λ _. EachLooksAt at One gs) B C same)) (k g.0 g.1 (at_first (at g.0 g.1) (One g.0 g.1) (λ _. EachLooksAt at One gs) B C same)) (λ e here.
        each_looks k gs (at_next (at g.0 g.1) (One g.0 g.1) (λ _. EachLooksAt at One gs) B C same e here))

  -- what the lines at a name come to, where that is known of those below it
  module _ (deeper : ℕ) (path : List Name) (given : MergeLines) where
    abbrev LooksThere : Blobs → Asked → Type 0
    LooksThere D a = StandsOrLooksAt (lone given) (MetLooksAt D (MergeLooksIn D deeper path) deeper given a)

    name_agrees : ((new : MergeLines) → SameAt (MergeLooksIn B deeper path new) B C → Agree (merged_in B deeper path new) (merged_in C deeper path new)) → SameAt (LooksThere B) B C
        → Agree (entry_merged B (merged_in B deeper path) deeper path given) (entry_merged C (merged_in C deeper path) deeper path given)
    name_agrees h same =
        or_agrees (lone given) (met B (merged_in B deeper path) deeper path given) (met C (merged_in C deeper path) deeper path given) (MetLooksAt B (MergeLooksIn B deeper path) deeper given)
        (λ there. met_agrees (merged_in B deeper path) (merged_in C deeper path) (MergeLooksIn B deeper path) (MergeLooksIn C deeper path) deeper path given there h) same

    name_looks : ((new : MergeLines) → SameAt (MergeLooksIn B deeper path new) B C → LookAlike (MergeLooksIn B deeper path new) (MergeLooksIn C deeper path new)) → SameAt (LooksThere B) B C → LookAlike (LooksThere B) (LooksThere C)
    name_looks h same =
        or_looks (lone given) (MetLooksAt B (MergeLooksIn B deeper path) deeper given) (MetLooksAt C (MergeLooksIn C deeper path) deeper given)
        (λ there. met_looks (merged_in B deeper path) (merged_in C deeper path) (MergeLooksIn B deeper path) (MergeLooksIn C deeper path) deeper path given there h) same

  -- ---- the whole

  in_agrees : (deeper : ℕ) (path : List Name) (ls : MergeLines) → SameAt (MergeLooksIn B deeper path ls) B C → Agree (merged_in B deeper path ls) (merged_in C deeper path ls)
  in_agrees zero path ls same = agree_without
  in_agrees (suc deeper) path ls same =
      each_agrees (λ n given. entry_merged B (merged_in B deeper (path ++ n ∷ [])) deeper (path ++ n ∷ []) (counted [] given)) (λ n given. entry_merged C (merged_in C deeper (path ++ n ∷ [])) deeper (path ++ n ∷ []) (counted [] given))
      (λ n given. LooksThere deeper (path ++ n ∷ []) (counted [] given) B) (λ n given. LooksThere deeper (path ++ n ∷ []) (counted [] given) C)
      (λ n given. name_agrees deeper (path ++ n ∷ []) (counted [] given) (in_agrees deeper (path ++ n ∷ []))) (grouped ls) same

  in_looks : (deeper : ℕ) (path : List Name) (ls : MergeLines) → SameAt (MergeLooksIn B deeper path ls) B C → LookAlike (MergeLooksIn B deeper path ls) (MergeLooksIn C deeper path ls)
  in_looks zero path ls same = λ a. same_way
  in_looks (suc deeper) path ls same =
      each_looks (λ n given. entry_merged B (merged_in B deeper (path ++ n ∷ [])) deeper (path ++ n ∷ []) (counted [] given)) (λ n given. entry_merged C (merged_in C deeper (path ++ n ∷ [])) deeper (path ++ n ∷ []) (counted [] given))
      (λ n given. LooksThere deeper (path ++ n ∷ []) (counted [] given) B) (λ n given. LooksThere deeper (path ++ n ∷ []) (counted [] given) C)
      (λ n given. name_agrees deeper (path ++ n ∷ []) (counted [] given) (in_agrees deeper (path ++ n ∷ [])))
      (λ n given. name_looks deeper (path ++ n ∷ []) (counted [] given) (in_looks deeper (path ++ n ∷ []))) (grouped ls) same

  pub merged_agrees : (ls : MergeLines) → SameAt (MergeLooksAt B ls) B C → Agree (merged B ls) (merged C ls)
  unfolding merged MergeLooksAt
  merged_agrees ls same = in_agrees 64 [] ls same

  pub merged_looks : (ls : MergeLines) → SameAt (MergeLooksAt B ls) B C → LookAlike (MergeLooksAt B ls) (MergeLooksAt C ls)
  unfolding MergeLooksAt
  merged_looks ls same = in_looks 64 [] ls same

  -- ---- a difference

  module _ (own : List (List ℕ)) where
    abbrev IsSameOther : DigestValue → Type 0
    IsSameOther d = SameAt (LooksAtOther own d) B C

    own_reads : (d : DigestValue) → IsSameOther d → (m : DirectoryValue) → (ReadsDirectory own B d m ↔ ReadsDirectory own C d m)
    own_reads d same m = (
      λ h. by h,
      λ h. back h,
    )
      where
        by : ReadsDirectory own B d m → ReadsDirectory own C d m
        by (inl h) = inl h
        by (inr h) = inr (h.0, (directory_alike B C d (λ some. same d (h.0, (refl, some))) m).0 h.1)

        back : ReadsDirectory own C d m → ReadsDirectory own B d m
        back (inl h) = inl h
        back (inr h) = inr (h.0, (directory_alike B C d (λ some. same d (h.0, (refl, some))) m).1 h.1)

    own_fails : (d : DigestValue) → IsSameOther d → (f : Fault) → (FailsToRead own B d f ↔ FailsToRead own C d f)
    own_fails d same f = (
      λ h. (h.0, (unread_alike B C d (λ some. same d (h.0, (refl, some))) f).0 h.1),
      λ h. (h.0, (unread_alike B C d (λ some. same d (h.0, (refl, some))) f).1 h.1),
    )

    at_agrees : (deeper : ℕ) (path : List Name) (o p : Option NodeValue) (Next After : DigestValue → DigestValue → Type 0) (Here : DigestValue → DigestValue → Asked → Type 0) (x : Differing)
        → ((g r : DigestValue) → SameAt (Here g r) B C → (Next g r ↔ After g r)) → SameAt (λ a. ComparesBoth o p (λ g r. Here g r a)) B C → (FindsAt deeper path o p Next x ↔ FindsAt deeper path o p After x)
    at_agrees zero path None None Next After Here x h same = same_way
    at_agrees zero path None (Some y) Next After Here x h same = same_way
    at_agrees zero path (Some a) None Next After Here x h same = same_way
    at_agrees zero path (Some a) (Some y) Next After Here x h same = same_way
    at_agrees (suc deeper) path None None Next After Here x h same = same_way
    at_agrees (suc deeper) path None (Some y) Next After Here x h same = same_way
    at_agrees (suc deeper) path (Some a) None Next After Here x h same = same_way
    at_agrees (suc deeper) path (Some (File d e)) (Some y) Next After Here x h same = same_way
    at_agrees (suc deeper) path (Some (Link t)) (Some y) Next After Here x h same = same_way
    at_agrees (suc deeper) path (Some (Dir g)) (Some (File d e)) Next After Here x h same = same_way
    at_agrees (suc deeper) path (Some (Dir g)) (Some (Link t)) Next After Here x h same = same_way
    at_agrees (suc deeper) path (Some (Dir g)) (Some (Dir r)) Next After Here x h same = h g r same

    both_look : (o p : Option NodeValue) (Here There : DigestValue → DigestValue → Asked → Type 0) → ((g r : DigestValue) → SameAt (Here g r) B C → LookAlike (Here g r) (There g r)) → SameAt (λ a. ComparesBoth o p (λ g r. Here g r a)) B C
        → LookAlike (λ a. ComparesBoth o p (λ g r. Here g r a)) (λ a. ComparesBoth o p (λ g r. There g r a))
    both_look None p Here There h same = λ a. same_way
    both_look (Some (File d e)) p Here There h same = λ a. same_way
    both_look (Some (Link t)) p Here There h same = λ a. same_way
    both_look (Some (Dir g)) None Here There h same = λ a. same_way
    both_look (Some (Dir g)) (Some (File d e)) Here There h same = λ a. same_way
    both_look (Some (Dir g)) (Some (Link t)) Here There h same = λ a. same_way
    both_look (Some (Dir g)) (Some (Dir r)) Here There h same = h g r same

    pub finds_agree : (deeper : ℕ) (path : List Name) (g r : DigestValue) (x : Differing) → SameAt (Compares own B deeper g r) B C → (Finds own B deeper path g r x ↔ Finds own C deeper path g r x)
    finds_agree zero path g r x same = same_way
    finds_agree (suc deeper) path g r x same =
        let recorded : IsSameOther r = λ d look. same d (inl look) in
        either_way (after_way (own_fails r recorded) (λ f _. same_way)) (after_way (own_reads r recorded) (λ m read.
        let grafted : IsSameOther g = λ d look. same d (inr (m, read, inl look)) in
        either_way (after_way (own_fails g grafted) (λ f _. same_way)) (after_two_way (own_reads g grafted) (λ k made n first.
        at_agrees deeper (path ++ n ∷ []) (child_of n k) (child_of n m) (λ a b. Finds own B deeper (path ++ n ∷ []) a b x) (λ a b. Finds own C deeper (path ++ n ∷ []) a b x) (λ a b. Compares own B deeper a b) x
        (λ a b below. finds_agree deeper (path ++ n ∷ []) a b x below) (λ d look. same d (inr (m, read, inr (k, made, n, first, look))))))))

    pub compares_alike : (deeper : ℕ) (g r : DigestValue) → SameAt (Compares own B deeper g r) B C → LookAlike (Compares own B deeper g r) (Compares own C deeper g r)
    compares_alike zero g r same = λ a. same_way
    compares_alike (suc deeper) g r same = λ a.
        let recorded : IsSameOther r = λ d look. same d (inl look) in
        either_way same_way (after_way (own_reads r recorded) (λ m read.
        either_way same_way (after_two_way (own_reads g (λ d look. same d (inr (m, read, inl look)))) (λ k made n first.
        both_look (child_of n k) (child_of n m) (λ x y. Compares own B deeper x y) (λ x y. Compares own C deeper x y)
        (λ x y below. compares_alike deeper x y below) (λ d look. same d (inr (m, read, inr (k, made, n, first, look)))) a))))
