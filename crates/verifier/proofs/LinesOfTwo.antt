-- What two builds find at an origin is one node, if the outcomes before have one form in both; and so what lines put together is one tree.
use Rattle.std.proofs.Common.{◌≡◌, ℕ, zero, suc, List, [], ◌∷◌, ◌++◌, length, refl, ap, sym, ◌∙◌, subst, inl, inr, arith}
use Rattle.std.specs.Prelude.{Option, Some, None, slice_get, Contains}
use Rattle.std.specs.List.{AllByRecursion}
use Rattle.blob_digest.specs.Digest.{DigestValue, digest_of}
use Rattle.messages.specs.declared.node.Node.TheVariants.{File, Link, Dir}
use Rattle.messages.specs.DirectoryRules.{DirectoryValue}
use Rattle.messages.specs.Directory.{directory_bytes}
use Rattle.messages.specs.Node.{child}
use Rattle.messages.specs.Tree.{TreeValue, IsTree, tree_bytes}
use Rattle.action_messages.specs.ActionResult.{ActionResultValue}
use Rattle.action_messages.specs.Outputs.{RecordedValue, file, directory, link}
use Rattle.actions.specs.declared.outcome.Output.TheVariants as outputs
use Rattle.actions.specs.Outcome.{OutputValue, OutcomeValue, IsOutcome, output_node, outputs_form, tree_node}
use Rattle.actions.specs.OutcomeLookup.{IsFirstChild, NoFault, LooksBelow, LooksIn, within_output, LiesWithin}
use Rattle.actions.specs.Recorded.{StandForAll, IsRecorded}
use Rattle.actions.proofs.Once.{beginnings, same_rest, one_output}
use Rattle.actions.proofs.TreeLookups.{behind, holds_mapped}
use Rattle.blob_source.specs.Source.{Blobs}
use Rattle.blob_source.specs.Told.{Fault, IsTold, TellsDirectory, FailsDirectory}
use Rattle.plan.specs.Values.{OriginValue, source, output, LineValue}
use Rattle.tree.specs.Form.{NodeValue}
use Rattle.tree.specs.Tree.{Name, Tree}
use Rattle.tree.specs.Lookup.{found, LooksFrom}
use Rattle.tree.specs.Merging.{WithinValue, NodeWithin, MergeLines, merged}
use Rattle.tree.proofs.MergeAlike.{Twins, firsts, seconds, AllTwins}
use Rattle.tree.proofs.MergeHeld.{first_among}
use Rattle.verifier.specs.Together.{StandsAtOrigin, Resolves}
use Rattle.verifier.specs.Recorded.{HaveOneForm}
use Rattle.verifier.specs.TwoBuilds.{IsDirectoryTold, NoClashBetween}
use Rattle.verifier.proofs.FreshRuns.{one_answer}
use Rattle.verifier.proofs.MergesOfTwo.{IsWithin, known_in_tree, one_directory, IsOfBoth, merges_both}
use Rattle.verifier.proofs.OutputLookups.{mapped_from}

-- ---- look-ups from one node

found_is : {x y : NodeValue} → found x ≡ found y → x ≡ y
found_is e = cc

module _ (R S : DigestValue → DirectoryValue → Type 0) (F G : DigestValue → Fault → Type 0) (same : (d : DigestValue) (m n : DirectoryValue) → R d m → S d n → m ≡ n) where
  looks_one : (p : List Name) (o : Option NodeValue) (x y : NodeValue) → LooksFrom R F p o (found x) → LooksFrom S G p o (found y) → x ≡ y
  looks_one p None x y h k = absurd cc
  looks_one [] (Some z) x y h k = found_is (h ∙ sym k)
  looks_one (n ∷ p) (Some (File d b)) x y h k = absurd cc
  looks_one (n ∷ p) (Some (Link t)) x y h k = absurd cc
  looks_one (n ∷ p) (Some (Dir d)) x y (inl h) (inl k) =
      looks_one p (child n h.0) x y h.2 (subst (λ m. LooksFrom S G p (child n m) (found y)) (sym (same d h.0 k.0 h.1 k.1)) k.2)
  looks_one (n ∷ p) (Some (Dir d)) x y (inl h) (inr k) = absurd (let e = k.2 in cc)
  looks_one (n ∷ p) (Some (Dir d)) x y (inr h) k = absurd (let e = h.2 in cc)

-- ---- outcomes whose Trees are told

abbrev pub HaveTreesTold : Blobs → List (List Name × OutputValue) → Type 0
HaveTreesTold B es = (e : List Name × OutputValue) → Contains es e → IsWithin B (within_output e.1)

trees_told : (B : Blobs) (xs : List RecordedValue) (es : List (List Name × OutputValue)) → StandForAll B xs es → HaveTreesTold B es
trees_told B [] es h e (k, lt, is) = let none : length es ≡ 0 = ap length h in absurd (omega (arith, none))
trees_told B (x ∷ xs) [] h e c = elim h [ ]
trees_told B (file f ∷ xs) (y ∷ es) h e (zero, lt, is) = subst (λ (z : List Name × OutputValue). IsWithin B (within_output z.1)) is (subst (λ v. IsWithin B (within_output v)) (sym h.1) tt)
trees_told B (link l ∷ xs) (y ∷ es) h e (zero, lt, is) = subst (λ (z : List Name × OutputValue). IsWithin B (within_output z.1)) is (subst (λ v. IsWithin B (within_output v)) (sym h.1) tt)
trees_told B (directory d ∷ xs) (y ∷ es) h e (zero, lt, is) = subst (λ (z : List Name × OutputValue). IsWithin B (within_output z.1)) is (subst (λ v. IsWithin B (within_output v)) (sym h.1.2) (d.tree, h.1.1))
trees_told B (x ∷ xs) (y ∷ es) h e (suc k, lt, is) = trees_told B xs es h.2 e (k, omega (arith, lt), is)

module _ (B C : Blobs) (apart : NoClashBetween (IsDirectoryTold B) (IsDirectoryTold C)) where
  -- one step's outcomes, one in each build, of one form
  pub record AreOfBoth (v w : OutcomeValue) : Type 0 where
    pub form : HaveOneForm v w
    pub valid : IsOutcome v
    pub trees : HaveTreesTold B v.outputs
    pub other_trees : HaveTreesTold C w.outputs

  pub of_both : {r q : ActionResultValue} (v w : OutcomeValue) → HaveOneForm v w → IsRecorded B r v → IsRecorded C q w → AreOfBoth v w
  of_both v w form h k = record { form = form; valid = h.valid; trees = trees_told B h.recorded v.outputs h.outputs; other_trees = trees_told C k.recorded w.outputs k.outputs }

  -- ---- what stands below outputs with one node

  look_here : (v : OutputValue) (x : NodeValue) → LooksBelow v [] (found x) → x ≡ output_node v
  look_here (outputs.File d b) x h = found_is h
  look_here (outputs.Link t) x h = found_is h
  look_here (outputs.Tree t) x h = found_is h

  in_trees : (t u : TreeValue) (d e : DigestValue) → IsTold IsTree tree_bytes B d t → IsTold IsTree tree_bytes C e u → tree_node t ≡ tree_node u → (n : Name) (p : List Name) (x y : NodeValue)
      → LooksBelow (outputs.Tree t) (n ∷ p) (found x) → LooksBelow (outputs.Tree u) (n ∷ p) (found y) → x ≡ y
  in_trees t u d e one two nodes n p x y h k =
      let digests : digest_of (directory_bytes t.root) ≡ digest_of (directory_bytes u.root) = cc in
      let roots = one_directory B C apart t.root u.root (known_in_tree B d t one t.root (0, omega arith, refl)) (known_in_tree C e u two u.root (0, omega arith, refl)) digests in
      looks_one (IsFirstChild t) (IsFirstChild u) NoFault NoFault
      (λ c m o a b. one_directory B C apart m o (known_in_tree B d t one m (behind t.root t.children m (first_among t.children c m a))) (known_in_tree C e u two o (behind u.root u.children o (first_among u.children c o b))) (a.right ∙ sym b.right))
      p (child n t.root) x y h (subst (λ m. LooksFrom (IsFirstChild u) NoFault p (child n m) (found y)) (sym roots) k)

  below_one : (v w : OutputValue) → output_node v ≡ output_node w → IsWithin B (within_output v) → IsWithin C (within_output w) → (p : List Name) (x y : NodeValue) → LooksBelow v p (found x) → LooksBelow w p (found y) → x ≡ y
  below_one v w nodes a b [] x y h k = look_here v x h ∙ nodes ∙ sym (look_here w y k)
  below_one (outputs.File d b) w nodes a c (n ∷ p) x y h k = absurd cc
  below_one (outputs.Link t) w nodes a c (n ∷ p) x y h k = absurd cc
  below_one (outputs.Tree t) (outputs.File d b) nodes a c (n ∷ p) x y h k = absurd cc
  below_one (outputs.Tree t) (outputs.Link l) nodes a c (n ∷ p) x y h k = absurd cc
  below_one (outputs.Tree t) (outputs.Tree u) nodes a c (n ∷ p) x y h k = in_trees t u a.0 c.0 a.1 c.1 nodes n p x y h k

  -- ---- what stands in outcomes of one form

  in_outcomes : (v w : OutcomeValue) → AreOfBoth v w → (p : List Name) (x y : NodeValue) → LooksIn v p (found x) → LooksIn w p (found y) → x ≡ y
  in_outcomes v w both p x y (inr h) k = absurd (let e = h.1 in cc)
  in_outcomes v w both p x y h (inr k) = absurd (let e = k.1 in cc)
  in_outcomes v w both p x y (inl (e, here, names, path, look)) (inl (f, there, others, way, looked)) =
      let row : Contains (outputs_form v.outputs) (f.0, output_node f.1) =
      subst (λ rows. Contains rows (f.0, output_node f.1)) (sym both.form.outputs) (holds_mapped (λ (e : List Name × OutputValue). (e.0, output_node e.1)) w.outputs f there) in
      let own = mapped_from (λ (e : List Name × OutputValue). (e.0, output_node e.1)) v.outputs (f.0, output_node f.1) row in
      let paths : own.0.0 ≡ f.0 = ap (λ (r : List Name × NodeValue). r.0) own.2 in
      let nodes : output_node own.0.1 ≡ output_node f.1 = ap (λ (r : List Name × NodeValue). r.1) own.2 in
      let joined : e.0 ++ names ≡ own.0.0 ++ others = sym path ∙ way ∙ ap (λ q. q ++ others) (sym paths) in
      let one : e ≡ own.0 = one_output v.outputs e own.0 both.valid.apart here own.1 (beginnings e.0 own.0.0 names others joined) in
      let rest : names ≡ others = same_rest e.0 names others (joined ∙ ap (λ (z : List Name × OutputValue). z.0 ++ others) (sym one)) in
      below_one e.1 f.1 (ap (λ (z : List Name × OutputValue). output_node z.1) one ∙ nodes) (both.trees e here) (both.other_trees f there) others x y (subst (λ q. LooksBelow e.1 q (found x)) rest look) looked

  lies_told : (D : Blobs) (v : OutcomeValue) → HaveTreesTold D v.outputs → (p : List Name) (w : WithinValue) → LiesWithin v p w → IsWithin D w
  lies_told D v trees p w (e, here, over, is) = subst (IsWithin D) (sym is) (trees e here)

  -- ---- origins and lines

  -- the outcomes that earlier steps came to, pair by pair
  abbrev pub AllOfBoth : List OutcomeValue → List OutcomeValue → Type 0
  AllOfBoth vs ws = (j : ℕ) (v w : OutcomeValue) → slice_get vs j ≡ Some v → slice_get ws j ≡ Some w → AreOfBoth v w

  -- the pairs that lines read
  abbrev pub IsReadInBoth : List OutcomeValue → List OutcomeValue → OriginValue → Type 0
  IsReadInBoth vs ws (source p) = Unit {0}
  IsReadInBoth vs ws (output j p) = (v w : OutcomeValue) → slice_get vs j ≡ Some v → slice_get ws j ≡ Some w → AreOfBoth v w

  abbrev pub AreReadInBoth : List OutcomeValue → List OutcomeValue → List LineValue → Type 0
  AreReadInBoth vs ws ls = AllByRecursion (λ (l : LineValue). IsReadInBoth vs ws l.origin) ls

  pub all_read : (vs ws : List OutcomeValue) → AllOfBoth vs ws → (ls : List LineValue) → AreReadInBoth vs ws ls
  all_read vs ws all [] = tt
  all_read vs ws all (l ∷ ls) = (one l.origin, all_read vs ws all ls)
    where
      one : (o : OriginValue) → IsReadInBoth vs ws o
      one (source p) = tt
      one (output j p) = all j

  module _ (src : DigestValue) (vs ws : List OutcomeValue) where
    record OriginOfBoth (x y : NodeWithin) : Type 0 where
      node : x.node ≡ y.node
      one : IsWithin B x.within
      other : IsWithin C y.within

    origin_of_both : (o : OriginValue) → IsReadInBoth vs ws o → (x y : NodeWithin) → StandsAtOrigin B src (slice_get vs) o x → StandsAtOrigin C src (slice_get ws) o y → OriginOfBoth x y
    origin_of_both (source p) read x y h k = record {
      node = looks_one (TellsDirectory B) (TellsDirectory C) (FailsDirectory B) (FailsDirectory C)
          (λ d m n a b. one_directory B C apart m n (record { valid = a.valid; told = (m, refl, inl (d, a)) }) (record { valid = b.valid; told = (n, refl, inl (d, b)) }) (a.blob.right ∙ sym b.blob.right))
          p (Some (Dir src)) x.node y.node h.node k.node;
      one = subst (IsWithin B) (sym h.within) tt;
      other = subst (IsWithin C) (sym k.within) tt;
    }
    origin_of_both (output j p) read x y h k =
        let both = read h.node.0 k.node.0 h.node.1 k.node.1 in
        record {
          node = in_outcomes h.node.0 k.node.0 both p x.node y.node h.node.2 k.node.2;
          one = lies_told B h.node.0 both.trees p x.within (subst (λ v. LiesWithin v p x.within) (one_answer (slice_get vs j) h.within.0 h.node.0 h.within.1 h.node.1) h.within.2);
          other = lies_told C k.node.0 both.other_trees p y.within (subst (λ v. LiesWithin v p y.within) (one_answer (slice_get ws j) k.within.0 k.node.0 k.within.1 k.node.1) k.within.2);
        }

    record LinesOfBoth (xs ys : MergeLines) : Type 0 where
      twins : Twins
      first : firsts twins ≡ xs
      second : seconds twins ≡ ys
      are : AllTwins (IsOfBoth B C apart) twins

    lines_of_both : (ls : List LineValue) → AreReadInBoth vs ws ls → (xs ys : MergeLines) → Resolves B src (slice_get vs) ls xs → Resolves C src (slice_get ws) ls ys → LinesOfBoth xs ys
    lines_of_both [] read xs ys h k = record { twins = []; first = sym h; second = sym k; are = tt }
    lines_of_both (l ∷ ls) read xs ys (x, here, rest, more, is) (y, there, others, later, also) =
        let o = origin_of_both l.origin read.0 x y here there in
        let r = lines_of_both ls read.1 rest others more later in
        record {
          twins = (l.target, record { node = x.node; one = x.within; other = y.within }) ∷ r.twins;
          first = (λ i. (l.target, x) ∷ r.first i) ∙ sym is;
          second = (λ i. (l.target, record { node = o.node i; within = y.within }) ∷ r.second i) ∙ sym also;
          are = ((o.one, o.other), r.are);
        }

    -- the tree that lines put together in both
    pub one_tree : (ls : List LineValue) → AreReadInBoth vs ws ls → (xs ys : MergeLines) (T U : Tree NodeValue) → Resolves B src (slice_get vs) ls xs → Resolves C src (slice_get ws) ls ys → (merged B xs).passes T → (merged C ys).passes U → T ≡ U
    one_tree ls read xs ys T U h k one other =
        let both = lines_of_both ls read xs ys h k in
        merges_both B C apart both.twins both.are T U (subst (λ l. (merged B l).passes T) (sym both.first) one) (subst (λ l. (merged C l).passes U) (sym both.second) other)
