-- The nodes of a recorded outcome are those that the result records at its paths.
use Rattle.std.proofs.Common.{◌≡◌, ℕ, zero, suc, List, [], ◌∷◌, refl, sym, ap, subst, ◌∙◌, inl, inr, arith}
use Rattle.std.specs.Prelude.{◌⊎◌, ◌↔◌, Contains}
use Rattle.std.specs.List.{AllByRecursion}
use Rattle.blob_digest.specs.Digest.{digest_of}
use Rattle.messages.specs.declared.node.Node.TheVariants as nodes
use Rattle.messages.specs.Directory.{directory_bytes}
use Rattle.messages.specs.Tree.{TreeValue, IsTree, tree_bytes}
use Rattle.tree.specs.Form.{NodeValue}
use Rattle.blob_source.specs.Source.{Blobs}
use Rattle.blob_source.specs.Told.{IsTold}
use Rattle.action_messages.specs.OutputFile.{OutputFileValue}
use Rattle.action_messages.specs.OutputDirectory.{OutputDirectoryValue}
use Rattle.action_messages.specs.OutputSymlink.{OutputSymlinkValue}
use Rattle.action_messages.specs.ActionResult.{ActionResultValue}
use Rattle.actions.specs.Outcome.{OutputValue, OutcomeValue, output_node, tree_node, outputs_form}
use Rattle.action_messages.specs.Outputs.{RecordedValue, file, directory, link, recorded_path, files_among, directories_among, links_among, AreOutputs}
use Rattle.actions.specs.Recorded.{StandsFor, StandForAll, IsRecorded}
use Rattle.actions.proofs.TreeLookups.{behind}
use Rattle.actions.proofs.Once.{tree_once}

-- a file, a link or a directory of three lists has this node at this path
abbrev pub StandsAmong : Blobs → List OutputFileValue → List OutputSymlinkValue → List OutputDirectoryValue → List (List ℕ) → NodeValue → Type 0
StandsAmong B fs ls ds p x =
    ((f : OutputFileValue) × Contains fs f × (f.path ≡ p) × (x ≡ nodes.File f.digest f.executable))
    ⊎ (((l : OutputSymlinkValue) × Contains ls l × (l.path ≡ p) × (x ≡ nodes.Link l.target))
    ⊎ ((d : OutputDirectoryValue) × Contains ds d × (d.path ≡ p) × (t : TreeValue) × IsTold IsTree tree_bytes B d.tree t × (x ≡ nodes.Dir (digest_of (directory_bytes t.root)))))

abbrev Among : Blobs → List RecordedValue → List (List ℕ) → NodeValue → Type 0
Among B xs p x = StandsAmong B (files_among xs) (links_among xs) (directories_among xs) p x

first : {X : Type 0} (x : X) (xs : List X) → Contains (x ∷ xs) x
first x xs = (0, omega arith, refl)

later : (B : Blobs) (y : RecordedValue) (xs : List RecordedValue) (p : List (List ℕ)) (x : NodeValue) → Among B xs p x → Among B (y ∷ xs) p x
later B (file f) xs p x (inl h) = inl (h.0, behind f (files_among xs) h.0 h.1, h.2, h.3)
later B (file f) xs p x (inr h) = inr h
later B (link l) xs p x (inl h) = inl h
later B (link l) xs p x (inr (inl h)) = inr (inl (h.0, behind l (links_among xs) h.0 h.1, h.2, h.3))
later B (link l) xs p x (inr (inr h)) = inr (inr h)
later B (directory d) xs p x (inl h) = inl h
later B (directory d) xs p x (inr (inl h)) = inr (inl h)
later B (directory d) xs p x (inr (inr h)) = inr (inr (h.0, behind d (directories_among xs) h.0 h.1, h.2, h.3, h.4, h.5))

here : (B : Blobs) (y : RecordedValue) (xs : List RecordedValue) (e : List (List ℕ) × OutputValue) (p : List (List ℕ)) (x : NodeValue) → e.0 ≡ recorded_path y → StandsFor B y e.1 → e.0 ≡ p → output_node e.1 ≡ x → Among B (y ∷ xs) p x
here B (file f) xs e p x at stands path node = inl (f, first f (files_among xs), sym at ∙ path, sym node ∙ ap output_node stands)
here B (link l) xs e p x at stands path node = inr (inl (l, first l (links_among xs), sym at ∙ path, sym node ∙ ap output_node stands))
here B (directory d) xs e p x at stands path node = inr (inr (d, first d (directories_among xs), sym at ∙ path, stands.0, stands.1, sym node ∙ ap output_node stands.2))

records : (B : Blobs) (xs : List RecordedValue) (es : List (List (List ℕ) × OutputValue)) (p : List (List ℕ)) (x : NodeValue) → StandForAll B xs es → Contains (outputs_form es) (p, x) → Among B xs p x
records B [] [] p x h (k, lt, is) = absurd (omega arith)
records B [] (e ∷ es) p x h c = absurd cc
records B (y ∷ xs) [] p x h c = elim h [ ]
records B (y ∷ xs) (e ∷ es) p x h (zero, lt, is) = here B y xs e p x h.0 h.1 (ap (λ (q : List (List ℕ) × NodeValue). q.0) is) (ap (λ (q : List (List ℕ) × NodeValue). q.1) is)
records B (y ∷ xs) (e ∷ es) p x h (suc k, lt, is) = later B y xs p x (records B xs es p x h.2 (k, omega (arith, lt), is))

-- the other way

shown : (es : List (List (List ℕ) × OutputValue)) (e : List (List ℕ) × OutputValue) (p : List (List ℕ)) (x : NodeValue) → e.0 ≡ p → output_node e.1 ≡ x → Contains (outputs_form (e ∷ es)) (p, x)
shown es e p x path node = (0, omega arith, (λ i. (path i, node i)))

file_stands : (B : Blobs) (xs : List RecordedValue) (es : List (List (List ℕ) × OutputValue)) (f : OutputFileValue) (p : List (List ℕ)) (x : NodeValue) → StandForAll B xs es → Contains (files_among xs) f → f.path ≡ p → x ≡ nodes.File f.digest f.executable → Contains (outputs_form es) (p, x)
file_stands B [] es f p x h (k, lt, is) path node = absurd (omega arith)
file_stands B (y ∷ xs) [] f p x h c path node = elim h [ ]
file_stands B (file g ∷ xs) (e ∷ es) f p x h (zero, lt, is) path node = shown es e p x (h.0 ∙ ap (λ (q : OutputFileValue). q.path) is ∙ path) (ap output_node h.1 ∙ ap (λ (q : OutputFileValue). nodes.File q.digest q.executable) is ∙ sym node)
file_stands B (file g ∷ xs) (e ∷ es) f p x h (suc k, lt, is) path node = behind (e.0, output_node e.1) (outputs_form es) (p, x) (file_stands B xs es f p x h.2 (k, omega (arith, lt), is) path node)
file_stands B (directory d ∷ xs) (e ∷ es) f p x h c path node = behind (e.0, output_node e.1) (outputs_form es) (p, x) (file_stands B xs es f p x h.2 c path node)
file_stands B (link l ∷ xs) (e ∷ es) f p x h c path node = behind (e.0, output_node e.1) (outputs_form es) (p, x) (file_stands B xs es f p x h.2 c path node)

link_stands : (B : Blobs) (xs : List RecordedValue) (es : List (List (List ℕ) × OutputValue)) (l : OutputSymlinkValue) (p : List (List ℕ)) (x : NodeValue) → StandForAll B xs es → Contains (links_among xs) l → l.path ≡ p → x ≡ nodes.Link l.target → Contains (outputs_form es) (p, x)
link_stands B [] es l p x h (k, lt, is) path node = absurd (omega arith)
link_stands B (y ∷ xs) [] l p x h c path node = elim h [ ]
link_stands B (link g ∷ xs) (e ∷ es) l p x h (zero, lt, is) path node = shown es e p x (h.0 ∙ ap (λ (q : OutputSymlinkValue). q.path) is ∙ path) (ap output_node h.1 ∙ ap (λ (q : OutputSymlinkValue). nodes.Link q.target) is ∙ sym node)
link_stands B (link g ∷ xs) (e ∷ es) l p x h (suc k, lt, is) path node = behind (e.0, output_node e.1) (outputs_form es) (p, x) (link_stands B xs es l p x h.2 (k, omega (arith, lt), is) path node)
link_stands B (file f ∷ xs) (e ∷ es) l p x h c path node = behind (e.0, output_node e.1) (outputs_form es) (p, x) (link_stands B xs es l p x h.2 c path node)
link_stands B (directory d ∷ xs) (e ∷ es) l p x h c path node = behind (e.0, output_node e.1) (outputs_form es) (p, x) (link_stands B xs es l p x h.2 c path node)

directory_stands : (B : Blobs) (xs : List RecordedValue) (es : List (List (List ℕ) × OutputValue)) (d : OutputDirectoryValue) (p : List (List ℕ)) (x : NodeValue) (t : TreeValue) → StandForAll B xs es → Contains (directories_among xs) d → d.path ≡ p → IsTold IsTree tree_bytes B d.tree t → x ≡ tree_node t → Contains (outputs_form es) (p, x)
directory_stands B [] es d p x t h (k, lt, is) path told node = absurd (omega arith)
directory_stands B (y ∷ xs) [] d p x t h c path told node = elim h [ ]
directory_stands B (directory g ∷ xs) (e ∷ es) d p x t h (zero, lt, is) path told node =
    let one = tree_once B d.tree h.1.0 t (subst (λ (q : OutputDirectoryValue). IsTold IsTree tree_bytes B q.tree h.1.0) is h.1.1) told in
    shown es e p x (h.0 ∙ ap (λ (q : OutputDirectoryValue). q.path) is ∙ path) (ap output_node h.1.2 ∙ ap tree_node one ∙ sym node)
directory_stands B (directory g ∷ xs) (e ∷ es) d p x t h (suc k, lt, is) path told node = behind (e.0, output_node e.1) (outputs_form es) (p, x) (directory_stands B xs es d p x t h.2 (k, omega (arith, lt), is) path told node)
directory_stands B (file f ∷ xs) (e ∷ es) d p x t h c path told node = behind (e.0, output_node e.1) (outputs_form es) (p, x) (directory_stands B xs es d p x t h.2 c path told node)
directory_stands B (link l ∷ xs) (e ∷ es) d p x t h c path told node = behind (e.0, output_node e.1) (outputs_form es) (p, x) (directory_stands B xs es d p x t h.2 c path told node)

stands : (B : Blobs) (xs : List RecordedValue) (es : List (List (List ℕ) × OutputValue)) (p : List (List ℕ)) (x : NodeValue) → StandForAll B xs es → Among B xs p x → Contains (outputs_form es) (p, x)
stands B xs es p x h (inl c) = file_stands B xs es c.0 p x h c.1 c.2 c.3
stands B xs es p x h (inr (inl c)) = link_stands B xs es c.0 p x h c.1 c.2 c.3
stands B xs es p x h (inr (inr c)) = directory_stands B xs es c.0 p x c.3 h c.1 c.2 c.4 c.5

-- of a recorded outcome, a node stands at an output path exactly where the result records it there
pub recorded_at : (B : Blobs) (r : ActionResultValue) (o : OutcomeValue) (p : List (List ℕ)) (x : NodeValue) → IsRecorded B r o → Contains (outputs_form o.outputs) (p, x) ↔ StandsAmong B r.files r.symlinks r.directories p x
recorded_at B r o p x h = (
  (λ c. rw (h.ordered.files, h.ordered.symlinks, h.ordered.directories) at (records B h.recorded o.outputs p x h.outputs c)),
  (λ a. stands B h.recorded o.outputs p x h.outputs (let among : Among B h.recorded p x = rw (h.ordered.files, h.ordered.symlinks, h.ordered.directories) a in among)),
)

-- an output is among those of its kind, and has a node, where the Trees of the directories are told
pub is_among : (B : Blobs) (xs : List RecordedValue) (y : RecordedValue) → Contains xs y → AllByRecursion (λ (d : OutputDirectoryValue). (t : TreeValue) × IsTold IsTree tree_bytes B d.tree t) (directories_among xs)
    → (x : NodeValue) × Among B xs (recorded_path y) x
is_among B [] y (k, lt, is) told = absurd (omega (arith, lt))
is_among B (file f ∷ xs) y (zero, lt, is) told = (nodes.File f.digest f.executable, inl (f, first f (files_among xs), ap recorded_path is, refl))
is_among B (link l ∷ xs) y (zero, lt, is) told = (nodes.Link l.target, inr (inl (l, first l (links_among xs), ap recorded_path is, refl)))
is_among B (directory d ∷ xs) y (zero, lt, is) told = let t = told.0 in (tree_node t.0, inr (inr (d, first d (directories_among xs), ap recorded_path is, t.0, t.1, refl)))
is_among B (file f ∷ xs) y (suc k, lt, is) told = let rest = is_among B xs y (k, omega (arith, lt), is) told in (rest.0, later B (file f) xs (recorded_path y) rest.0 rest.1)
is_among B (link l ∷ xs) y (suc k, lt, is) told = let rest = is_among B xs y (k, omega (arith, lt), is) told in (rest.0, later B (link l) xs (recorded_path y) rest.0 rest.1)
is_among B (directory d ∷ xs) y (suc k, lt, is) told = let rest = is_among B xs y (k, omega (arith, lt), is) told.1 in (rest.0, later B (directory d) xs (recorded_path y) rest.0 rest.1)

-- so in a result
pub has_node : (B : Blobs) (r : ActionResultValue) (xs : List RecordedValue) (y : RecordedValue) → AreOutputs r xs → Contains xs y → AllByRecursion (λ (d : OutputDirectoryValue). (t : TreeValue) × IsTold IsTree tree_bytes B d.tree t) r.directories
    → (x : NodeValue) × StandsAmong B r.files r.symlinks r.directories (recorded_path y) x
has_node B r xs y are inside told =
    by (is_among B xs y inside (subst (AllByRecursion (λ (d : OutputDirectoryValue). (t : TreeValue) × IsTold IsTree tree_bytes B d.tree t)) (sym are.directories) told))
  where
    by : (x : NodeValue) × Among B xs (recorded_path y) x → (x : NodeValue) × StandsAmong B r.files r.symlinks r.directories (recorded_path y) x
    by (x, among) = (x, rw (are.files, are.symlinks, are.directories) at among)
