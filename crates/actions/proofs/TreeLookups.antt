-- A look-up in a tree, name by name: each directory that a node names is one of the tree's children.
use Rattle.std.proofs.Common.{◌≡◌, ◌≢◌, ℕ, zero, suc, ◌<◌, List, [], ◌∷◌, ◌++◌, length, map, take, drop, get_or, Option, Some, None, option_map, refl, sym, ap, subst, ◌∙◌, inl, arith}
use Rattle.std.specs.Prelude.{◌==◌, Contains, slice_get, MatchOption, IsSome, IfSome, Result, Ok, Err, IfOk}
use Rattle.std.proofs.lemmas.Option.{slice_get_read}
use Rattle.std.specs.Borrow.{Bor}
use Rattle.std.specs.List.{AllByRecursion}
use Rattle.std.proofs.lemmas.List.{take-map}
use Rattle.std.proofs.lemmas.List.Splits.{length-slice_split}
use Rattle.std.proofs.lemmas.List.Elements.{Contains-append_left, Contains-append_right}
use Rattle.blob_digest.specs.Digest.{DigestValue, digest_of}
use Rattle.messages.specs.declared.node.Node.{Node}
use Rattle.messages.specs.declared.node.Node.TheVariants.{File, Link, Dir}
use Rattle.messages.specs.DirectoryRules.{DirectoryValue, symlink_names}
use Rattle.messages.specs.Directory.{directory_bytes}
use Rattle.messages.specs.Tree.{TreeValue, IsTree, node_digests, named_by, named_in, digests_of, child_digests}
use Rattle.messages.specs.Node.{IsChild, child}
use Rattle.messages.specs.Path.{parts_of}
use Rattle.messages.proofs.Paths.{parts-seam, parts-one}
use Rattle.messages.proofs.Children.{child_stands}
use Rattle.tree.specs.Form.{NodeValue, node_value}
use Rattle.tree.specs.Lookup.{Looked, nothing, looked, LooksFrom}
use Rattle.tree.specs.Merging.{in_tree, IsHeldIn}
use Rattle.tree.proofs.Children.{child_value}
use Rattle.tree.proofs.MergeHeld.{first_among}
use Rattle.tree.proofs.MergeTrees.{NotAmong, before_all, same_count}
use Rattle.actions.specs.declared.outcome.Output.TheVariants as outputs
use Rattle.actions.specs.OutcomeLookup.{IsFirstChild, NoFault, NamesLink, TakesMemory}
use Rattle.actions.specs.Parts.{IsChildOf, LooksUnder}

-- ---- what lists hold

pub behind : {X : Type 0} (y : X) (xs : List X) (x : X) → Contains xs x → Contains (y ∷ xs) x
behind y xs x (k, lt, e) = (suc k, omega (arith, lt), e)

pub holds_mapped : {X Y : Type 0} (f : X → Y) (xs : List X) (x : X) → Contains xs x → Contains (map f xs) (f x)
holds_mapped f [] x (k, lt, e) = absurd (omega arith)
holds_mapped f (y ∷ xs) x (zero, lt, e) = (0, omega arith, ap f e)
holds_mapped f (y ∷ xs) x (suc k, lt, e) = behind (f y) (map f xs) (f x) (holds_mapped f xs x (k, omega (arith, lt), e))

pub all_at : {X : Type 0} (P : X → Type 0) (xs : List X) (x : X) → AllByRecursion P xs → Contains xs x → P x
all_at P [] x all (k, lt, e) = absurd (omega arith)
all_at P (y ∷ xs) x all (zero, lt, e) = subst P e all.0
all_at P (y ∷ xs) x all (suc k, lt, e) = all_at P xs x all.1 (k, omega (arith, lt), e)

-- ---- what a tree's directories name

named : (ds : List DirectoryValue) (m : DirectoryValue) (d : DigestValue) → Contains ds m → Contains (node_digests m.directories) d → Contains (named_by ds) d
named [] m d (k, lt, e) h = absurd (omega arith)
named (x ∷ ds) m d (zero, lt, e) h = Contains-append_left (node_digests x.directories) (named_by ds) d (subst (λ y. Contains (node_digests y.directories) d) (sym e) h)
named (x ∷ ds) m d (suc k, lt, e) h = Contains-append_right (node_digests x.directories) (named_by ds) d (named ds m d (k, omega (arith, lt), e) h)

-- a child of one of the tree's directories
pub child_named : {A : Type 0} (t : TreeValue) (m : DirectoryValue) (name : List ℕ) (node : Node A) → IsTree t → Contains (t.root ∷ t.children) m → Some node ≡ child name m → IsChildOf t node
child_named {A} t m name node is here stands = λ digest e.
    let at : IsChild {A = A} name m (Some (Dir digest)) = subst (IsChild {A = A} name m) (sym stands ∙ ap Some e) (child_stands A name m) in
    all_at (Contains (child_digests t)) (named_in t) digest is.held (named (t.root ∷ t.children) m digest here (holds_mapped (λ n. n.digest) m.directories _ at))

pub root_there : (t : TreeValue) → Contains (t.root ∷ t.children) t.root
root_there t = (0, omega arith, refl)

pub first_there : (t : TreeValue) (d : DigestValue) (m : DirectoryValue) → IsFirstChild t d m → Contains (t.root ∷ t.children) m
first_there t d m h = behind t.root t.children m (first_among t.children d m h)

-- ---- the first child with a digest

digests_taken : (n : ℕ) (ms : List DirectoryValue) → take n (digests_of (map directory_bytes ms)) ≡ digests_of (map directory_bytes (take n ms))
digests_taken n ms = take-map digest_of n (map directory_bytes ms) ∙ ap digests_of (take-map directory_bytes n ms)

digest_there : (ms : List DirectoryValue) (i : ℕ) (m : DirectoryValue) (e : DigestValue) → slice_get ms i ≡ Some m → i < length (digests_of (map directory_bytes ms)) → e ≡ get_or (digests_of (map directory_bytes ms)) i e → digest_of (directory_bytes m) ≡ e
digest_there [] i m e at lt is = absurd cc
digest_there (x ∷ ms) zero m e at lt is = let same : x ≡ m = cc in ap (λ y. digest_of (directory_bytes y)) (sym same) ∙ sym is
digest_there (x ∷ ms) (suc i) m e at lt is = digest_there ms i m e at (omega (arith, lt)) is

parted : (ms : List DirectoryValue) (i : ℕ) (m : DirectoryValue) → slice_get ms i ≡ Some m → ms ≡ take i ms ++ m ∷ drop (suc i) ms
parted [] i m at = absurd cc
parted (x ∷ ms) zero m at = let same : x ≡ m = cc in ap (λ y. y ∷ ms) same
parted (x ∷ ms) (suc i) m at = ap (λ l. x ∷ l) (parted ms i m at)

pub first_found : (t : TreeValue) (d e : DigestValue) (i : ℕ) (m : DirectoryValue) → NotAmong d (take i (child_digests t)) → i < length (child_digests t) → e ≡ get_or (child_digests t) i e → e ≡ d → slice_get t.children i ≡ Some m → IsFirstChild t d m
first_found t d e i m none lt is same at = record {
  before = take i t.children;
  behind = drop (suc i) t.children;
  stands = parted t.children i m at;
  right = digest_there t.children i m e at lt is ∙ same;
  first = before_all d (take i t.children) (subst (NotAmong d) (digests_taken i t.children) none);
}

-- ---- the walk

abbrev pub LooksOn : TreeValue → List (List ℕ) → Option NodeValue → Looked → Type 0
LooksOn t names o r = LooksFrom (IsFirstChild t) NoFault names o r

no_slash : (text : List ℕ) → (Contains text 47 → ⊥) → AllByRecursion (λ b. b ≢ 47) text
no_slash [] none = tt
no_slash (b ∷ text) none = ((λ e. none (0, omega arith, e)), no_slash text (λ h. none (behind b text 47 h)))

-- the names of a text with a slash
first_part : (text front more : List ℕ) → text ≡ front ++ 47 ∷ more → (Contains front 47 → ⊥) → parts_of text ≡ front ∷ parts_of more
first_part text front more e none = ap parts_of e ∙ parts-seam front more ∙ ap (λ (l : List (List ℕ)). l ++ parts_of more) (parts-one front (no_slash front none))

pub some_part : (text : List ℕ) → parts_of text ≡ [] → ⊥
some_part text e = omega (arith, ap length e, length-slice_split (λ b. b == 47) text)

-- the last name
looks_last : {A : Type 0} (t : TreeValue) (m : DirectoryValue) (text : List ℕ) (o : Option (Node A)) → (Contains text 47 → ⊥) → o ≡ child text m → LooksUnder t m (parts_of text) (looked o)
looks_last {A} t m text o none stands =
    let same : option_map node_value o ≡ child text m = ap (option_map node_value) stands ∙ child_value A text m in
    subst (λ names. LooksUnder t m names (looked o)) (sym (parts-one text (no_slash text none))) (subst (λ x. LooksOn t [] x (looked o)) same (ends o))
  where
    ends : (x : Option (Node A)) → LooksOn t [] (option_map node_value x) (looked x)
    ends None = refl
    ends (Some x) = refl

pub look_ends : {A E : Type 0} (t : TreeValue) (m : DirectoryValue) (text : List ℕ) (r : Result (Option (Node A)) E) → (Contains text 47 → ⊥) → IfOk r (λ o. o ≡ child text m) → IfOk r (λ o. LooksUnder t m (parts_of text) (looked o))
look_ends t m text (Ok o) none h = looks_last t m text o none h
look_ends t m text (Err e) none h = tt

pub held_last : {A E : Type 0} (t : TreeValue) (m : DirectoryValue) (name : List ℕ) (r : Result (Option (Node A)) E) → IsTree t → Contains (t.root ∷ t.children) m → IfOk r (λ o. o ≡ child name m) → IfOk r (λ o. IfSome o (IsChildOf t))
held_last t m name (Ok None) is here h = tt
held_last t m name (Ok (Some node)) is here h = child_named t m name node is here h
held_last t m name (Err e) is here h = tt

-- a name before others: from what stands under it they are looked up
pub looks_first : {A : Type 0} (t : TreeValue) (m : DirectoryValue) (text front more : List ℕ) (o : Option (Node A)) (r : Looked) → text ≡ front ++ 47 ∷ more → (Contains front 47 → ⊥) → o ≡ child front m
    → LooksOn t (parts_of more) (option_map node_value o) r → LooksUnder t m (parts_of text) r
looks_first {A} t m text front more o r e none stands below =
    let same : option_map node_value o ≡ child front m = ap (option_map node_value) stands ∙ child_value A front m in
    subst (λ names. LooksUnder t m names r) (sym (first_part text front more e none)) (subst (λ x. LooksOn t (parts_of more) x r) same below)

pub looks_leaf : {A : Type 0} (t : TreeValue) (more : List ℕ) (node : Node A) → ((d : DigestValue) → node ≡ Dir d → ⊥) → LooksOn t (parts_of more) (Some (node_value node)) nothing
looks_leaf {A} t more node none = leaf node none (parts_of more) (some_part more)
  where
    leaf : (x : Node A) → ((d : DigestValue) → x ≡ Dir d → ⊥) → (rest : List (List ℕ)) → (rest ≡ [] → ⊥) → LooksOn t rest (Some (node_value x)) nothing
    leaf (File e b) other [] s = absurd (s refl)
    leaf (Link e) other [] s = absurd (s refl)
    leaf (Dir e) other rest s = absurd (other e refl)
    leaf (File e b) other (n ∷ rest) s = refl
    leaf (Link e) other (n ∷ rest) s = refl

looks_next : (t : TreeValue) (d : DigestValue) (m : DirectoryValue) (names : List (List ℕ)) (r : Looked) → IsFirstChild t d m → LooksUnder t m names r → LooksOn t names (Some (Dir d)) r
looks_next t d m [] r first h = elim h [ ]
looks_next t d m (name ∷ names) r first h = inl (m, first, h)

pub looks_deeper : {A E : Type 0} (t : TreeValue) (m : DirectoryValue) (text front more : List ℕ) (node : Node A) (d : DigestValue) (next : DirectoryValue) (r : Result (Option (Node A)) E) → text ≡ front ++ 47 ∷ more → (Contains front 47 → ⊥) → Some node ≡ child front m → node ≡ Dir d → IsFirstChild t d next
    → IfOk r (λ o. LooksUnder t next (parts_of more) (looked o)) → IfOk r (λ o. LooksUnder t m (parts_of text) (looked o))
looks_deeper t m text front more node d next (Ok o) e none stands dir first h =
    looks_first t m text front more (Some node) (looked o) e none stands (subst (λ x. LooksOn t (parts_of more) (Some (node_value x)) (looked o)) (sym dir) (looks_next t d next (parts_of more) (looked o) first h))
looks_deeper t m text front more node d next (Err e) is none stands dir first h = tt

-- ---- what takes memory

pub link_last : (t : TreeValue) (m : DirectoryValue) (text : List ℕ) → (Contains text 47 → ⊥) → Contains (t.root ∷ t.children) m → Contains (symlink_names m.symlinks) text → NamesLink t (parts_of text)
link_last t m text none here h = (m, here, text, subst (λ (l : List (List ℕ)). Contains l text) (sym (parts-one text (no_slash text none))) (0, omega arith, refl), h)

pub link_first : (t : TreeValue) (m : DirectoryValue) (text front more : List ℕ) → text ≡ front ++ 47 ∷ more → (Contains front 47 → ⊥) → Contains (t.root ∷ t.children) m → Contains (symlink_names m.symlinks) front → NamesLink t (parts_of text)
link_first t m text front more e none here h = (m, here, front, subst (λ (l : List (List ℕ)). Contains l front) (sym (first_part text front more e none)) (0, omega arith, refl), h)

pub link_deeper : (t : TreeValue) (text front more : List ℕ) → text ≡ front ++ 47 ∷ more → (Contains front 47 → ⊥) → NamesLink t (parts_of more) → NamesLink t (parts_of text)
link_deeper t text front more e none h = (h.0, h.1, h.2, subst (λ (l : List (List ℕ)). Contains l h.2) (sym (first_part text front more e none)) (behind front (parts_of more) h.2 h.3), h.4)

pub takes_in_tree : (t : TreeValue) (names : List (List ℕ)) → NamesLink t names → TakesMemory (outputs.Tree t) names
takes_in_tree t [] h = tt
takes_in_tree t (n ∷ names) h = h

-- ---- as the code has it

pub got_child : (t : TreeValue) (d e : DigestValue) (i : ℕ) (ds : List DigestValue) (ms : List DirectoryValue) (o : Option (Bor DirectoryValue)) → (i < length ms → IsSome o) → IfSome o (λ x. x.now ≡ get_or ms i x.now) → ms ≡ t.children → ds ≡ child_digests t → NotAmong d (take i ds) → i < length ds → e ≡ get_or ds i e → e ≡ d → MatchOption o (Contains (child_digests t) d → ⊥) (λ m. IsFirstChild t d m.now)
got_child t d e i ds ms None some at here held none lt is same = absurd (never (some (omega (arith, same_count t, ap length held, ap length here, lt))))
  where
    never : IsSome {T = Bor DirectoryValue} None → ⊥
    never h = cc
got_child t d e i ds ms (Some m) some at here held none lt is same =
    let within : i < length t.children = omega (arith, same_count t, ap length held, lt) in
    first_found t d e i m.now (subst (λ l. NotAmong d (take i l)) held none) (subst (λ l. i < length l) held lt) (subst (λ l. e ≡ get_or l i e) held is) same
    (slice_get_read t.children (length t.children) i m.now refl within (subst (λ l. m.now ≡ get_or l i m.now) here at))

-- ---- a node of a tree is held there

pub held_child : {A : Type 0} (t : TreeValue) (node : Node A) → IsTree t → IsChildOf t node → IsHeldIn (in_tree t) (node_value node)
held_child t (File d e) is own = tt
held_child t (Link l) is own = tt
held_child t (Dir d) is own = (is, behind (digest_of (directory_bytes t.root)) (child_digests t) d (own d refl))

pub held_found : {A E : Type 0} (t : TreeValue) (r : Result (Option (Node A)) E) → IsTree t → IfOk r (λ o. IfSome o (IsChildOf t)) → IfOk r (λ o. IfSome o (λ x. IsHeldIn (in_tree t) (node_value x)))
held_found t (Ok None) is h = h
held_found t (Ok (Some x)) is h = held_child t x is h
held_found t (Err e) is h = h
