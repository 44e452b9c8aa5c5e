-- Why a folder isn't read, or an output isn't added.
use Rattle.std.proofs.Common.{◌≡◌, ℕ, zero, suc, ◌<◌, ◌≤◌, length, take, get_or, List, [], ◌∷◌, ◌++◌, sym, subst, ◌∙◌, ap, refl, arith, inl, inr, Some, length-append}
use Rattle.std.specs.Prelude.{◌⊎◌, Contains, map}
use Rattle.std.specs.List.{AllByRecursion}
use Rattle.std.specs.declared.vec.Vec.{Vec}
use Rattle.std.proofs.lemmas.List.{map-append, take-append-le}
use Rattle.actions.specs.Outcome.{ExplainsAdd, LeavesNoRoom, OutcomeValue, paths_of_outputs}
use Rattle.std.specs.declared.io.Error.{Error}
use Rattle.std.specs.declared.io.ErrorKind.TheVariants.{InvalidData}
use Rattle.std.specs.IoError.{error_kind}
use Rattle.actions.proofs.TreeLookups.{all_at}
use Rattle.messages.specs.Directory.{directory_bytes}
use Rattle.messages.specs.DirectoryRules.{DirectoryValue, IsDirectory}
use Rattle.messages.specs.Gives.{FailsUnlessMemory}
use Rattle.messages.specs.Path.{Overlap, AreApart, path_text}
use Rattle.messages.specs.Tree.{IsTree, tree_with}
use Rattle.messages.specs.declared.error.MessageError.{MessageError}
use Rattle.std.specs.Prelude.{Ok}
use Rattle.tree.specs.FlatTree.{FlatValue, standing_in, IsTaken}
use Rattle.tree.specs.Tree.{Name, a_directory}
use Rattle.tree.specs.TreeError.{IsOverlapAt}
use Rattle.tree.specs.declared.error.AddError.{AddError}
use Rattle.tree.specs.declared.error.AddError.TheVariants as adding
use Rattle.tree.proofs.DirectoryBytes.{directory_bytes_injective}
use Rattle.tree.proofs.OwnDirectories.{no_refusal}
use Rattle.tree.proofs.TreeDigests.{valid_digests}
use Rattle.tree.specs.Folded.{items_of}
use Rattle.processes.specs.declared.trouble.Trouble.{Trouble}
use Rattle.processes.specs.declared.trouble.Trouble.TheVariants as troubles
use Rattle.processes.specs.Collected.{IsListedTwice, IsUnread, IsUnreadAt, IsUnwalked, MakesNoTree, WasCollected}
use Rattle.processes.specs.Laying.{place_in}
use Rattle.processes.specs.Walking.{AreOfNone, AreOfNoTree, IsOfAdding, IsOfMessage, IsOfSystem, IsUnreadOutput, TellsTrouble}
use Rattle.processes.specs.Workshop.{Works}
use Rattle.processes.proofs.Lists.{around}
use Rattle.processes.proofs.Walks.{IsSoFar}

module _ {R C E : Type 0} (works : Works R C E) (ended : E) where
  -- where a folder's entry has no room, its name was seen
  taken_seen : (place : List ℕ) (path : List Name) (n : Name) (seen : List Name) (old was : FlatValue) (before after : List (List ℕ)) → IsSoFar works ended place path seen old was before after → IsTaken was (path ++ n ∷ []) → Contains seen n
  taken_seen place path n seen old was before after s (inl some) = (s.found.names n).1 some
  taken_seen place path n seen old was before after s (inr (k, pos, lt, x, leaf)) =
      let count = length-append path (n ∷ []) in
      let le : k ≤ length path = omega (arith, count, lt) in
      let directory : standing_in was (take k (path ++ n ∷ [])) ≡ a_directory = ap (standing_in was) (take-append-le k path (n ∷ []) le) ∙ s.above k pos le in
      absurd (let both = sym leaf ∙ directory in cc)

  pub listed_twice : {X : Type 0} (f : X → Name) (place : List ℕ) (path : List Name) (names : List X) (i : ℕ) (x : X) → i < length names → x ≡ get_or names i x → works.lists ended place (Some (map f names))
      → (old was : FlatValue) (before after : List (List ℕ)) → IsSoFar works ended place path (map f (take i names)) old was before after → IsTaken was (path ++ f x ∷ []) → IsListedTwice works ended place
  listed_twice f place path names i x lt is listed old was before after s taken =
      let whole = around names i x lt is in record {
        path = [];
        before = map f (take i names);
        name = f x;
        after = map f whole.0;
        listed = subst (λ ns. works.lists ended place (Some ns)) (ap (map f) whole.1 ∙ map-append f (take i names) (x ∷ whole.0)) listed;
        again = taken_seen place path (f x) (map f (take i names)) old was before after s taken;
      }

  module _ (place : List ℕ) where
    -- a walk of the place ends, or what stands there isn't read
    abbrev Unwalked : Trouble → Type 0
    Unwalked t = TellsTrouble (λ error. IsUnwalked works ended error place) t

    abbrev Unread : Trouble → Type 0
    Unread t = TellsTrouble (λ error. IsUnreadAt works ended error place) t

    pub add_unread : {A : Type 0} (e : AddError A) (t : Trouble) (p : List Name) (Taken : Type 0) → IsOfAdding e t → IsOverlapAt e p Taken → (Taken → IsListedTwice works ended place) → Unwalked t
    add_unread adding.Memory t p Taken is over twice = subst Unwalked (sym is) tt
    add_unread (adding.Overlap path) t p Taken (error, kind, is) over twice = subst Unwalked (sym is) (inr (kind, twice over.1))

    pub output_unread : {A : Type 0} (e : AddError A) (t : Trouble) (o : OutcomeValue) (p path : List Name) → p ≡ path → IsOfAdding e t → ExplainsAdd o p e → TellsTrouble (IsUnreadOutput works ended place o path) t
    output_unread adding.Memory t o p path same is why = subst (TellsTrouble (IsUnreadOutput works ended place o path)) (sym is) tt
    output_unread (adding.Overlap q) t o p path same (error, kind, is) why = subst (TellsTrouble (IsUnreadOutput works ended place o path)) (sym is) (inr (kind, subst (LeavesNoRoom o) same why.1))

    -- a call that looks at the place was refused
    pub here_unwalked : (t : Trouble) → TellsTrouble (works.unread ended place) t → Unwalked t
    here_unwalked (troubles.Unread error) h = inl ([], h)
    here_unwalked troubles.NoOutput h = tt
    here_unwalked troubles.Memory h = tt

    -- or one that looks at what has this name there
    named_unwalked : (n : Name) (error : Error) → IsUnwalked works ended error (place_in place n) → IsUnwalked works ended error place
    named_unwalked n error (inl (path, h)) = inl (n ∷ path, h)
    named_unwalked n error (inr (kind, twice)) = inr (kind, record { path = n ∷ twice.path; before = twice.before; name = twice.name; after = twice.after; listed = twice.listed; again = twice.again })

    pub below_unwalked : (n : Name) (q : List ℕ) → q ≡ place_in place n → (t : Trouble) → TellsTrouble (λ error. IsUnwalked works ended error q) t → Unwalked t
    below_unwalked n q is (troubles.Unread error) h = named_unwalked n error (subst (IsUnwalked works ended error) is h)
    below_unwalked n q is troubles.NoOutput h = tt
    below_unwalked n q is troubles.Memory h = tt

    pub walk_unread : (t : Trouble) → Unwalked t → Unread t
    walk_unread (troubles.Unread error) h = inl h
    walk_unread troubles.NoOutput h = tt
    walk_unread troubles.Memory h = tt

    pub unread_added : (o : OutcomeValue) (path : List Name) (t : Trouble) → Unread t → TellsTrouble (IsUnreadOutput works ended place o path) t
    unread_added o path (troubles.Unread error) h = inl h
    unread_added o path troubles.NoOutput h = tt
    unread_added o path troubles.Memory h = tt

-- a system's error, of which this is so
pub system_tells : (Fails : Error → Type 0) (error : Error) (t : Trouble) → IsOfSystem error t → Fails error → TellsTrouble Fails t
system_tells Fails error t (inl memory) h = subst (TellsTrouble Fails) (sym memory.1) tt
system_tells Fails error t (inr other) h = subst (TellsTrouble Fails) (sym other.1) h

-- ---- encodings of no Directories

one_directory : {A : Type 0} (ds : List DirectoryValue) (bs : List (Vec ℕ A)) (i : ℕ) (x : Vec ℕ A) → i < length bs → x ≡ get_or bs i x → AllByRecursion IsDirectory ds → map directory_bytes ds ≡ items_of bs
    → (d : DirectoryValue) × IsDirectory d × (x.items ≡ directory_bytes d)
one_directory ds [] i x lt is valid same = absurd (omega (arith, lt))
one_directory [] (b ∷ bs) i x lt is valid same = absurd (let e = same in cc)
one_directory (d ∷ ds) (b ∷ bs) zero x lt is valid same =
    let head : directory_bytes d ≡ b.items = (let e = same in cc) in (d, valid.0, ap (λ v. v.items) is ∙ sym head)
one_directory (d ∷ ds) (b ∷ bs) (suc i) x lt is valid same =
    let rest : map directory_bytes ds ≡ items_of bs = (let e = same in cc) in one_directory ds bs i x (omega (arith, lt)) is valid.1 rest

pub none_decoded : {A : Type 0} (bs : List (Vec ℕ A)) (i : ℕ) (x : Vec ℕ A) (e : MessageError) (t : Trouble) → i < length bs → x ≡ get_or bs i x → IsOfMessage e t
    → ((d : DirectoryValue) → IsDirectory d → x.items ≡ directory_bytes d → FailsUnlessMemory e (Ok d)) → (t ≡ troubles.Memory) ⊎ AreOfNone (items_of bs)
none_decoded bs i x e t lt is (inl memory) only = inl memory.1
none_decoded bs i x e t lt is (inr other) only = inr (λ ds valid same. let one = one_directory ds bs i x lt is valid same in no_refusal e one.0 other.0 (only one.0 one.1 one.2))

pub none_of_tree : (bs : List (List ℕ)) → AreOfNone bs → AreOfNoTree bs
none_of_tree bs none m tree same = none (m.root ∷ m.children) (tree.root, tree.children) same

pub none_empty : (ds : List DirectoryValue) (bs : List (List ℕ)) → map directory_bytes ds ≡ bs → length ds ≡ 0 → AreOfNoTree bs
none_empty [] bs bytes empty m tree same = let none = same ∙ sym bytes in cc
none_empty (d ∷ ds) bs bytes empty m tree same = omega (arith, empty)

same_directories : (ds es : List DirectoryValue) → AllByRecursion IsDirectory ds → AllByRecursion IsDirectory es → map directory_bytes ds ≡ map directory_bytes es → ds ≡ es
same_directories [] [] h k same = refl
same_directories [] (e ∷ es) h k same = absurd (let z = same in cc)
same_directories (d ∷ ds) [] h k same = absurd (let z = same in cc)
same_directories (d ∷ ds) (e ∷ es) h k same =
    let head : directory_bytes d ≡ directory_bytes e = (let z = same in cc) in
    let tail : map directory_bytes ds ≡ map directory_bytes es = (let z = same in cc) in
    let one = directory_bytes_injective d e (valid_digests d h.0) (valid_digests e k.0) head in
    let rest = same_directories ds es h.1 k.1 tail in
    ap (λ x. x ∷ ds) one ∙ ap (λ xs. e ∷ xs) rest

pub none_made : (root : DirectoryValue) (children : List DirectoryValue) (bs : List (List ℕ)) (e : MessageError) (t : Trouble) → AllByRecursion IsDirectory (root ∷ children) → map directory_bytes (root ∷ children) ≡ bs → IsOfMessage e t
    → (IsTree (tree_with root children) → FailsUnlessMemory e (Ok (tree_with root children))) → (t ≡ troubles.Memory) ⊎ AreOfNoTree bs
none_made root children bs e t valid bytes (inl memory) only = inl memory.1
none_made root children bs e t valid bytes (inr other) only = inr (λ m tree same.
    let equal = same_directories (m.root ∷ m.children) (root ∷ children) (tree.root, tree.children) valid (same ∙ sym bytes) in
    let roots : m.root ≡ root = (let z = equal in cc) in
    let rest : m.children ≡ children = (let z = equal in cc) in
    let tree_is : IsTree (tree_with root children) = subst (λ r. IsTree (tree_with r children)) roots (subst (λ cs. IsTree (tree_with m.root cs)) rest tree) in
    no_refusal e (tree_with root children) other.0 (only tree_is))

-- ---- paths that overlap

pub not_apart : (paths : List (List Name)) (i : ℕ) (path other : List Name) → i < length paths → path ≡ get_or paths i path → Contains (take i paths) other → Overlap other path → AreApart paths → ⊥
not_apart [] i path other lt is among over apart = omega (arith, lt)
not_apart (p ∷ ps) zero path other lt is (k, less, at) over apart = omega (arith, less)
not_apart (p ∷ ps) (suc i) path other lt is (zero, less, at) over apart =
    all_at (λ q. Overlap p q → ⊥) ps path apart.0 (i, omega (arith, lt), sym is) (subst (λ q. Overlap q path) (sym at) over)
not_apart (p ∷ ps) (suc i) path other lt is (suc k, less, at) over apart = not_apart ps i path other (omega (arith, lt)) is (k, omega (arith, less), at) over apart.1

pub unread_output : {R C E : Type 0} (works : Works R C E) (ended : E) (folder place : List ℕ) (paths : List (List Name)) (i : ℕ) (path : List Name) (o : OutcomeValue) (error : Error) → i < length paths → path ≡ get_or paths i path → place ≡ place_in folder (path_text path)
    → AllByRecursion (WasCollected works ended folder) (take i paths) → ((q : List Name) → Contains (paths_of_outputs o.outputs) q → Contains (take i paths) q) → IsUnreadOutput works ended place o path error → IsUnread works ended folder paths error
unread_output works ended folder place paths i path o error lt is at collected among (inl unread) =
    let whole = around paths i path lt is in
    inl (path, record { before = take i paths; after = whole.0; whole = whole.1; collected = collected; is = subst (IsUnreadAt works ended error) at unread })
unread_output works ended folder place paths i path o error lt is at collected among (inr (kind, (other, there, over))) = inr (kind, not_apart paths i path other lt is (among other there) over)

-- what was listed makes no Tree
pub tree_unread : {R C E : Type 0} (works : Works R C E) (ended : E) (place : List ℕ) (t r : Trouble) (bs : List (List ℕ)) → (t ≡ troubles.Memory) ⊎ AreOfNoTree bs
    → (r ≡ troubles.Memory) ⊎ ((t ≡ troubles.Memory → ⊥) × ((error : Error) × (error_kind error ≡ InvalidData) × (r ≡ troubles.Unread error))) → (AreOfNoTree bs → MakesNoTree works ended place) → TellsTrouble (λ error. IsUnreadAt works ended error place) r
tree_unread works ended place t r bs none (inl memory) makes = subst (TellsTrouble (λ error. IsUnreadAt works ended error place)) (sym memory) tt
tree_unread works ended place t r bs (inl memory) (inr other) makes = absurd (other.0 memory)
tree_unread works ended place t r bs (inr none) (inr (other, (error, kind, is))) makes = subst (TellsTrouble (λ error. IsUnreadAt works ended error place)) (sym is) (inr (kind, makes none))
