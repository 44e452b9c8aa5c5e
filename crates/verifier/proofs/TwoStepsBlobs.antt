-- No two different blobs concerned in the run of the build of two steps share a digest.
use Rattle.std.proofs.lemmas.List.Elements.{Contains-append_left}
use Rattle.std.proofs.Common.{append_assoc, cond, ◌≡◌, ℕ, zero, suc, Bool, true, false, List, [], ◌∷◌, ◌++◌, Option, Some, map, refl, ap, sym, ◌∙◌, subst, arith, inl, inr}
use Rattle.std.specs.Prelude.{◌⊎◌, ◌&&◌, not, Contains, codes, bytes_eq}
use Rattle.std.specs.List.{AllByRecursion, list_all}
use Rattle.std.specs.Ordering.{is_eq}
use Rattle.std.proofs.lemmas.Slice.Eq.{bytes_eq-Decides}
use Rattle.hex.specs.Hex.{encode_with, decode_pairs}
use Rattle.sha2.specs.Sha256.{compress, digest_bytes, first_words, hash_after, rounds, schedule, sha256}
use Rattle.wire.specs.Record.{Value, Varint, Eight, Bytes, Four, Record, record_with}
use Rattle.wire.specs.Spelling.{spelling}
use Rattle.wire.specs.Varint.{groups, varint}
use Rattle.canonical.specs.Fields.{message_field, element_fields}
use Rattle.blob_digest.specs.Digest.{DigestValue, digest_of, digest_cmp, NoClash}
use Rattle.messages.specs.Directory.{directory_bytes}
use Rattle.messages.specs.DirectoryRules.{DirectoryValue}
use Rattle.messages.specs.Tree.{TreeValue, tree_bytes}
use Rattle.action_messages.specs.Action.{with_input, action_bytes}
use Rattle.action_messages.specs.Command.{command_bytes}
use Rattle.action_messages.specs.Frame.{frame_bytes}
use Rattle.actions.proofs.TreeBytes.{tree_bytes_injective}
use Rattle.actions.proofs.TreeLookups.{behind, holds_mapped}
use Rattle.tree.specs.Tree.{Name, Tree, empty, leaf, Leaf, file, Entry}
use Rattle.tree.specs.Form.{form, top, IsBlobOf}
use Rattle.tree.specs.Lookup.{IsValue}
use Rattle.tree.specs.Merge.{merge}
use Rattle.verifier.specs.Build.{ActionMeaning, Outcome, Event, start, finish, lose, State, opening, action_of, happens}
use Rattle.verifier.specs.Headline.{IsDirectoryInTree, IsBlobOfAction, IsBlobOfEntry, IsBlobOfOutcome, IsBlobOfStart, IsBlobOfStarts, IsBlobOfChosen, IsConcerned}
use Rattle.verifier.specs.TwoSteps as two
use Rattle.verifier.proofs.TwoSteps.{sources_named, input_named, gen_tree_valid}
use Rattle.tree.proofs.WireRecords.{AreFixed, spelling_injective}
use Rattle.hex.specs.Hex.{encode_lower}
use Rattle.messages.specs.DigestMessage.{digest_bytes as digest_text}
use Rattle.messages.specs.FileNode.{file_node_bytes}
use Rattle.messages.specs.DirectoryNode.{directory_node_bytes}
use Rattle.messages.specs.SymlinkNode.{symlink_node_bytes}
use Rattle.verifier.proofs.TwoStepsRun.{s1, s2, s3, s4, s5, s6, s7}

-- ---- the blobs concerned, and their digests

abbrev pub data_directory : Tree Leaf
data_directory = leaf (codes "x") (file (codes "123456789") false) empty

abbrev others : List (List ℕ)
others =
    frame_bytes two.gen.0.frame ∷
    frame_bytes two.uses.0.frame ∷
    top (form empty) ∷
    top (form two.first_output) ∷
    top (form two.data_input) ∷
    top (form data_directory) ∷
    codes "123456789" ∷
    (10 ∷ []) ∷
    top (form two.built) ∷
    []

abbrev pub all_blobs : List (List ℕ)
all_blobs = map (λ (e : DigestValue × List ℕ). e.1) two.kept_blobs ++ others

abbrev all_digests : List DigestValue
all_digests =
    two.gen_action_digest ∷
    two.use_action_digest ∷
    two.gen_command_digest ∷
    two.use_command_digest ∷
    two.tree_digest ∷
    two.gen_frame_digest ∷
    two.use_frame_digest ∷
    two.sources ∷
    two.digest_named (codes "a8ad7cf07ab5ff95d41832e5f811cf591228eeb51d4886871a776a82245d5712") 75 ∷
    two.input_digest ∷
    two.digest_named (codes "2b127d56dfb9a5f0dc5f3ef28b22d5dda3fa6e156c4bed3f304e23b21ae8136b") 75 ∷
    two.digest_named (codes "15e2b0d3c33891ebb0f1ef609ec419420c20e320ce94c65fbc8c3312448eb225") 9 ∷
    two.newline_digest ∷
    two.claim ∷
    []

digests_are : map digest_of all_blobs ≡ all_digests
unfolding two.sources two.claim two.gen_command_digest two.use_command_digest two.gen_frame_digest two.use_frame_digest two.input_digest two.tree_digest two.gen_action_digest two.use_action_digest two.newline_digest first_words schedule rounds compress hash_after digest_bytes sha256 digest_of groups varint directory_bytes tree_bytes command_bytes frame_bytes action_bytes encode_with decode_pairs
digests_are = refl

-- whether all hashes of the list differ
abbrev all_distinct : List DigestValue → Bool
all_distinct [] = true
all_distinct (d ∷ ds) = list_all (λ (e : DigestValue). not (bytes_eq d.hash e.hash)) ds && all_distinct ds

are_distinct : all_distinct all_digests ≡ true
unfolding two.sources two.claim two.gen_command_digest two.use_command_digest two.gen_frame_digest two.use_frame_digest two.input_digest two.tree_digest two.gen_action_digest two.use_action_digest two.newline_digest decode_pairs
are_distinct = refl

both_true : (a b : Bool) → (a && b) ≡ true → (a ≡ true) × (b ≡ true)
both_true true b e = (refl, e)
both_true false b e = absurd cc

-- a digest that differs from all of a list is none of it
no_other : (d e : DigestValue) (ds : List DigestValue) → list_all (λ (e : DigestValue). not (bytes_eq d.hash e.hash)) ds ≡ true → Contains ds e → d ≡ e → ⊥
no_other d e [] all (k, lt, is) same = omega (arith, lt)
no_other d e (x ∷ ds) all (zero, lt, is) same =
    let first = both_true (not (bytes_eq d.hash x.hash)) (list_all (λ (e : DigestValue). not (bytes_eq d.hash e.hash)) ds) all in
    let hashes : d.hash ≡ x.hash = ap (λ (x : DigestValue). x.hash) (same ∙ sym is) in
    let equal = (bytes_eq-Decides d.hash x.hash).1 hashes in
    let clash : not true ≡ true = ap not (sym equal) ∙ first.0 in
    cc
no_other d e (x ∷ ds) all (suc k, lt, is) same =
    let first = both_true (not (bytes_eq d.hash x.hash)) (list_all (λ (e : DigestValue). not (bytes_eq d.hash e.hash)) ds) all in
    no_other d e ds first.1 (k, omega (arith, lt), is) same

no_clash_among : (bs : List (List ℕ)) → all_distinct (map digest_of bs) ≡ true → (x y : List ℕ) → Contains bs x → Contains bs y → digest_of x ≡ digest_of y → x ≡ y
no_clash_among [] all x y (k, lt, is) c e = absurd (omega (arith, lt))
no_clash_among (b ∷ bs) all x y (zero, lt, is) (zero, mt, at) e = sym is ∙ at
no_clash_among (b ∷ bs) all x y (zero, lt, is) (suc j, mt, at) e =
    let first = both_true (list_all (λ (d : DigestValue). not (bytes_eq (digest_of b).hash d.hash)) (map digest_of bs)) (all_distinct (map digest_of bs)) all in
    absurd (no_other (digest_of b) (digest_of y) (map digest_of bs) first.0 (holds_mapped digest_of bs y (j, omega (arith, mt), at)) (ap digest_of is ∙ e))
no_clash_among (b ∷ bs) all x y (suc k, lt, is) (zero, mt, at) e =
    let first = both_true (list_all (λ (d : DigestValue). not (bytes_eq (digest_of b).hash d.hash)) (map digest_of bs)) (all_distinct (map digest_of bs)) all in
    absurd (no_other (digest_of b) (digest_of x) (map digest_of bs) first.0 (holds_mapped digest_of bs x (k, omega (arith, lt), is)) (ap digest_of at ∙ sym e))
no_clash_among (b ∷ bs) all x y (suc k, lt, is) (suc j, mt, at) e =
    let first = both_true (list_all (λ (d : DigestValue). not (bytes_eq (digest_of b).hash d.hash)) (map digest_of bs)) (all_distinct (map digest_of bs)) all in
    no_clash_among bs first.1 x y (k, omega (arith, lt), is) (j, omega (arith, mt), at) e

pub none_clash : NoClash (Contains all_blobs)
none_clash x y c d e = no_clash_among all_blobs (ap all_distinct digests_are ∙ are_distinct) x y c d e

-- a blob that equals one of them is one of them
pub same_blob : (x b : List ℕ) → Contains all_blobs x → b ≡ x → Contains all_blobs b
same_blob x b c e = subst (Contains all_blobs) (sym e) c

-- ---- what the source has

pub keeping_one : (es : List (DigestValue × List ℕ)) (d : DigestValue) (b : List ℕ) → two.keeping es d ≡ Some b → Contains (map (λ (e : DigestValue × List ℕ). e.1) es) b
keeping_one [] d b is = absurd cc
keeping_one (e ∷ es) d b is = by (is_eq (digest_cmp d e.0)) is (keeping_one es d b)
  where
    by : (q : Bool) → cond q (Some e.1) (two.keeping es d) ≡ Some b → (two.keeping es d ≡ Some b → Contains (map (λ (e : DigestValue × List ℕ). e.1) es) b) → Contains (e.1 ∷ map (λ (e : DigestValue × List ℕ). e.1) es) b
    by true is rest = let same : e.1 ≡ b = cc in (0, omega arith, same)
    by false is rest = behind e.1 (map (λ (e : DigestValue × List ℕ). e.1) es) b (rest is)

pub kept_one : (b : List ℕ) → IsValue two.blobs b → Contains all_blobs b
kept_one b v = Contains-append_left (map (λ (e : DigestValue × List ℕ). e.1) two.kept_blobs) others b (keeping_one two.kept_blobs v.0 b v.1)

-- ---- only one of its blobs is a Tree

elements_fixed : (f : ℕ) (xs : List (List ℕ)) → AreFixed (element_fields f xs)
elements_fixed f [] = tt
elements_fixed f (x ∷ xs) = (tt, elements_fixed f xs)

abbrev pub tree_records : TreeValue → List Record
tree_records t = message_field 1 (Some (directory_bytes t.root)) ++ element_fields 2 (map directory_bytes t.children)

pub tree_spelled : (t : TreeValue) (rs : List Record) → AreFixed rs → spelling rs ≡ tree_bytes t → rs ≡ tree_records t
unfolding tree_bytes
tree_spelled t rs fixed e = spelling_injective rs (tree_records t) fixed (tt, elements_fixed 2 (map directory_bytes t.children)) e

-- a Command has a field 7
no_field_7 : (xs : List (List ℕ)) (text : List ℕ) → record_with 7 (Bytes text) ∷ [] ≡ element_fields 2 xs → ⊥
no_field_7 [] text e = cc
no_field_7 (x ∷ xs) text e =
    let first : record_with 7 (Bytes text) ≡ record_with 2 (Bytes x) = cc in
    let numbers : 7 ≡ 2 = ap (λ (r : Record). r.number) first in
    absurd (omega (arith, numbers))

gen_command_no_tree : (t : TreeValue) → command_bytes two.gen.0.command ≡ tree_bytes t → ⊥
unfolding command_bytes
gen_command_no_tree t e =
    let records = tree_spelled t (record_with 1 (Bytes (codes "/bin/true")) ∷ record_with 7 (Bytes (codes "out")) ∷ []) (tt, (tt, tt)) e in
    let tails : record_with 7 (Bytes (codes "out")) ∷ [] ≡ element_fields 2 (map directory_bytes t.children) = cc in
    no_field_7 (map directory_bytes t.children) (codes "out") tails

pub use_command_no_tree : (t : TreeValue) → command_bytes two.uses.0.command ≡ tree_bytes t → ⊥
unfolding command_bytes
use_command_no_tree t e =
    let records = tree_spelled t (record_with 1 (Bytes (codes "/bin/true")) ∷ record_with 7 (Bytes (codes "res")) ∷ []) (tt, (tt, tt)) e in
    let tails : record_with 7 (Bytes (codes "res")) ∷ [] ≡ element_fields 2 (map directory_bytes t.children) = cc in
    no_field_7 (map directory_bytes t.children) (codes "res") tails

-- the fields of a Directory hold bytes, and a Digest has one that is a number
abbrev HoldsBytes : Value → Type 0
HoldsBytes (Varint n) = ⊥
HoldsBytes (Eight bytes) = Unit {0}
HoldsBytes (Bytes bytes) = Unit {0}
HoldsBytes (Four bytes) = Unit {0}

abbrev AllHoldBytes : List Record → Type 0
AllHoldBytes rs = AllByRecursion (λ (r : Record). HoldsBytes r.value) rs

elements_hold : (f : ℕ) (xs : List (List ℕ)) (rs : List Record) → AllHoldBytes rs → AllHoldBytes (element_fields f xs ++ rs)
elements_hold f [] rs h = h
elements_hold f (x ∷ xs) rs h = (tt, elements_hold f xs rs h)

elements_fixed_before : (f : ℕ) (xs : List (List ℕ)) (rs : List Record) → AreFixed rs → AreFixed (element_fields f xs ++ rs)
elements_fixed_before f [] rs h = h
elements_fixed_before f (x ∷ xs) rs h = (tt, elements_fixed_before f xs rs h)

elements_hold_last : (f : ℕ) (xs : List (List ℕ)) → AllHoldBytes (element_fields f xs)
elements_hold_last f [] = tt
elements_hold_last f (x ∷ xs) = (tt, elements_hold_last f xs)

-- no Directory is spelled by a text and a number
no_directory : (m : DirectoryValue) (text : List ℕ) (n : ℕ) → spelling (record_with 1 (Bytes text) ∷ record_with 2 (Varint n) ∷ []) ≡ directory_bytes m → ⊥
unfolding directory_bytes
no_directory m text n e =
    let files = map file_node_bytes m.files in
    let directories = map directory_node_bytes m.directories in
    let links = map symlink_node_bytes m.symlinks in
    let records : List Record = element_fields 1 files ++ (element_fields 2 directories ++ element_fields 3 links) in
    let joined : element_fields 1 files ++ element_fields 2 directories ++ element_fields 3 links ≡ records = simp append_assoc in
    let fixed : AreFixed records = elements_fixed_before 1 files _ (elements_fixed_before 2 directories _ (elements_fixed 3 links)) in
    let hold : AllHoldBytes records = elements_hold 1 files _ (elements_hold 2 directories _ (elements_hold_last 3 links)) in
    let same = spelling_injective (record_with 1 (Bytes text) ∷ record_with 2 (Varint n) ∷ []) records (tt, (tt, tt)) fixed (e ∙ ap spelling joined) in
    (subst AllHoldBytes (sym same) hold).1.0

-- the first field of an Action is a Digest
gen_action_no_tree : (t : TreeValue) → action_bytes (with_input two.gen.0.frame two.sources) ≡ tree_bytes t → ⊥
unfolding action_bytes two.gen_command_digest decode_pairs encode_with
gen_action_no_tree t e =
    let command = digest_text two.gen_command_digest in
    let input = digest_text two.sources in
    let records = tree_spelled t (record_with 1 (Bytes command) ∷ record_with 2 (Bytes input) ∷ []) (tt, (tt, tt)) e in
    let first : record_with 1 (Bytes command) ≡ record_with 1 (Bytes (directory_bytes t.root)) = cc in
    let values = ap (λ (r : Record). r.value) first in
    let texts : command ≡ directory_bytes t.root = cc in
    no_directory t.root (encode_lower two.gen_command_digest.hash) 16 texts

pub use_action_no_tree : (t : TreeValue) → action_bytes (with_input two.uses.0.frame two.input_digest) ≡ tree_bytes t → ⊥
unfolding action_bytes two.use_command_digest decode_pairs encode_with
use_action_no_tree t e =
    let command = digest_text two.use_command_digest in
    let input = digest_text two.input_digest in
    let records = tree_spelled t (record_with 1 (Bytes command) ∷ record_with 2 (Bytes input) ∷ []) (tt, (tt, tt)) e in
    let first : record_with 1 (Bytes command) ≡ record_with 1 (Bytes (directory_bytes t.root)) = cc in
    let values = ap (λ (r : Record). r.value) first in
    let texts : command ≡ directory_bytes t.root = cc in
    no_directory t.root (encode_lower two.use_command_digest.hash) 16 texts

made_blob : Contains all_blobs (top (form two.first_output))
made_blob = (8, omega arith, refl)

pub in_tree : (b : List ℕ) → IsDirectoryInTree two.blobs b → Contains all_blobs b
in_tree b (t, valid, v, m, inside, is) = by (keeping_one two.kept_blobs v.0 (tree_bytes t) v.1)
  where
    by : Contains (map (λ (e : DigestValue × List ℕ). e.1) two.kept_blobs) (tree_bytes t) → Contains all_blobs b
    by (zero, lt, e) = absurd (gen_action_no_tree t e)
    by (suc zero, lt, e) = absurd (use_action_no_tree t e)
    by (suc (suc zero), lt, e) = absurd (gen_command_no_tree t e)
    by (suc (suc (suc zero)), lt, e) = absurd (use_command_no_tree t e)
    by (suc (suc (suc (suc zero))), lt, e) =
        let tree = tree_bytes_injective two.gen_tree t gen_tree_valid valid e in
        let one : Contains (two.gen_tree.root ∷ []) m = subst (λ (t : TreeValue). Contains (t.root ∷ t.children) m) (sym tree) inside in
        root_only one
      where
        root_only : Contains (two.gen_tree.root ∷ []) m → Contains all_blobs b
        root_only (zero, lt, e) = same_blob (top (form two.first_output)) b made_blob (is ∙ ap directory_bytes (sym e))
        root_only (suc k, lt, e) = absurd (omega (arith, lt))
    by (suc (suc (suc (suc (suc k)))), lt, e) = absurd (omega (arith, lt))

-- ---- the blobs of actions and outcomes

pub of_nothing : (b : List ℕ) → IsBlobOf empty b → Contains all_blobs b
of_nothing b (inl is) = same_blob (top (form empty)) b (7, omega arith, refl) is
of_nothing b (inr none) = absurd none

pub of_built : (b : List ℕ) → IsBlobOf two.built b → Contains all_blobs b
of_built b (inl is) = same_blob (top (form two.built)) b (13, omega arith, refl) is
of_built b (inr (inl is)) = same_blob (10 ∷ []) b (12, omega arith, refl) is
of_built b (inr (inr none)) = absurd none

of_made : (b : List ℕ) → IsBlobOf two.first_output b → Contains all_blobs b
of_made b (inl is) = same_blob (top (form two.first_output)) b made_blob is
of_made b (inr (inl is)) = same_blob (codes "123456789") b (11, omega arith, refl) is
of_made b (inr (inr none)) = absurd none

pub of_input : (b : List ℕ) → IsBlobOf two.data_input b → Contains all_blobs b
of_input b (inl is) = same_blob (top (form two.data_input)) b (9, omega arith, refl) is
of_input b (inr (inl (inl is))) = same_blob (top (form data_directory)) b (10, omega arith, refl) is
of_input b (inr (inl (inr (inl is)))) = same_blob (codes "123456789") b (11, omega arith, refl) is
of_input b (inr (inl (inr (inr none)))) = absurd none
of_input b (inr (inr none)) = absurd none

pub of_gen : (b : List ℕ) → IsBlobOfAction two.gen.0 b → Contains all_blobs b
of_gen b (inl (inl is)) = same_blob (action_bytes (with_input two.gen.0.frame two.sources)) b (0, omega arith, refl) (is ∙ ap (λ d. action_bytes (with_input two.gen.0.frame d)) sources_named)
of_gen b (inl (inr is)) = same_blob (frame_bytes two.gen.0.frame) b (5, omega arith, refl) is
of_gen b (inr (inl is)) = same_blob (command_bytes two.gen.0.command) b (2, omega arith, refl) is
of_gen b (inr (inr h)) = of_nothing b h

pub of_uses : (b : List ℕ) → IsBlobOfAction two.uses.0 b → Contains all_blobs b
of_uses b (inl (inl is)) = same_blob (action_bytes (with_input two.uses.0.frame two.input_digest)) b (1, omega arith, refl) (is ∙ ap (λ d. action_bytes (with_input two.uses.0.frame d)) input_named)
of_uses b (inl (inr is)) = same_blob (frame_bytes two.uses.0.frame) b (6, omega arith, refl) is
of_uses b (inr (inl is)) = same_blob (command_bytes two.uses.0.command) b (3, omega arith, refl) is
of_uses b (inr (inr h)) = of_input b h

pub made_by_gen : (b : List ℕ) → IsBlobOfOutcome two.gen.1 b → Contains all_blobs b
made_by_gen b (e, (zero, lt, at), h) = of_made b (subst (λ (e : List Name × Entry Leaf). IsBlobOfEntry e.1 b) (sym at) h)
made_by_gen b (e, (suc k, lt, at), h) = absurd (omega (arith, lt))

pub made_by_uses : (b : List ℕ) → IsBlobOfOutcome two.uses.1 b → Contains all_blobs b
made_by_uses b (e, (zero, lt, at), h) = same_blob (10 ∷ []) b (12, omega arith, refl) (subst (λ (e : List Name × Entry Leaf). IsBlobOfEntry e.1 b) (sym at) h)
made_by_uses b (e, (suc k, lt, at), h) = absurd (omega (arith, lt))

of_chosen : (b : List ℕ) → IsBlobOfChosen two.table b → Contains all_blobs b
of_chosen b (pair, (zero, lt, at), h) = by (subst (λ (z : ActionMeaning × Outcome). IsBlobOfAction z.0 b ⊎ IsBlobOfOutcome z.1 b) (sym at) h)
  where
    by : IsBlobOfAction two.gen.0 b ⊎ IsBlobOfOutcome two.gen.1 b → Contains all_blobs b
    by (inl h) = of_gen b h
    by (inr h) = made_by_gen b h
of_chosen b (pair, (suc zero, lt, at), h) = by (subst (λ (z : ActionMeaning × Outcome). IsBlobOfAction z.0 b ⊎ IsBlobOfOutcome z.1 b) (sym at) h)
  where
    by : IsBlobOfAction two.uses.0 b ⊎ IsBlobOfOutcome two.uses.1 b → Contains all_blobs b
    by (inl h) = of_uses b h
    by (inr h) = made_by_uses b h
of_chosen b (pair, (suc (suc k), lt, at), h) = absurd (omega (arith, lt))

-- ---- the blobs of the run

abbrev e7 : List Event
e7 = finish 0 two.uses.1 ∷ []

abbrev e6 : List Event
e6 = finish 1 two.gen.1 ∷ e7

abbrev e5 : List Event
e5 = start 0 1 ∷ e6

abbrev e4 : List Event
e4 = start 1 0 ∷ e5

abbrev e3 : List Event
e3 = finish 1 two.gen.1 ∷ e4

abbrev e2 : List Event
e2 = lose 0 ∷ e3

abbrev e1 : List Event
e1 = start 0 1 ∷ e2

module _ (t : Tree Leaf) where
  abbrev OfStart : State → Event → List ℕ → Type 0
  OfStart s e b = IsBlobOfStart two.plan two.meaning t s e b

  abbrev OfStarts : State → List Event → List ℕ → Type 0
  OfStarts s es b = IsBlobOfStarts two.plan two.meaning t s es b

  -- those of an event, and those of what happens in the state that it leads to
  and_then : (b : List ℕ) (s next : State) (e : Event) (es : List Event) → happens two.plan two.meaning t s e ≡ Some next → (OfStart s e b → Contains all_blobs b) → (OfStarts next es b → Contains all_blobs b)
      → OfStarts s (e ∷ es) b → Contains all_blobs b
  and_then b s next e es is first rest (inl h) = first h
  and_then b s next e es is first rest (inr (mid, at, h)) =
      let both : ◌≡◌ {A = Option State} (Some mid) (Some next) = sym at ∙ is in
      let same : mid ≡ next = cc in
      rest (subst (λ s. OfStarts s es b) same h)

  starts_gen : (b : List ℕ) (s : State) (w : ℕ) → action_of two.plan two.meaning t s 0 ≡ Some two.gen.0 → OfStart s (start 0 w) b → Contains all_blobs b
  starts_gen b s w is (a, at, h) =
      let both : ◌≡◌ {A = Option ActionMeaning} (Some a) (Some two.gen.0) = sym at ∙ is in
      let same : a ≡ two.gen.0 = cc in
      of_gen b (subst (λ (a : ActionMeaning). IsBlobOfAction a b) same h)

  starts_use : (b : List ℕ) (s : State) (w : ℕ) → action_of two.plan two.meaning t s 1 ≡ Some two.uses.0 → OfStart s (start 1 w) b → Contains all_blobs b
  starts_use b s w is (a, at, h) =
      let both : ◌≡◌ {A = Option ActionMeaning} (Some a) (Some two.uses.0) = sym at ∙ is in
      let same : a ≡ two.uses.0 = cc in
      of_uses b (subst (λ (a : ActionMeaning). IsBlobOfAction a b) same h)

  of_run : (b : List ℕ) → OfStarts opening two.events b → Contains all_blobs b
  unfolding merge
  of_run b =
      and_then b opening s1 (start 0 0) e1 refl (starts_gen b opening 0 refl)
      (and_then b s1 s2 (start 0 1) e2 refl (starts_gen b s1 1 refl)
      (and_then b s2 s3 (lose 0) e3 refl (λ none. absurd none)
      (and_then b s3 s4 (finish 1 two.gen.1) e4 refl (λ none. absurd none)
      (and_then b s4 s5 (start 1 0) e5 refl (starts_use b s4 0 refl)
      (and_then b s5 s6 (start 0 1) e6 refl (starts_gen b s5 1 refl)
      (and_then b s6 s7 (finish 1 two.gen.1) e7 refl (λ none. absurd none)
      (and_then b s7 two.end (finish 0 two.uses.1) [] refl (λ none. absurd none) (λ none. absurd none))))))))

  -- ---- no clash

  pub concerned_one : ((b : List ℕ) → IsBlobOf t b → Contains all_blobs b) → (b : List ℕ) → IsConcerned two.blobs two.plan two.meaning t two.table two.events b → Contains all_blobs b
  concerned_one own b (inl (inl v)) = kept_one b v
  concerned_one own b (inl (inr h)) = in_tree b h
  concerned_one own b (inr (inl h)) = own b h
  concerned_one own b (inr (inr (inl h))) = of_chosen b h
  concerned_one own b (inr (inr (inr h))) = of_run b h

  pub no_clash_from : ((b : List ℕ) → IsBlobOf t b → Contains all_blobs b) → NoClash (IsConcerned two.blobs two.plan two.meaning t two.table two.events)
  no_clash_from own x y c d e = none_clash x y (concerned_one own x c) (concerned_one own y d) e
