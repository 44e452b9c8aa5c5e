-- What `decode` reads is the result that the bytes say.
use Rattle.std.proofs.Common.{◌≡◌, ◌≢◌, ◌+◌, ℕ, Option, None, Bool, true, false, cond, List, [], ◌∷◌, map, Some, None, Result, Ok, Err, refl, sym, ap, subst, ◌∙◌, Less, Equal, Greater, inl, inr, ◌⊎◌}
use Rattle.std.specs.Prelude.{IsPermutation, IfErr, IfSome, FitsSigned}
use Rattle.std.specs.Int.{w32}
use Rattle.std.specs.declared.cmp.Ordering.{Ordering}
use Rattle.std.specs.Ordering.{is_lt}
use Rattle.std.specs.List.{AllByRecursion}
use Rattle.std.proofs.lemmas.List.Sorted.{IsPermutation-refl, IsPermutation-cons, IsPermutation-middle, IsPermutation-sym, IsPermutation-trans}
use Rattle.std.proofs.lemmas.Map.Lookups.{exact_bytes}
use Rattle.wire.specs.Bytes.{IsBytes}
use Rattle.wire.specs.Record.{Record}
use Rattle.canonical.specs.Fields.{elements_at}
use Rattle.canonical.proofs.FieldKinds.{int32_at-fits}
use Rattle.blob_digest.specs.DigestValue.{DigestValue, IsDigest}
use Rattle.wire.specs.Steps.{◌>>=◌}
use Rattle.wire.proofs.Steps.{bind_ok, ok_is}
use Rattle.messages.specs.declared.error.MessageError.{MessageError}
use Rattle.messages.specs.declared.error.MessageError.TheVariants as message
use Rattle.messages.specs.Order.{bytes_cmp}
use Rattle.messages.specs.Path.{AreApart, path_text}
use Rattle.messages.proofs.Orders.{flipped, itself}
use Rattle.action_messages.specs.Stream.{StreamValue, IsStream}
use Rattle.action_messages.specs.Nested.{SaysOne}
use Rattle.action_messages.specs.ActionResult.{ActionResultValue, IsActionResult, file_paths, directory_paths, symlink_paths, action_result_of}
use Rattle.action_messages.specs.Overlaps.{texts_of}
use Rattle.action_messages.specs.Reads.{Reads, SaysDigest, SaysStream}
use Rattle.action_messages.specs.Refused.{IsRefusedResult}
use Rattle.action_messages.specs.Unordered.{unordered, IsOrderingOf, output_paths}
use Rattle.action_messages.proofs.Agreeing.{SaysUnordered, unordered_found, unordered_only}
use Rattle.action_messages.proofs.Decoding.{found_is, apart_permuted, paths_permuted, valid_permuted, valid_said, not_unread}
use Rattle.action_messages.proofs.Pairs.{ByPairs, pairs_permuted, all_permuted}
use Rattle.action_messages.proofs.Results.{file_paths_valid, directory_paths_valid, symlink_paths_valid, paths_found, result_found, result_given}
use Rattle.action_messages.proofs.SameOrder.{AscendBy, same_order}
use Rattle.action_messages.proofs.Searches.{bytes_trans}
use Rattle.action_cache.specs.declared.error.CacheError.{CacheError}
use Rattle.action_cache.specs.declared.error.CacheError.TheVariants.{BadResult, Memory as NoMemory}
use Rattle.action_cache.specs.CacheError.{of_message, IsNoResult}
use Rattle.action_cache.specs.References.{Reference}
use Rattle.action_cache.specs.Reading.{placed, by_path, in_order, said_result, referred_to, referred_in, references_in}

-- ---- in the order of the paths

module _ {X : Type 0} (path : X → List (List ℕ)) where
  abbrev text : X → List ℕ
  text x = path_text (path x)

  abbrev Differ : X → X → Type 0
  Differ x y = text x ≢ text y

  permuted_by : (b : Bool) (x y : X) (ys placed_later : List X) → IsPermutation (x ∷ ys) placed_later → IsPermutation (x ∷ y ∷ ys) (cond b (x ∷ y ∷ ys) (y ∷ placed_later))
  permuted_by true x y ys l p = IsPermutation-refl (x ∷ y ∷ ys)
  permuted_by false x y ys l p =
      IsPermutation-trans (x ∷ y ∷ ys) (y ∷ x ∷ ys) (y ∷ l) (IsPermutation-middle (x ∷ []) y ys) (IsPermutation-cons y (x ∷ ys) l p)

  permutes-placed : (x : X) (ys : List X) → IsPermutation (x ∷ ys) (placed path x ys)
  permutes-placed x [] = IsPermutation-refl (x ∷ [])
  permutes-placed x (y ∷ ys) = permuted_by (is_lt (bytes_cmp (text x) (text y))) x y ys (placed path x ys) (permutes-placed x ys)

  pub permutes-by_path : (xs : List X) → IsPermutation xs (by_path path xs)
  permutes-by_path [] = IsPermutation-refl []
  permutes-by_path (x ∷ xs) =
      IsPermutation-trans (x ∷ xs) (x ∷ by_path path xs) (by_path path (x ∷ xs)) (IsPermutation-cons x xs (by_path path xs) (permutes-by_path xs)) (permutes-placed x (by_path path xs))

  all-placed : (P : List ℕ → Type 0) (x : X) (ys : List X) → P (text x) → AllByRecursion P (texts_of (map path ys)) → AllByRecursion P (texts_of (map path (placed path x ys)))
  all-placed P x [] h all = (h, tt)
  all-placed P x (y ∷ ys) h all = elim (is_lt (bytes_cmp (text x) (text y))) as (λ b. AllByRecursion P (texts_of (map path (cond b (x ∷ y ∷ ys) (y ∷ placed path x ys))))) [
    | true ↦ (h, all)
    | false ↦ (all.0, all-placed P x ys h all.1)
  ]

  all_behind : (a b : List ℕ) (ts : List (List ℕ)) → bytes_cmp a b ≡ Less → AllByRecursion (λ t. bytes_cmp b t ≡ Less) ts → AllByRecursion (λ t. bytes_cmp a t ≡ Less) ts
  all_behind a b [] h all = tt
  all_behind a b (t ∷ ts) h all = (bytes_trans a b t h all.0, all_behind a b ts h all.1)

  ascend-placed : (x : X) (ys : List X) → AllByRecursion (Differ x) ys → AscendBy path ys → AscendBy path (placed path x ys)
  ascend-placed x [] d h = (tt, tt)
  ascend-placed x (y ∷ ys) d h = by (ascend-placed x ys d.1 h.1) (bytes_cmp (text x) (text y)) refl
    where
      by : AscendBy path (placed path x ys) → (o : Ordering) → bytes_cmp (text x) (text y) ≡ o → AscendBy path (cond (is_lt o) (x ∷ y ∷ ys) (y ∷ placed path x ys))
      by rest Less e = ((e, all_behind (text x) (text y) (texts_of (map path ys)) e h.0), h)
      by rest Equal e = absurd (d.0 (exact_bytes (text x) (text y) e))
      by rest Greater e = (all-placed (λ t. bytes_cmp (text y) t ≡ Less) x ys (flipped (text x) (text y) Greater e) h.0, rest)

  ascend-by_path : (xs : List X) → ByPairs Differ xs → AscendBy path (by_path path xs)
  ascend-by_path [] d = tt
  ascend-by_path (x ∷ xs) d = ascend-placed x (by_path path xs) (all_permuted (Differ x) xs (by_path path xs) (permutes-by_path xs) d.0) (ascend-by_path xs d.1)

  not_self : (x y : List ℕ) → bytes_cmp x y ≡ Less → x ≢ y
  not_self x y h e = let no : Less ≡ Equal = sym h ∙ ap (bytes_cmp x) (sym e) ∙ itself x in cc

  differ_first : (x : X) (ys : List X) → AllByRecursion (λ t. bytes_cmp (text x) t ≡ Less) (texts_of (map path ys)) → AllByRecursion (Differ x) ys
  differ_first x [] all = tt
  differ_first x (y ∷ ys) all = (not_self (text x) (text y) all.0, differ_first x ys all.1)

  differ_all : (ys : List X) → AscendBy path ys → ByPairs Differ ys
  differ_all [] h = tt
  differ_all (y ∷ ys) h = (differ_first y ys h.0, differ_all ys h.1)

  -- a list in the order of its paths is that of any of its orders
  pub by_path_is : (read sorted : List X) → IsPermutation read sorted → AscendBy path sorted → by_path path read ≡ sorted
  by_path_is read sorted p h =
      let apart = pairs_permuted Differ (λ x y d e. d (sym e)) sorted read (IsPermutation-sym read sorted p) (differ_all sorted h) in
      same_order path read (by_path path read) sorted (permutes-by_path read) p (ascend-by_path read apart) h

-- ---- the result that bytes say

pub said_is : (m : ActionResultValue) (bytes : List ℕ) → IsBytes bytes → Reads m bytes → said_result bytes ≡ Ok m
unfolding said_result
said_is m bytes fits (rs, spelled, s) =
    let u : ActionResultValue = record { files = s.files.read; directories = s.directories.read; symlinks = s.symlinks.read; exit_code = m.exit_code; stdout = m.stdout; stderr = m.stderr } in
    let said : SaysUnordered u rs = record { known = s.known; files = s.files.each; directories = s.directories.each; exit_code = s.exit_code; stdout = s.stdout; stderr = s.stderr; symlinks = s.symlinks.each } in
    let files = by_path_is (λ f. f.path) s.files.read m.files s.files.same s.valid.paths.files_ascend in
    let directories = by_path_is (λ d. d.path) s.directories.read m.directories s.directories.same s.valid.paths.directories_ascend in
    let symlinks = by_path_is (λ l. l.path) s.symlinks.read m.symlinks s.symlinks.same s.valid.paths.symlinks_ascend in
    let ordered : in_order u ≡ m = λ i. record { files = files i; directories = directories i; symlinks = symlinks i; exit_code = m.exit_code; stdout = m.stdout; stderr = m.stderr } in
    ap (λ (r : Result ActionResultValue MessageError). r >>= λ v. action_result_of (in_order v)) (unordered_only bytes u fits (rs, spelled, said)) ∙ ap action_result_of ordered ∙ result_given m s.valid

pub outputs_read : (m : ActionResultValue) (bytes : List ℕ) → IsBytes bytes → Reads m bytes → references_in bytes ≡ Some (referred_to m)
outputs_read m bytes fits reads = ap referred_in (said_is m bytes fits reads)

ordered_in : (u : ActionResultValue) → IsOrderingOf u (in_order u)
ordered_in u = record {
  files = permutes-by_path (λ f. f.path) u.files;
  directories = permutes-by_path (λ d. d.path) u.directories;
  symlinks = permutes-by_path (λ l. l.path) u.symlinks;
  exit_code = refl;
  stdout = refl;
  stderr = refl;
}

-- what is said has no outputs that overlap
said_apart : (bytes : List ℕ) (u m : ActionResultValue) → IsBytes bytes → unordered bytes ≡ Ok u → action_result_of (in_order u) ≡ Ok m → AreApart (output_paths u)
said_apart bytes u m fits read e =
    let r = in_order u in
    let o = ordered_in u in
    let said = unordered_found bytes u fits read in
    let valid = valid_permuted u r o (valid_said u said.0 said.2) in
    let rules = paths_found (file_paths r.files) (directory_paths r.directories) (symlink_paths r.symlinks) (file_paths_valid r.files valid.files) (directory_paths_valid r.directories valid.directories) (symlink_paths_valid r.symlinks valid.symlinks) (result_found r m e).0 in
    apart_permuted (output_paths r) (output_paths u) (IsPermutation-sym (output_paths u) (output_paths r) (paths_permuted u r o)) rules.apart

not_said : (bytes : List ℕ) (u m : ActionResultValue) (e : MessageError) → IsBytes bytes → unordered bytes ≡ Ok u → action_result_of (in_order u) ≡ Ok m → IsRefusedResult e bytes → ⊥
not_said bytes u m e fits read made (inl unread) = not_unread bytes u e read unread
not_said bytes u m e fits read made (inr (v, also, overlap, is)) =
    overlap (subst (λ (x : ActionResultValue). AreApart (output_paths x)) (ok_is {E = MessageError} u v (sym read ∙ also)) (said_apart bytes u m fits read made))

-- a stream that is said is one
stream_valid : (number : ℕ) (s : StreamValue) (rs : List Record) → SaysStream number s rs → IsStream s
stream_valid number s rs said = record { digest = by s.digest said.digest }
  where
    by : (d : Option DigestValue) → SaysOne SaysDigest d (elements_at (number + 1) rs) → IfSome d IsDigest
    by None h = tt
    by (Some d) h = h.1.2.valid

-- the result that is made of what is said in the bytes is read from them
made_reads : (bytes : List ℕ) (u m : ActionResultValue) → IsBytes bytes → unordered bytes ≡ Ok u → action_result_of (in_order u) ≡ Ok m → Reads m bytes
made_reads bytes u m fits read e =
    let r = in_order u in
    let o = ordered_in u in
    let said = unordered_found bytes u fits read in
    let valid = valid_permuted u r o (valid_said u said.0 said.2) in
    let is = result_found r m e in
    let made : IsActionResult r = record {
      files = valid.files;
      directories = valid.directories;
      symlinks = valid.symlinks;
      exit_code = subst (FitsSigned w32) said.2.exit_code (int32_at-fits 4 said.0);
      stdout = stream_valid 5 u.stdout said.0 said.2.stdout;
      stderr = stream_valid 7 u.stderr said.0 said.2.stderr;
      paths = paths_found (file_paths r.files) (directory_paths r.directories) (symlink_paths r.symlinks) (file_paths_valid r.files valid.files) (directory_paths_valid r.directories valid.directories) (symlink_paths_valid r.symlinks valid.symlinks) is.0;
    } in
    found_is bytes u (Ok m) fits read (subst IsActionResult is.1 made, subst (IsOrderingOf u) is.1 o)

pub outputs_only : (bytes : List ℕ) (rs : List Reference) → IsBytes bytes → references_in bytes ≡ Some rs → (m : ActionResultValue) × Reads m bytes × (rs ≡ referred_to m)
unfolding said_result
outputs_only bytes rs fits told = by (said_result bytes) refl told
  where
    by : (r : Result ActionResultValue MessageError) → said_result bytes ≡ r → referred_in r ≡ Some rs → (m : ActionResultValue) × Reads m bytes × (rs ≡ referred_to m)
    by (Err d) h e = absurd cc
    by (Ok m) h e = let b = bind_ok (unordered bytes) (λ u. action_result_of (in_order u)) m h in let same : referred_to m ≡ rs = cc in (m, made_reads bytes b.0 m fits b.1 b.2, sym same)

pub outputs_refused : (bytes : List ℕ) (e : MessageError) → IsBytes bytes → IsRefusedResult e bytes → references_in bytes ≡ None
unfolding said_result
outputs_refused bytes e fits refused = by (said_result bytes) refl
  where
    by : (r : Result ActionResultValue MessageError) → said_result bytes ≡ r → referred_in r ≡ None
    by (Err d) h = refl
    by (Ok m) h = let b = bind_ok (unordered bytes) (λ u. action_result_of (in_order u)) m h in absurd (not_said bytes b.0 m e fits b.1 b.2 refused)

-- ---- what is told of bytes that are no result

module _ (bytes : List ℕ) (fits : IsBytes bytes) where
  refused_as : (d : MessageError) → (d ≡ message.Memory) ⊎ IsRefusedResult d bytes → (d ≡ message.Memory → ⊥) → IsRefusedResult d bytes × (references_in bytes ≡ None)
  refused_as d (inl none) other = absurd (other none)
  refused_as d (inr is) other = (is, outputs_refused bytes d fits is)

  pub unread : (d : MessageError) → (d ≡ message.Memory) ⊎ IsRefusedResult d bytes → IsNoResult (of_message d) bytes
  unread message.Memory h = inl refl
  unread (message.Wire e) h = let r = refused_as (message.Wire e) h (λ q. cc) in inr (message.Wire e, refl, r.0, r.1)
  unread message.BadName h = let r = refused_as message.BadName h (λ q. cc) in inr (message.BadName, refl, r.0, r.1)
  unread message.Unsorted h = let r = refused_as message.Unsorted h (λ q. cc) in inr (message.Unsorted, refl, r.0, r.1)
  unread message.SameName h = let r = refused_as message.SameName h (λ q. cc) in inr (message.SameName, refl, r.0, r.1)
  unread message.BadPath h = let r = refused_as message.BadPath h (λ q. cc) in inr (message.BadPath, refl, r.0, r.1)
  unread (message.Unsupported n) h = let r = refused_as (message.Unsupported n) h (λ q. cc) in inr (message.Unsupported n, refl, r.0, r.1)
  unread (message.MissingField n) h = let r = refused_as (message.MissingField n) h (λ q. cc) in inr (message.MissingField n, refl, r.0, r.1)
  unread message.BadTree h = let r = refused_as message.BadTree h (λ q. cc) in inr (message.BadTree, refl, r.0, r.1)
  unread (message.BadDigest e) h = let r = refused_as (message.BadDigest e) h (λ q. cc) in inr (message.BadDigest e, refl, r.0, r.1)
  unread (message.BadText n) h = let r = refused_as (message.BadText n) h (λ q. cc) in inr (message.BadText n, refl, r.0, r.1)

pub unread_none : (e : CacheError) (d : MessageError) (bytes : List ℕ) → e ≡ BadResult d → IsNoResult e bytes → references_in bytes ≡ None
unread_none e d bytes bad (inl none) = let no : NoMemory ≡ BadResult d = sym none ∙ bad in absurd cc
unread_none e d bytes bad (inr (f, same, refused, none)) = none

bad_is : (e : CacheError) (d : MessageError) (bytes : List ℕ) → e ≡ BadResult d → IsNoResult e bytes → IsRefusedResult d bytes
bad_is e d bytes bad (inl none) = let no : NoMemory ≡ BadResult d = sym none ∙ bad in absurd cc
bad_is e d bytes bad (inr (f, same, refused, none)) = let both : BadResult f ≡ BadResult d = sym same ∙ bad in let is : f ≡ d = cc in subst (λ x. IsRefusedResult x bytes) is refused

-- why bytes are refused as no result
pub bad_told : {X : Type 0} (r : Result X CacheError) (d : MessageError) (bytes : List ℕ) → IfErr r (λ e. IsNoResult e bytes) → r ≡ Err (BadResult d) → IsRefusedResult d bytes
bad_told r d bytes h e = bad_is (BadResult d) d bytes refl (subst (λ x. IfErr x (λ f. IsNoResult f bytes)) e h)

pub not_bad : {X : Type 0} (r : Result X CacheError) (d : MessageError) (P : Type 0) → IfErr r (λ e. (e ≡ BadResult d → ⊥)) → r ≡ Err (BadResult d) → P
not_bad r d P h e = absurd ((subst (λ x. IfErr x (λ f. (f ≡ BadResult d → ⊥))) e h) refl)
