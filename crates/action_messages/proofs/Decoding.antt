-- A result is made of what the bytes say, by putting the outputs in order.
use Rattle.std.proofs.Common.{◌≡◌, ℕ, suc, ◌+◌, ◌<◌, Bool, true, false, List, [], ◌∷◌, ◌++◌, map, length, get_or, Result, Ok, Err, refl, sym, ap, subst, ◌∙◌, arith, inl, inr, ◌⊎◌, Less, Equal, Greater}
use Rattle.std.specs.Prelude.{IfOk, IfErr, IsPermutation}
use Rattle.std.specs.List.{AllByRecursion}
use Rattle.std.specs.Ordering.{is_lt}
use Rattle.std.specs.Cmp.Lexicographic.{nat_list_cmp_total}
use Rattle.std.specs.declared.cmp.Ordering.{Ordering}
use Rattle.std.proofs.lemmas.List.Sorted.{ranks_by, sorted_far, IsPermutation-sym, IsPermutation-map, IsPermutation-append}
use Rattle.std.proofs.lemmas.Map.Lookups.{exact_bytes}
use Rattle.wire.specs.Bytes.{IsBytes}
use Rattle.wire.specs.Record.{Record}
use Rattle.wire.specs.Steps.{◌>>=◌}
use Rattle.wire.proofs.Steps.{bind_ok, ok_is}
use Rattle.messages.specs.declared.error.MessageError.{MessageError}
use Rattle.messages.specs.declared.error.MessageError.TheVariants.{SameName, Memory}
use Rattle.messages.specs.Gives.{FailsUnlessMemory, GivesUnlessMemory}
use Rattle.messages.specs.Order.{bytes_cmp}
use Rattle.messages.specs.Path.{IsPath, Overlap, AreApart, IsApart, parts_of, path_text, text_cmp}
use Rattle.messages.proofs.Orders.{flipped}
use Rattle.messages.proofs.Paths.{parts_of_path}
use Rattle.action_messages.specs.Ascending.{IsSortedByText}
use Rattle.action_messages.specs.Overlaps.{texts_of}
use Rattle.action_messages.specs.OutputFile.{OutputFileValue, IsOutputFile}
use Rattle.action_messages.specs.OutputDirectory.{OutputDirectoryValue, IsOutputDirectory}
use Rattle.action_messages.specs.OutputSymlink.{OutputSymlinkValue, IsOutputSymlink}
use Rattle.action_messages.specs.ActionResult.{ActionResultValue, IsActionResult, AreOutputPaths, file_paths, directory_paths, symlink_paths, paths_checked, action_result_of}
use Rattle.action_messages.specs.Nested.{SaysEach}
use Rattle.action_messages.specs.Reads.{SaysFile, SaysDirectory, SaysSymlink, SaysStream, Reads}
use Rattle.action_messages.specs.Refused.{NoneRefused, IsFirstRefused, IsUnreadResult, IsRefusedResult}
use Rattle.action_messages.specs.Unordered.{unordered_in, known_fields, unordered, output_paths, IsOrderingOf, AreOutputsValid}
use Rattle.action_messages.proofs.Agreeing.{SaysUnordered, unordered_found, unordered_only}
use Rattle.action_messages.proofs.Apart.{ArePaths}
use Rattle.action_messages.proofs.NestedOrder.{none_refused, all_read, first_once, err_is, failed_with}
use Rattle.action_messages.proofs.Pairs.{ByPairs, IsSymmetric, pairs_permuted, all_permuted}
use Rattle.action_messages.proofs.ReadOnce.{reads_once}
use Rattle.action_messages.proofs.Results.{file_paths_valid, directory_paths_valid, symlink_paths_valid, paths_given, result_found}
use Rattle.action_messages.proofs.SameOrder.{AscendBy}

-- ---- paths apart, in any order

overlaps_back : (path other : List (List ℕ)) → Overlap path other → Overlap other path
overlaps_back path other (inl e) = inl (sym e)
overlaps_back path other (inr (inl u)) = inr (inr u)
overlaps_back path other (inr (inr u)) = inr (inl u)

apart_symmetric : IsSymmetric IsApart
apart_symmetric path other h o = h (overlaps_back other path o)

pairs_of : (paths : List (List (List ℕ))) → AreApart paths → ByPairs IsApart paths
pairs_of [] h = tt
pairs_of (path ∷ paths) h = (h.0, pairs_of paths h.1)

of_pairs : (paths : List (List (List ℕ))) → ByPairs IsApart paths → AreApart paths
of_pairs [] h = tt
of_pairs (path ∷ paths) h = (h.0, of_pairs paths h.1)

pub apart_permuted : (paths others : List (List (List ℕ))) → IsPermutation paths others → AreApart paths → AreApart others
apart_permuted paths others p h = of_pairs others (pairs_permuted IsApart apart_symmetric paths others p (pairs_of paths h))

pub paths_permuted : (u r : ActionResultValue) → IsOrderingOf u r → IsPermutation (output_paths u) (output_paths r)
paths_permuted u r o =
    let f = IsPermutation-map (λ (x : OutputFileValue). x.path) u.files r.files o.files in
    let d = IsPermutation-map (λ (x : OutputDirectoryValue). x.path) u.directories r.directories o.directories in
    let l = IsPermutation-map (λ (x : OutputSymlinkValue). x.path) u.symlinks r.symlinks o.symlinks in
    IsPermutation-append (file_paths u.files ++ directory_paths u.directories) (file_paths r.files ++ directory_paths r.directories) (symlink_paths u.symlinks) (symlink_paths r.symlinks)
    (IsPermutation-append (file_paths u.files) (file_paths r.files) (directory_paths u.directories) (directory_paths r.directories) f d) l

-- ---- sorted, and so in a strict order

apart_front : (xs ys : List (List (List ℕ))) → AreApart (xs ++ ys) → AreApart xs × AreApart ys
apart_front [] ys h = (tt, h)
apart_front (x ∷ xs) ys h = let rest = apart_front xs ys h.1 in ((all_front xs ys h.0, rest.0), rest.1)
  where
    all_front : (cs bs : List (List (List ℕ))) → AllByRecursion (IsApart x) (cs ++ bs) → AllByRecursion (IsApart x) cs
    all_front [] bs k = tt
    all_front (c ∷ cs) bs k = (k.0, all_front cs bs k.1)

less_than : (x y : List (List ℕ)) → IsPath x → IsPath y → is_lt (text_cmp y x) ≡ false → IsApart x y → bytes_cmp (path_text x) (path_text y) ≡ Less
less_than x y k l not_below apart = by (bytes_cmp (path_text x) (path_text y)) refl
  where
    by : (o : Ordering) → bytes_cmp (path_text x) (path_text y) ≡ o → o ≡ Less
    by Less e = refl
    by Equal e = let texts : path_text x ≡ path_text y = exact_bytes (path_text x) (path_text y) e in absurd (apart (inl (sym (parts_of_path x k) ∙ ap parts_of texts ∙ parts_of_path y l)))
    by Greater e = let below : bytes_cmp (path_text y) (path_text x) ≡ Less = flipped (path_text x) (path_text y) Greater e in let no : true ≡ false = sym (ap is_lt below) ∙ not_below in absurd cc

sorted_rest : {A : Type 0} (path : A → List (List ℕ)) (x : A) (xs : List A) → IsSortedByText path (x ∷ xs) → IsSortedByText path xs
sorted_rest path x xs h k d lo hi =
    let next : suc k + 1 ≡ suc (k + 1) = omega arith in
    subst (λ (n : ℕ). is_lt (text_cmp (path (get_or (x ∷ xs) n d)) (path (get_or (x ∷ xs) (suc k) d))) ≡ false) next (h (suc k) d (omega arith) (omega (arith, hi)))

-- the first before the others
first_before : {A : Type 0} (path : A → List (List ℕ)) (x : A) (xs : List A) → IsPath (path x) → ArePaths (map path xs) → ((j : ℕ) (d : A) → j < length xs → is_lt (text_cmp (path (get_or xs j d)) (path x)) ≡ false) → AllByRecursion (IsApart (path x)) (map path xs)
    → AllByRecursion (λ t. bytes_cmp (path_text (path x)) t ≡ Less) (texts_of (map path xs))
first_before path x [] k ks far apart = tt
first_before path x (y ∷ xs) k ks far apart =
    (less_than (path x) (path y) k ks.0 (far 0 y (omega arith)) apart.0, first_before path x xs k ks.1 (λ j d lt. far (suc j) d (omega (arith, lt))) apart.1)

strict_order : {A : Type 0} (path : A → List (List ℕ)) (xs : List A) → ArePaths (map path xs) → IsSortedByText path xs → AreApart (map path xs) → AscendBy path xs
strict_order path [] k s h = tt
strict_order {A} path (x ∷ xs) k s h =
    let lt : A → A → Bool = λ a b. is_lt (text_cmp (path a) (path b)) in
    let order = ranks_by nat_list_cmp_total (λ (a : A). path_text (path a)) in
    (first_before path x xs k.0 k.1 (λ j d below. sorted_far lt order (x ∷ xs) s 0 (suc j) d (omega arith) (omega (arith, below))) h.0, strict_order path xs k.1 (sorted_rest path x xs s) h.1)

-- ---- the rules of a result

pub record IsSortedResult (r : ActionResultValue) : Type 0 where
  pub files : IsSortedByText (λ (x : OutputFileValue). x.path) r.files
  pub directories : IsSortedByText (λ (x : OutputDirectoryValue). x.path) r.directories
  pub symlinks : IsSortedByText (λ (x : OutputSymlinkValue). x.path) r.symlinks

pub valid_permuted : (u r : ActionResultValue) → IsOrderingOf u r → AreOutputsValid u → AreOutputsValid r
valid_permuted u r o k = record {
  files = all_permuted IsOutputFile u.files r.files o.files k.files;
  directories = all_permuted IsOutputDirectory u.directories r.directories o.directories k.directories;
  symlinks = all_permuted IsOutputSymlink u.symlinks r.symlinks o.symlinks k.symlinks;
}

abbrev paths_of_result : ActionResultValue → Result (Unit {0}) MessageError
paths_of_result r = paths_checked (file_paths r.files) (directory_paths r.directories) (symlink_paths r.symlinks)

sorted_checked : (u r : ActionResultValue) → IsOrderingOf u r → IsSortedResult r → AreOutputsValid u → AreApart (output_paths u) → paths_of_result r ≡ Ok tt
sorted_checked u r o s k h =
    let l = valid_permuted u r o k in
    let f = file_paths_valid r.files l.files in
    let d = directory_paths_valid r.directories l.directories in
    let y = symlink_paths_valid r.symlinks l.symlinks in
    let apart = apart_permuted (output_paths u) (output_paths r) (paths_permuted u r o) h in
    let front = apart_front (file_paths r.files ++ directory_paths r.directories) (symlink_paths r.symlinks) apart in
    let two = apart_front (file_paths r.files) (directory_paths r.directories) front.0 in
    let rules : AreOutputPaths (file_paths r.files) (directory_paths r.directories) (symlink_paths r.symlinks) = record {
      files_ascend = strict_order (λ (x : OutputFileValue). x.path) r.files f s.files two.0;
      directories_ascend = strict_order (λ (x : OutputDirectoryValue). x.path) r.directories d s.directories two.1;
      symlinks_ascend = strict_order (λ (x : OutputSymlinkValue). x.path) r.symlinks y s.symlinks front.1;
      apart = apart;
    } in
    paths_given (file_paths r.files) (directory_paths r.directories) (symlink_paths r.symlinks) f d y rules

pub overlapping : (u r : ActionResultValue) (e : MessageError) → IsOrderingOf u r → IsSortedResult r → action_result_of r ≡ Err e → AreOutputsValid u → AreApart (output_paths u) → ⊥
unfolding action_result_of
overlapping u r e o s refused k h = let no = sym refused ∙ ap (λ (x : Result (Unit {0}) MessageError). x >>= λ _. Ok r) (sorted_checked u r o s k h) in cc

pub ordered_made : (u s r : ActionResultValue) → IsOrderingOf u s → action_result_of s ≡ Ok r → IsActionResult r → IsActionResult r × IsOrderingOf u r
ordered_made u s r o e k = let f = result_found s r e in (k, subst (IsOrderingOf u) f.1 o)

-- ---- bytes

valid_each : {A : Type 0} (Says : A → List Record → Type 0) (Keeps : A → Type 0) → ((a : A) (rs : List Record) → Says a rs → Keeps a) → (xs : List A) (payloads : List (List ℕ)) → SaysEach Says xs payloads → AllByRecursion Keeps xs
valid_each Says Keeps keep [] [] s = tt
valid_each Says Keeps keep [] (bytes ∷ payloads) s = tt
valid_each Says Keeps keep (x ∷ xs) [] s = absurd s
valid_each Says Keeps keep (x ∷ xs) (bytes ∷ payloads) s = (keep x s.0.0 s.0.2, valid_each Says Keeps keep xs payloads s.1)

pub valid_said : (u : ActionResultValue) (rs : List Record) → SaysUnordered u rs → AreOutputsValid u
valid_said u rs s = record {
  files = valid_each SaysFile IsOutputFile (λ a qs h. h.valid) u.files _ s.files;
  directories = valid_each SaysDirectory IsOutputDirectory (λ a qs h. h.valid) u.directories _ s.directories;
  symlinks = valid_each SaysSymlink IsOutputSymlink (λ a qs h. h.valid) u.symlinks _ s.symlinks;
}

abbrev IsMade : ActionResultValue → ActionResultValue → Type 0
IsMade u r = IsActionResult r × IsOrderingOf u r

abbrev IsOverlap : ActionResultValue → MessageError → Type 0
IsOverlap u e = (e ≡ SameName) × (AreOutputsValid u → AreApart (output_paths u) → ⊥)

pub found_is : (bytes : List ℕ) (u : ActionResultValue) (r : Result ActionResultValue MessageError) → IsBytes bytes → unordered bytes ≡ Ok u → IfOk r (IsMade u) → IfOk r (λ x. Reads x bytes)
found_is bytes u (Ok x) fits read made =
    let s = unordered_found bytes u fits read in
    let o = made.1 in (
      s.0,
      s.1,
      record {
        known = s.2.known;
        files = record { read = u.files; each = s.2.files; same = o.files };
        directories = record { read = u.directories; each = s.2.directories; same = o.directories };
        exit_code = s.2.exit_code ∙ o.exit_code;
        stdout = subst (λ y. SaysStream 5 y s.0) o.stdout s.2.stdout;
        stderr = subst (λ y. SaysStream 7 y s.0) o.stderr s.2.stderr;
        symlinks = record { read = u.symlinks; each = s.2.symlinks; same = o.symlinks };
        valid = made.0;
      },
    )
found_is bytes u (Err e) fits read made = tt

pub refused_is : (bytes : List ℕ) (u : ActionResultValue) (r : Result ActionResultValue MessageError) → IsBytes bytes → unordered bytes ≡ Ok u → IfErr r (IsOverlap u) → IfErr r (λ e. (e ≡ Memory) ⊎ IsRefusedResult e bytes)
refused_is bytes u (Ok x) fits read h = tt
refused_is bytes u (Err e) fits read h = let s = unordered_found bytes u fits read in inr (inr (u, read, h.1 (valid_said u s.0 s.2), h.0))

-- what is read as a result is said, and no two of its outputs overlap
reads_said : (m : ActionResultValue) (bytes : List ℕ) → IsBytes bytes → Reads m bytes → (u : ActionResultValue) × (unordered bytes ≡ Ok u) × AreApart (output_paths u)
reads_said m bytes fits (rs, spelled, s) =
    let u : ActionResultValue = record { files = s.files.read; directories = s.directories.read; symlinks = s.symlinks.read; exit_code = m.exit_code; stdout = m.stdout; stderr = m.stderr } in
    let o : IsOrderingOf m u = record {
      files = IsPermutation-sym s.files.read m.files s.files.same;
      directories = IsPermutation-sym s.directories.read m.directories s.directories.same;
      symlinks = IsPermutation-sym s.symlinks.read m.symlinks s.symlinks.same;
      exit_code = refl;
      stdout = refl;
      stderr = refl;
    } in
    let said : SaysUnordered u rs = record { known = s.known; files = s.files.each; directories = s.directories.each; exit_code = s.exit_code; stdout = s.stdout; stderr = s.stderr; symlinks = s.symlinks.each } in
    (u, unordered_only bytes u fits (rs, spelled, said), apart_permuted (output_paths m) (output_paths u) (paths_permuted m u o) s.valid.paths.apart)

same_read : (u v : ActionResultValue) (r : Result ActionResultValue MessageError) → r ≡ Ok u → r ≡ Ok v → u ≡ v
same_read u v r e f = ok_is {E = MessageError} u v (sym e ∙ f)

-- what is read has records that are known, and no message in them is refused
known_said : (bytes : List ℕ) (u : ActionResultValue) → unordered bytes ≡ Ok u → (rs : List Record) × (known_fields bytes ≡ Ok rs) × NoneRefused rs rs
unfolding unordered
known_said bytes u e = let b = bind_ok (known_fields bytes) unordered_in u e in (b.0, b.1, none_refused b.0 u b.2)

read_again : (bytes : List ℕ) (rs ss : List Record) → known_fields bytes ≡ Ok rs → known_fields bytes ≡ Ok ss → rs ≡ ss
read_again bytes rs ss e f = ok_is {E = MessageError} rs ss (sym e ∙ f)

not_first : (e : MessageError) (rs : List Record) → NoneRefused rs rs → IsFirstRefused e rs → ⊥
not_first e rs none f = let no = sym (none f.front f.after f.r f.parts) ∙ f.refused in cc

pub not_unread : (bytes : List ℕ) (u : ActionResultValue) (e : MessageError) → unordered bytes ≡ Ok u → IsUnreadResult e bytes → ⊥
not_unread bytes u e read (inl h) = let k = known_said bytes u read in let no = sym k.1 ∙ h in cc
not_unread bytes u e read (inr (rs, known, first)) =
    let k = known_said bytes u read in
    not_first e rs (subst (λ (l : List Record). NoneRefused l l) (read_again bytes k.0 rs k.1 known) k.2) first

pub not_refused : (m : ActionResultValue) (bytes : List ℕ) (e : MessageError) → IsBytes bytes → Reads m bytes → IsRefusedResult e bytes → ⊥
not_refused m bytes e fits reads (inl h) = let s = reads_said m bytes fits reads in not_unread bytes s.0 e s.1 h
not_refused m bytes e fits reads (inr (u, read, overlap, is)) =
    let s = reads_said m bytes fits reads in
    overlap (subst (λ (x : ActionResultValue). AreApart (output_paths x)) (same_read s.0 u (unordered bytes) s.1 read) s.2)

pub refused_once : (d e : MessageError) (bytes : List ℕ) → IsRefusedResult d bytes → IsRefusedResult e bytes → d ≡ e
refused_once d e bytes (inl (inl h)) (inl (inl k)) = err_is {A = List Record} d e (sym h ∙ k)
refused_once d e bytes (inl (inl h)) (inl (inr (rs, known, first))) = let no = sym h ∙ known in absurd cc
refused_once d e bytes (inl (inr (rs, known, first))) (inl (inl k)) = let no = sym k ∙ known in absurd cc
refused_once d e bytes (inl (inr (rs, known, first))) (inl (inr (ss, also, second))) =
    first_once d e ss (subst (IsFirstRefused d) (read_again bytes rs ss known also) first) second
refused_once d e bytes (inl h) (inr (u, read, overlap, is)) = absurd (not_unread bytes u d read h)
refused_once d e bytes (inr (u, read, overlap, is)) (inl k) = absurd (not_unread bytes u e read k)
refused_once d e bytes (inr (u, read, overlap, is)) (inr (v, also, overlaps, same)) = is ∙ sym same

pub only_is : (bytes : List ℕ) (r : Result ActionResultValue MessageError) → IsBytes bytes → IfOk r (λ x. Reads x bytes) → IfErr r (λ e. (e ≡ Memory) ⊎ IsRefusedResult e bytes) → (m : ActionResultValue) → Reads m bytes → GivesUnlessMemory (λ x. x) r (Ok m)
only_is bytes (Ok x) fits found refused m reads = ap Ok (reads_once m x bytes reads found)
only_is bytes (Err e) fits found (inl none) m reads = subst (λ (d : MessageError). FailsUnlessMemory {Y = ActionResultValue} d (Ok m)) (sym none) tt
only_is bytes (Err e) fits found (inr is) m reads = absurd (not_refused m bytes e fits reads is)

pub refused_first : (bytes : List ℕ) (e : MessageError) → (e ≡ Memory) ⊎ IsUnreadResult e bytes → (e ≡ Memory) ⊎ IsRefusedResult e bytes
refused_first bytes e (inl none) = inl none
refused_first bytes e (inr h) = inr (inl h)

-- where no message is refused, only memory is wanting
pub unread_only : (rs : List Record) (e : MessageError) → NoneRefused rs rs → FailsUnlessMemory e (unordered_in rs) → e ≡ Memory
unread_only rs e none h = elim (failed_with e (unordered_in rs) h) [
  | inl is ↦ is
  | inr k ↦ let read = all_read rs none in let no = sym read.1 ∙ k in absurd cc
]
