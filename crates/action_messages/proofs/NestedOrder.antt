-- The messages of a result are read where none is refused at the record at which it begins, and only there.
use Rattle.std.proofs.Common.{◌≡◌, ◌⊎◌, ℕ, zero, suc, ◌+◌, ◌<◌, length, take, drop, slice_index_or, arith, Bool, true, false, cond, eqb, ◌||◌, List, [], ◌∷◌, ◌++◌, Option, None, Result, Ok, Err, refl, sym, ap, subst, ◌∙◌, append_assoc, inl, inr}
use Rattle.std.specs.List.{AllByRecursion, list_any}
use Rattle.std.proofs.lemmas.Bool.{eqb-true}
use Rattle.std.proofs.lemmas.List.Folds.{list_any-append}
use Rattle.wire.specs.declared.field.Field.{Field}
use Rattle.wire.specs.Record.{Record, Value, record_of, records_of}
use Rattle.blob_digest.specs.DigestValue.{DigestValue}
use Rattle.wire.specs.Steps.{◌>>=◌}
use Rattle.wire.proofs.Steps.{bind_ok}
use Rattle.canonical.specs.Columns.{column}
use Rattle.canonical.specs.Fields.{bytes_at, int32_at, element_of, elements_of, elements_at}
use Rattle.canonical.specs.Told.{each}
use Rattle.messages.specs.declared.error.MessageError.{MessageError}
use Rattle.messages.specs.declared.error.MessageError.TheVariants.{Memory}
use Rattle.messages.specs.Gives.{FailsUnlessMemory}
use Rattle.messages.specs.Tolerant.{in_occurrences, alone, any_digest}
use Rattle.action_messages.specs.Stream.{StreamValue}
use Rattle.action_messages.specs.OutputFile.{OutputFileValue}
use Rattle.action_messages.specs.OutputDirectory.{OutputDirectoryValue}
use Rattle.action_messages.specs.OutputSymlink.{OutputSymlinkValue}
use Rattle.action_messages.specs.ActionResult.{ActionResultValue}
use Rattle.action_messages.specs.Refused.{element_checked, digest_checked, has_number, begun_at, begun, NoneRefused, IsFirstRefused}
use Rattle.action_messages.specs.Unordered.{any_output_file, any_output_directory, any_output_symlink, any_stream_at, unordered_in}

-- what is read
abbrev Passes : {A B : Type 0} → (A → Result B MessageError) → A → Type 0
Passes {A} {B} reads x = (y : B) × (reads x ≡ Ok y)

each_passes : {A B : Type 0} (reads : A → Result B MessageError) (xs : List A) (ys : List B) → each reads xs ≡ Ok ys → AllByRecursion (Passes reads) xs
each_passes reads [] ys e = tt
each_passes reads (x ∷ xs) ys e =
    let a = bind_ok (reads x) (λ y. each reads xs >>= λ l. Ok (y ∷ l)) ys e in
    let b = bind_ok (each reads xs) (λ l. Ok (a.0 ∷ l)) ys a.2 in
    ((a.0, a.1), each_passes reads xs b.0 b.1)

passes_each : {A B : Type 0} (reads : A → Result B MessageError) (xs : List A) → AllByRecursion (Passes reads) xs → (ys : List B) × (each reads xs ≡ Ok ys)
passes_each reads [] all = ([], refl)
passes_each reads (x ∷ xs) all =
    let rest = passes_each reads xs all.1 in
    (all.0.0 ∷ rest.0, rw (all.0.1, rest.1) refl)

element_passes : {A : Type 0} (says : List (List ℕ) → Result A MessageError) (v : Value) → AllByRecursion (Passes (alone says)) (element_of v) → element_checked says v ≡ Ok tt
element_passes says v all = let e = passes_each (alone says) (element_of v) all in rw e.1 refl

digest_passes : (came : Bool) (number : ℕ) (all : List Record) (o : Option DigestValue) → in_occurrences any_digest (elements_at number all) ≡ Ok o → digest_checked came number all ≡ Ok tt
digest_passes true number all o e = refl
digest_passes false number all o e = rw e refl

passes_element : {A : Type 0} (says : List (List ℕ) → Result A MessageError) (v : Value) → element_checked says v ≡ Ok tt → AllByRecursion (Passes (alone says)) (element_of v)
passes_element says v e = let b = bind_ok (each (alone says) (element_of v)) (λ _. Ok tt) tt e in each_passes (alone says) (element_of v) b.0 b.1

passes_digest : (number : ℕ) (all : List Record) → digest_checked false number all ≡ Ok tt → (o : Option DigestValue) × (in_occurrences any_digest (elements_at number all) ≡ Ok o)
passes_digest number all e = let b = bind_ok (in_occurrences any_digest (elements_at number all)) (λ _. Ok tt) tt e in (b.0, b.1)

-- ---- the elements of a number, record by record

all_front : {A : Type 0} (P : A → Type 0) (xs ys : List A) → AllByRecursion P (xs ++ ys) → AllByRecursion P xs × AllByRecursion P ys
all_front P [] ys all = (tt, all)
all_front P (x ∷ xs) ys all = let rest = all_front P xs ys all.1 in ((all.0, rest.0), rest.1)

record FirstAndOthers (P : List ℕ → Type 0) (n : ℕ) (r : Record) (rs : List Record) : Type 0 where
  first : eqb r.number n ≡ true → AllByRecursion P (element_of r.value)
  others : AllByRecursion P (elements_at n rs)

first_and_others : (P : List ℕ → Type 0) (n : ℕ) (r : Record) (rs : List Record) → AllByRecursion P (elements_at n (r ∷ rs)) → FirstAndOthers P n r rs
unfolding elements_at
first_and_others P n r rs all = by (eqb r.number n) refl all
  where
    by : (b : Bool) → eqb r.number n ≡ b → AllByRecursion P (elements_of (cond b (r ∷ column n rs) (column n rs))) → FirstAndOthers P n r rs
    by true is h = let s = all_front P (element_of r.value) (elements_of (column n rs)) h in record { first = λ _. s.0; others = s.1 }
    by false is h = record { first = λ e. absurd (let no : true ≡ false = sym e ∙ is in cc); others = h }

with_first : (P : List ℕ → Type 0) (n : ℕ) (r : Record) (rs : List Record) → (eqb r.number n ≡ true → AllByRecursion P (element_of r.value)) → AllByRecursion P (elements_at n rs) → AllByRecursion P (elements_at n (r ∷ rs))
unfolding elements_at
with_first P n r rs first others = by (eqb r.number n) refl
  where
    all_join : (xs ys : List (List ℕ)) → AllByRecursion P xs → AllByRecursion P ys → AllByRecursion P (xs ++ ys)
    all_join [] ys h k = k
    all_join (x ∷ xs) ys h k = (h.0, all_join xs ys h.1 k)

    by : (b : Bool) → eqb r.number n ≡ b → AllByRecursion P (elements_of (cond b (r ∷ column n rs) (column n rs)))
    by true is = all_join (element_of r.value) (elements_of (column n rs)) (first is) others
    by false is = others

-- ---- what is read passes

record AllPass (rs : List Record) : Type 0 where
  files : AllByRecursion (Passes (alone any_output_file)) (elements_at 2 rs)
  directories : AllByRecursion (Passes (alone any_output_directory)) (elements_at 3 rs)
  symlinks : AllByRecursion (Passes (alone any_output_symlink)) (elements_at 12 rs)

record DigestsPass (all : List Record) : Type 0 where
  out : (came : Bool) → digest_checked came 6 all ≡ Ok tt
  err : (came : Bool) → digest_checked came 8 all ≡ Ok tt

choice : (b : Bool) (x y : Result (Unit {0}) MessageError) → (b ≡ true → x ≡ Ok tt) → y ≡ Ok tt → cond b x y ≡ Ok tt
choice true x y h k = h refl
choice false x y h k = k

passes_at : (all : List Record) (out err : Bool) (before after : List Record) (r : Record) → DigestsPass all → AllPass (before ++ r ∷ after) → begun_at all out err r ≡ Ok tt
unfolding begun_at
passes_at all out err [] after r d p =
    let f = first_and_others (Passes (alone any_output_file)) 2 r after p.files in
    let g = first_and_others (Passes (alone any_output_directory)) 3 r after p.directories in
    let l = first_and_others (Passes (alone any_output_symlink)) 12 r after p.symlinks in
    choice (eqb r.number 2) _ _ (λ e. element_passes any_output_file r.value (f.first e))
    (choice (eqb r.number 3) _ _ (λ e. element_passes any_output_directory r.value (g.first e))
    (choice (eqb r.number 6) _ _ (λ e. d.out out)
    (choice (eqb r.number 8) _ _ (λ e. d.err err)
    (choice (eqb r.number 12) _ _ (λ e. element_passes any_output_symlink r.value (l.first e)) refl))))
passes_at all out err (c ∷ before) after r d p =
    let f = first_and_others (Passes (alone any_output_file)) 2 c (before ++ r ∷ after) p.files in
    let g = first_and_others (Passes (alone any_output_directory)) 3 c (before ++ r ∷ after) p.directories in
    let l = first_and_others (Passes (alone any_output_symlink)) 12 c (before ++ r ∷ after) p.symlinks in
    passes_at all out err before after r d (record { files = f.others; directories = g.others; symlinks = l.others })

stream_passes : (number : ℕ) (all : List Record) (s : StreamValue) → any_stream_at number all ≡ Ok s → (came : Bool) → digest_checked came (number + 1) all ≡ Ok tt
unfolding any_stream_at
stream_passes number all s e came =
    let d = bind_ok (in_occurrences any_digest (elements_at (number + 1) all)) (λ digest. Ok (record { raw = bytes_at number all; digest = digest })) s e in
    digest_passes came (number + 1) all d.0 d.1

pub none_refused : (rs : List Record) (u : ActionResultValue) → unordered_in rs ≡ Ok u → NoneRefused rs rs
unfolding unordered_in
none_refused rs u e before after r parts =
    let f = bind_ok (each (alone any_output_file) (elements_at 2 rs)) _ u e in
    let d = bind_ok (each (alone any_output_directory) (elements_at 3 rs)) _ u f.2 in
    let o = bind_ok (any_stream_at 5 rs) _ u d.2 in
    let p = bind_ok (any_stream_at 7 rs) _ u o.2 in
    let l = bind_ok (each (alone any_output_symlink) (elements_at 12 rs)) _ u p.2 in
    passes_at rs (has_number 6 before) (has_number 8 before) before after r (record { out = stream_passes 5 rs o.0 o.1; err = stream_passes 7 rs p.0 p.1 }) (subst AllPass parts (record {
      files = each_passes (alone any_output_file) (elements_at 2 rs) f.0 f.1;
      directories = each_passes (alone any_output_directory) (elements_at 3 rs) d.0 d.1;
      symlinks = each_passes (alone any_output_symlink) (elements_at 12 rs) l.0 l.1;
    }))

-- ---- and what passes is read

-- what begins at a record, by its number
abbrev ByNumber : List Record → Bool → Bool → Value → ℕ → Type 0
ByNumber all out err v n =
    cond (eqb n 2) (element_checked any_output_file v)
    (cond (eqb n 3) (element_checked any_output_directory v)
    (cond (eqb n 6) (digest_checked out 6 all)
    (cond (eqb n 8) (digest_checked err 8 all)
    (cond (eqb n 12) (element_checked any_output_symlink v) (Ok tt))))) ≡ Ok tt

at_number : (all : List Record) (out err : Bool) (r : Record) (n : ℕ) → eqb r.number n ≡ true → begun_at all out err r ≡ Ok tt → ByNumber all out err r.value n
unfolding begun_at
at_number all out err r n is h = subst (ByNumber all out err r.value) (eqb-true r.number n is) h

all_pass : (all before rs : List Record) → all ≡ before ++ rs → NoneRefused all all → AllPass rs
unfolding elements_at
all_pass all before [] parts none = record { files = tt; directories = tt; symlinks = tt }
all_pass all before (r ∷ rs) parts none =
    let here : begun all before r ≡ Ok tt = none before rs r parts in
    let rest = all_pass all (before ++ r ∷ []) rs (parts ∙ sym (append_assoc before (r ∷ []) rs)) none in
    let at = at_number all (has_number 6 before) (has_number 8 before) r in
    record {
      files = with_first (Passes (alone any_output_file)) 2 r rs (λ is. passes_element any_output_file r.value (at 2 is here)) rest.files;
      directories = with_first (Passes (alone any_output_directory)) 3 r rs (λ is. passes_element any_output_directory r.value (at 3 is here)) rest.directories;
      symlinks = with_first (Passes (alone any_output_symlink)) 12 r rs (λ is. passes_element any_output_symlink r.value (at 12 is here)) rest.symlinks;
    }

-- the first record of a number, if there is one
record IsFirstOf (n : ℕ) (rs : List Record) : Type 0 where
  before : List Record
  r : Record
  after : List Record
  parts : rs ≡ before ++ r ∷ after
  number : eqb r.number n ≡ true
  none : has_number n before ≡ false

first_of : (n : ℕ) (rs : List Record) → (elements_at n rs ≡ []) ⊎ IsFirstOf n rs
unfolding elements_at
first_of n [] = inl refl
first_of n (r ∷ rs) = by (eqb r.number n) refl (first_of n rs)
  where
    by : (b : Bool) → eqb r.number n ≡ b → (elements_of (column n rs) ≡ []) ⊎ IsFirstOf n rs → (elements_of (cond (eqb r.number n) (r ∷ column n rs) (column n rs)) ≡ []) ⊎ IsFirstOf n (r ∷ rs)
    by true is rest = inr (record { before = []; r = r; after = rs; parts = refl; number = is; none = refl })
    by false is (inl none) = inl (rw is none)
    by false is (inr f) = inr (record {
      before = r ∷ f.before;
      r = f.r;
      after = f.after;
      parts = ap (λ (l : List Record). r ∷ l) f.parts;
      number = f.number;
      none = rw is f.none;
    })

digest_read : (n : ℕ) (all : List Record) → (IsFirstOf n all → digest_checked false n all ≡ Ok tt) → (o : Option DigestValue) × (in_occurrences any_digest (elements_at n all) ≡ Ok o)
digest_read n all at = elim (first_of n all) [
  | inl none ↦ (None, rw none refl)
  | inr f ↦ passes_digest n all (at f)
]

assembled : (rs : List Record) (files : List OutputFileValue) (directories : List OutputDirectoryValue) (symlinks : List OutputSymlinkValue) (out err : Option DigestValue)
    → each (alone any_output_file) (elements_at 2 rs) ≡ Ok files → each (alone any_output_directory) (elements_at 3 rs) ≡ Ok directories → each (alone any_output_symlink) (elements_at 12 rs) ≡ Ok symlinks
    → in_occurrences any_digest (elements_at 6 rs) ≡ Ok out → in_occurrences any_digest (elements_at 8 rs) ≡ Ok err → (u : ActionResultValue) × (unordered_in rs ≡ Ok u)
unfolding unordered_in any_stream_at
assembled rs files directories symlinks out err f d l o e =
    let made : ActionResultValue = record {
      files = files;
      directories = directories;
      symlinks = symlinks;
      exit_code = int32_at 4 rs;
      stdout = record { raw = bytes_at 5 rs; digest = out };
      stderr = record { raw = bytes_at 7 rs; digest = err };
    } in
    (made, rw (f, d, o, e, l) refl)

pub all_read : (rs : List Record) → NoneRefused rs rs → (u : ActionResultValue) × (unordered_in rs ≡ Ok u)
all_read rs none =
    let p = all_pass rs [] rs refl none in
    let f = passes_each (alone any_output_file) (elements_at 2 rs) p.files in
    let d = passes_each (alone any_output_directory) (elements_at 3 rs) p.directories in
    let l = passes_each (alone any_output_symlink) (elements_at 12 rs) p.symlinks in
    let o = digest_read 6 rs (λ k. subst (λ (b : Bool). digest_checked b 6 rs ≡ Ok tt) k.none (at_number rs (has_number 6 k.before) (has_number 8 k.before) k.r 6 k.number (none k.before k.after k.r k.parts))) in
    let e = digest_read 8 rs (λ k. subst (λ (b : Bool). digest_checked b 8 rs ≡ Ok tt) k.none (at_number rs (has_number 6 k.before) (has_number 8 k.before) k.r 8 k.number (none k.before k.after k.r k.parts))) in
    assembled rs f.0 d.0 l.0 o.0 e.0 f.1 d.1 l.1 o.1 e.1

-- ---- one record more

-- the last of a list, or one before it
split_last : (xs before after : List Record) (r s : Record) → xs ++ r ∷ [] ≡ before ++ s ∷ after → ((others : List Record) × (xs ≡ before ++ s ∷ others)) ⊎ ((before ≡ xs) × (r ≡ s))
split_last [] [] after r s e = let same : r ≡ s = cc in inr (refl, same)
split_last [] (c ∷ []) after r s e = absurd cc
split_last [] (c ∷ d ∷ before) after r s e = absurd cc
split_last (x ∷ xs) [] after r s e = let same : x ≡ s = cc in inl (xs, ap (λ (y : Record). y ∷ xs) same)
split_last (x ∷ xs) (c ∷ before) after r s e =
    let heads : x ≡ c = cc in
    let back : c ≡ x = sym heads in
    let tails : xs ++ r ∷ [] ≡ before ++ s ∷ after = cc in
    elim (split_last xs before after r s tails) [
      | inl k ↦ inl (k.0, λ i. heads i ∷ k.1 i)
      | inr k ↦ inr ((λ i. back i ∷ k.0 i), k.1)
    ]

pub none_more : (all front : List Record) (r : Record) → NoneRefused all front → begun all front r ≡ Ok tt → NoneRefused all (front ++ r ∷ [])
none_more all front r none here before after s parts =
    elim (split_last front before after r s parts) [
      | inl k ↦ none before k.0 s k.1
      | inr k ↦ subst (λ (x : Record). begun all before x ≡ Ok tt) k.1 (subst (λ (l : List Record). begun all l r ≡ Ok tt) (sym k.0) here)
    ]

pub none_yet : (all : List Record) → NoneRefused all []
none_yet all [] after s parts = absurd cc
none_yet all (c ∷ before) after s parts = absurd cc

one_any : (p : Record → Bool) (r : Record) → list_any p (r ∷ []) ≡ p r
one_any p r = by (p r)
  where
    by : (b : Bool) → (b || false) ≡ b
    by true = refl
    by false = refl

pub has_more : (n : ℕ) (xs : List Record) (r : Record) → has_number n (xs ++ r ∷ []) ≡ (has_number n xs || eqb r.number n)
has_more n xs r =
    list_any-append (λ (x : Record). eqb x.number n) xs (r ∷ []) ∙ ap (λ (b : Bool). has_number n xs || b) (one_any (λ (x : Record). eqb x.number n) r)

-- what is known behind the records in front: their numbers, and that no message of theirs is refused
pub record IsSoFar (all front : List Record) (out err : Bool) : Type 0 where
  pub out_is : out ≡ has_number 6 front
  pub err_is : err ≡ has_number 8 front
  pub none : NoneRefused all front

pub so_far_more : (all front : List Record) (out err : Bool) (r : Record) → IsSoFar all front out err → begun_at all out err r ≡ Ok tt → IsSoFar all (front ++ r ∷ []) (out || eqb r.number 6) (err || eqb r.number 8)
so_far_more all front out err r s here = record {
  out_is = ap (λ (b : Bool). b || eqb r.number 6) s.out_is ∙ sym (has_more 6 front r);
  err_is = ap (λ (b : Bool). b || eqb r.number 8) s.err_is ∙ sym (has_more 8 front r);
  none = none_more all front r s.none ((λ i. begun_at all (sym s.out_is i) (sym s.err_is i) r) ∙ here);
}

pub first_refused : (e : MessageError) (all front after : List Record) (out err : Bool) (r : Record) → all ≡ front ++ r ∷ after → IsSoFar all front out err → begun_at all out err r ≡ Err e → IsFirstRefused e all
first_refused e all front after out err r parts s here = record {
  front = front;
  r = r;
  after = after;
  parts = parts;
  none = s.none;
  refused = (λ i. begun_at all (sym s.out_is i) (sym s.err_is i) r) ∙ here;
}

-- ---- the loop

pub so_far_none : (all : List Record) → IsSoFar all [] false false
so_far_none all = record { out_is = refl; err_is = refl; none = none_yet all }

records_more : (fields : List Field) (i : ℕ) (d : Field) → i < length fields → records_of (take (i + 1) fields) ≡ records_of (take i fields) ++ record_of (slice_index_or fields i d) ∷ []
records_more [] i d lt = absurd (omega (arith, lt))
records_more (f ∷ fields) zero d lt = refl
records_more (f ∷ fields) (suc i) d lt =
    let next : suc i + 1 ≡ suc (i + 1) = omega arith in
    rw next (ap (λ (l : List Record). record_of f ∷ l) (records_more fields i d (omega (arith, lt))))

records_split : (fields : List Field) (i : ℕ) (d : Field) → i < length fields → records_of fields ≡ records_of (take i fields) ++ record_of (slice_index_or fields i d) ∷ records_of (drop (i + 1) fields)
records_split [] i d lt = absurd (omega (arith, lt))
records_split (f ∷ fields) zero d lt = refl
records_split (f ∷ fields) (suc i) d lt =
    let next : suc i + 1 ≡ suc (i + 1) = omega arith in
    rw next (ap (λ (l : List Record). record_of f ∷ l) (records_split fields i d (omega (arith, lt))))

pub so_far_next : (fields : List Field) (i : ℕ) (d : Field) (out err : Bool) → i < length fields → IsSoFar (records_of fields) (records_of (take i fields)) out err
    → begun_at (records_of fields) out err (record_of (slice_index_or fields i d)) ≡ Ok tt
    → IsSoFar (records_of fields) (records_of (take (i + 1) fields)) (out || eqb (slice_index_or fields i d).number 6) (err || eqb (slice_index_or fields i d).number 8)
so_far_next fields i d out err lt so_far here =
    let field = slice_index_or fields i d in
    subst (λ (l : List Record). IsSoFar (records_of fields) l (out || eqb field.number 6) (err || eqb field.number 8)) (sym (records_more fields i d lt))
    (so_far_more (records_of fields) (records_of (take i fields)) out err (record_of field) so_far here)

-- what a step fails with
pub failed_with : {Y : Type 0} (e : MessageError) (read : Result Y MessageError) → FailsUnlessMemory e read → (e ≡ Memory) ⊎ (read ≡ Err e)
failed_with e read h = elim e as (λ d. FailsUnlessMemory d read → (d ≡ Memory) ⊎ (read ≡ Err d)) [ Memory ↦ λ k. inl refl | _ ↦ λ k. inr k ] h

pub refused_here : (e : MessageError) (fields : List Field) (i : ℕ) (d : Field) (out err : Bool) → i < length fields → IsSoFar (records_of fields) (records_of (take i fields)) out err
    → FailsUnlessMemory e (begun_at (records_of fields) out err (record_of (slice_index_or fields i d))) → (e ≡ Memory) ⊎ IsFirstRefused e (records_of fields)
refused_here e fields i d out err lt so_far h =
    elim (failed_with e (begun_at (records_of fields) out err (record_of (slice_index_or fields i d))) h) [
      | inl is ↦ inl is
      | inr k ↦ inr (first_refused e (records_of fields) (records_of (take i fields)) (records_of (drop (i + 1) fields)) out err (record_of (slice_index_or fields i d)) (records_split fields i d lt) so_far k)
    ]

-- ---- one first refusal

-- a place in a list is before another, behind it, or the same
places : (xs ys a b : List Record) (r s : Record) → xs ++ r ∷ a ≡ ys ++ s ∷ b
    → ((more : List Record) × (xs ≡ ys ++ s ∷ more)) ⊎ (((more : List Record) × (ys ≡ xs ++ r ∷ more)) ⊎ ((xs ≡ ys) × (r ≡ s)))
places [] [] a b r s e = let same : r ≡ s = cc in inr (inr (refl, same))
places [] (y ∷ ys) a b r s e = let same : r ≡ y = cc in inr (inl (ys, ap (λ (x : Record). x ∷ ys) (sym same)))
places (x ∷ xs) [] a b r s e = let same : x ≡ s = cc in inl (xs, ap (λ (y : Record). y ∷ xs) same)
places (x ∷ xs) (y ∷ ys) a b r s e =
    let heads : x ≡ y = cc in
    let back : y ≡ x = sym heads in
    let tails : xs ++ r ∷ a ≡ ys ++ s ∷ b = cc in
    elim (places xs ys a b r s tails) [
      | inl k ↦ inl (k.0, λ i. heads i ∷ k.1 i)
      | inr (inl k) ↦ inr (inl (k.0, λ i. back i ∷ k.1 i))
      | inr (inr k) ↦ inr (inr ((λ i. heads i ∷ k.0 i), k.1))
    ]

abbrev pub failed : {A : Type 0} → MessageError → Result A MessageError
failed e = Err e

pub err_is : {A : Type 0} (d e : MessageError) → failed {A = A} d ≡ failed e → d ≡ e
err_is d e h = cc

pub first_once : (d e : MessageError) (all : List Record) → IsFirstRefused d all → IsFirstRefused e all → d ≡ e
first_once d e all f g = elim (places f.front g.front f.after g.after f.r g.r (sym f.parts ∙ g.parts)) [
  | inl k ↦ let no = sym (f.none g.front k.0 g.r k.1) ∙ g.refused in absurd cc
  | inr (inl k) ↦ let no = sym (g.none f.front k.0 f.r k.1) ∙ f.refused in absurd cc
  | inr (inr k) ↦ err_is {A = Unit {0}} d e (sym f.refused ∙ (λ i. begun all (k.0 i) (k.1 i)) ∙ g.refused)
]
