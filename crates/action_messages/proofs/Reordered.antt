-- What records say of a result doesn't depend on how those of different fields stand to each other.
use Rattle.std.proofs.Common.{◌≡◌, ℕ, ◌+◌, ◌%◌, ◌^◌, List, [], ◌∷◌, refl, sym, ap, subst, ◌∙◌, inl, inr}
use Rattle.std.specs.Int.{w32, cast_signed}
use Rattle.std.specs.List.{AllByRecursion}
use Rattle.std.proofs.lemmas.Bool.Decides.{eqb_tells}
use Rattle.wire.specs.Record.{Record}
use Rattle.wire.proofs.AnyOnce.{any_once}
use Rattle.wire.specs.AnySpelling.{SpellsAny}
use Rattle.canonical.specs.Columns.{column}
use Rattle.canonical.specs.Fields.{bytes_at, number_at, int32_at, elements_at, last_value, message_of, bytes_or_none, number_of, elements_of}
use Rattle.canonical.proofs.Columns.{column_cases}
use Rattle.action_messages.specs.ActionResult.{ActionResultValue}
use Rattle.action_messages.specs.Nested.{SaysOne, SaysSorted}
use Rattle.action_messages.specs.Reads.{HaveSameFields, SaysDigest, SaysFile, SaysDirectory, SaysSymlink, SaysStream, SaysResult, Reads}
use Rattle.action_messages.specs.Stream.{StreamValue}

-- ---- what holds of each record holds of each field's

column_here : (r : Record) (rs : List Record) → column r.number (r ∷ rs) ≡ r ∷ column r.number rs
column_here r rs = elim (eqb_tells r.number r.number) [ inl e ↦ rw e.0 refl | inr e ↦ absurd (e.1 refl) ]

module _ (P : Record → Type 0) where
  all_of_column : (n : ℕ) (rs : List Record) → AllByRecursion P rs → AllByRecursion P (column n rs)
  all_of_column n [] all = tt
  all_of_column n (r ∷ rs) all = elim (column_cases n r rs) [
    | inl e ↦ subst (AllByRecursion P) (sym e) (all.0, all_of_column n rs all.1)
    | inr e ↦ subst (AllByRecursion P) (sym e) (all_of_column n rs all.1)
  ]

  all_after : (n : ℕ) (r : Record) (rs : List Record) → AllByRecursion P (column n (r ∷ rs)) → AllByRecursion P (column n rs)
  all_after n r rs all = elim (column_cases n r rs) [
    | inl e ↦ (subst (AllByRecursion P) e all).1
    | inr e ↦ subst (AllByRecursion P) e all
  ]

  all_by_columns : (rs : List Record) → ((n : ℕ) → AllByRecursion P (column n rs)) → AllByRecursion P rs
  all_by_columns [] all = tt
  all_by_columns (r ∷ rs) all =
      let here : AllByRecursion P (r ∷ column r.number rs) = subst (AllByRecursion P) (column_here r rs) (all r.number) in
      (here.0, all_by_columns rs (λ n. all_after n r rs (all n)))

  all_reordered : (rs ss : List Record) → HaveSameFields rs ss → AllByRecursion P rs → AllByRecursion P ss
  all_reordered rs ss same all = all_by_columns ss (λ n. subst (AllByRecursion P) (same n) (all_of_column n rs all))

-- ---- what is read from a field's records

bytes_reordered : (n : ℕ) (rs ss : List Record) → HaveSameFields rs ss → bytes_at n ss ≡ bytes_at n rs
unfolding bytes_at
bytes_reordered n rs ss same = ap (λ c. bytes_or_none (message_of (last_value c))) (sym (same n))

int32_reordered : (n : ℕ) (rs ss : List Record) → HaveSameFields rs ss → int32_at n ss ≡ int32_at n rs
unfolding int32_at number_at
int32_reordered n rs ss same = ap (λ c. cast_signed w32 (number_of (last_value c) % 2 ^ 32)) (sym (same n))

elements_reordered : (n : ℕ) (rs ss : List Record) → HaveSameFields rs ss → elements_at n rs ≡ elements_at n ss
unfolding elements_at
elements_reordered n rs ss same = ap elements_of (same n)

-- ---- a result

stream_reordered : (n : ℕ) (s : StreamValue) (rs ss : List Record) → HaveSameFields rs ss → SaysStream n s rs → SaysStream n s ss
stream_reordered n s rs ss same h = record {
  raw = bytes_reordered n rs ss same ∙ h.raw;
  digest = subst (SaysOne SaysDigest s.digest) (elements_reordered (n + 1) rs ss same) h.digest;
}

result_reordered : (m : ActionResultValue) (rs ss : List Record) → HaveSameFields rs ss → SaysResult m rs → SaysResult m ss
result_reordered m rs ss same h = record {
  known = all_reordered _ rs ss same h.known;
  files = subst (SaysSorted SaysFile m.files) (elements_reordered 2 rs ss same) h.files;
  directories = subst (SaysSorted SaysDirectory m.directories) (elements_reordered 3 rs ss same) h.directories;
  exit_code = int32_reordered 4 rs ss same ∙ h.exit_code;
  stdout = stream_reordered 5 m.stdout rs ss same h.stdout;
  stderr = stream_reordered 7 m.stderr rs ss same h.stderr;
  symlinks = subst (SaysSorted SaysSymlink m.symlinks) (elements_reordered 12 rs ss same) h.symlinks;
  valid = h.valid;
}

pub reads_reordered : (m : ActionResultValue) (bytes other : List ℕ) (rs ss : List Record) → SpellsAny bytes rs → SpellsAny other ss → HaveSameFields rs ss → Reads m bytes → Reads m other
reads_reordered m bytes other rs ss spelled also same (found, is, says) =
    (ss, also, result_reordered m rs ss same (subst (SaysResult m) (any_once bytes found rs is spelled) says))
