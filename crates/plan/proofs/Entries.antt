-- Entries of a record are read in one way.
use Rattle.std.proofs.Common.{◌≡◌, ℕ, zero, suc, ◌+◌, ◌<◌, ◌≤◌, List, [], ◌∷◌, ◌++◌, length, get_or, take, refl, ap, sym, ◌∙◌, subst, arith, append_assoc, append-nil, length-append}
use Rattle.std.specs.List.{AllByRecursion}
use Rattle.std.proofs.lemmas.List.{map-append, take_more}
use Rattle.blob_digest.specs.Digest.{DigestValue, IsDigest}
use Rattle.plan.specs.declared.error.Fault.{Fault}
use Rattle.plan.specs.declared.error.ReadError.{ReadError}
use Rattle.plan.specs.declared.error.ReadError.TheVariants.{Faulty}
use Rattle.plan.specs.Line.{line_text, IsStepName, step_words}
use Rattle.plan.specs.Parts.{BeginsWithEntry}
use Rattle.plan.specs.Reading.{FaultyUnlessMemory}
use Rattle.plan.specs.Record.{RecordValue, IsRecord, record_header, entries_text, IsNextEntryFault, IsEntryFault}
use Rattle.plan.specs.Values.{StepValue}
use Rattle.plan.proofs.StepNames.{step_names}

abbrev pub record_with : List (List ℕ) → List DigestValue → RecordValue
record_with names digests = record { names = names; digests = digests }

-- ---- one more entry

pub entries_more : (names : List (List ℕ)) (digests : List DigestValue) (name : List ℕ) (digest : DigestValue) → length digests ≡ length names
    → entries_text (names ++ name ∷ []) (digests ++ digest ∷ []) ≡ entries_text names digests ++ line_text (step_words name digest)
entries_more [] [] name digest e = append-nil (line_text (step_words name digest))
entries_more [] (d ∷ digests) name digest e = absurd (omega (arith, e))
entries_more (n ∷ names) [] name digest e = absurd (omega (arith, e))
entries_more (n ∷ names) (d ∷ digests) name digest e =
    ap (λ (t : List ℕ). line_text (step_words n d) ++ t) (entries_more names digests name digest (omega (arith, e)))
    ∙ sym (append_assoc (line_text (step_words n d)) (entries_text names digests) (line_text (step_words name digest)))

pub names_more : (steps : List StepValue) (k : ℕ) (step : StepValue) → k < length steps → step ≡ get_or steps k step → step_names (take (k + 1) steps) ≡ step_names (take k steps) ++ step.name ∷ []
names_more steps k step lt e =
    ap step_names (take_more steps k step lt ∙ ap (λ (s : StepValue). take k steps ++ s ∷ []) (sym e))
    ∙ map-append (λ (s : StepValue). s.name) (take k steps) (step ∷ [])

pub names_split : (steps : List StepValue) (k : ℕ) (step : StepValue) → k < length steps → step ≡ get_or steps k step → (more : List (List ℕ)) × (step_names steps ≡ step_names (take k steps) ++ step.name ∷ more)
names_split [] k step lt e = absurd (omega arith)
names_split (s ∷ steps) zero step lt e = (step_names steps, ap (λ (x : StepValue). x.name ∷ step_names steps) (sym e))
names_split (s ∷ steps) (suc k) step lt e =
    let rest = names_split steps k step (omega arith) e in
    (rest.0, ap (λ (l : List (List ℕ)). s.name ∷ l) rest.1)

pub names_all : (steps : List StepValue) (k : ℕ) → length steps ≤ k → take k steps ≡ steps
names_all [] zero h = refl
names_all [] (suc k) h = refl
names_all (s ∷ steps) zero h = absurd (omega arith)
names_all (s ∷ steps) (suc k) h = ap (λ (ss : List StepValue). s ∷ ss) (names_all steps k (omega arith))

pub names_valid : (steps : List StepValue) (k : ℕ) → AllByRecursion (λ s. IsStepName s.name) steps → AllByRecursion IsStepName (step_names (take k steps))
names_valid [] zero h = tt
names_valid [] (suc k) h = tt
names_valid (s ∷ steps) zero h = tt
names_valid (s ∷ steps) (suc k) h = (h.0, names_valid steps k h.1)

pub digests_more : (digests : List DigestValue) (digest : DigestValue) → AllByRecursion IsDigest digests → IsDigest digest → AllByRecursion IsDigest (digests ++ digest ∷ [])
digests_more [] digest h is = (is, tt)
digests_more (d ∷ digests) digest h is = (h.0, digests_more digests digest h.1 is)

-- what a loop over the steps keeps
pub record KeepsEntries (steps : List StepValue) (k : ℕ) (text : List ℕ) (digests : List DigestValue) (rest : List ℕ) : Type 0 where
  pub valid : AllByRecursion IsDigest digests
  pub same : length digests ≡ length (step_names (take k steps))
  pub cut : text ≡ entries_text (step_names (take k steps)) digests ++ rest

pub next_entries : (steps : List StepValue) (k : ℕ) (text rest more : List ℕ) (digests next : List DigestValue) (digest : DigestValue) (step : StepValue)
    → KeepsEntries steps k text digests rest → k < length steps → step ≡ get_or steps k step → IsDigest digest → rest ≡ line_text (step_words step.name digest) ++ more → next ≡ digests ++ digest ∷ []
    → KeepsEntries steps (k + 1) text next more
next_entries steps k text rest more digests next digest step keeps lt e is begins told =
    let names = names_more steps k step lt e in
    let same = keeps.same in
    let lens : length (step_names (take (k + 1) steps)) ≡ length (step_names (take k steps) ++ step.name ∷ []) = ap (λ (l : List (List ℕ)). length l) names in
    let len = length-append (step_names (take k steps)) (step.name ∷ []) in
    let others = length-append digests (digest ∷ []) in
    subst (λ (ds : List DigestValue). KeepsEntries steps (k + 1) text ds more) (sym told) (record {
      valid = digests_more digests digest keeps.valid is;
      same = omega arith;
      cut =
          keeps.cut ∙ ap (λ (t : List ℕ). entries_text (step_names (take k steps)) digests ++ t) begins
          ∙ sym (append_assoc (entries_text (step_names (take k steps)) digests) (line_text (step_words step.name digest)) more)
          ∙ ap (λ (t : List ℕ). t ++ more) (sym (entries_more (step_names (take k steps)) digests step.name digest keeps.same))
          ∙ ap (λ (l : List (List ℕ)). entries_text l (digests ++ digest ∷ []) ++ more) (sym names);
    })

-- one entry at least begins the text
begins_some : (steps : List StepValue) (k : ℕ) (text rest : List ℕ) (digests : List DigestValue) → AllByRecursion (λ s. IsStepName s.name) steps → 0 < length digests → KeepsEntries steps k text digests rest → BeginsWithEntry (step_names steps) text
begins_some steps k text rest [] named some keeps = absurd (omega (arith, some))
begins_some [] zero text rest (d ∷ ds) named some keeps = let same = keeps.same in absurd (omega (arith, same))
begins_some [] (suc k) text rest (d ∷ ds) named some keeps = let same = keeps.same in absurd (omega (arith, same))
begins_some (s ∷ steps) zero text rest (d ∷ ds) named some keeps = let same = keeps.same in absurd (omega (arith, same))
begins_some (s ∷ steps) (suc k) text rest (d ∷ ds) named some keeps =
    (d, ((named.0, keeps.valid.0), (entries_text (step_names (take k steps)) ds ++ rest, keeps.cut ∙ append_assoc (line_text (step_words s.name d)) (entries_text (step_names (take k steps)) ds) rest)))

pub first_entry : (steps : List StepValue) (k : ℕ) (text rest more : List ℕ) (digests : List DigestValue) (digest : DigestValue) (step : StepValue)
    → AllByRecursion (λ s. IsStepName s.name) steps → KeepsEntries steps k text digests rest → k < length steps → step ≡ get_or steps k step → IsDigest digest → rest ≡ line_text (step_words step.name digest) ++ more
    → BeginsWithEntry (step_names steps) text
first_entry steps k text rest more digests digest step named keeps lt e is begins =
    let next = digests ++ digest ∷ [] in
    begins_some steps (k + 1) text more next named (omega (arith, length-append digests (digest ∷ []))) (next_entries steps k text rest more digests next digest step keeps lt e is begins refl)

-- ---- faults

entry_fault : (names done left : List (List ℕ)) (digests : List DigestValue) (text rest : List ℕ) (number : ℕ) (fault : Fault) (e : ReadError)
    → names ≡ done ++ left → IsRecord (record_with done digests) → text ≡ entries_text done digests ++ rest → number ≡ length done + 2 → IsNextEntryFault left rest fault → e ≡ Faulty (record { line = number; fault = fault })
    → FaultyUnlessMemory (IsEntryFault names (record_header ++ text)) e
entry_fault names done left digests text rest number fault e split valid cut at h told =
    let told_fault : IsEntryFault names (record_header ++ text) (record { line = number; fault = fault }) = record {
      done = done;
      left = left;
      digests = digests;
      rest = rest;
      split = split;
      valid = valid;
      cut = ap (λ (t : List ℕ). record_header ++ t) cut ∙ sym (append_assoc record_header (entries_text done digests) rest);
      number = at;
      fault = h;
    } in
    subst (FaultyUnlessMemory (IsEntryFault names (record_header ++ text))) (sym told) told_fault

pub step_entry_fault : (steps : List StepValue) (k : ℕ) (text rest : List ℕ) (digests : List DigestValue) (step : StepValue) (number : ℕ) (fault : Fault) (e : ReadError)
    → AllByRecursion (λ s. IsStepName s.name) steps → KeepsEntries steps k text digests rest → k < length steps → step ≡ get_or steps k step → ((more : List (List ℕ)) → IsNextEntryFault (step.name ∷ more) rest fault)
    → number ≡ length digests + 2 → e ≡ Faulty (record { line = number; fault = fault }) → FaultyUnlessMemory (IsEntryFault (step_names steps) (record_header ++ text)) e
step_entry_fault steps k text rest digests step number fault e named keeps lt at h counted told =
    let split = names_split steps k step lt at in
    let same = keeps.same in
    entry_fault (step_names steps) (step_names (take k steps)) (step.name ∷ split.0) digests text rest number fault e split.1
    (record { named = names_valid steps k named; valid = keeps.valid; same_length = same }) keeps.cut (omega arith) (h split.0) told

all_kept : (steps : List StepValue) (k : ℕ) (text rest : List ℕ) (digests : List DigestValue) → length steps ≤ k → KeepsEntries steps k text digests rest
    → (length digests ≡ length (step_names steps)) × (text ≡ entries_text (step_names steps) digests ++ rest)
all_kept steps k text rest digests past keeps =
    let all = names_all steps k past in (
      keeps.same ∙ ap (λ (ss : List StepValue). length (step_names ss)) all,
      keeps.cut ∙ ap (λ (ss : List StepValue). entries_text (step_names ss) digests ++ rest) all,
    )

all_named : (steps : List StepValue) → AllByRecursion (λ s. IsStepName s.name) steps → AllByRecursion IsStepName (step_names steps)
all_named [] h = tt
all_named (s ∷ steps) h = (h.0, all_named steps h.1)

pub end_entry_fault : (steps : List StepValue) (k : ℕ) (text rest : List ℕ) (digests : List DigestValue) (number : ℕ) (fault : Fault) (e : ReadError)
    → AllByRecursion (λ s. IsStepName s.name) steps → length steps ≤ k → KeepsEntries steps k text digests rest → IsNextEntryFault [] rest fault
    → number ≡ length digests + 2 → e ≡ Faulty (record { line = number; fault = fault }) → FaultyUnlessMemory (IsEntryFault (step_names steps) (record_header ++ text)) e
end_entry_fault steps k text rest digests number fault e named past keeps h counted told =
    let all = all_kept steps k text rest digests past keeps in
    let same = all.0 in
    entry_fault (step_names steps) (step_names steps) [] digests text rest number fault e (sym (append-nil (step_names steps)))
    (record { named = all_named steps named; valid = keeps.valid; same_length = same }) all.1 (omega arith) h told

pub whole_record : (steps : List StepValue) (k : ℕ) (text rest : List ℕ) (digests : List DigestValue) → AllByRecursion (λ s. IsStepName s.name) steps → length steps ≤ k → KeepsEntries steps k text digests rest → rest ≡ []
    → IsRecord (record_with (step_names steps) digests) × (text ≡ entries_text (step_names steps) digests)
whole_record steps k text rest digests named past keeps none =
    let all = all_kept steps k text rest digests past keeps in (
      record { named = all_named steps named; valid = keeps.valid; same_length = all.0 },
      all.1 ∙ ap (λ (t : List ℕ). entries_text (step_names steps) digests ++ t) none ∙ append-nil (entries_text (step_names steps) digests),
    )

-- ---- writing

entries_take : (names : List (List ℕ)) (digests : List DigestValue) (k : ℕ) (name : List ℕ) (digest : DigestValue) → k < length names → length digests ≡ length names
    → name ≡ get_or names k name → digest ≡ get_or digests k digest → entries_text (take (suc k) names) digests ≡ entries_text (take k names) digests ++ line_text (step_words name digest)
entries_take [] digests k name digest lt same e f = absurd (omega arith)
entries_take (n ∷ names) [] k name digest lt same e f = absurd (omega (arith, same))
entries_take (n ∷ names) (d ∷ digests) zero name digest lt same e f =
    append-nil (line_text (step_words n d)) ∙ ap (λ (x : List ℕ). line_text (step_words x d)) (sym e) ∙ ap (λ (x : DigestValue). line_text (step_words name x)) (sym f)
entries_take (n ∷ names) (d ∷ digests) (suc k) name digest lt same e f =
    ap (λ (t : List ℕ). line_text (step_words n d) ++ t) (entries_take names digests k name digest (omega arith) (omega (arith, same)) e f)
    ∙ sym (append_assoc (line_text (step_words n d)) (entries_text (take k names) digests) (line_text (step_words name digest)))

pub next_entry : (names : List (List ℕ)) (digests : List DigestValue) (k : ℕ) (name : List ℕ) (digest : DigestValue) (old new : List ℕ) → k < length names → length digests ≡ length names
    → name ≡ get_or names k name → digest ≡ get_or digests k digest → old ≡ record_header ++ entries_text (take k names) digests → new ≡ old ++ line_text (step_words name digest)
    → new ≡ record_header ++ entries_text (take (k + 1) names) digests
next_entry names digests k name digest old new lt same e f kept told =
    let one : suc k ≡ k + 1 = omega arith in
    told ∙ ap (λ (t : List ℕ). t ++ line_text (step_words name digest)) kept ∙ append_assoc record_header (entries_text (take k names) digests) (line_text (step_words name digest))
    ∙ ap (λ (t : List ℕ). record_header ++ t) (sym (entries_take names digests k name digest lt same e f))
    ∙ ap (λ (n : ℕ). record_header ++ entries_text (take n names) digests) one

-- ---- fitting

name_of : (steps : List StepValue) (k : ℕ) (step : StepValue) → k < length steps → step ≡ get_or steps k step → get_or (step_names steps) k step.name ≡ step.name
name_of [] k step lt e = absurd (omega arith)
name_of (s ∷ steps) zero step lt e = ap (λ (x : StepValue). x.name) (sym e)
name_of (s ∷ steps) (suc k) step lt e = name_of steps k step (omega arith) e

name_other : (names : List (List ℕ)) (k : ℕ) (x y : List ℕ) → k < length names → get_or names k x ≡ get_or names k y
name_other [] k x y lt = absurd (omega arith)
name_other (n ∷ names) zero x y lt = refl
name_other (n ∷ names) (suc k) x y lt = name_other names k x y (omega arith)

pub same_name : (names : List (List ℕ)) (steps : List StepValue) (k : ℕ) (name : List ℕ) (step : StepValue) → k < length names → k < length steps → name ≡ get_or names k name → step ≡ get_or steps k step
    → names ≡ step_names steps → name ≡ step.name
same_name names steps k name step lt lu e f fit =
    e ∙ name_other names k name step.name lt ∙ ap (λ (l : List (List ℕ)). get_or l k step.name) fit ∙ name_of steps k step lu f

count_names : (steps : List StepValue) → length (step_names steps) ≡ length steps
count_names [] = refl
count_names (s ∷ steps) = ap suc (count_names steps)

pub next_fit : (names : List (List ℕ)) (steps : List StepValue) (k : ℕ) (name : List ℕ) (step : StepValue) → k < length names → k < length steps → name ≡ get_or names k name → step ≡ get_or steps k step
    → name ≡ step.name → take k names ≡ take k (step_names steps) → take (k + 1) names ≡ take (k + 1) (step_names steps)
next_fit names steps k name step lt lu e f same kept =
    let lv : k < length (step_names steps) = omega (arith, count_names steps) in
    take_more names k name lt ∙ ap (λ (x : List ℕ). take k names ++ x ∷ []) (sym e ∙ same ∙ sym (name_of steps k step lu f))
    ∙ ap (λ (l : List (List ℕ)). l ++ get_or (step_names steps) k step.name ∷ []) kept ∙ sym (take_more (step_names steps) k step.name lv)
