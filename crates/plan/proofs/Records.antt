-- A text is that of one record of a plan, and has one first fault.
use Rattle.std.proofs.Common.{◌≡◌, ◌≢◌, ◌⊎◌, ℕ, ◌+◌, ◌≤◌, List, [], ◌∷◌, ◌++◌, length, refl, ap, sym, ◌∙◌, subst, inl, inr, arith, append_assoc, append-nil, Result, Ok, Err, IfOk, IfErr}
use Rattle.std.specs.Result.{IsErr, IsErrAnd}
use Rattle.std.proofs.lemmas.List.{append_cancel_left}
use Rattle.blob_digest.specs.Digest.{DigestValue}
use Rattle.plan.specs.declared.error.PlanError.{PlanError}
use Rattle.plan.specs.declared.error.Fault.{Fault}
use Rattle.plan.specs.declared.error.Fault.TheVariants as faults
use Rattle.plan.specs.declared.error.ReadError.{ReadError}
use Rattle.plan.specs.declared.error.ReadError.TheVariants.{Faulty, Memory}
use Rattle.plan.specs.Faults.{BeginsWithLine}
use Rattle.plan.specs.Line.{line_text, Begins, step_words}
use Rattle.plan.specs.Lines.{WrittenLine, step_line}
use Rattle.plan.specs.Parts.{BeginsWithEntry}
use Rattle.plan.specs.Reading.{FaultyUnlessMemory, ReadsUnlessMemory}
use Rattle.plan.specs.Record.{RecordValue, IsRecord, record_header, entries_text, build_record_text, IsNextEntryFault, IsEntryFault, IsRecordFault}
use Rattle.plan.proofs.Entries.{record_with}
use Rattle.plan.proofs.Written.{first_one, no_line_left}

-- the entry of the next name may follow where a text goes on
GoesOn : List (List ℕ) → List ℕ → Type 0
GoesOn left rest = (name : List ℕ) × (digest : DigestValue) × (more : List (List ℕ)) × (left ≡ name ∷ more) × BeginsWithLine (step_line name digest) rest

assoc_line : (name : List ℕ) (digest : DigestValue) (x rest : List ℕ) → (line_text (step_words name digest) ++ x) ++ rest ≡ line_text (step_words name digest) ++ (x ++ rest)
assoc_line name digest x rest = append_assoc (line_text (step_words name digest)) x rest

tail : (name : List ℕ) (digest : DigestValue) (names : List (List ℕ)) (digests : List DigestValue) → IsRecord (record_with (name ∷ names) (digest ∷ digests)) → IsRecord (record_with names digests)
tail name digest names digests is = let same = is.same_length in record { named = is.named.1; valid = is.valid.1; same_length = omega arith }

no_digest : (name : List ℕ) (names : List (List ℕ)) → IsRecord (record_with (name ∷ names) []) → ⊥
no_digest name names is = let same = is.same_length in omega arith

no_name : (digest : DigestValue) (digests : List DigestValue) → IsRecord (record_with [] (digest ∷ digests)) → ⊥
no_name digest digests is = let same = is.same_length in omega arith

goes_on : (left right y : List (List ℕ)) (m : List ℕ) (d : DigestValue) (es : List DigestValue) (r s : List ℕ) → IsRecord (record_with (m ∷ y) (d ∷ es)) → left ≡ m ∷ (y ++ right) → r ≡ entries_text (m ∷ y) (d ∷ es) ++ s → GoesOn left r
unfolding GoesOn
goes_on left right y m d es r s is split e = (m, d, y ++ right, split, ((is.named.0, is.valid.0), (entries_text y es ++ s, e ∙ assoc_line m d (entries_text y es) s)))

-- where two ways to cut a text part
record Same (x y left right : List (List ℕ)) (ds es : List DigestValue) (r s : List ℕ) : Type 0 where
  done : x ≡ y
  left_same : left ≡ right
  digests : ds ≡ es
  rest : r ≡ s

same_entries : (x : List (List ℕ)) (ds : List DigestValue) (y : List (List ℕ)) (es : List DigestValue) (left right : List (List ℕ)) (r s : List ℕ)
    → IsRecord (record_with x ds) → IsRecord (record_with y es) → x ++ left ≡ y ++ right → entries_text x ds ++ r ≡ entries_text y es ++ s
    → Same x y left right ds es r s ⊎ (GoesOn left r ⊎ GoesOn right s)
same_entries [] (d ∷ ds) y es left right r s is was split e = absurd (no_name d ds is)
same_entries (n ∷ x) [] y es left right r s is was split e = absurd (no_digest n x is)
same_entries [] [] [] (d ∷ es) left right r s is was split e = absurd (no_name d es was)
same_entries [] [] (m ∷ y) [] left right r s is was split e = absurd (no_digest m y was)
same_entries [] [] [] [] left right r s is was split e = inl (record { done = refl; left_same = split; digests = refl; rest = e })
same_entries [] [] (m ∷ y) (d ∷ es) left right r s is was split e = inr (inl (goes_on left right y m d es r s was split e))
same_entries (n ∷ x) (d ∷ ds) [] (g ∷ es) left right r s is was split e = absurd (no_name g es was)
same_entries (n ∷ x) (d ∷ ds) (m ∷ y) [] left right r s is was split e = absurd (no_digest m y was)
same_entries (n ∷ x) (d ∷ ds) [] [] left right r s is was split e = inr (inr (goes_on right left x n d ds s r is (sym split) (sym e)))
same_entries (n ∷ x) (d ∷ ds) (m ∷ y) (g ∷ es) left right r s is was split e =
    let first = first_one (step_line n d) (step_line m g) (entries_text x ds ++ r) (entries_text y es ++ s) (is.named.0, is.valid.0) (was.named.0, was.valid.0)
    (sym (assoc_line n d (entries_text x ds) r) ∙ e ∙ assoc_line m g (entries_text y es) s)
    in
    let line = first.0 in
    let name : n ≡ m = cc line in
    let digest : d ≡ g = cc line in
    let names : x ++ left ≡ y ++ right = cc split in
    elim (same_entries x ds y es left right r s (tail n d x ds is) (tail m g y es was) names first.1) [
      | inl same ↦ inl (record {
        done = ap (λ (a : List ℕ). a ∷ x) name ∙ ap (λ (l : List (List ℕ)). m ∷ l) same.done;
        left_same = same.left_same;
        digests = ap (λ (a : DigestValue). a ∷ ds) digest ∙ ap (λ (l : List DigestValue). g ∷ l) same.digests;
        rest = same.rest;
      })
      | inr other ↦ inr other
    ]

-- ---- faults

same_line : (a b : WrittenLine) (text : List ℕ) → BeginsWithLine a text → BeginsWithLine b text → a ≡ b
same_line a b text f g = (first_one a b f.1.0 g.1.0 f.0 g.0 (sym f.1.1 ∙ g.1.1)).0

no_goes_on : (left : List (List ℕ)) (rest : List ℕ) (fault : Fault) → GoesOn left rest → IsNextEntryFault left rest fault → ⊥
unfolding GoesOn
no_goes_on left rest faults.BadLine w h = h.1 w.0 w.1 w.4
no_goes_on left rest faults.RecordDiffers w (inl h) = no_line_left rest (step_line w.0 w.1) h.0 w.4
no_goes_on left rest faults.RecordDiffers w (inr h) =
    let line = same_line (step_line w.0 w.1) (step_line h.0 h.1) rest w.4 h.2 in
    let name : w.0 ≡ h.0 = cc line in
    h.3 w.2 (w.3 ∙ ap (λ (n : List ℕ). n ∷ w.2) name)
no_goes_on left rest faults.BadHeader w h = h
no_goes_on left rest faults.SameStep w h = h
no_goes_on left rest faults.LaterStep w h = h
no_goes_on left rest faults.Overlap w h = h
no_goes_on left rest faults.TooMany w h = h

-- nothing begins the rest, or all of it is nothing or an entry
Unread : List ℕ → Type 0
Unread rest = (rest ≢ []) × ((name : List ℕ) (digest : DigestValue) → ¬ BeginsWithLine (step_line name digest) rest)

Read : List ℕ → Type 0
Read rest = (rest ≡ []) ⊎ ((name : List ℕ) × (digest : DigestValue) × BeginsWithLine (step_line name digest) rest)

fault_is : (left : List (List ℕ)) (rest : List ℕ) (fault : Fault) → IsNextEntryFault left rest fault → ((fault ≡ faults.BadLine) × Unread rest) ⊎ ((fault ≡ faults.RecordDiffers) × Read rest)
unfolding Unread Read
fault_is left rest faults.BadLine h = inl (refl, h)
fault_is left rest faults.RecordDiffers (inl h) = inr (refl, inl h.0)
fault_is left rest faults.RecordDiffers (inr h) = inr (refl, inr (h.0, h.1, h.2))
fault_is left rest faults.BadHeader h = absurd h
fault_is left rest faults.SameStep h = absurd h
fault_is left rest faults.LaterStep h = absurd h
fault_is left rest faults.Overlap h = absurd h
fault_is left rest faults.TooMany h = absurd h

not_both : (rest : List ℕ) → Unread rest → Read rest → ⊥
unfolding Unread Read
not_both rest h (inl none) = h.0 none
not_both rest h (inr w) = h.1 w.0 w.1 w.2

next_one : (left : List (List ℕ)) (rest : List ℕ) (x y : Fault) → IsNextEntryFault left rest x → IsNextEntryFault left rest y → x ≡ y
next_one left rest x y f g = by (fault_is left rest x f) (fault_is left rest y g)
  where
    by : ((x ≡ faults.BadLine) × Unread rest) ⊎ ((x ≡ faults.RecordDiffers) × Read rest) → ((y ≡ faults.BadLine) × Unread rest) ⊎ ((y ≡ faults.RecordDiffers) × Read rest) → x ≡ y
    by (inl a) (inl b) = a.0 ∙ sym b.0
    by (inl a) (inr b) = absurd (not_both rest a.1 b.1)
    by (inr a) (inl b) = absurd (not_both rest b.1 a.1)
    by (inr a) (inr b) = a.0 ∙ sym b.0

-- ---- the laws

cut_header : (text x rest : List ℕ) → text ≡ (record_header ++ x) ++ rest → text ≡ record_header ++ (x ++ rest)
cut_header text x rest e = e ∙ append_assoc record_header x rest

begins : (text x rest : List ℕ) → text ≡ (record_header ++ x) ++ rest → Begins record_header text
begins text x rest e = (x ++ rest, cut_header text x rest e)

abbrev error_with : ℕ → Fault → PlanError
error_with line fault = record { line = line; fault = fault }

entry_one : (names : List (List ℕ)) (text : List ℕ) (e f : PlanError) → IsEntryFault names text e → IsEntryFault names text f → e ≡ f
entry_one names text e f x y =
    elim (same_entries x.done x.digests y.done y.digests x.left y.left x.rest y.rest x.valid y.valid (sym x.split ∙ y.split)
    (append_cancel_left record_header (entries_text x.done x.digests ++ x.rest) (entries_text y.done y.digests ++ y.rest)
    (sym (cut_header text (entries_text x.done x.digests) x.rest x.cut) ∙ cut_header text (entries_text y.done y.digests) y.rest y.cut))) [
      | inl same ↦
          let number : e.line ≡ f.line = x.number ∙ ap (λ (l : List (List ℕ)). length l + 2) same.done ∙ sym y.number in
          let moved = subst (λ (r : List ℕ). IsNextEntryFault y.left r e.fault) same.rest (subst (λ (l : List (List ℕ)). IsNextEntryFault l x.rest e.fault) same.left_same x.fault) in
          let fault = next_one y.left y.rest e.fault f.fault moved y.fault in
          ap (λ (n : ℕ). error_with n e.fault) number ∙ ap (λ (k : Fault). error_with f.line k) fault
      | inr other ↦ elim other [
        | inl on ↦ absurd (no_goes_on x.left x.rest e.fault on x.fault)
        | inr on ↦ absurd (no_goes_on y.left y.rest f.fault on y.fault)
      ]
    ]

pub record_fault_one : (names : List (List ℕ)) (text : List ℕ) (e f : PlanError) → IsRecordFault names text e → IsRecordFault names text f → e ≡ f
record_fault_one names text e f (inl x) (inl y) = x.0 ∙ sym y.0
record_fault_one names text e f (inl x) (inr y) = absurd (x.1 (begins text (entries_text y.done y.digests) y.rest y.cut))
record_fault_one names text e f (inr x) (inl y) = absurd (y.1 (begins text (entries_text x.done x.digests) x.rest x.cut))
record_fault_one names text e f (inr x) (inr y) = entry_one names text e f x y

nothing_goes_on : (left : List (List ℕ)) → GoesOn left [] → ⊥
unfolding GoesOn
nothing_goes_on left w = no_line_left [] (step_line w.0 w.1) refl w.4

no_end_fault : (fault : Fault) → IsNextEntryFault [] [] fault → ⊥
no_end_fault faults.BadLine h = h.0 refl
no_end_fault faults.RecordDiffers (inl h) = h.1 refl
no_end_fault faults.RecordDiffers (inr h) = no_line_left [] (step_line h.0 h.1) refl h.2
no_end_fault faults.BadHeader h = h
no_end_fault faults.SameStep h = h
no_end_fault faults.LaterStep h = h
no_end_fault faults.Overlap h = h
no_end_fault faults.TooMany h = h

whole_cut : (r : RecordValue) → build_record_text r ≡ record_header ++ (entries_text r.names r.digests ++ [])
whole_cut r = ap (λ (t : List ℕ). record_header ++ t) (sym (append-nil (entries_text r.names r.digests)))

pub no_record_fault : (r : RecordValue) (e : PlanError) → IsRecord r → ¬ IsRecordFault r.names (build_record_text r) e
no_record_fault r e is (inl x) = x.1 (entries_text r.names r.digests, refl)
no_record_fault r e is (inr x) =
    elim (same_entries x.done x.digests r.names r.digests x.left [] x.rest [] x.valid is (sym x.split ∙ sym (append-nil r.names))
    (append_cancel_left record_header (entries_text x.done x.digests ++ x.rest) (entries_text r.names r.digests ++ []) (sym (cut_header (build_record_text r) (entries_text x.done x.digests) x.rest x.cut) ∙ whole_cut r))) [
      | inl same ↦ no_end_fault e.fault (subst (λ (t : List ℕ). IsNextEntryFault [] t e.fault) same.rest (subst (λ (l : List (List ℕ)). IsNextEntryFault l x.rest e.fault) same.left_same x.fault))
      | inr other ↦ elim other [
        | inl on ↦ no_goes_on x.left x.rest e.fault on x.fault
        | inr on ↦ nothing_goes_on [] on
      ]
    ]

pub record_one : (r s : RecordValue) → IsRecord r → IsRecord s → r.names ≡ s.names → build_record_text r ≡ build_record_text s → r ≡ s
record_one r s is was names e =
    elim (same_entries r.names r.digests s.names s.digests [] [] [] [] is was (ap (λ (l : List (List ℕ)). l ++ []) names)
    (append_cancel_left record_header (entries_text r.names r.digests ++ []) (entries_text s.names s.digests ++ []) (sym (whole_cut r) ∙ e ∙ whole_cut s))) [
      | inl same ↦ ap (λ (l : List (List ℕ)). record_with l r.digests) names ∙ ap (λ (ds : List DigestValue). record_with s.names ds) same.digests
      | inr other ↦ elim other [
        | inl on ↦ absurd (nothing_goes_on [] on)
        | inr on ↦ absurd (nothing_goes_on [] on)
      ]
    ]

-- ---- what reading answers

pub only_record : (names : List (List ℕ)) (text : List ℕ) (result : Result RecordValue ReadError) (r : RecordValue) → IsRecord r → r.names ≡ names → text ≡ build_record_text r
    → IfOk result (λ s. IsRecord s × (s.names ≡ names) × (text ≡ build_record_text s)) → IfErr result (FaultyUnlessMemory (IsRecordFault names text)) → ReadsUnlessMemory result r
only_record names text (Ok s) r is fits e found fault = record_one s r found.0 is (found.1 ∙ sym fits) (sym found.2 ∙ e)
only_record names text (Err Memory) r is fits e found fault = tt
only_record names text (Err (Faulty x)) r is fits e found fault =
    no_record_fault r x is (subst (λ (l : List (List ℕ)). IsRecordFault l (build_record_text r) x) (sym fits) (subst (λ (t : List ℕ). IsRecordFault names t x) e fault))

pub only_handed_record : (names : List (List ℕ)) (text : List ℕ) (result : Result RecordValue ReadError) (r : RecordValue) → IsErr result → IsRecord r → r.names ≡ names → text ≡ build_record_text r
    → IfErr result (FaultyUnlessMemory (IsRecordFault names text)) → ReadsUnlessMemory result r
only_handed_record names text (Ok s) r err is fits e fault = absurd (cc err)
only_handed_record names text (Err x) r err is fits e fault = only_record names text (Err x) r is fits e tt fault

pub lifted_record : (names : List (List ℕ)) (text rest : List ℕ) (x : PlanError) → text ≡ record_header ++ rest → IsEntryFault names (record_header ++ rest) x → IsRecordFault names text x
lifted_record names text rest x e h = inr (subst (λ (t : List ℕ). IsEntryFault names t x) (sym e) h)

-- ---- faults in line 1 or 2

entry_goes : (left names : List (List ℕ)) (rest : List ℕ) → names ≡ left → BeginsWithEntry names rest → GoesOn left rest
unfolding GoesOn
entry_goes left [] rest same h = absurd h
entry_goes left (n ∷ names) rest same h = (n, h.0, names, sym same, h.1)

not_early_record : (names : List (List ℕ)) (text rest : List ℕ) (e : PlanError) → text ≡ record_header ++ rest → BeginsWithEntry names rest → IsRecordFault names text e → e.line ≤ 2 → ⊥
not_early_record names text rest e cut first (inl x) few = x.1 (rest, cut)
not_early_record names text rest e cut first (inr x) few = by x.done x.split x.cut x.number
  where
    by : (done : List (List ℕ)) → names ≡ done ++ x.left → text ≡ build_record_text (record_with done x.digests) ++ x.rest → e.line ≡ length done + 2 → ⊥
    by [] split at number =
        let same : rest ≡ x.rest = append_cancel_left record_header rest x.rest (sym cut ∙ cut_header text [] x.rest at) in
        no_goes_on x.left x.rest e.fault (entry_goes x.left names x.rest split (subst (BeginsWithEntry names) same first)) x.fault
    by (n ∷ done) split at number = omega (arith, number, few)

pub told_record : (names : List (List ℕ)) (text : List ℕ) (x : ReadError) (y e : PlanError) → x ≡ Faulty y → FaultyUnlessMemory (IsRecordFault names text) x → IsRecordFault names text e → x ≡ Faulty e
told_record names text x y e is h f = is ∙ ap Faulty (record_fault_one names text y e (subst (FaultyUnlessMemory (IsRecordFault names text)) is h) f)

-- an error that is handed on is the fault in line 1 or 2, or else the first entry was read
pub early_record : (names : List (List ℕ)) (text rest : List ℕ) (r : Result RecordValue ReadError) (x : ReadError) (e : PlanError) → text ≡ record_header ++ rest → IsErrAnd r (λ other. other ≡ x)
    → IfErr r (FaultyUnlessMemory (IsRecordFault names text)) → (x ≡ Memory → BeginsWithEntry names rest) → IsRecordFault names text e → e.line ≤ 2 → r ≡ Err (Faulty e)
early_record names text rest (Ok s) x e cut exit h late f few = absurd exit
early_record names text rest (Err Memory) x e cut exit h late f few = absurd (not_early_record names text rest e cut (late (sym exit)) f few)
early_record names text rest (Err (Faulty y)) x e cut exit h late f few = ap Err (told_record names text (Faulty y) y e refl h f)

pub read_without_fault : (names : List (List ℕ)) (text rest : List ℕ) (digests : List DigestValue) (e : PlanError) → text ≡ record_header ++ rest → IsRecord (record_with names digests) → rest ≡ entries_text names digests → IsRecordFault names text e → ⊥
read_without_fault names text rest digests e cut is all f =
    no_record_fault (record_with names digests) e is (subst (λ (t : List ℕ). IsRecordFault names t e) (cut ∙ ap (λ (t : List ℕ). record_header ++ t) all) f)
