-- The outputs of a result that are read one after another, while the source tells more and more.
use Rattle.std.proofs.Common.{◌≡◌, ℕ, ◌+◌, ◌<◌, ◌≤◌, List, [], ◌∷◌, ◌++◌, length, take, drop, get_or, refl, sym, ap, subst, ◌∙◌, inl, inr, arith}
use Rattle.std.proofs.lemmas.List.{length-append, take_more, drop_more, take-append-drop, map-append}
use Rattle.tree.specs.declared.error.TreeError.{TreeError}
use Rattle.tree.specs.declared.error.TreeError.TheVariants.{Absent, BlobMissing, BlobWrong, BlobMalformed, TooDeep, Conflict, Fetch, Memory}
use Rattle.blob_source.specs.Source.{Blobs, Telling, Grows, Asks}
use Rattle.blob_source.specs.Told.{Fault, missing, wrong, malformed, IsFault}
use Rattle.tree.specs.TreeError.{Explains}
use Rattle.blob_source.proofs.Asking.{asks_then, asks_within}
use Rattle.tree.proofs.Descent.{told_still}
use Rattle.tree.proofs.LookupOnce.{told_or_fault}
use Rattle.messages.specs.Tree.{IsTree, tree_bytes}
use Rattle.action_messages.specs.OutputDirectory.{OutputDirectoryValue}
use Rattle.actions.specs.declared.outcome.Output.{Output}
use Rattle.action_messages.specs.declared.recorded_output.RecordedOutput.{RecordedOutput}
use Rattle.action_messages.specs.ActionResult.{ActionResultValue}
use Rattle.actions.specs.Outcome.{OutputValue, OutcomeValue, output_value, outputs_in}
use Rattle.action_messages.specs.Outputs.{RecordedValue, file, directory, link, recorded_value, recorded_values, recorded_path, directories_among}
use Rattle.actions.specs.Recorded.{StandsFor, StandForAll, IsRecorded, IsFirstTreeFault, IsOutputFault, IsWithoutTree, StopsAtFault}
use Rattle.action_messages.proofs.Merging.{directories_append}
use Rattle.tree.specs.Memo.{Asked}
use Rattle.actions.specs.LooksAt.{OutputLooksAt, TreesLookAt}
use Rattle.actions.proofs.TreeLookups.{behind}

-- ---- what was read stays

pub stands_still : (B C : Blobs) (x : RecordedValue) (v : OutputValue) → Grows B C → StandsFor B x v → StandsFor C x v
stands_still B C (file f) v g h = h
stands_still B C (directory d) v g h = (h.0, told_still g h.1, h.2)
stands_still B C (link l) v g h = h

pub stand_still : (B C : Blobs) (xs : List RecordedValue) (es : List (List (List ℕ) × OutputValue)) → Grows B C → StandForAll B xs es → StandForAll C xs es
stand_still B C [] es g h = h
stand_still B C (x ∷ xs) [] g h = elim h [ ]
stand_still B C (x ∷ xs) (e ∷ es) g h = (h.0, stands_still B C x e.1 g h.1, stand_still B C xs es g h.2)

-- one more at the end
pub stand_push : (B : Blobs) (xs : List RecordedValue) (es : List (List (List ℕ) × OutputValue)) (x : RecordedValue) (e : List (List ℕ) × OutputValue) → StandForAll B xs es → e.0 ≡ recorded_path x → StandsFor B x e.1 → StandForAll B (xs ++ x ∷ []) (es ++ e ∷ [])
stand_push B [] es x e h path stands = subst (λ l. StandForAll B (x ∷ []) (l ++ e ∷ [])) (sym h) (path, stands, refl)
stand_push B (y ∷ xs) [] x e h path stands = elim h [ ]
stand_push B (y ∷ xs) (d ∷ es) x e h path stands = (h.0, h.1, stand_push B xs es x e h.2 path stands)

pub recorded_still : (B C : Blobs) (r : ActionResultValue) (o : OutcomeValue) → Grows B C → IsRecorded B r o → IsRecorded C r o
recorded_still B C r o g h = record { valid = h.valid; exit_code = h.exit_code; recorded = h.recorded; ordered = h.ordered; outputs = stand_still B C h.recorded o.outputs g h.outputs }

-- the fault of the first that isn't told, behind those that are
first_fault : (B : Blobs) (xs : List RecordedValue) (es : List (List (List ℕ) × OutputValue)) (x : RecordedValue) (rest : List RecordedValue) (f : Fault) → StandForAll B xs es → IsOutputFault B x f → IsFirstTreeFault B (directories_among (xs ++ x ∷ rest)) f
first_fault B [] es (file y) rest f h fault = elim fault [ ]
first_fault B [] es (directory d) rest f h fault = inl fault
first_fault B [] es (link l) rest f h fault = elim fault [ ]
first_fault B (y ∷ xs) [] x rest f h fault = elim h [ ]
first_fault B (file y ∷ xs) (e ∷ es) x rest f h fault = first_fault B xs es x rest f h.2 fault
first_fault B (directory d ∷ xs) (e ∷ es) x rest f h fault = inr (h.1.0, h.1.1, first_fault B xs es x rest f h.2 fault)
first_fault B (link l ∷ xs) (e ∷ es) x rest f h fault = first_fault B xs es x rest f h.2 fault

-- the directories that were read stand before each whose Tree isn't told
read_before : (B : Blobs) (xs : List RecordedValue) (es : List (List (List ℕ) × OutputValue)) (rest before behind : List OutputDirectoryValue) (d : OutputDirectoryValue) (f : Fault) → StandForAll B xs es → directories_among xs ++ rest ≡ before ++ d ∷ behind → IsFault IsTree tree_bytes B d.tree f
    → length (directories_among xs) ≤ length before
read_before B [] es rest before behind d f h e fault = omega arith
read_before B (x ∷ xs) [] rest before behind d f h e fault = elim h [ ]
read_before B (file y ∷ xs) (v ∷ es) rest before behind d f h e fault = read_before B xs es rest before behind d f h.2 e fault
read_before B (directory y ∷ xs) (v ∷ es) rest [] behind d f h e fault =
    let same : d.tree ≡ y.tree = cc in
    absurd (told_or_fault IsTree tree_bytes B y.tree h.1.0 f h.1.1 (subst (λ z. IsFault IsTree tree_bytes B z f) same fault))
read_before B (directory y ∷ xs) (v ∷ es) rest (b ∷ before) behind d f h e fault =
    let tails : directories_among xs ++ rest ≡ before ++ d ∷ behind = cc in
    omega (arith, read_before B xs es rest before behind d f h.2 tails fault)
read_before B (link y ∷ xs) (v ∷ es) rest before behind d f h e fault = read_before B xs es rest before behind d f h.2 e fault

explains : {A : Type 0} (P Q : Fault → Type 0) → ((f : Fault) → P f → Q f) → (e : TreeError A) → Explains P e → Explains Q e
explains P Q by (Absent path) h = h
explains P Q by (BlobMissing d) h = by (missing d) h
explains P Q by (BlobWrong d) h = by (wrong d) h
explains P Q by (BlobMalformed d) h = by (malformed d) h
explains P Q by (TooDeep path) h = h
explains P Q by (Conflict path) h = h
explains P Q by Fetch h = h
explains P Q by Memory h = h

-- ---- how often the source is asked

-- one more output is at most one more call, and none where it has no Tree
asks_one : (x : RecordedValue) (n : ℕ) (old mid new : Telling) → Asks n old mid → Asks 1 mid new → (IsWithoutTree x → new ≡ mid) → Asks (n + length (directories_among (x ∷ []))) old new
asks_one (file f) n old mid new h k same = subst (Asks (n + 0) old) (sym (same tt)) (asks_within (omega arith) h)
asks_one (directory d) n old mid new h k same = asks_then h k
asks_one (link l) n old mid new h k same = subst (Asks (n + 0) old) (sym (same tt)) (asks_within (omega arith) h)

-- ---- what the source is asked for

-- the Tree of one output is one of those of all directories
looked_in : (xs : List RecordedValue) (x : RecordedValue) (rest : List RecordedValue) (a : Asked) → OutputLooksAt x a → TreesLookAt (directories_among (xs ++ x ∷ rest)) a
looked_in [] (file f) rest a h = elim h [ ]
looked_in [] (directory d) rest a h = (d, (0, omega arith, refl), h)
looked_in [] (link l) rest a h = elim h [ ]
looked_in (file y ∷ xs) x rest a h = looked_in xs x rest a h
looked_in (directory y ∷ xs) x rest a h = let there = looked_in xs x rest a h in (there.0, behind y (directories_among (xs ++ x ∷ rest)) there.0 there.1, there.2)
looked_in (link y ∷ xs) x rest a h = looked_in xs x rest a h

module _ {A : Type 0} where
  abbrev pub read_so_far : ℕ → List (RecordedOutput A) → List RecordedValue
  read_so_far i ys = recorded_values (take i ys)

  module _ (ys : List (RecordedOutput A)) (i : ℕ) (x : RecordedOutput A) (lt : i < length ys) (is : x ≡ get_or ys i x) where
    one_more : read_so_far (i + 1) ys ≡ read_so_far i ys ++ recorded_value x ∷ []
    one_more = ap recorded_values (take_more ys i x lt) ∙ map-append recorded_value (take i ys) (get_or ys i x ∷ []) ∙ ap (λ y. read_so_far i ys ++ recorded_value y ∷ []) (sym is)

    whole : read_so_far i ys ++ recorded_value x ∷ recorded_values (drop (i + 1) ys) ≡ recorded_values ys
    whole =
        let split : drop i ys ≡ x ∷ drop (i + 1) ys = drop_more ys i x lt ∙ ap (λ y. y ∷ drop (i + 1) ys) (sym is) in
        ap (λ l. read_so_far i ys ++ recorded_values l) (sym split) ∙ sym (map-append recorded_value (take i ys) (drop i ys)) ∙ ap recorded_values (take-append-drop i ys)

    counted : length (directories_among (read_so_far i ys)) + length (directories_among (recorded_value x ∷ [])) ≡ length (directories_among (read_so_far (i + 1) ys))
    counted = sym (ap (λ l. length (directories_among l)) one_more ∙ ap length (directories_append (read_so_far i ys) (recorded_value x ∷ [])) ∙ length-append (directories_among (read_so_far i ys)) (directories_among (recorded_value x ∷ [])))

    pub asks_next : (old mid new : Telling) → Asks (length (directories_among (read_so_far i ys))) old mid → Asks 1 mid new → (IsWithoutTree (recorded_value x) → new ≡ mid) → Asks (length (directories_among (read_so_far (i + 1) ys))) old new
    asks_next old mid new h k same = subst (λ n. Asks n old new) counted (asks_one (recorded_value x) (length (directories_among (read_so_far i ys))) old mid new h k same)

    pub reads_next : (B C : Blobs) (outputs more : List (List (List ℕ) × Output A)) (path : List (List ℕ)) (v : Output A) → Grows B C → StandForAll B (read_so_far i ys) (outputs_in outputs) → path ≡ recorded_path (recorded_value x) → StandsFor C (recorded_value x) (output_value v) → more ≡ outputs ++ (path, v) ∷ []
        → StandForAll C (read_so_far (i + 1) ys) (outputs_in more)
    reads_next B C outputs more path v g h at stands e =
        let es = ap outputs_in e ∙ map-append (λ (d : List (List ℕ) × Output A). (d.0, output_value d.1)) outputs ((path, v) ∷ []) in
        rw (one_more, es) (stand_push C (read_so_far i ys) (outputs_in outputs) (recorded_value x) (path, output_value v) (stand_still B C (read_so_far i ys) (outputs_in outputs) g h) at stands)

    pub fault_next : (B C : Blobs) (outputs : List (List (List ℕ) × Output A)) (e : TreeError A) → Grows B C → StandForAll B (read_so_far i ys) (outputs_in outputs) → Explains (IsOutputFault C (recorded_value x)) e → Explains (IsFirstTreeFault C (directories_among (recorded_values ys))) e
    fault_next B C outputs e g h why =
        subst (λ l. Explains (IsFirstTreeFault C (directories_among l)) e) whole
        (explains (IsOutputFault C (recorded_value x)) (IsFirstTreeFault C (directories_among (read_so_far i ys ++ recorded_value x ∷ recorded_values (drop (i + 1) ys))))
        (λ f. first_fault C (read_so_far i ys) (outputs_in outputs) (recorded_value x) (recorded_values (drop (i + 1) ys)) f (stand_still B C (read_so_far i ys) (outputs_in outputs) g h)) e why)

    pub looked_at : (a : Asked) → OutputLooksAt (recorded_value x) a → TreesLookAt (directories_among (recorded_values ys)) a
    looked_at a h = subst (λ l. TreesLookAt (directories_among l) a) whole (looked_in (read_so_far i ys) (recorded_value x) (recorded_values (drop (i + 1) ys)) a h)

  -- as many calls as all of them have directories
  pub asks_all : (ys : List (RecordedOutput A)) (i : ℕ) (old new : Telling) → Asks (length (directories_among (read_so_far i ys))) old new → Asks (length (directories_among (recorded_values ys))) old new
  asks_all ys i old new h =
      let parts : length (directories_among (recorded_values ys)) ≡ length (directories_among (read_so_far i ys)) + length (directories_among (recorded_values (drop i ys))) =
      ap (λ l. length (directories_among l)) (sym (ap recorded_values (take-append-drop i ys)) ∙ map-append recorded_value (take i ys) (drop i ys))
      ∙ ap length (directories_append (read_so_far i ys) (recorded_values (drop i ys))) ∙ length-append (directories_among (read_so_far i ys)) (directories_among (recorded_values (drop i ys))) in
      asks_within (omega (arith, parts)) h

  -- nothing is asked for behind a directory whose Tree isn't told
  pub stops : (ys : List (RecordedOutput A)) (i : ℕ) (old mid new : Telling) (outputs : List (List (List ℕ) × Output A)) → StandForAll mid.blobs (read_so_far i ys) (outputs_in outputs) → Asks (length (directories_among (read_so_far i ys))) old mid → Asks 1 mid new
      → StopsAtFault (directories_among (recorded_values ys)) old new
  stops ys i old mid new outputs h asked more =
      let parts : directories_among (read_so_far i ys) ++ directories_among (recorded_values (drop i ys)) ≡ directories_among (recorded_values ys) =
      sym (directories_append (read_so_far i ys) (recorded_values (drop i ys))) ∙ ap directories_among (sym (map-append recorded_value (take i ys) (drop i ys)) ∙ ap recorded_values (take-append-drop i ys)) in
      record {
        few = λ before behind d f e fault.
            let le = read_before new.blobs (read_so_far i ys) (outputs_in outputs) (directories_among (recorded_values (drop i ys))) before behind d f (stand_still mid.blobs new.blobs (read_so_far i ys) (outputs_in outputs) more.some.blobs h) (parts ∙ e) fault in
            omega (arith, le, asked.most_calls, more.most_calls);
      }
