-- What a cache's replies tell of its machine.
use Rattle.std.proofs.Common.{◌≡◌, ℕ, ◌+◌, ◌<◌, ◌≤◌, ◌⊎◌, inl, inr, nat_lt, Bool, true, false, cond, Option, Some, None, is_some, option_map, List, [], ◌∷◌, length, bytes_eq, refl, sym, ◌∙◌, ap, subst, arith}
use Rattle.std.proofs.lemmas.Slice.Eq.{bytes_eq-Decides}
use Rattle.std.specs.Option.{option_map_or}
use Rattle.std.specs.Prelude.{if◌then◌else◌}
use Rattle.sha2.specs.Sha256.{sha256}
use Rattle.blob_digest.specs.Body.{greatest_blob}
use Rattle.http_core.specs.declared.event.Area.{Area}
use Rattle.http_core.specs.declared.event.Area.TheVariants.{Ac, Cas, Pin, Unpin}
use Rattle.http_core.specs.Event.{AskValue, Get, Put, is_served}
use Rattle.eviction.specs.Entering.{spared_last}
use Rattle.action_cache.specs.Machine.{CacheState, Marked, Answer, Refusal, done, given, nothing, refused, too_large, hash_differs, full, not_held, not_pinned, bad_result, pinned_differs, incomplete, under, others_than, fronted, found, blob_is_pinned, with_blobs, blobs_entered, or_full, blob_stored, put_blob, got_blob, get_blob, result_used, got_result, get_result, put_result, pin, unpin, with_results, results_entered, differs_pinned}
use Rattle.action_cache.specs.Reading.{by_messages, references_in}
use Rattle.action_cache.specs.References.{is_complete}
use Rattle.action_cache.specs.State.{answer_of, bytes_given}
use Rattle.action_cache.proofs.Keeping.{under_fronted}
use Rattle.action_cache.proofs.Thinning.{enters}
use Rattle.cache_server.specs.Cache.{found_reply, reply_to, step, without_body}
use Rattle.cache_server.specs.Status.{status_of}
use Rattle.remote.specs.Line.{IsAnswerOf, is_taken}
use Rattle.remote.specs.Reply.{ReceivedReply}
use Rattle.exchange.specs.Serving.{held}
use Rattle.exchange.specs.Laws.{MayHaveBody}

-- ---- statuses

may : (status : ℕ) → 100 ≤ status → status < 1000 → (status ≡ 204 → ⊥) → MayHaveBody status
may status l h o = record { low = l; high = h; other = o }

refusal_plain : (why : Refusal) → MayHaveBody (status_of why)
refusal_plain too_large = may 413 (omega arith) (omega arith) (λ e. omega arith)
refusal_plain hash_differs = may 400 (omega arith) (omega arith) (λ e. omega arith)
refusal_plain full = may 507 (omega arith) (omega arith) (λ e. omega arith)
refusal_plain not_held = may 404 (omega arith) (omega arith) (λ e. omega arith)
refusal_plain not_pinned = may 404 (omega arith) (omega arith) (λ e. omega arith)
refusal_plain bad_result = may 400 (omega arith) (omega arith) (λ e. omega arith)
refusal_plain pinned_differs = may 409 (omega arith) (omega arith) (λ e. omega arith)
refusal_plain (incomplete digest) = may 404 (omega arith) (omega arith) (λ e. omega arith)

reply_plain : (answer : Answer) → MayHaveBody (reply_to answer).status
reply_plain done = may 200 (omega arith) (omega arith) (λ e. omega arith)
reply_plain (given bytes) = may 200 (omega arith) (omega arith) (λ e. omega arith)
reply_plain nothing = may 404 (omega arith) (omega arith) (λ e. omega arith)
reply_plain (refused why) = refusal_plain why

bodiless_plain : (s : CacheState) (body : List ℕ) (out : Answer × CacheState) → MayHaveBody (without_body s body out).0.status
bodiless_plain s [] out = reply_plain out.0
bodiless_plain s (b ∷ body) out = may 400 (omega arith) (omega arith) (λ e. omega arith)

pub step_plain : (s : CacheState) (ask : AskValue) → MayHaveBody (step s ask).0.status
unfolding step
step_plain s (Get Ac hash) = reply_plain (get_result by_messages s hash).0
step_plain s (Get Cas hash) = reply_plain (get_blob by_messages s hash).0
step_plain s (Get Pin hash) = may 404 (omega arith) (omega arith) (λ e. omega arith)
step_plain s (Get Unpin hash) = may 404 (omega arith) (omega arith) (λ e. omega arith)
step_plain s (Put Ac hash body) = reply_plain (put_result by_messages s hash body).0
step_plain s (Put Cas hash body) = reply_plain (put_blob by_messages s hash body).0
step_plain s (Put Pin hash body) = bodiless_plain s body (pin by_messages s hash)
step_plain s (Put Unpin hash body) = bodiless_plain s body (unpin by_messages s hash)

refusal_untaken : (why : Refusal) → is_taken (status_of why) ≡ false
refusal_untaken too_large = refl
refusal_untaken hash_differs = refl
refusal_untaken full = refl
refusal_untaken not_held = refl
refusal_untaken not_pinned = refl
refusal_untaken bad_result = refl
refusal_untaken pinned_differs = refl
refusal_untaken (incomplete digest) = refl

untaken : (why : Refusal) → is_taken (status_of why) ≡ true → ⊥
untaken why t = let no : true ≡ false = sym t ∙ refusal_untaken why in cc

reply_taken : (answer : Answer) → is_taken (reply_to answer).status ≡ true → (reply_to answer).status ≡ 200
reply_taken done t = refl
reply_taken (given bytes) t = refl
reply_taken nothing t = absurd cc
reply_taken (refused why) t = absurd (untaken why t)

bodiless_taken : (s : CacheState) (body : List ℕ) (out : Answer × CacheState) → is_taken (without_body s body out).0.status ≡ true → (without_body s body out).0.status ≡ 200
bodiless_taken s [] out t = reply_taken out.0 t
bodiless_taken s (b ∷ body) out t = absurd cc

-- a PUT that a client takes for done is
pub put_taken : (s : CacheState) (area : Area) (hash body : List ℕ) → is_taken (step s (Put area hash body)).0.status ≡ true → (step s (Put area hash body)).0.status ≡ 200
unfolding step
put_taken s Ac hash body t = reply_taken (put_result by_messages s hash body).0 t
put_taken s Cas hash body t = reply_taken (put_blob by_messages s hash body).0 t
put_taken s Pin hash body t = bodiless_taken s body (pin by_messages s hash) t
put_taken s Unpin hash body t = bodiless_taken s body (unpin by_messages s hash) t

-- ---- look-ups

blob_answer : (s : CacheState) (hash : List ℕ) (t : Bool) (o : Option (List ℕ))
    → (cond {A = Answer × CacheState} t (given [], s) (got_blob by_messages s hash o)).0 ≡ answer_of (bytes_given (cond {A = Answer × CacheState} t (given [], s) (got_blob by_messages s hash o)).0)
blob_answer s hash true o = refl
blob_answer s hash false None = refl
blob_answer s hash false (Some b) = refl

complete_answer : (s : CacheState) (hash bytes : List ℕ) (t : Bool)
    → (cond {A = Answer × CacheState} t (given bytes, result_used by_messages s hash bytes) (nothing, s)).0
    ≡ answer_of (bytes_given (cond {A = Answer × CacheState} t (given bytes, result_used by_messages s hash bytes) (nothing, s)).0)
complete_answer s hash bytes true = refl
complete_answer s hash bytes false = refl

result_answer : (s : CacheState) (hash : List ℕ) (o : Option Marked) → (got_result by_messages s hash o).0 ≡ answer_of (bytes_given (got_result by_messages s hash o).0)
result_answer s hash None = refl
result_answer s hash (Some r) = complete_answer s hash r.bytes (is_complete (found by_messages s) by_messages r.bytes)

found_is : (o : Option (List ℕ)) → reply_to (answer_of o) ≡ found_reply o
found_is None = refl
found_is (Some b) = refl

-- a look-up is answered with what is held
pub get_found : (s : CacheState) (area : Area) (hash : List ℕ) → is_served false area ≡ true → (step s (Get area hash)).0 ≡ found_reply (held s area hash)
unfolding step
get_found s Ac hash t = ap reply_to (result_answer s hash (under hash s.results)) ∙ found_is (held s Ac hash)
get_found s Cas hash t = ap reply_to (blob_answer s hash (bytes_eq (sha256 []) hash) (found by_messages s hash)) ∙ found_is (held s Cas hash)
get_found s Pin hash t = absurd cc
get_found s Unpin hash t = absurd cc

-- a client reads that as it is
pub answer_found : (o : Option (List ℕ)) (reply : ReceivedReply) (answer : Option (List ℕ)) → reply.status ≡ (found_reply o).status → reply.body ≡ (found_reply o).body → IsAnswerOf reply answer → answer ≡ o
answer_found None reply answer e f (inl (two, a)) = absurd (let no : 404 ≡ 200 = sym e ∙ two in omega arith)
answer_found None reply answer e f (inr (four, a)) = a
answer_found (Some b) reply answer e f (inl (two, a)) = a ∙ ap Some f
answer_found (Some b) reply answer e f (inr (four, a)) = absurd (let no : 200 ≡ 404 = sym e ∙ four in omega arith)

-- ---- a blob that was put

module _ (s : CacheState) (hash body : List ℕ) where
  abbrev out : Answer × CacheState
  out = put_blob by_messages s hash body

  -- What is held under the hash then: the body, or what was held before.
  pub record HoldsThen (t : CacheState) : Type 0 where
    pub bytes : List ℕ
    pub is : held t Cas hash ≡ Some bytes
    pub either : (bytes ≡ body) ⊎ (held s Cas hash ≡ Some bytes)

  -- what is said of a put that was done
  pub record HasPut (t : CacheState) : Type 0 where
    pub hash_is : sha256 body ≡ hash
    pub holds : HoldsThen t

  is_large : nat_lt greatest_blob (length body) ≡ true → is_taken (reply_to out.0).status ≡ false
  is_large e = rw e refl

  is_other : nat_lt greatest_blob (length body) ≡ false → bytes_eq (sha256 body) hash ≡ false → is_taken (reply_to out.0).status ≡ false
  is_other e f = rw (e, f) refl

  stored_is : nat_lt greatest_blob (length body) ≡ false → bytes_eq (sha256 body) hash ≡ true → out ≡ blob_stored by_messages s hash body
  stored_is e f = rw (e, f) refl

  -- the empty blob
  empty_stored : bytes_eq (sha256 []) hash ≡ true → blob_stored by_messages s hash body ≡ (done, s)
  empty_stored e = rw e refl

  empty_held : (t : CacheState) → bytes_eq (sha256 []) hash ≡ true → held t Cas hash ≡ Some []
  empty_held t e = rw e refl

  pub other_held : (t : CacheState) → bytes_eq (sha256 []) hash ≡ false → (o : Option (List ℕ)) → found by_messages t hash ≡ o → held t Cas hash ≡ o
  other_held t e None f = rw (e, f) refl
  other_held t e (Some b) f = rw (e, f) refl

  same_stored : bytes_eq (sha256 []) hash ≡ false → is_some (found by_messages s hash) ≡ true → blob_stored by_messages s hash body ≡ (done, with_blobs by_messages s (fronted hash s.blobs))
  same_stored e f = rw (e, f) refl

  new_stored : bytes_eq (sha256 []) hash ≡ false → is_some (found by_messages s hash) ≡ false
      → blob_stored by_messages s hash body ≡ or_full by_messages s (option_map (with_blobs by_messages s) (blobs_entered by_messages s hash body))
  new_stored e f = rw (e, f) refl

  itself : bytes_eq hash hash ≡ true
  itself = (bytes_eq-Decides hash hash).1 refl

  entered : (o : Option (List (List ℕ × List ℕ))) → blobs_entered by_messages s hash body ≡ o → bytes_eq (sha256 []) hash ≡ false
      → is_taken (reply_to (or_full by_messages s (option_map (with_blobs by_messages s) o)).0).status ≡ true
      → HoldsThen (or_full by_messages s (option_map (with_blobs by_messages s) o)).1
  entered None e f t = absurd cc
  entered (Some bs) e f t =
      let n = enters (blob_is_pinned by_messages s) (λ b. length b.1) s.limit (hash, body) (others_than hash s.blobs) bs e in
      let first : under hash bs ≡ Some body = ap (under hash) n.out_is ∙ ap (λ y. cond y (Some body) (under hash (spared_last (blob_is_pinned by_messages s) n.most (others_than hash s.blobs)))) itself in
      record { bytes = body; is = other_held (with_blobs by_messages s bs) f (Some body) first; either = inl refl }

  kept : (o : Option (List ℕ)) → found by_messages s hash ≡ o → is_some o ≡ true → bytes_eq (sha256 []) hash ≡ false → HoldsThen (with_blobs by_messages s (fronted hash s.blobs))
  kept None e t f = absurd cc
  kept (Some b) e t f = record {
    bytes = b;
    is = other_held (with_blobs by_messages s (fronted hash s.blobs)) f (Some b) (under_fronted hash hash s.blobs ∙ e);
    either = inr (other_held s f (Some b) e);
  }

  taken_not : is_taken (reply_to out.0).status ≡ true → is_taken (reply_to out.0).status ≡ false → ⊥
  taken_not t f = let no : true ≡ false = sym t ∙ f in cc

  holds_at : (a b : Answer × CacheState) → a ≡ b → HoldsThen b.1 → HoldsThen a.1
  holds_at a b e h = subst (λ (z : Answer × CacheState). HoldsThen z.1) (sym e) h

  taken_at : (a b : Answer × CacheState) → a ≡ b → is_taken (reply_to a.0).status ≡ true → is_taken (reply_to b.0).status ≡ true
  taken_at a b e t = subst (λ (z : Answer × CacheState). is_taken (reply_to z.0).status ≡ true) e t

  stored : is_taken (reply_to (blob_stored by_messages s hash body).0).status ≡ true → HoldsThen (blob_stored by_messages s hash body).1
  stored t = by_empty (bytes_eq (sha256 []) hash) refl
    where
      by_found : (b : Bool) → is_some (found by_messages s hash) ≡ b → bytes_eq (sha256 []) hash ≡ false → HoldsThen (blob_stored by_messages s hash body).1
      by_found true e f = holds_at (blob_stored by_messages s hash body) (done, with_blobs by_messages s (fronted hash s.blobs)) (same_stored f e) (kept (found by_messages s hash) refl e f)
      by_found false e f =
          let new : Answer × CacheState = or_full by_messages s (option_map (with_blobs by_messages s) (blobs_entered by_messages s hash body)) in
          holds_at (blob_stored by_messages s hash body) new (new_stored f e) (entered (blobs_entered by_messages s hash body) refl f (taken_at (blob_stored by_messages s hash body) new (new_stored f e) t))

      by_empty : (b : Bool) → bytes_eq (sha256 []) hash ≡ b → HoldsThen (blob_stored by_messages s hash body).1
      by_empty true e = holds_at (blob_stored by_messages s hash body) (done, s) (empty_stored e) (record { bytes = []; is = empty_held s e; either = inr (empty_held s e) })
      by_empty false e = by_found (is_some (found by_messages s hash)) refl e

  pub has_put : is_taken (reply_to out.0).status ≡ true → HasPut out.1
  has_put t = by_size (nat_lt greatest_blob (length body)) refl
    where
      by_hash : (b : Bool) → bytes_eq (sha256 body) hash ≡ b → nat_lt greatest_blob (length body) ≡ false → HasPut out.1
      by_hash true e f = record {
        hash_is = (bytes_eq-Decides (sha256 body) hash).0 e;
        holds = holds_at out (blob_stored by_messages s hash body) (stored_is f e) (stored (taken_at out (blob_stored by_messages s hash body) (stored_is f e) t));
      }
      by_hash false e f = absurd (taken_not t (is_other f e))

      by_size : (b : Bool) → nat_lt greatest_blob (length body) ≡ b → HasPut out.1
      by_size true e = absurd (taken_not t (is_large e))
      by_size false e = by_hash (bytes_eq (sha256 body) hash) refl e

  -- nothing else was held
  pub same_held : (t : CacheState) → HasPut t → ((other : List ℕ) → held s Cas hash ≡ Some other → other ≡ body) → held t Cas hash ≡ Some body
  same_held t h none = elim h.holds.either [
    | inl same ↦ h.holds.is ∙ ap Some same
    | inr before ↦ h.holds.is ∙ ap Some (none h.holds.bytes before)
  ]

  -- what was held has the hash
  pub hashed_held : (t : CacheState) (h : HasPut t) → ((other : List ℕ) → held s Cas hash ≡ Some other → sha256 other ≡ hash) → sha256 h.holds.bytes ≡ sha256 body
  hashed_held t h has = elim h.holds.either [
    | inl same ↦ ap sha256 same
    | inr before ↦ has h.holds.bytes before ∙ sym h.hash_is
  ]

-- ---- a result that was put

module _ (s : CacheState) (hash body : List ℕ) where
  abbrev result_out : Answer × CacheState
  result_out = put_result by_messages s hash body

  -- what is held where the result is whole
  abbrev pub whole_only : Option (List ℕ)
  whole_only = if is_complete (found by_messages s) by_messages body then Some body else None

  bytes_picked : (t : Bool) (u : CacheState) → bytes_given (cond {A = Answer × CacheState} t (given body, result_used by_messages u hash body) (nothing, u)).0 ≡ (if t then Some body else None)
  bytes_picked true u = refl
  bytes_picked false u = refl

  pub result_found : (rs : List (List ℕ × Marked)) (pinned : Bool) → under hash rs ≡ Some (record { bytes = body; pinned = pinned }) → held (with_results by_messages s rs) Ac hash ≡ whole_only
  result_found rs pinned e =
      let t : CacheState = with_results by_messages s rs in
      ap (λ (o : Option Marked). bytes_given (got_result by_messages t hash o).0) e ∙ bytes_picked (is_complete (found by_messages s) by_messages body) t

  result_entered : (o : Option (List (List ℕ × Marked))) → results_entered by_messages s hash body ≡ o
      → is_taken (reply_to (or_full by_messages s (option_map (with_results by_messages s) o)).0).status ≡ true
      → held (or_full by_messages s (option_map (with_results by_messages s) o)).1 Ac hash ≡ whole_only
  result_entered None e t = absurd cc
  result_entered (Some rs) e t =
      let pinned : Bool = option_map_or (λ (r : Marked). r.pinned) (under hash s.results) false in
      let new : Marked = record { bytes = body; pinned = pinned } in
      let n = enters (λ (r : List ℕ × Marked). r.1.pinned) (λ r. length r.1.bytes + 64) s.result_limit (hash, new) (others_than hash s.results) rs e in
      let itself_ : bytes_eq hash hash ≡ true = (bytes_eq-Decides hash hash).1 refl in
      let first : under hash rs ≡ Some new = ap (under hash) n.out_is ∙ ap (λ y. cond y (Some new) (under hash (spared_last (λ (r : List ℕ × Marked). r.1.pinned) n.most (others_than hash s.results)))) itself_ in
      result_found rs pinned first

  unread_is : is_some (references_in body) ≡ false → is_taken (reply_to result_out.0).status ≡ false
  unread_is e = rw e refl

  pinned_is : is_some (references_in body) ≡ true → differs_pinned by_messages s body (under hash s.results) ≡ true → is_taken (reply_to result_out.0).status ≡ false
  pinned_is e f = rw (e, f) refl

  put_is : is_some (references_in body) ≡ true → differs_pinned by_messages s body (under hash s.results) ≡ false
      → result_out ≡ or_full by_messages s (option_map (with_results by_messages s) (results_entered by_messages s hash body))
  put_is e f = rw (e, f) refl

  neither_taken : is_taken (reply_to result_out.0).status ≡ true → is_taken (reply_to result_out.0).status ≡ false → ⊥
  neither_taken t f = let no : true ≡ false = sym t ∙ f in cc

  pub result_held : is_taken (reply_to result_out.0).status ≡ true → held result_out.1 Ac hash ≡ whole_only
  result_held t = by_read (is_some (references_in body)) refl
    where
      new : Answer × CacheState
      new = or_full by_messages s (option_map (with_results by_messages s) (results_entered by_messages s hash body))

      by_pinned : (b : Bool) → differs_pinned by_messages s body (under hash s.results) ≡ b → is_some (references_in body) ≡ true → held result_out.1 Ac hash ≡ whole_only
      by_pinned true e f = absurd (neither_taken t (pinned_is f e))
      by_pinned false e f =
          ap (λ (z : Answer × CacheState). held z.1 Ac hash) (put_is f e)
          ∙ result_entered (results_entered by_messages s hash body) refl (subst (λ (z : Answer × CacheState). is_taken (reply_to z.0).status ≡ true) (put_is f e) t)

      by_read : (b : Bool) → is_some (references_in body) ≡ b → held result_out.1 Ac hash ≡ whole_only
      by_read true e = by_pinned (differs_pinned by_messages s body (under hash s.results)) refl e
      by_read false e = absurd (neither_taken t (unread_is e))
