-- What a client and a store keep is what their calls brought.
use Rattle.std.proofs.Common.{◌≡◌, ◌≢◌, ◌⊎◌, ◌∙◌, ◌+◌, ◌<◌, ◌≤◌, arith, min, ℕ, List, [], ◌∷◌, ◌++◌, Option, Some, None, Result, Ok, Err, IfOk, OnErr, inl, inr, map, refl, sym, ap, subst, Ordering}
use Rattle.std.specs.Prelude.{IfErr, IfNone, IsSomeAnd, OnOk}
use Rattle.std.proofs.lemmas.Int.{clamps}
use Rattle.std.proofs.lemmas.List.{map-append}
use Rattle.std.proofs.lemmas.Result.{IfOk-weaker}
use Rattle.std.proofs.Math.Logic.{∥∥₁_map₂}
use Rattle.std.specs.Ordering.{nat_cmp, ordering_reverse, ordering_then}
use Rattle.std.specs.Cmp.Lexicographic.{slice_cmp}
use Rattle.std.specs.declared.alloc.Global.{Global}
use Rattle.std.specs.declared.cmp.Ordering.TheVariants.{Less, Equal, Greater}
use Rattle.std.specs.declared.vec.Vec.{Vec}
use Rattle.std.proofs.lemmas.Cmp.{nat_cmp_total, nat_list_cmp_total}
use Rattle.std.proofs.lemmas.Map.Lookups.{exact_bytes, exact_pairs, exact_unsigned}
use Rattle.blob_digest.specs.Digest.{DigestValue, digest_cmp, digest_of}
use Rattle.blob_source.specs.Source.{Blobs, GrowsAt, bytes_of, greatest_count}
use Rattle.blob_source.specs.Sink.{IsPut, PutsAt}
use Rattle.blob_source.specs.declared.source.FetchError.{FetchError}
use Rattle.http_core.specs.declared.event.Area.{Area}
use Rattle.http_core.specs.declared.event.Area.TheVariants.{Ac, Cas}
use Rattle.remote.specs.Folder.{IsNotThere, IsNothingAt, IsReadAt, LooksInFolder}
use Rattle.blob_source.specs.declared.source.FetchError.TheVariants.{Failed, Memory}
use Rattle.remote.specs.Line.{ConnectionValue, Gets, Puts, RefusesRequest, get, put}
use Rattle.remote.specs.Remote.{LooksUp, Stores, blobs_of, results_of, telling_of}
use Rattle.remote.specs.declared.remote.Remote.{Remote}
use Rattle.blob_source.specs.Memory.{TellsNothing}
use Rattle.remote.specs.Table.{HasAnswer, IsSameBut, KeepsNone, answers, bytes_kept, told_by}
use Rattle.remote.specs.declared.files.FileError.{FileError}
use Rattle.remote.specs.declared.table.Table.{Table}
use Rattle.text_verifier.specs.declared.lack.Lack.{Lack}
use Rattle.commands.specs.Got.{GetsFirst}
use Rattle.commands.specs.Places.{Access, CameAllOver, CameOver, Comes, FailsInStore, IsFresh, LacksAll, LacksOver, MaySend, SeesFiles, file_of, gets_alone, gets_blobs, puts_blobs, puts_too, requests_made, results_put}
use Rattle.commands.specs.Places.Comes.{fresh, got, taken, refused}
use Rattle.commands.specs.World.{Sight}

-- ---- digests

self_equal : (o : Ordering) → o ≡ ordering_reverse o → o ≡ Equal
self_equal Less e = absurd cc
self_equal Equal e = refl
self_equal Greater e = absurd cc

digest_self : (d : DigestValue) → digest_cmp d d ≡ Equal
digest_self d =
    let hash = self_equal (slice_cmp nat_cmp d.hash d.hash) (nat_list_cmp_total.antisymm d.hash d.hash) in
    let size = self_equal (nat_cmp d.size d.size) (nat_cmp_total.antisymm d.size d.size) in
    ap (λ o. ordering_then o (nat_cmp d.size d.size)) hash ∙ size

-- digests are the same or not
pub same_or_other : (d e : DigestValue) → (e ≡ d) ⊎ (e ≢ d)
same_or_other d e = by (digest_cmp d e) refl
  where
    less : Less ≡ Equal → ⊥
    less h = cc

    greater : Greater ≡ Equal → ⊥
    greater h = cc

    by : (o : Ordering) → digest_cmp d e ≡ o → (e ≡ d) ⊎ (e ≢ d)
    by Equal q = inl (sym (ap (λ (p : List ℕ × ℕ). record { hash = p.0; size = p.1 }) (exact_pairs (slice_cmp nat_cmp) nat_cmp exact_bytes exact_unsigned (d.hash, d.size) (e.hash, e.size) q)))
    by Less q = inr (λ is. less (sym q ∙ ap (digest_cmp d) is ∙ digest_self d))
    by Greater q = inr (λ is. greater (sym q ∙ ap (digest_cmp d) is ∙ digest_self d))

-- ---- what is there

pub some_not_none : {X : Type 0} {x : X} → ◌≡◌ {A = Option X} (Some x) None → ⊥
some_not_none e = cc

there_or_not : {X : Type 0} (o : Option X) → (o ≢ None → ⊥) ⊎ (o ≢ None)
there_or_not None = inl (λ h. h refl)
there_or_not (Some x) = inr some_not_none

same_bytes : {x y : List ℕ} → ◌≡◌ {A = Option (List ℕ)} (Some x) (Some y) → x ≡ y
same_bytes e = cc

-- what is told after a look-up was told before it, or is what the look-up answered
pub told_anew : {A : Type 0} (P : DigestValue → List ℕ → Type 0) (d : DigestValue) (before after : Table A)
    → ((e : DigestValue) (b : List ℕ) → told_by before e ≡ Some b → P e b)
    → GrowsAt d (told_by before) (told_by after)
    → ((b : List ℕ) → told_by before d ≡ None → told_by after d ≡ Some b → P d b)
    → (e : DigestValue) (b : List ℕ) → told_by after e ≡ Some b → P e b
told_anew P d before after held grows anew e b is = by (told_by before e) refl
  where
    by : (o : Option (List ℕ)) → told_by before e ≡ o → P e b
    by (Some c) was = subst (P e) (same_bytes (sym (grows.kept e c was) ∙ is)) (held e c was)
    by None was = elim (same_or_other d e) [
      | inl same ↦ subst (λ x. P x b) (sym same) (anew b (subst (λ x. told_by before x ≡ None) same was) (subst (λ x. told_by after x ≡ Some b) same is))
      | inr other ↦ absurd (some_not_none (sym is ∙ grows.others e other ∙ was))
    ]

-- ---- a server

-- a GET of a blob may always be sent
pub may_get_blob : (access : Access) (hash : List ℕ) → MaySend access (get Cas hash)
may_get_blob gets_blobs hash = (refl, refl)
may_get_blob gets_alone hash = refl
may_get_blob puts_blobs hash = tt
may_get_blob puts_too hash = tt

-- no more requests were made than calls, while these can be counted
none_made : (calls : ℕ) → 0 ≤ calls
none_made calls = omega arith

one_made : (most calls more made : ℕ) → more ≡ min (calls + 1) most → (calls < most → made ≤ calls) → more < most → made + 1 ≤ more
one_made most calls more made counted few less =
    let below : calls < most = omega (arith, clamps, counted, less) in
    let made_few = few below in
    omega (arith, clamps, counted, less, made_few)

same_made : (most calls more made : ℕ) → more ≡ min (calls + 1) most → (calls < most → made ≤ calls) → more < most → made ≤ more
same_made most calls more made counted few less =
    let below : calls < most = omega (arith, clamps, counted, less) in
    let made_few = few below in
    omega (arith, clamps, counted, less, made_few)

-- the connection came to stand so, the results of these actions were put, and so many calls made
abbrev pub ComesPutting : Access → ConnectionValue → List DigestValue → ℕ → ConnectionValue → Type 0
ComesPutting access start puts calls now = (came : Comes access start now) × (map (λ (d : DigestValue). d.hash) puts ≡ results_put came)
    × (calls < greatest_count → requests_made came ≤ calls)

-- nothing came over it
pub comes_first : (access : Access) (start : ConnectionValue) (calls : ℕ) → ComesPutting access start [] calls start
comes_first access start calls = (fresh, refl, λ less. none_made calls)

-- the same were
pub same_put : {access : Access} {start : ConnectionValue} (puts more : List DigestValue) (calls : ℕ) (now : ConnectionValue) → more ≡ puts
    → ComesPutting access start puts calls now → ComesPutting access start more calls now
same_put puts more calls now same came = (came.0, ap (map (λ (d : DigestValue). d.hash)) same ∙ came.1, came.2)

module _ {A : Type 0} (access : Access) (start : ConnectionValue) (area : Area) (d : DigestValue) (sent : MaySend access (get area d.hash)) (old new : ConnectionValue) (before after : Table A) where
  -- the connection came to stand so
  pub comes_on : (puts : List DigestValue) (calls more : ℕ) → more ≡ min (calls + 1) greatest_count → (result : Result (Option (Vec ℕ A)) FetchError)
      → LooksUp area d old new before after result → ComesPutting access start puts calls old → ComesPutting access start puts more new
  comes_on puts calls more counted (Ok answer) looks came = elim (there_or_not (answers before d)) [
    | inl not ↦ (got old new area d.hash (bytes_of answer) came.0 sent (looks.answered not), came.1, one_made greatest_count calls more (requests_made came.0) counted came.2)
    | inr has ↦ subst (ComesPutting access start puts more) (sym (looks.kept has)) (came.0, came.1, same_made greatest_count calls more (requests_made came.0) counted came.2)
  ]
  comes_on puts calls more counted (Err e) looks came =
      (refused old new (get area d.hash) e came.0 sent looks.refused, came.1, one_made greatest_count calls more (requests_made came.0) counted came.2)

  -- what is kept came over it
  pub came_on : (result : Result (Option (Vec ℕ A)) FetchError) → LooksUp area d old new before after result → Comes access start old
      → IfOk result (λ answer. bytes_of answer ≡ told_by after d) → GrowsAt d (told_by before) (told_by after)
      → CameAllOver access start area (told_by before) → CameAllOver access start area (told_by after)
  came_on (Ok answer) looks came told grows held = told_anew (λ e b. CameOver access start area e.hash b) d before after held grows anew
    where
      anew : (b : List ℕ) → told_by before d ≡ None → told_by after d ≡ Some b → CameOver access start area d.hash b
      anew b none is = elim (there_or_not (answers before d)) [
        | inl not ↦ record { old = old; new = new; before = came; is = inl (sent, subst (Gets old new area d.hash) (told ∙ is) (looks.answered not)) }
        | inr has ↦ absurd (some_not_none (sym is ∙ ap bytes_kept ((looks.same has).same d) ∙ none))
      ]
  came_on (Err e) looks came told grows held = told_anew (λ e b. CameOver access start area e.hash b) d before after held grows anew
    where
      anew : (b : List ℕ) → told_by before d ≡ None → told_by after d ≡ Some b → CameOver access start area d.hash b
      anew b none is = absurd (some_not_none (sym is ∙ ap bytes_kept (looks.unheld.same d) ∙ none))

-- a blob is put
pub comes_by_blob : {T : Type 0} (access : Access) (start : ConnectionValue) (hash bytes : List ℕ) (old new : ConnectionValue) (puts : List DigestValue) (calls more : ℕ)
    → more ≡ min (calls + 1) greatest_count
    → (result : Result T FetchError) → OnOk result (Puts old new Cas hash bytes) → IfErr result (RefusesRequest old new (put Cas hash bytes)) → MaySend access (put Cas hash bytes)
    → ComesPutting access start puts calls old → ComesPutting access start puts more new
comes_by_blob access start hash bytes old new puts calls more counted (Ok x) takes refuses sent came =
    (taken old new Cas hash bytes came.0 sent takes, came.1, one_made greatest_count calls more (requests_made came.0) counted came.2)
comes_by_blob access start hash bytes old new puts calls more counted (Err e) takes refuses sent came =
    (refused old new (put Cas hash bytes) e came.0 sent refuses, came.1, one_made greatest_count calls more (requests_made came.0) counted came.2)

-- a result is put, and listed
pub comes_by_result : {T : Type 0} (access : Access) (start : ConnectionValue) (d : DigestValue) (bytes : List ℕ) (old new : ConnectionValue) (puts more : List DigestValue)
    (before after : ℕ) → after ≡ min (before + 1) greatest_count → (result : Result T FetchError) → OnOk result (Puts old new Ac d.hash bytes) → IfErr result (RefusesRequest old new (put Ac d.hash bytes)) → MaySend access (put Ac d.hash bytes)
    → OnOk result (more ≡ puts ++ d ∷ []) → OnErr result (more ≡ puts)
    → ComesPutting access start puts before old → ComesPutting access start more after new
comes_by_result access start d bytes old new puts more before after counted (Ok x) takes refuses sent listed unlisted came = (
  taken old new Ac d.hash bytes came.0 sent takes,
  ap (map (λ (e : DigestValue). e.hash)) listed ∙ map-append (λ (e : DigestValue). e.hash) puts (d ∷ []) ∙ ap (λ l. l ++ d.hash ∷ []) came.1,
  one_made greatest_count before after (requests_made came.0) counted came.2,
)
comes_by_result access start d bytes old new puts more before after counted (Err e) takes refuses sent listed unlisted came =
    same_put puts more after new unlisted
    (refused old new (put Ac d.hash bytes) e came.0 sent refuses, came.1, one_made greatest_count before after (requests_made came.0) counted came.2)

module _ {A T : Type 0} (start : ConnectionValue) (area : Area) (d : DigestValue) (bytes : List ℕ) (old new : ConnectionValue) (before after : Table A) where
  -- what is kept came over it, or it took it
  pub came_by_put : (result : Result T FetchError) → Stores area d bytes old new before after result → MaySend puts_too (put area d.hash bytes) → Comes puts_too start old
      → PutsAt d bytes (told_by before) (told_by after) → CameAllOver puts_too start area (told_by before) → CameAllOver puts_too start area (told_by after)
  came_by_put (Err e) stores sent came puts held f b is = held f b (sym (ap bytes_kept (stores.unheld.same f)) ∙ is)
  came_by_put (Ok x) stores sent came puts held f b is = elim (same_or_other d f) [
    | inr other ↦ held f b (sym (puts.others f other) ∙ is)
    | inl same ↦ elim puts.there [
      | inl stays ↦ held f b (subst (λ x. told_by before x ≡ Some b) (sym same) (sym stays ∙ subst (λ x. told_by after x ≡ Some b) same is))
      | inr is_put ↦ record {
        old = old;
        new = new;
        before = came;
        is = subst (λ x. (MaySend puts_too (get area x.hash) × Gets old new area x.hash (Some b)) ⊎ (MaySend puts_too (put area x.hash b) × Puts old new area x.hash b)) (sym same)
            (inr (subst (λ c. MaySend puts_too (put area d.hash c) × Puts old new area d.hash c) (same_bytes (sym is_put ∙ subst (λ x. told_by after x ≡ Some b) same is)) (sent, stores.taken)));
      }
    ]
  ]

-- ---- what is lacked

-- nothing is kept where nothing was asked
pub none_unasked : {A : Type 0} (t : Table A) (d : DigestValue) → (HasAnswer t d → ⊥) → told_by t d ≡ None
none_unasked t d not = by (answers t d) not
  where
    by : {X : Type 0} (o : Option (Option (Vec ℕ X))) → (o ≢ None → ⊥) → bytes_kept o ≡ None
    by None none = refl
    by (Some answer) none = absurd (none some_not_none)

-- a remote that was asked nothing tells nothing
pub nothing_by : {S : Type 0} (r : Remote S Global) → IsFresh r → TellsNothing (telling_of r)
nothing_by r none = record {
  blobs = λ d. none_unasked (blobs_of r) d (none.blobs d);
  results = λ d. none_unasked (results_of r) d (none.results d);
  failures = none.failures;
  calls = none.calls;
  puts = none.puts;
}

pub none_lacked : {A : Type 0} (P : DigestValue → Type 0) (t : Table A) → ((d : DigestValue) → HasAnswer t d → ⊥) → LacksAll P t
none_lacked P t unasked d none = absurd (unasked d (λ e. some_not_none (sym none ∙ e)))

-- an answer without bytes says that nothing is there
kept_none : {X : Type 0} (o : Option (Option (Vec ℕ X))) → o ≢ None → bytes_kept o ≡ None → o ≡ Some None
kept_none None has none = absurd (has refl)
kept_none (Some None) has none = refl
kept_none (Some (Some bytes)) has none = absurd (some_not_none none)

-- what was lacked before a call is lacked after it, and so is what it has looked for
lacked_anew : {A : Type 0} (P : DigestValue → Type 0) (d : DigestValue) (before after : Table A) → IsSameBut d before after
    → (KeepsNone after d → P d) → LacksAll P before → LacksAll P after
lacked_anew P d before after others here held e none = elim (same_or_other d e) [
  | inr other ↦ held e (sym (others e other) ∙ none)
  | inl same ↦ subst P (sym same) (here (subst (KeepsNone after) same none))
]

-- the server replied so for each
abbrev pub LacksAllOver : {A : Type 0} → Access → ConnectionValue → Area → Table A → Type 0
LacksAllOver access start area kept = LacksAll (λ d. LacksOver access start area d.hash) kept

module _ {A : Type 0} (access : Access) (start : ConnectionValue) (area : Area) (d : DigestValue) (sent : MaySend access (get area d.hash)) (old new : ConnectionValue) (before after : Table A) where
  -- a look-up that answers none had that as a reply, now or before
  pub lacks_here : (answer : Option (Vec ℕ A)) → LooksUp area d old new before after (Ok answer) → Comes access start old
      → bytes_of answer ≡ told_by after d → LacksAllOver access start area before → told_by after d ≡ None → LacksOver access start area d.hash
  lacks_here answer looks came told held none = elim (there_or_not (answers before d)) [
    | inl not ↦ record { old = old; new = new; before = came; sent = sent; is = subst (Gets old new area d.hash) (told ∙ none) (looks.answered not) }
    | inr has ↦ held d (kept_none (answers before d) has (ap bytes_kept (sym ((looks.same has).same d)) ∙ none))
  ]

  pub lacks_on : (result : Result (Option (Vec ℕ A)) FetchError) → LooksUp area d old new before after result → Comes access start old
      → IfOk result (λ answer. bytes_of answer ≡ told_by after d) → LacksAllOver access start area before → LacksAllOver access start area after
  lacks_on (Err f) looks came told held = λ e none. held e (sym (looks.unheld.same e) ∙ none)
  lacks_on (Ok answer) looks came told held =
      lacked_anew (λ e. LacksOver access start area e.hash) d before after looks.others (λ none. lacks_here answer looks came told held (ap bytes_kept none)) held

  pub lacks_now : (result : Result (Option (Vec ℕ A)) FetchError) → LooksUp area d old new before after result → ∥ Comes access start old ∥₁
      → IfOk result (λ answer. bytes_of answer ≡ told_by after d) → ∥ LacksAllOver access start area before ∥₁
      → IfOk result (λ answer. IfNone answer (∥ LacksOver access start area d.hash ∥₁))
  lacks_now (Err f) looks came told held = tt
  lacks_now (Ok (Some v)) looks came told held = tt
  lacks_now (Ok None) looks came told held = ∥∥₁_map₂ came held (λ comes lacks. lacks_here None looks comes told lacks (sym told))

-- a look-up over a connection that was asked nothing brought this answer
pub got_first : {A : Type 0} (d : DigestValue) (start old new : ConnectionValue) (before after : Table A) (result : Result (Option (Vec ℕ A)) FetchError)
    (answer : Option (Vec ℕ A)) → start ≡ old → LooksUp Cas d old new before after result → (HasAnswer before d → ⊥) → result ≡ Ok answer
    → GetsFirst start d (bytes_of answer)
got_first d start old new before after result answer at looks not is =
    subst (λ s. GetsFirst s d (bytes_of answer)) (sym at) (new, subst (λ r. IfOk r (λ a. Gets old new Cas d.hash (bytes_of a))) is (looks.answered not))

-- what was put is there
pub blob_there : {T : Type 0} (bytes : List ℕ) (old new : Blobs) (result : Result T FetchError) → OnOk result (IsPut bytes old new)
    → OnOk result (new (digest_of bytes) ≡ None → ⊥)
blob_there bytes old new (Err f) put = tt
blob_there bytes old new (Ok x) (inl right) = λ none. some_not_none (sym right.0.1 ∙ sym right.1 ∙ none)
blob_there bytes old new (Ok x) (inr put) = λ none. some_not_none (sym put.1 ∙ none)

pub result_there : {T : Type 0} (d : DigestValue) (bytes : List ℕ) (new : Blobs) (result : Result T FetchError) → OnOk result (new d ≡ Some bytes)
    → OnOk result (new d ≡ None → ⊥)
result_there d bytes new (Err f) is = tt
result_there d bytes new (Ok x) is = λ none. some_not_none (sym is ∙ none)

pub lacks_by_put : {A T : Type 0} (access : Access) (start : ConnectionValue) (area : Area) (d : DigestValue) (bytes : List ℕ) (old new : ConnectionValue)
    (before after : Table A) (result : Result T FetchError) → Stores area d bytes old new before after result
    → OnOk result (told_by after d ≡ None → ⊥) → LacksAllOver access start area before → LacksAllOver access start area after
lacks_by_put access start area d bytes old new before after (Err f) stores there held = λ e none. held e (sym (stores.unheld.same e) ∙ none)
lacks_by_put access start area d bytes old new before after (Ok x) stores there held =
    lacked_anew (λ e. LacksOver access start area e.hash) d before after stores.others (λ none. absurd (there (ap bytes_kept none))) held

-- ---- a store folder

-- what holds of what stays the same
pub by_same : {R : Type 0} (x y : R) → y ≡ x → (P : R → Type 0) → P x → P y
by_same x y is P h = subst P (sym is) h

is_some_weaker : {X : Type 0} (o : Option X) (P Q : X → Type 0) → ((x : X) → P x → Q x) → IsSomeAnd o P → IsSomeAnd o Q
is_some_weaker None P Q by h = absurd h
is_some_weaker (Some x) P Q by h = by x h

module _ (sees other : Sight) (known : SeesFiles sees other) (path : List ℕ) where
  read_more : (found : Option (List ℕ)) → IsReadAt sees.reads sees.fails path found → IsReadAt other.reads other.fails path found
  read_more None h = (h.0, known.fails path h.0 h.1, h.2)
  read_more (Some bytes) h = known.reads path bytes h

  -- so the other says of a call
  pub looks_more : (d : DigestValue) (error new_error : Option (FileError Global)) (before after : Table Global) (result : Result (Option (Vec ℕ Global)) FetchError)
      → LooksInFolder sees.reads sees.fails path d error new_error before after result → LooksInFolder other.reads other.fails path d error new_error before after result
  looks_more d error new_error before after result looks = record {
    kept = looks.kept;
    absent = looks.absent;
    same = looks.same;
    held = looks.held;
    unheld = looks.unheld;
    others = looks.others;
    read = λ not. IfOk-weaker result (λ answer. IsReadAt sees.reads sees.fails path (bytes_of answer)) (λ answer. IsReadAt other.reads other.fails path (bytes_of answer))
        (λ answer. read_more (bytes_of answer)) (looks.read not);
    failed = looks.failed;
    fault = λ is. is_some_weaker new_error (sees.fails path) (other.fails path) (known.fails path) (looks.fault is);
    real = looks.real;
    unfailed = looks.unfailed;
  }

module _ {A : Type 0} (reads : List ℕ → List ℕ → Type 0) (fails : List ℕ → FileError A → Type 0) where
  -- what is kept was read
  pub read_on : (at : DigestValue → List ℕ) (d : DigestValue) (error new_error : Option (FileError A)) (before after : Table A)
      (result : Result (Option (Vec ℕ A)) FetchError)
      → LooksInFolder reads fails (at d) d error new_error before after result
      → IfOk result (λ answer. bytes_of answer ≡ told_by after d) → GrowsAt d (told_by before) (told_by after)
      → ((e : DigestValue) (b : List ℕ) → told_by before e ≡ Some b → reads (at e) b)
      → (e : DigestValue) (b : List ℕ) → told_by after e ≡ Some b → reads (at e) b
  read_on at d error new_error before after (Ok answer) looks told grows held = told_anew (λ e b. reads (at e) b) d before after held grows anew
    where
      anew : (b : List ℕ) → told_by before d ≡ None → told_by after d ≡ Some b → reads (at d) b
      anew b none is = elim (there_or_not (answers before d)) [
        | inl not ↦ subst (IsReadAt reads fails (at d)) (told ∙ is) (looks.read not)
        | inr has ↦ absurd (some_not_none (sym is ∙ ap bytes_kept ((looks.same has).same d) ∙ none))
      ]
  read_on at d error new_error before after (Err e) looks told grows held = told_anew (λ e b. reads (at e) b) d before after held grows anew
    where
      anew : (b : List ℕ) → told_by before d ≡ None → told_by after d ≡ Some b → reads (at d) b
      anew b none is = absurd (some_not_none (sym is ∙ ap bytes_kept (looks.unheld.same d) ∙ none))

  -- what is kept as nothing was looked for, and wasn't there
  pub absent_on : (at : DigestValue → List ℕ) (d : DigestValue) (error new_error : Option (FileError A)) (before after : Table A)
      (result : Result (Option (Vec ℕ A)) FetchError)
      → LooksInFolder reads fails (at d) d error new_error before after result
      → IfOk result (λ answer. bytes_of answer ≡ told_by after d)
      → LacksAll (λ e. IsNothingAt fails (at e)) before → LacksAll (λ e. IsNothingAt fails (at e)) after
  absent_on at d error new_error before after (Err e) looks told held = λ f none. held f (sym (looks.unheld.same f) ∙ none)
  absent_on at d error new_error before after (Ok answer) looks told held = lacked_anew (λ e. IsNothingAt fails (at e)) d before after looks.others here held
    where
      here : KeepsNone after d → IsNothingAt fails (at d)
      here none = elim (there_or_not (answers before d)) [
        | inl not ↦ subst (IsReadAt reads fails (at d)) (told ∙ ap bytes_kept none) (looks.read not)
        | inr has ↦ held d (sym ((looks.same has).same d) ∙ none)
      ]

of_some : {X : Type 0} (P : X → Type 0) (o : Option X) (x : X) → IsSomeAnd o P → o ≡ Some x → P x
of_some P None x h e = absurd h
of_some P (Some y) x h e = subst P (same_of e) h
  where
    same_of : ◌≡◌ (Some y) (Some x) → y ≡ x
    same_of q = cc

pub answered : {X : Type 0} (x : X) → ◌≡◌ {A = Result X FetchError} (Ok x) (Err Failed) → ⊥
answered x e = cc

pub refused_otherwise : {X : Type 0} → ◌≡◌ {A = Result X FetchError} (Err Memory) (Err Failed) → ⊥
refused_otherwise e = cc

-- the error of the last failure tells of a file in the folder
pub failed_on : (sees : Sight) (folder : List ℕ) (lack : Lack) (d : DigestValue) (error new_error : Option (FileError Global)) (before after : Table Global)
    (result : Result (Option (Vec ℕ Global)) FetchError)
    → LooksInFolder sees.reads sees.fails (file_of folder lack) d error new_error before after result
    → ((e : FileError Global) → error ≡ Some e → FailsInStore sees folder e)
    → (e : FileError Global) → new_error ≡ Some e → FailsInStore sees folder e
failed_on sees folder lack d error new_error before after (Ok answer) looks was e is = was e (sym (looks.unfailed (answered answer)) ∙ is)
failed_on sees folder lack d error new_error before after (Err Memory) looks was e is = was e (sym (looks.unfailed refused_otherwise) ∙ is)
failed_on sees folder lack d error new_error before after (Err Failed) looks was e is =
    record {
      lack = lack;
      fails = of_some (sees.fails (file_of folder lack)) new_error e (looks.fault refl) is;
      there = of_some (λ (f : FileError Global). IsNotThere f → ⊥) new_error e (looks.real refl) is;
    }
