-- What a call of a sink of whose calls one fails does to what it tells.
use Rattle.std.proofs.Common.{◌≡◌, ℕ, ◌∙◌, refl, ap, sym, subst, inl, arith}
use Rattle.std.specs.Prelude.{List, Result, IsErrOf}
use Rattle.blob_digest.specs.Digest.{DigestValue, digest_of}
use Rattle.blob_source.specs.Called.{Calls}
use Rattle.blob_source.specs.Sink.{PutsAt, KeepsRight, PutsBlob, PutsResult}
use Rattle.blob_source.specs.Source.{Blobs, Telling, GrowsAt, AsksBlob, AsksResult, CountsCall}
use Rattle.blob_source.specs.declared.source.FetchError.{FetchError}
use Rattle.blob_source.specs.declared.source.FetchError.TheVariants.{Failed}
use Rattle.tree.specs.FailSink.{BeginsCall, CountsFailure, telling_of}
use Rattle.tree.specs.declared.fail_sink.FailSink.{FailSink}

grows : (d : DigestValue) {old' new' : Blobs} → new' ≡ old' → GrowsAt d old' new'
grows d {old'} same = subst (GrowsAt d old') (sym same)
    (record { kept = λ _ _ h. h; others = λ _ _. refl })

puts : (d : DigestValue) (b : List ℕ) {old' new' : Blobs} → new' ≡ old' → PutsAt d b old' new'
puts d b {old'} same = subst (PutsAt d b old') (sym same)
    (record { there = inl refl; others = λ _ _. refl })

keeps_right : {old' new' : Blobs} → new' ≡ old' → KeepsRight old' new'
keeps_right {old'} same = subst (KeepsRight old') (sym same) (λ _ _ h _. h)

-- `mid` is the sink once the call was counted
module _ {S T : Type 0} (tells : S → Telling) (old mid new : FailSink S)
    (result : Result T FetchError) (begun : BeginsCall old mid)
    (same : new.calls ≡ mid.calls) (told : CountsFailure mid.failures new.failures result) where
  abbrev pub Before : Telling
  Before = telling_of tells old

  abbrev pub After : Telling
  After = telling_of tells new

  counted : CountsFailure old.failures new.failures result
  counted = subst (λ n. CountsFailure n new.failures result) begun.failures told

  counts : CountsCall Before After
  counts = record {
    calls = same ∙ begun.calls;
    risen = (let c = begun.risen in let s = same in omega (arith, c, s));
    failures = counted.risen;
    bounded = counted.bounded;
  }

  told_so : (does : Telling → Telling → Type 0) → does Before After
      → Calls does Before After (IsErrOf result Failed)
  told_so does h = record { asked = h; failed = counted.failed; unfailed = counted.unfailed }

  -- ---- the other sink was called, and this is what stands inside then
  module _ (inner : S) (after : new.inner ≡ inner) where
    placed : (does : Telling → Telling → Type 0) → does (tells mid.inner) (tells inner)
        → does (tells old.inner) (tells new.inner)
    placed does h =
        subst (λ x. does (tells old.inner) (tells x)) (sym after)
        (subst (λ x. does (tells x) (tells inner)) begun.inner h)

    pub hands_on_fetch : (d : DigestValue) → AsksBlob d (tells mid.inner) (tells inner)
        → Calls (AsksBlob d) Before After (IsErrOf result Failed)
    hands_on_fetch d h =
        let a = placed (AsksBlob d) h in
        told_so (AsksBlob d) (record { blobs = a.blobs; results = a.results; puts = a.puts; counts = counts })

    pub hands_on_result : (d : DigestValue) → AsksResult d (tells mid.inner) (tells inner)
        → Calls (AsksResult d) Before After (IsErrOf result Failed)
    hands_on_result d h =
        let a = placed (AsksResult d) h in
        told_so (AsksResult d) (record { results = a.results; blobs = a.blobs; puts = a.puts; counts = counts })

    pub hands_on_blob : (b : List ℕ) → PutsBlob b (tells mid.inner) (tells inner)
        → Calls (PutsBlob b) Before After (IsErrOf result Failed)
    hands_on_blob b h =
        let a = placed (PutsBlob b) h in
        told_so (PutsBlob b) (record {
          blobs = a.blobs;
          right = a.right;
          results = a.results;
          puts = a.puts;
          counts = counts;
        })

    pub hands_on_put : (d : DigestValue) (b : List ℕ)
        → PutsResult d b (tells mid.inner) (tells inner)
        → Calls (PutsResult d b) Before After (IsErrOf result Failed)
    hands_on_put d b h =
        let a = placed (PutsResult d b) h in
        told_so (PutsResult d b) (record { results = a.results; blobs = a.blobs; counts = counts })

  -- ---- it wasn't
  module _ (stays : new.inner ≡ mid.inner) where
    kept : {V : Type 0} (part : Telling → V) → part (tells new.inner) ≡ part (tells old.inner)
    kept part = ap (λ x. part (tells x)) (stays ∙ begun.inner)

    pub fails_fetch : (d : DigestValue) → Calls (AsksBlob d) Before After (IsErrOf result Failed)
    fails_fetch d = told_so (AsksBlob d) (record {
      blobs = grows d (kept (λ t. t.blobs));
      results = kept (λ t. t.results);
      puts = kept (λ t. t.puts);
      counts = counts;
    })

    pub fails_result : (d : DigestValue) → Calls (AsksResult d) Before After (IsErrOf result Failed)
    fails_result d = told_so (AsksResult d) (record {
      results = grows d (kept (λ t. t.results));
      blobs = kept (λ t. t.blobs);
      puts = kept (λ t. t.puts);
      counts = counts;
    })

    pub fails_blob : (b : List ℕ) → Calls (PutsBlob b) Before After (IsErrOf result Failed)
    fails_blob b = told_so (PutsBlob b) (record {
      blobs = puts (digest_of b) b (kept (λ t. t.blobs));
      right = keeps_right (kept (λ t. t.blobs));
      results = kept (λ t. t.results);
      puts = kept (λ t. t.puts);
      counts = counts;
    })

    pub fails_put : (d : DigestValue) (b : List ℕ)
        → Calls (PutsResult d b) Before After (IsErrOf result Failed)
    fails_put d b = told_so (PutsResult d b) (record {
      results = puts d b (kept (λ t. t.results));
      blobs = kept (λ t. t.blobs);
      counts = counts;
    })
