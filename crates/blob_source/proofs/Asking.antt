-- Calls of a source, one after another.
use Rattle.std.proofs.Common.{◌≡◌, ℕ, ◌+◌, ◌<◌, ◌≤◌, refl, ap, ◌∙◌, arith}
use Rattle.std.specs.Prelude.{Result, Ok, Err}
use Rattle.blob_digest.specs.Digest.{DigestValue}
use Rattle.blob_source.specs.Source.{Blobs, Telling, GrowsAt, AsksBlob, AsksResult, Asks, AsksSome}

-- ---- some calls

pub some_none : (t : Telling) → AsksSome t t
some_none t = record {
  blobs = λ e b h. h;
  results = λ e b h. h;
  puts = refl;
  failures = omega arith;
  risen = omega arith;
}

pub some_then : {old mid new : Telling} → AsksSome old mid → AsksSome mid new → AsksSome old new
some_then {old} {mid} {new} h k = record {
  blobs = λ e x q. k.blobs e x (h.blobs e x q);
  results = λ e x q. k.results e x (h.results e x q);
  puts = k.puts ∙ h.puts;
  failures = omega (arith, h.failures, k.failures);
  risen = omega (arith, h.risen, k.risen);
}

-- ---- at most so many

pub asks_none : {most : ℕ} (t : Telling) → Asks most t t
asks_none t = record { some = some_none t; most_calls = omega arith }

pub asks_blob : {old new : Telling} {d : DigestValue} → AsksBlob d old new → Asks 1 old new
asks_blob {old} {new} h = record {
  some = record {
    blobs = h.blobs.kept;
    results = λ e b q. ap (λ R. R e) h.results ∙ q;
    puts = h.puts;
    failures = h.counts.failures;
    risen = h.counts.risen;
  };
  most_calls = omega (arith, h.counts.calls);
}

pub asks_result : {old new : Telling} {d : DigestValue} → AsksResult d old new → Asks 1 old new
asks_result {old} {new} h = record {
  some = record {
    blobs = λ e b q. ap (λ B. B e) h.blobs ∙ q;
    results = h.results.kept;
    puts = h.puts;
    failures = h.counts.failures;
    risen = h.counts.risen;
  };
  most_calls = omega (arith, h.counts.calls);
}

pub asks_then : {a b : ℕ} {old mid new : Telling} → Asks a old mid → Asks b mid new → Asks (a + b) old new
asks_then {a} {b} {old} {mid} {new} h k = record {
  some = some_then h.some k.some;
  most_calls = omega (arith, h.most_calls, k.most_calls);
}

pub asks_within : {a b : ℕ} {old new : Telling} → a ≤ b → Asks a old new → Asks b old new
asks_within {a} {b} {old} {new} le h = record { some = h.some; most_calls = omega (arith, h.most_calls, le) }

-- one call more, of so many
pub asks_more : {i n : ℕ} {old mid new : Telling} → i < n → Asks i old mid → Asks 1 mid new → Asks n old new
asks_more {i} {n} lt h k = asks_within {a = i + 1} {b = n} (omega (arith, lt)) (asks_then h k)

-- an answer is no error
pub ok_no_error : {T E : Type 0} {x : T} {e : E} → ◌≡◌ {A = Result T E} (Ok x) (Err e) → ⊥
ok_no_error h = cc

-- ---- what is told under which digests

pub grows_none : (d : DigestValue) (B : Blobs) → GrowsAt d B B
grows_none d B = record { kept = λ e b h. h; others = λ e other. refl }
