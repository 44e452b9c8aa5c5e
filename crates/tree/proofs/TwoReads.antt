-- Two reads for each of so many names.
use Rattle.std.proofs.Common.{ℕ, ◌+◌, ◌-◌, ◌*◌, ◌<◌, arith}
use Rattle.std.specs.Prelude.{Ok, IsErrOf}
use Rattle.blob_source.specs.Source.{Telling, Asks}
use Rattle.blob_source.specs.Called.{Calls}
use Rattle.blob_source.proofs.Asking.{asks_then, asks_within, ok_no_error}
use Rattle.blob_source.proofs.Calling.{called_no, calls_ok}

pub asks_both : {deeper : ℕ} {old mid new : Telling} → 0 < deeper → Asks 1 old mid → Asks 1 mid new → Asks (2 * deeper) old new
asks_both {deeper} some h k = asks_within {a = 1 + 1} {b = 2 * deeper} (omega (arith, some)) (asks_then h k)

asks_below : {deeper : ℕ} {old mid new : Telling} → 0 < deeper → Asks (1 + 1) old mid → Asks (2 * (deeper - 1)) mid new → Asks (2 * deeper) old new
asks_below {deeper} some h k = asks_within {a = 1 + 1 + 2 * (deeper - 1)} {b = 2 * deeper} (omega (arith, some)) (asks_then h k)

-- two reads that came to Directories, and nothing after them
pub calls_both : {T U E : Type 0} {x : T} {y : U} {e : E} {fails : Type 0} {deeper : ℕ} {old mid new : Telling} → 0 < deeper
    → Calls (Asks 1) old mid (IsErrOf (Ok x) e) → Calls (Asks 1) mid new (IsErrOf (Ok y) e) → (fails → ⊥) → Calls (Asks (2 * deeper)) old new fails
calls_both some h k none = calls_ok (asks_both some) h (called_no ok_no_error none k)

-- and then the reads below them
pub calls_below : {T U E : Type 0} {x : T} {y : U} {e : E} {fails : Type 0} {deeper : ℕ} {old mid late new : Telling} → 0 < deeper
    → Calls (Asks 1) old mid (IsErrOf (Ok x) e) → Calls (Asks 1) mid late (IsErrOf (Ok y) e) → Calls (Asks (2 * (deeper - 1))) late new fails → Calls (Asks (2 * deeper)) old new fails
calls_below {y = y} {e = e} {deeper = deeper} {old = old} {late = late} some h k l =
    let two : Calls (Asks (1 + 1)) old late (IsErrOf (Ok y) e) = calls_ok asks_then h k in
    calls_ok {first = Asks (1 + 1)} {both = Asks (2 * deeper)} (asks_below some) two l
