-- What a put leaves.
use Rattle.std.proofs.Common.{◌≡◌, ℕ, List, Some, inr, refl, sym, ap, subst}
use Rattle.std.specs.Prelude.{Result, Err}
use Rattle.std.specs.Result.{IsErrAnd}
use Rattle.std.proofs.lemmas.Result.{err_from_is_err_and}
use Rattle.http_core.specs.declared.event.Area.{Area}
use Rattle.blob_digest.specs.Digest.{DigestValue}
use Rattle.blob_source.specs.Sink.{PutsAt}
use Rattle.blob_source.specs.declared.source.FetchError.{FetchError}
use Rattle.remote.specs.declared.table.Table.{Table}
use Rattle.remote.specs.Line.{ConnectionValue, ExplainsMemory, Puts, RefusesRequest, put}
use Rattle.remote.specs.Remote.{Stores}
use Rattle.remote.specs.Table.{bytes_kept, told_by}
use Rattle.remote.proofs.Lines.{explains_unkept, refuses_unkept}
use Rattle.remote.specs.Steps.{KeepsAnswer, KeepsNothing, Starves}

-- the bytes were taken, and memory to keep them was wanting
pub stores_unkept : {A T : Type 0} (area : Area) (d : DigestValue) (bytes : List ℕ) (old mid new : ConnectionValue) (before after : Table A) (r : Result T FetchError) (e : FetchError)
    → Puts old mid area d.hash bytes → KeepsNothing before after mid new e → IsErrAnd r (λ y. y ≡ e) → Stores area d bytes old new before after r
stores_unkept {A} {T} area d bytes old mid new before after r e puts keeps exit =
    let p = err_from_is_err_and r exit in
    subst (Stores area d bytes old new before after) (sym p.1) (record {
      taken = tt;
      refused = subst (RefusesRequest old new (put area d.hash bytes)) (sym p.2) (refuses_unkept old mid new (put area d.hash bytes) puts.reply e puts.asks keeps.starves);
      starved = subst (ExplainsMemory old new (put area d.hash bytes)) (sym p.2) (explains_unkept old mid new (put area d.hash bytes) puts.reply e puts.asks keeps.starves);
      held = tt;
      unheld = keeps.keeps;
      others = λ e other. keeps.keeps.same e;
    })

-- the bytes were taken, and memory to list that was wanting
pub stores_unlisted : {A T : Type 0} (area : Area) (d : DigestValue) (bytes : List ℕ) (old mid new : ConnectionValue) (table : Table A) (e : FetchError)
    → Puts old mid area d.hash bytes → Starves mid new e → Stores {A = A} {T = T} area d bytes old new table table (Err e)
stores_unlisted area d bytes old mid new table e puts starves = record {
  taken = tt;
  refused = refuses_unkept old mid new (put area d.hash bytes) puts.reply e puts.asks starves;
  starved = explains_unkept old mid new (put area d.hash bytes) puts.reply e puts.asks starves;
  held = tt;
  unheld = record { same = λ e. refl };
  others = λ e other. refl;
}

-- the table has the bytes under the digest, and under the others what it had
pub puts_kept : {A : Type 0} (old new : Table A) (d : DigestValue) (bytes : List ℕ) → KeepsAnswer old new d (Some bytes) → PutsAt d bytes (told_by old) (told_by new)
puts_kept old new d bytes k = record { there = inr k.held; others = λ e other. ap bytes_kept (k.others e other) }
