-- What is taken by a client is put over its connection.
use Rattle.std.proofs.Common.{◌≡◌, ◌∙◌, ℕ, List, [], ◌∷◌, Result, Ok, Err, IfOk, IfErr, ap, false, inl, inr, subst}
use Rattle.blob_digest.specs.Digest.{DigestValue}
use Rattle.remote.specs.Line.{ConnectionValue}
use Rattle.commands.specs.Faults.{OrMemory}
use Rattle.commands.specs.Put.{PutsPath, PutsRead}
use Rattle.commands.specs.PutRefused.{FailsBelow, RefusesPut}
use Rattle.commands.specs.Read.{ReadBlob, TakesAll, bytes_in}
use Rattle.commands.specs.ReadRefused.{FailsTaking, IsErrorOfStop, Stop, at_blob, for_error}
use Rattle.commands.specs.Walked.{TakesPath}
use Rattle.commands.specs.World.{Sight}
use Rattle.commands.specs.declared.error.CommandError.{CommandError}

pub ok_of : {T E : Type 0} (r : Result T E) (x : T) (P : T → Type 0) → r ≡ Ok x → IfOk r P → P x
ok_of r x P is h = subst (λ q. IfOk q P) is h

pub err_of : {T E : Type 0} (r : Result T E) (e : E) (P : E → Type 0) → r ≡ Err e → IfErr r P → P e
err_of r e P is h = subst (λ q. IfErr q P) is h

-- by how the connection stands, and the address of the server
module _ {T : Type 0} (at : T → ConnectionValue) (address : T → List ℕ) where
  abbrev pub TakesPut : T → T → ReadBlob → Type 0
  TakesPut old new blob = PutsRead (at old) (at new) blob × (address new ≡ address old)

  abbrev pub RefusesTaken : T → ReadBlob → CommandError → Type 0
  RefusesTaken old blob e = RefusesPut (at old) (address old) (bytes_in blob) e

  record IsAllPut (old new : T) (blobs : List ReadBlob) : Type 0 where
    put : TakesAll PutsRead (at old) (at new) blobs
    same : address new ≡ address old

  all_put : (blobs : List ReadBlob) (old new : T) → TakesAll TakesPut old new blobs → IsAllPut old new blobs
  all_put [] old new h = record { put = ap at h; same = ap address h }
  all_put (b ∷ blobs) old new h = let rest = all_put blobs h.0 new h.2 in record { put = (at h.0, h.1.0, rest.put); same = rest.same ∙ h.1.1 }

  module _ (sees : Sight) (path : List ℕ) (old : T) where
    pub path_put : (digest : DigestValue) (new : T) → TakesPath TakesPut sees false path digest old new → PutsPath sees (at old) path digest
    path_put digest new h = record { blobs = h.blobs; read = h.read; now = at new; put = (all_put h.blobs old new h.taken).put }

    told_put : (now : T) (stop : Stop) (e : CommandError) → address now ≡ address old → IsErrorOfStop (RefusesTaken now) stop e → IsErrorOfStop (λ blob. RefusesPut (at now) (address old) (bytes_in blob)) stop e
    told_put now (for_error x) e same h = h
    told_put now (at_blob blob) e same h = subst (λ a. RefusesPut (at now) a (bytes_in blob) e) same h

    pub path_unput : (left : ℕ) (e : CommandError) → FailsTaking TakesPut RefusesTaken sees false left path old e → FailsBelow sees (address old) e left path (at old)
    path_unput left e h =
        let all = all_put h.blobs old h.now h.taken in
        record { stop = h.stop; blobs = h.blobs; now = at h.now; stops = h.stops; taken = all.put; told = told_put h.now h.stop e all.same h.told }

    pub or_unput : (left : ℕ) (e : CommandError) → OrMemory (FailsTaking TakesPut RefusesTaken sees false left path old) e → OrMemory (λ x. FailsBelow sees (address old) x left path (at old)) e
    or_unput left e (inl memory) = inl memory
    or_unput left e (inr h) = inr (path_unput left e h)
