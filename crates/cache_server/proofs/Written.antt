-- Bytes written in pieces.
use Rattle.std.proofs.Common.{◌≡◌, ℕ, ◌≤◌, min, Option, List, ◌++◌, take, drop, length, sym, ◌∙◌, ap, subst, append_assoc, take-append-drop, arith}
use Rattle.std.proofs.lemmas.List.{length-take, take-take}
use Rattle.std.specs.Io.KnownBytes.{Appends}
use Rattle.std.proofs.KnownBytes.{Appends-trans}

pub record IsWritten (old new : Option (List ℕ)) (bytes rest : List ℕ) : Type 0 where
  pub done : List ℕ
  pub whole : bytes ≡ done ++ rest
  pub appends : Appends old new done

pub write_more : (old mid new : Option (List ℕ)) (bytes rest more : List ℕ) (count : ℕ)
    → IsWritten old mid bytes rest → Appends mid new (take count rest) → more ≡ drop count rest → IsWritten old new bytes more
write_more old mid new bytes rest more count w a e = record {
  done = w.done ++ take count rest;
  whole = w.whole ∙ ap (λ z. w.done ++ z) (sym (take-append-drop count rest)) ∙ ap (λ z. w.done ++ (take count rest ++ z)) (sym e) ∙ sym (append_assoc w.done (take count rest) more);
  appends = Appends-trans old mid new w.done (take count rest) w.appends a;
}

-- what is taken of a front of the rest is taken of the rest
pub write_front : (mid new : Option (List ℕ)) (rest piece : List ℕ) (size count : ℕ)
    → piece ≡ take size rest → count ≤ length piece → Appends mid new (take count piece) → Appends mid new (take count rest)
write_front mid new rest piece size count e h a =
    let short : length piece ≡ min size (length rest) = ap length e ∙ length-take size rest in
    let within : count ≤ size = omega (arith, short, h) in
    subst (Appends mid new) (ap (take count) e ∙ take-take count size rest within) a
