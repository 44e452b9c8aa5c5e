-- The lines one after another, while the source tells more and more.
use Rattle.std.proofs.Common.{◌≡◌, ℕ, zero, suc, ◌+◌, ◌<◌, ◌≤◌, List, [], ◌∷◌, ◌++◌, length, drop, get_or, refl, ap, sym, subst, inl, inr, arith, add-one, drop-cons, append_assoc}
use Rattle.std.specs.Prelude.{Option, Some, None}
use Rattle.std.proofs.lemmas.List.{drop_all}
use Rattle.blob_digest.specs.Digest.{DigestValue}
use Rattle.messages.specs.declared.node.Node.TheVariants.{File, Link, Dir}
use Rattle.messages.specs.Node.{child}
use Rattle.std.specs.List.{AllByRecursion}
use Rattle.plan.specs.Values.{OriginValue, source, output, LineValue, IsLine}
use Rattle.tree.specs.Tree.{Name}
use Rattle.tree.specs.Form.{NodeValue}
use Rattle.tree.specs.Merging.{NodeWithin, MergeLines}
use Rattle.blob_source.specs.Source.{Blobs, Grows}
use Rattle.blob_source.specs.Told.{TellsDirectory, FailsDirectory}
use Rattle.tree.specs.Lookup.{found, LooksFrom}
use Rattle.tree.proofs.Descent.{told_still}
use Rattle.verifier.specs.Together.{Earlier, IsThere, AreThere, LooksUpOrigin, StandsAtOrigin, Resolves, LinesFault, LineFault, FirstFault}

-- a node that was found is found from then on
found_from : (B C : Blobs) (p : List Name) (o : Option NodeValue) (x : NodeValue) → Grows B C → LooksFrom (TellsDirectory B) (FailsDirectory B) p o (found x) → LooksFrom (TellsDirectory C) (FailsDirectory C) p o (found x)
found_from B C p None x g h = h
found_from B C [] (Some y) x g h = h
found_from B C (n ∷ p) (Some (File d e)) x g h = h
found_from B C (n ∷ p) (Some (Link t)) x g h = h
found_from B C (n ∷ p) (Some (Dir d)) x g (inl h) = inl (h.0, told_still g h.1, found_from B C p (child n h.0) x g h.2)
found_from B C (n ∷ p) (Some (Dir d)) x g (inr h) = cc h.2

pub found_still : (B C : Blobs) (d : DigestValue) (os : Earlier) (o : OriginValue) (x : NodeValue) → Grows B C → LooksUpOrigin B d os o (found x) → LooksUpOrigin C d os o (found x)
found_still B C d os (source p) x g h = found_from B C p (Some (Dir d)) x g h
found_still B C d os (output step p) x g h = h

pub origin_still : (B C : Blobs) (d : DigestValue) (os : Earlier) (o : OriginValue) (x : NodeWithin) → Grows B C → StandsAtOrigin B d os o x → StandsAtOrigin C d os o x
origin_still B C d os o x g h = record { node = found_still B C d os o x.node g h.node; within = h.within }

-- whatever is told later, what the rest of the lines gives is what all lines give
pub record LinesGoOn (B : Blobs) (d : DigestValue) (os : Earlier) (ls : List LineValue) (xs : MergeLines) (rest : List LineValue) : Type 0 where
  pub resolves : (later : Blobs) → Grows B later → (ys : MergeLines) → Resolves later d os rest ys → Resolves later d os ls (xs ++ ys)
  pub faults : (later : Blobs) → Grows B later → (c : LinesFault) → FirstFault later d os rest c → FirstFault later d os ls c

pub lines_first : (B : Blobs) (d : DigestValue) (os : Earlier) (ls : List LineValue) → LinesGoOn B d os ls [] ls
lines_first B d os ls = record { resolves = λ later g ys h. h; faults = λ later g c h. h }

pub lines_next : (B C : Blobs) (d : DigestValue) (os : Earlier) (ls : List LineValue) (xs : MergeLines) (i : ℕ) (l : LineValue) (x : NodeWithin) → i < length ls → l ≡ get_or ls i l
    → LinesGoOn B d os ls xs (drop i ls) → Grows B C → StandsAtOrigin C d os l.origin x → LinesGoOn C d os ls (xs ++ (l.target, x) ∷ []) (drop (i + 1) ls)
lines_next B C d os ls xs i l x lt is goes grows look =
    let split : drop i ls ≡ l ∷ drop (i + 1) ls = rw (add-one, drop-cons ls i l lt) (ap (λ k. k ∷ drop (suc i) ls) (sym is)) in
    let still : (later : Blobs) → Grows C later → StandsAtOrigin later d os l.origin x = λ later g. origin_still C later d os l.origin x g look in
    let both : (later : Blobs) → Grows C later → Grows B later = λ later g e b q. g e b (grows e b q) in
    record {
      resolves = λ later g ys h. rw append_assoc (goes.resolves later (both later g) ((l.target, x) ∷ ys) (subst (λ q. Resolves later d os q ((l.target, x) ∷ ys)) (sym split) (x, still later g, ys, h, refl)));
      faults = λ later g c h. goes.faults later (both later g) c (subst (λ q. FirstFault later d os q c) (sym split) (inr (x.node, (still later g).node, h)));
    }

pub lines_end : (B : Blobs) (d : DigestValue) (os : Earlier) (ls : List LineValue) (xs : MergeLines) (i : ℕ) → length ls ≤ i → LinesGoOn B d os ls xs (drop i ls) → Resolves B d os ls xs
lines_end B d os ls xs i le goes =
    let none = drop_all i ls le in
    let all = goes.resolves B (λ e b h. h) [] (subst (λ q. Resolves B d os q []) (sym none) refl) in
    subst (Resolves B d os ls) (none_more xs) all
  where
    none_more : (ys : MergeLines) → ys ++ [] ≡ ys
    none_more [] = refl
    none_more (y ∷ ys) = ap (λ q. y ∷ q) (none_more ys)

pub lines_fault : (B C : Blobs) (d : DigestValue) (os : Earlier) (ls : List LineValue) (xs : MergeLines) (i : ℕ) (l : LineValue) (c : LinesFault) → i < length ls → l ≡ get_or ls i l
    → LinesGoOn B d os ls xs (drop i ls) → Grows B C → LineFault C d os l c → FirstFault C d os ls c
lines_fault B C d os ls xs i l c lt is goes grows h =
    let split : drop i ls ≡ l ∷ drop (i + 1) ls = rw (add-one, drop-cons ls i l lt) (ap (λ k. k ∷ drop (suc i) ls) (sym is)) in
    goes.faults C grows c (subst (λ q. FirstFault C d os q c) (sym split) (inl h))

pub valid_line : (before : ℕ) (ls : List LineValue) (i : ℕ) (l : LineValue) → i < length ls → l ≡ get_or ls i l → AllByRecursion (IsLine before) ls → IsLine before l
valid_line before [] i l lt is h = absurd (omega arith)
valid_line before (k ∷ ls) zero l lt is h = subst (IsLine before) (sym is) h.0
valid_line before (k ∷ ls) (suc i) l lt is h = valid_line before ls i l (omega arith) is h.1

pub there_at : (os : Earlier) (ls : List LineValue) (i : ℕ) (l : LineValue) → i < length ls → l ≡ get_or ls i l → AreThere os ls → IsThere os l.origin
there_at os [] i l lt is h = absurd (omega arith)
there_at os (k ∷ ls) zero l lt is h = subst (λ (l : LineValue). IsThere os l.origin) (sym is) h.0
there_at os (k ∷ ls) (suc i) l lt is h = there_at os ls i l (omega arith) is h.1
