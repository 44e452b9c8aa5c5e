-- A fault of a look-up stands under the digest that it names.
use Rattle.std.proofs.Common.{◌≡◌, List, [], ◌∷◌, Option, Some, None, refl, sym, subst, inl, inr}
use Rattle.messages.specs.declared.node.Node.TheVariants.{File, Link, Dir}
use Rattle.messages.specs.DirectoryRules.{IsDirectory}
use Rattle.messages.specs.Directory.{directory_bytes}
use Rattle.messages.specs.Tree.{TreeValue}
use Rattle.blob_digest.specs.Digest.{DigestValue}
use Rattle.actions.specs.declared.outcome.Output.TheVariants as outputs
use Rattle.actions.specs.Outcome.{OutputValue, OutcomeValue}
use Rattle.actions.specs.OutcomeLookup.{IsFirstChild, NoFault, LooksBelow, LooksIn}
use Rattle.plan.specs.Values.{OriginValue, source, output, LineValue}
use Rattle.tree.specs.Tree.{Name}
use Rattle.tree.specs.Form.{NodeValue}
use Rattle.blob_source.specs.Source.{Blobs, IsMissing, IsWrong}
use Rattle.blob_source.specs.Told.{Fault, missing, wrong, malformed, IsMalformed, TellsDirectory, FailsDirectory}
use Rattle.tree.specs.Lookup.{Looked, fault, nothing, found, LooksFrom}
use Rattle.tree.specs.Merging.{MergeFault, conflict, unreadable, merged}
use Rattle.tree.proofs.MergeFaults.{unread_in_merge}
use Rattle.tree.specs.Stage.{◌and_then◌}
use Rattle.verifier.specs.Together.{LooksUpOrigin, not_read, of_merge, IsFaultOfLook, FirstFault}
use Rattle.runs.specs.Engine.{EngineValue}
use Rattle.runs.specs.Looking.{outcomes_in, together_in}

from_sources : (B : Blobs) (p : List Name) (o : Option NodeValue) (f : Fault) → LooksFrom (TellsDirectory B) (FailsDirectory B) p o (fault f) → (d : DigestValue) × FailsDirectory B d f
from_sources B p None f h = cc
from_sources B [] (Some x) f h = cc
from_sources B (n ∷ p) (Some (File d executable)) f h = cc
from_sources B (n ∷ p) (Some (Link target)) f h = cc
from_sources B (n ∷ p) (Some (Dir d)) f (inl h) = from_sources B p _ f h.2
from_sources B (n ∷ p) (Some (Dir d)) f (inr h) = let is : fault f ≡ fault h.0 = h.2 in let same : h.0 ≡ f = cc in (d, subst (FailsDirectory B d) same h.1)

none_in_tree : (t : TreeValue) (p : List Name) (o : Option NodeValue) (f : Fault) → LooksFrom (IsFirstChild t) NoFault p o (fault f) → ⊥
none_in_tree t p None f h = cc
none_in_tree t [] (Some x) f h = cc
none_in_tree t (n ∷ p) (Some (File d executable)) f h = cc
none_in_tree t (n ∷ p) (Some (Link target)) f h = cc
none_in_tree t (n ∷ p) (Some (Dir d)) f (inl h) = none_in_tree t p _ f h.2
none_in_tree t (n ∷ p) (Some (Dir d)) f (inr h) = h.1

none_below : (x : OutputValue) (q : List Name) (f : Fault) → LooksBelow x q (fault f) → ⊥
none_below (outputs.File d executable) [] f h = cc
none_below (outputs.File d executable) (n ∷ q) f h = cc
none_below (outputs.Link target) [] f h = cc
none_below (outputs.Link target) (n ∷ q) f h = cc
none_below (outputs.Tree t) [] f h = cc
none_below (outputs.Tree t) (n ∷ q) f h = none_in_tree t q _ f h

none_in : (v : OutcomeValue) (p : List Name) (f : Fault) → LooksIn v p (fault f) → ⊥
none_in v p f (inl h) = none_below h.0.1 h.2 f h.4
none_in v p f (inr h) = let is : fault f ≡ nothing = h.1 in cc

at_origin : (B : Blobs) (e : EngineValue) (o : OriginValue) (f : Fault) → LooksUpOrigin B e.sources (outcomes_in e.finished) o (fault f) → (d : DigestValue) × FailsDirectory B d f
at_origin B e (source p) f h = from_sources B p (Some (Dir e.sources)) f h
at_origin B e (output j p) f h = absurd (none_in h.0 p f h.2)

abbrev digest_in : Fault → DigestValue
digest_in (missing d) = d
digest_in (wrong d) = d
digest_in (malformed d) = d

module _ (B : Blobs) (e : EngineValue) where
  named : (f : Fault) → ((d : DigestValue) × FailsDirectory B d f) → FailsDirectory B (digest_in f) f
  named (missing d) h = (refl, subst (IsMissing B) (sym h.1.0) h.1.1)
  named (wrong d) h = (refl, subst (IsWrong B) (sym h.1.0) h.1.1)
  named (malformed d) h = (refl, subst (IsMalformed IsDirectory directory_bytes B) (sym h.1.0) h.1.1)

  at_line : (o : OriginValue) (r : Looked) (f : Fault) → LooksUpOrigin B e.sources (outcomes_in e.finished) o r → IsFaultOfLook o r (not_read f) → (d : DigestValue) × FailsDirectory B d f
  at_line o (fault g) f look is = let same : g ≡ f = cc in subst (λ f. (d : DigestValue) × FailsDirectory B d f) same (at_origin B e o g look)
  at_line o nothing f look is = absurd cc
  at_line o (found x) f look is = elim is [ ]

  first_stands : (ls : List LineValue) (f : Fault) → FirstFault B e.sources (outcomes_in e.finished) ls (not_read f) → (d : DigestValue) × FailsDirectory B d f
  first_stands [] f h = elim h [ ]
  first_stands (l ∷ ls) f (inl h) = at_line l.origin h.0 f h.1 h.2
  first_stands (l ∷ ls) f (inr h) = first_stands ls f h.2

  pub unread_stands : (ls : List LineValue) (f : Fault) → (together_in B e ls).fails (not_read f) → FailsDirectory B (digest_in f) f
  unfolding ◌and_then◌
  unread_stands ls f (inl h) = named f (first_stands ls f h)
  unread_stands ls f (inr (xs, origins, (why, fails, is))) = by why fails is
    where
      by : (why : MergeFault) → (merged B xs).fails why → not_read f ≡ of_merge why → FailsDirectory B (digest_in f) f
      by (conflict p) fails is = absurd cc
      by (unreadable g) fails is = let same : g ≡ f = cc in named f (subst (λ f. (d : DigestValue) × FailsDirectory B d f) same (unread_in_merge B xs g fails))
