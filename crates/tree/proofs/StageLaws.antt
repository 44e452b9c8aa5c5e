-- What holds of checks one after another, by what holds of each: one answer, always one, and none taken back when a source
-- tells more.
use Rattle.std.proofs.Common.{◌≡◌, sym, ◌∙◌, subst, inl, inr, refl}
use Rattle.blob_source.specs.Source.{Blobs, Grows}
use Rattle.tree.specs.Memo.{Asked}
use Rattle.tree.specs.Stage.{Stage, ◌and_then◌, demands, comes_to}
use Rattle.tree.specs.MergeLooks.{looks}

-- ---- one answer

pub record IsOnce {E V : Type 0} (stage : Stage E V) : Type 0 where
  pub value : (v w : V) → stage.passes v → stage.passes w → v ≡ w
  pub why : (c e : E) → stage.fails c → stage.fails e → c ≡ e
  pub either : (v : V) (e : E) → stage.passes v → stage.fails e → ⊥

module _ {E V W : Type 0} (first : Stage E V) (next : V → Stage E W) (h : IsOnce first) (k : (v : V) → first.passes v → IsOnce (next v)) where
  then_why : (c e : E) → (first and_then next).fails c → (first and_then next).fails e → c ≡ e
  unfolding ◌and_then◌
  then_why c e (inl p) (inl q) = h.why c e p q
  then_why c e (inl p) (inr q) = absurd (h.either q.0 c q.1 p)
  then_why c e (inr p) (inl q) = absurd (h.either p.0 e p.1 q)
  then_why c e (inr p) (inr q) = (k q.0 q.1).why c e (subst (λ v. (next v).fails c) (h.value p.0 q.0 p.1 q.1) p.2) q.2

  then_either : (w : W) (c : E) → (first and_then next).passes w → (first and_then next).fails c → ⊥
  unfolding ◌and_then◌
  then_either w c p (inl q) = h.either p.0 c p.1 q
  then_either w c p (inr q) = (k q.0 q.1).either w c (subst (λ v. (next v).passes w) (h.value p.0 q.0 p.1 q.1) p.2) q.2

  pub once_then : IsOnce (first and_then next)
  unfolding ◌and_then◌
  once_then = record {
    value = λ w x p q. (k q.0 q.1).value w x (subst (λ v. (next v).passes w) (h.value p.0 q.0 p.1 q.1) p.2) q.2;
    why = then_why;
    either = then_either;
  }

pub once_demands : {E : Type 0} (P : Type 0) (why : E) → IsOnce (demands P why)
once_demands P why = record { value = λ v w p q. refl; why = λ c e p q. p.1 ∙ sym q.1; either = λ v c p q. q.0 p }

pub once_comes_to : {E V : Type 0} (value : V) → IsOnce (comes_to {E = E} value)
once_comes_to value = record { value = λ v w p q. p ∙ sym q; why = λ c e p q. absurd p; either = λ v c p q. q }

-- ---- always one: it can't be that there is none

pub record IsTotal {E V : Type 0} (stage : Stage E V) : Type 0 where
  pub ends : ((v : V) → stage.passes v → ⊥) → ((e : E) → stage.fails e → ⊥) → ⊥

pub total_then : {E V W : Type 0} (first : Stage E V) (next : V → Stage E W) → IsTotal first → ((v : V) → first.passes v → IsTotal (next v)) → IsTotal (first and_then next)
unfolding ◌and_then◌
total_then first next h k = record {
  ends = λ passes fails. h.ends
      (λ v p. (k v p).ends (λ w q. passes w (v, p, q)) (λ e q. fails e (inr (v, p, q))))
      (λ e q. fails e (inl q));
}

pub total_demands : {E : Type 0} (P : Type 0) (why : E) → IsTotal (demands P why)
total_demands P why = record { ends = λ passes fails. fails why ((λ p. passes tt p), refl) }

pub total_comes_to : {E V : Type 0} (value : V) → IsTotal (comes_to {E = E} value)
total_comes_to value = record { ends = λ passes fails. passes value refl }

-- ---- what passes still passes when more is told

pub record IsStable {E V : Type 0} (stage : Blobs → Stage E V) : Type 0 where
  pub still : (old new : Blobs) → Grows old new → (v : V) → (stage old).passes v → (stage new).passes v

pub stable_then : {E V W : Type 0} {first : Blobs → Stage E V} {next : Blobs → V → Stage E W} → IsStable first → ((v : V) → IsStable (λ B. next B v)) → IsStable (λ B. first B and_then next B)
unfolding ◌and_then◌
stable_then h k = record { still = λ old new g w p. (p.0, h.still old new g p.0 p.1, (k p.0).still old new g w p.2) }

pub stable_without : {E V : Type 0} {stage : Stage E V} → IsStable (λ _. stage)
stable_without = record { still = λ old new g v h. h }

-- ---- and what was looked at is looked at

pub record IsSteady (look : Blobs → Asked → Type 0) : Type 0 where
  pub still : (old new : Blobs) → Grows old new → (a : Asked) → look old a → look new a

pub steady_without : {look : Asked → Type 0} → IsSteady (λ _. look)
steady_without = record { still = λ old new g a h. h }

pub looks_here : {E V : Type 0} (check : Stage E V) (Here : Asked → Type 0) (next : V → Asked → Type 0) (a : Asked) → Here a → looks check Here next a
unfolding looks
looks_here check Here next a h = inl h

pub looks_next : {E V : Type 0} (check : Stage E V) (Here : Asked → Type 0) (next : V → Asked → Type 0) (a : Asked) (v : V) → check.passes v → next v a → looks check Here next a
unfolding looks
looks_next check Here next a v p h = inr (v, p, h)

pub steady_looks : {E V : Type 0} {first : Blobs → Stage E V} {here : Blobs → Asked → Type 0} {next : Blobs → V → Asked → Type 0} → IsStable first → IsSteady here → ((v : V) → IsSteady (λ B. next B v))
    → IsSteady (λ B. looks (first B) (here B) (next B))
unfolding looks
steady_looks {first = first} {here = here} {next = next} stable steady rest = record { still = by }
  where
    by : (old new : Blobs) → Grows old new → (a : Asked) → looks (first old) (here old) (next old) a → looks (first new) (here new) (next new) a
    by old new g a (inl h) = inl (steady.still old new g a h)
    by old new g a (inr h) = inr (h.0, stable.still old new g h.0 h.1, (rest h.0).still old new g a h.2)
