-- Each ask keeps pinned results, and what they refer to.
use Rattle.std.proofs.Common.{◌≡◌, ℕ, Bool, true, false, cond, not, ◌&&◌, ◌||◌, List, [], ◌∷◌, ◌++◌, bytes_eq, Option, Some, None, is_some, is_none, refl, ap, sym, ◌∙◌, subst}
use Rattle.std.specs.List.{filter, list_any, AllByRecursion, IsDistinct}
use Rattle.std.specs.Map.{keys_of}
use Rattle.std.specs.Cmp.Lexicographic.{nat_list_eq_equiv}
use Rattle.std.proofs.lemmas.Slice.Eq.{bytes_eq-Decides}
use Rattle.std.proofs.lemmas.Map.{NonePasses}
use Rattle.std.proofs.lemmas.Map.Keys.{IsDistinct-head, IsDistinct-tail, IsDistinct-cons}
use Rattle.std.proofs.lemmas.Map.Entries.{none_past_head, lookup-filter-keys}
use Rattle.eviction.specs.Kept.{total}
use Rattle.eviction.specs.Entering.{spared_last}
use Rattle.eviction.proofs.Distinct.{filter_distinct}
use Rattle.eviction.proofs.Looks.{option_or, lookup-append}
use Rattle.blob_store.proofs.BlobLemmas.{all_filter, all_both}
use Rattle.action_cache.specs.References.{Reader, names_hash, refers, is_complete, references, outputs_of, first_fault}
use Rattle.action_cache.specs.Machine.{Marked, under, others_than, fronted}
use Rattle.action_cache.proofs.Agreeing.{agrees, same_first_fault, same_references}
use Rattle.action_cache.proofs.Pinning.{complete_held}
use Rattle.action_cache.proofs.Thinning.{total-append, total_parts, thins_last, thins_distinct, thins_keys}

-- ---- tests

pub or_left : (a b : Bool) → a ≡ true → (a || b) ≡ true
or_left true b h = refl
or_left false b h = absurd cc

pub or_right : (a b : Bool) → b ≡ true → (a || b) ≡ true
or_right true b h = refl
or_right false b h = h

pub or_cases : {P : Type 0} (a b : Bool) → (a ≡ true → P) → (b ≡ true → P) → (a || b) ≡ true → P
or_cases true b f g h = f refl
or_cases false b f g h = g h

pub both_true : (a b : Bool) → (a && b) ≡ true → (a ≡ true) × (b ≡ true)
both_true true b h = (refl, h)
both_true false b h = absurd cc

pub and_true : (a b : Bool) → a ≡ true → b ≡ true → (a && b) ≡ true
and_true true b h k = k
and_true false b h k = absurd cc

no_value : {X : Type 0} (o : Option X) → is_none o ≡ true → o ≡ None
no_value None e = refl
no_value (Some x) e = absurd cc

-- ---- look-ups

module _ {X : Type 0} where
  pub under_fronted : (q h : List ℕ) (es : List (List ℕ × X)) → under q (fronted h es) ≡ under q es
  under_fronted q h es =
      lookup-append (bytes_eq q) (filter (λ e. bytes_eq h e.0) es) (filter (λ e. not (bytes_eq h e.0)) es)
      ∙ (λ i. option_or (lookup-filter-keys (bytes_eq q) (bytes_eq h) (bytes_eq h q) alike es i) (lookup-filter-keys (bytes_eq q) (λ j. not (bytes_eq h j)) (not (bytes_eq h q)) (λ j t. ap not (alike j t)) es i))
      ∙ by_case (bytes_eq h q) (under q es)
    where
      alike : (j : List ℕ) → bytes_eq q j ≡ true → bytes_eq h j ≡ bytes_eq h q
      alike j t = nat_list_eq_equiv.symm h j ∙ sym (nat_list_eq_equiv.congr q j h t) ∙ nat_list_eq_equiv.symm q h

      by_case : (b : Bool) (o : Option X) → option_or (cond b o None) (cond (not b) o None) ≡ o
      by_case true None = refl
      by_case true (Some h) = refl
      by_case false o = refl

  pub under_others : (q h : List ℕ) (es : List (List ℕ × X)) → bytes_eq q h ≡ false → under q (others_than h es) ≡ under q es
  under_others q h es off = lookup-filter-keys (bytes_eq q) (λ j. not (bytes_eq h j)) true (λ j u. ap not (nat_list_eq_equiv.symm h j ∙ sym (nat_list_eq_equiv.congr q j h u) ∙ off)) es

  pub all_under : (P : X → Type 0) (h : List ℕ) (x : X) (es : List (List ℕ × X)) → AllByRecursion (λ e. P e.1) es → under h es ≡ Some x → P x
  all_under P h x [] a e = absurd cc
  all_under P h x (f ∷ es) a e = (elim (bytes_eq h f.0) as (λ b. cond b (Some f.1) (under h es) ≡ Some x → P x) [
    | true ↦ λ k. let same : f.1 ≡ x = cc in subst P same a.0
    | false ↦ λ k. all_under P h x es a.1 k
  ]) e

  apart : (h : List ℕ) (es : List (List ℕ × X)) → AllByRecursion (λ y. bytes_eq h y ≡ false) (keys_of (others_than h es))
  apart h [] = tt
  apart h (e ∷ es) = (elim (bytes_eq h e.0) as (λ b. bytes_eq h e.0 ≡ b → AllByRecursion (λ y. bytes_eq h y ≡ false) (keys_of (cond (not b) (e ∷ others_than h es) (others_than h es)))) [
    | true ↦ λ t. apart h es
    | false ↦ λ t. (t, apart h es)
  ]) refl

  -- under distinct keys each entry is what is found under its key
  pub each_under : (h : List ℕ) (x : X) (es : List (List ℕ × X)) → IsDistinct bytes_eq (keys_of es) → under h es ≡ Some x → AllByRecursion (λ e. bytes_eq h e.0 ≡ true → e.1 ≡ x) es
  each_under h x [] d e = tt
  each_under h x (f ∷ es) d e = (elim (bytes_eq h f.0) as (λ b. bytes_eq h f.0 ≡ b → cond b (Some f.1) (under h es) ≡ Some x → AllByRecursion (λ e. bytes_eq h e.0 ≡ true → e.1 ≡ x) (f ∷ es)) [
    | true ↦ λ t k. let same : f.1 ≡ x = cc in (λ _. same, none es (none_past_head nat_list_eq_equiv h f es d t))
    | false ↦ λ t k. (λ u. absurd (clash u t), each_under h x es (IsDistinct-tail bytes_eq f.0 (keys_of es) d) k)
  ]) refl e
    where
      clash : {b : Bool} → b ≡ true → b ≡ false → ⊥
      clash t f = let e : true ≡ false = sym t ∙ f in cc

      none : (es : List (List ℕ × X)) → NonePasses (bytes_eq h) es → AllByRecursion (λ e. bytes_eq h e.0 ≡ true → e.1 ≡ x) es
      none [] n = tt
      none (g ∷ es) n = (λ u. absurd (clash u n.0), none es n.1)

  pub fronted_distinct : (h : List ℕ) (es : List (List ℕ × X)) → IsDistinct bytes_eq (keys_of es) → IsDistinct bytes_eq (keys_of (fronted h es))
  fronted_distinct h es d = joined (filter (λ e. bytes_eq h e.0) es) (all_here es) (filter_distinct bytes_eq (λ e. bytes_eq h e.0) es d)
    where
      all_here : (es : List (List ℕ × X)) → AllByRecursion (λ e. bytes_eq h e.0 ≡ true) (filter (λ e. bytes_eq h e.0) es)
      all_here [] = tt
      all_here (e ∷ es) = (elim (bytes_eq h e.0) as (λ b. bytes_eq h e.0 ≡ b → AllByRecursion (λ f. bytes_eq h f.0 ≡ true) (cond b (e ∷ filter (λ f. bytes_eq h f.0) es) (filter (λ f. bytes_eq h f.0) es))) [
        | true ↦ λ t. (t, all_here es)
        | false ↦ λ t. all_here es
      ]) refl

      keys_both : (P : List ℕ → Type 0) (xs ys : List (List ℕ × X)) → AllByRecursion P (keys_of xs) → AllByRecursion P (keys_of ys) → AllByRecursion P (keys_of (xs ++ ys))
      keys_both P [] ys a b = b
      keys_both P (x ∷ xs) ys a b = (a.0, keys_both P xs ys a.1 b)

      from_here : (k : List ℕ) → bytes_eq h k ≡ true → AllByRecursion (λ y. bytes_eq k y ≡ false) (keys_of (others_than h es))
      from_here k t = subst (λ j. AllByRecursion (λ y. bytes_eq j y ≡ false) (keys_of (others_than h es))) ((bytes_eq-Decides h k).0 t) (apart h es)

      joined : (xs : List (List ℕ × X)) → AllByRecursion (λ e. bytes_eq h e.0 ≡ true) xs → IsDistinct bytes_eq (keys_of xs) → IsDistinct bytes_eq (keys_of (xs ++ others_than h es))
      joined [] a k = filter_distinct bytes_eq (λ e. not (bytes_eq h e.0)) es d
      joined (x ∷ xs) a k =
          IsDistinct-cons bytes_eq x.0 (keys_of (xs ++ others_than h es))
          (keys_both (λ y. bytes_eq x.0 y ≡ false) xs (others_than h es) (IsDistinct-head bytes_eq x.0 (keys_of xs) k) (from_here x.0 a.0))
          (joined xs a.1 (IsDistinct-tail bytes_eq x.0 (keys_of xs) k))

  pub fronted_all : (P : List ℕ × X → Type 0) (h : List ℕ) (es : List (List ℕ × X)) → AllByRecursion P es → AllByRecursion P (fronted h es)
  fronted_all P h es a = all_both P (filter (λ e. bytes_eq h e.0) es) (others_than h es) (all_filter P (λ e. bytes_eq h e.0) es a) (all_filter P (λ e. not (bytes_eq h e.0)) es a)

  pub fronted_total : (cost : List ℕ × X → ℕ) (h : List ℕ) (es : List (List ℕ × X)) → total cost (fronted h es) ≡ total cost es
  fronted_total cost h es = total-append cost (filter (λ e. bytes_eq h e.0) es) (others_than h es) ∙ total_parts cost (λ e. bytes_eq h e.0) es

  -- a new entry, and what it leaves of the others
  pub entered_distinct : (pinned : List ℕ × X → Bool) (most : ℕ) (h : List ℕ) (x : X) (es : List (List ℕ × X)) → IsDistinct bytes_eq (keys_of es) → IsDistinct bytes_eq (keys_of ((h, x) ∷ spared_last pinned most (others_than h es)))
  entered_distinct pinned most h x es d =
      let thin = thins_last pinned most (others_than h es) in
      let rest = spared_last pinned most (others_than h es) in
      IsDistinct-cons bytes_eq h (keys_of rest) (thins_keys pinned (λ y. bytes_eq h y ≡ false) (others_than h es) rest thin (apart h es))
      (thins_distinct pinned (others_than h es) rest thin (filter_distinct bytes_eq (λ e. not (bytes_eq h e.0)) es d))

-- ---- what a result refers to, by two stores

-- a pinned result refers to a blob with this hash
abbrev pub is_wanted : Reader → (List ℕ → Option (List ℕ)) → List (List ℕ × Marked) → List ℕ → Bool
is_wanted reader f rs b = list_any (λ r. r.1.pinned && refers f reader r.1.bytes b) rs

-- pinned results are complete
abbrev pub ArePinnedWhole : Reader → (List ℕ → Option (List ℕ)) → List (List ℕ × Marked) → Type 0
ArePinnedWhole reader f rs = AllByRecursion (λ r. r.1.pinned ≡ true → is_complete f reader r.1.bytes ≡ true) rs

module _ (reader : Reader) (f g : List ℕ → Option (List ℕ)) where
  module _ (bytes : List ℕ) (on : (b : List ℕ) → refers f reader bytes b ≡ true → g b ≡ f b) where
    pub same_complete : is_complete g reader bytes ≡ is_complete f reader bytes
    same_complete = λ i. is_some (reader.outputs bytes) && is_none (same_first_fault f g reader (outputs_of reader bytes) (agrees f g (references f reader (outputs_of reader bytes)) on) i)

    pub same_refers_to : (b : List ℕ) → refers g reader bytes b ≡ refers f reader bytes b
    same_refers_to b = ap (list_any (names_hash b)) (same_references f g reader (outputs_of reader bytes) (agrees f g (references f reader (outputs_of reader bytes)) on))

  -- blobs that pinned results want stay: so the results stay whole
  pub still_whole : (rs : List (List ℕ × Marked)) → ((b : List ℕ) → is_wanted reader f rs b ≡ true → g b ≡ f b) → ArePinnedWhole reader f rs → ArePinnedWhole reader g rs
  still_whole [] on a = tt
  still_whole (r ∷ rs) on a = (
    λ p. same_complete r.1.bytes (λ b t. on b (or_left (r.1.pinned && refers f reader r.1.bytes b) (is_wanted reader f rs b) (and_true r.1.pinned (refers f reader r.1.bytes b) p t))) ∙ a.0 p,
    still_whole rs (λ b t. on b (or_right (r.1.pinned && refers f reader r.1.bytes b) (is_wanted reader f rs b) t)) a.1,
  )

module _ (reader : Reader) (f : List ℕ → Option (List ℕ)) where
  pub wanted_under : (h : List ℕ) (r : Marked) (b : List ℕ) (rs : List (List ℕ × Marked)) → under h rs ≡ Some r → r.pinned ≡ true → refers f reader r.bytes b ≡ true → is_wanted reader f rs b ≡ true
  wanted_under h r b [] e p t = absurd cc
  wanted_under h r b (x ∷ rs) e p t = (elim (bytes_eq h x.0) as (λ y. cond y (Some x.1) (under h rs) ≡ Some r → is_wanted reader f (x ∷ rs) b ≡ true) [
    | true ↦ λ k.
        let same : x.1 ≡ r = cc in
        or_left (x.1.pinned && refers f reader x.1.bytes b) (is_wanted reader f rs b) (subst (λ (m : Marked). (m.pinned && refers f reader m.bytes b) ≡ true) (sym same) (and_true r.pinned (refers f reader r.bytes b) p t))
    | false ↦ λ k. or_right (x.1.pinned && refers f reader x.1.bytes b) (is_wanted reader f rs b) (wanted_under h r b rs k p t)
  ]) e

  -- what a whole pinned result wants is held
  pub wanted_held : (b : List ℕ) (rs : List (List ℕ × Marked)) → ArePinnedWhole reader f rs → is_wanted reader f rs b ≡ true → is_some (f b) ≡ true
  wanted_held b [] a t = absurd cc
  wanted_held b (r ∷ rs) a t = or_cases (r.1.pinned && refers f reader r.1.bytes b) (is_wanted reader f rs b) (λ h.
      let parts = both_true r.1.pinned (refers f reader r.1.bytes b) h in
      let whole = both_true (is_some (reader.outputs r.1.bytes)) (is_none (first_fault f reader (outputs_of reader r.1.bytes))) (a.0 parts.0) in
      complete_held f b reader (outputs_of reader r.1.bytes) (no_value (first_fault f reader (outputs_of reader r.1.bytes)) whole.1) parts.1) (wanted_held b rs a.1) t
