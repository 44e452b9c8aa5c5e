-- A graft doesn't depend on the order of its lines, and one of lines in the order of paths goes name by name.
use Rattle.std.proofs.Common.{◌≡◌, List, [], ◌∷◌, refl, ap, sym, ◌∙◌, subst, inl, inr}
use Rattle.std.specs.Prelude.{◌⊎◌, Option, Some, None}
use Rattle.tree.proofs.Apart.{Apart}
use Rattle.tree.specs.Tree.{Name, Tree, empty, Entry, single, whole, entry_of, IsOrdered}
use Rattle.tree.specs.Graft.{put}
use Rattle.tree.proofs.TreeLemmas.{one_or_two, entry-put, entry-put_other, put_entry, ordered-put}
use Rattle.tree.proofs.GraftLaws.{IsInOrder, in_order}
use Rattle.tree.proofs.SameTree.{same_tree}

-- leaves put at paths apart, in either order
pub put-put : {X : Type 0} (p q : List Name) (x y : X) (t : Tree X) → IsOrdered t → Apart p q → put p x (put q y t) ≡ put q y (put p x t)
put-put [] q x y t h a = elim a [ ]
put-put (n ∷ p) [] x y t h a = elim a [ ]
put-put {X} (n ∷ p) (m ∷ q) x y t h a =
    same_tree (put (n ∷ p) x (put (m ∷ q) y t)) (put (m ∷ q) y (put (n ∷ p) x t)) (ordered-put (n ∷ p) x (put (m ∷ q) y t) (ordered-put (m ∷ q) y t h)) (ordered-put (m ∷ q) y (put (n ∷ p) x t) (ordered-put (n ∷ p) x t h))
    (λ k. alike k (one_or_two n m) (one_or_two k n) (one_or_two k m) (λ u g b. put-put p q x y u g b))
  where
    here : (k : Name) (r : List Name) (z : X) (u : Tree X) → IsOrdered u → (j : Name) → k ≡ j → entry_of k (put (j ∷ r) z u) ≡ Some (put_entry r z (entry_of k u))
    here k r z u g j e = subst (λ i. entry_of k (put (i ∷ r) z u) ≡ Some (put_entry r z (entry_of k u))) e (entry-put k r z u g)

    both : (o : Option (Entry X)) → IsInOrder o → Apart p q → ((u : Tree X) → IsOrdered u → Apart p q → put p x (put q y u) ≡ put q y (put p x u)) → put_entry p x (Some (put_entry q y o)) ≡ put_entry q y (Some (put_entry p x o))
    both (Some (single z)) g b ih = refl
    both (Some (whole u)) g b ih = ap whole (ih u g b)
    both None g b ih = none p q b (ih empty tt)
      where
        none : (p q : List Name) → Apart p q → (Apart p q → put p x (put q y empty) ≡ put q y (put p x empty)) → put_entry p x (Some (put_entry q y None)) ≡ put_entry q y (Some (put_entry p x None))
        none [] q b ih = elim b [ ]
        none (i ∷ p) [] b ih = elim b [ ]
        none (i ∷ p) (j ∷ q) b ih = ap whole (ih b)

    alike : (k : Name) → (n ≡ m) ⊎ (n ≡ m → ⊥) → (k ≡ n) ⊎ (k ≡ n → ⊥) → (k ≡ m) ⊎ (k ≡ m → ⊥) → ((u : Tree X) → IsOrdered u → Apart p q → put p x (put q y u) ≡ put q y (put p x u))
        → entry_of k (put (n ∷ p) x (put (m ∷ q) y t)) ≡ entry_of k (put (m ∷ q) y (put (n ∷ p) x t))
    alike k nm (inl kn) (inl km) ih =
        here k p x (put (m ∷ q) y t) (ordered-put (m ∷ q) y t h) n kn ∙ ap (λ o. Some (put_entry p x o)) (here k q y t h m km)
        ∙ ap (λ e. Some e) (both (entry_of k t) (in_order k t h) (a (sym kn ∙ km)) ih)
        ∙ sym (here k q y (put (n ∷ p) x t) (ordered-put (n ∷ p) x t h) m km ∙ ap (λ o. Some (put_entry q y o)) (here k p x t h n kn))
    alike k nm (inl kn) (inr km) ih =
        here k p x (put (m ∷ q) y t) (ordered-put (m ∷ q) y t h) n kn ∙ ap (λ o. Some (put_entry p x o)) (entry-put_other k m q y t km)
        ∙ sym (entry-put_other k m q y (put (n ∷ p) x t) km ∙ here k p x t h n kn)
    alike k nm (inr kn) (inl km) ih =
        entry-put_other k n p x (put (m ∷ q) y t) kn ∙ here k q y t h m km
        ∙ sym (here k q y (put (n ∷ p) x t) (ordered-put (n ∷ p) x t h) m km ∙ ap (λ o. Some (put_entry q y o)) (entry-put_other k n p x t kn))
    alike k nm (inr kn) (inr km) ih =
        entry-put_other k n p x (put (m ∷ q) y t) kn ∙ entry-put_other k m q y t km
        ∙ sym (entry-put_other k m q y (put (n ∷ p) x t) km ∙ entry-put_other k n p x t kn)
