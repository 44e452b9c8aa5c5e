use Rattle.std.proofs.Common.{◌≡◌, ℕ, ◌+◌, ◌-◌, ◌/◌, ◌<◌, ◌∷◌, ◌++◌, [], length, take, drop, Less, Greater, Equal, sym, ap, subst, ◌∙◌, arith}
use Rattle.std.proofs.lemmas.List.{drop_more, take_more, take-append-drop}
use Rattle.messages.specs.Order.{bytes_cmp}
use Rattle.messages.specs.Path.{path_text}
use Rattle.action_messages.specs.Ascending.{IsAscendingBy}
use Rattle.action_messages.proofs.Searches.{texts_in, AllCompare, front_less, back_greater}
use Rattle.action_messages.proofs.Places.{stands_at, would_stand}
use Rattle.action_messages.proofs.listed.place_of.Goals as goal

pub loop-low-preserved-in-Less : goal.loop-low-preserved-in-Less
loop-low-preserved-in-Less g c =
    let f = g.L.Listed.path_in in
    let xs = c.args.items.now in
    let text = c.args.text.now in
    let middle : ℕ = c.loop-low.low + (c.loop-low.high - c.loop-low.low) / 2 in
    let x = c.index-items-middle.result in
    let inside : middle < length xs = omega (arith, c.loop-low-test.true, c.loop-low.invariant.within) in
    let split : drop middle xs ≡ x ∷ drop (middle + 1) xs = drop_more xs middle x inside ∙ ap (λ y. y ∷ drop (middle + 1) xs) (sym c.index-items-middle.is) in
    let whole : take middle xs ++ x ∷ drop (middle + 1) xs ≡ xs = ap (λ l. take middle xs ++ l) (sym split) ∙ take-append-drop middle xs in
    let up = subst (λ l. IsAscendingBy bytes_cmp (texts_in f l)) (sym whole) c.requires in
    let less : bytes_cmp (path_text (f x)) text ≡ Less = rw c.path_text.ensures.text at (sym c.cmp.ensures ∙ c.in-Less.is) in
    let front : take (middle + 1) xs ≡ take middle xs ++ x ∷ [] = take_more xs middle x inside ∙ ap (λ y. take middle xs ++ y ∷ []) (sym c.index-items-middle.is) in
    record {
      ordered = omega (arith, c.loop-low-test.true, c.loop-low.invariant.ordered);
      within = c.loop-low.invariant.within;
      before = subst (λ l. AllCompare Less text (texts_in f l)) (sym front) (front_less f text (take middle xs) x (drop (middle + 1) xs) up less);
      after = c.loop-low.invariant.after;
    }

pub loop-low-preserved : goal.loop-low-preserved
loop-low-preserved g c =
    let f = g.L.Listed.path_in in
    let xs = c.args.items.now in
    let text = c.args.text.now in
    let middle : ℕ = c.loop-low.low + (c.loop-low.high - c.loop-low.low) / 2 in
    let x = c.index-items-middle.result in
    let inside : middle < length xs = omega (arith, c.loop-low-test.true, c.loop-low.invariant.within) in
    let split : drop middle xs ≡ x ∷ drop (middle + 1) xs = drop_more xs middle x inside ∙ ap (λ y. y ∷ drop (middle + 1) xs) (sym c.index-items-middle.is) in
    let whole : take middle xs ++ x ∷ drop (middle + 1) xs ≡ xs = ap (λ l. take middle xs ++ l) (sym split) ∙ take-append-drop middle xs in
    let up = subst (λ l. IsAscendingBy bytes_cmp (texts_in f l)) (sym whole) c.requires in
    let more : bytes_cmp (path_text (f x)) text ≡ Greater = rw c.path_text.ensures.text at (sym c.cmp.ensures ∙ c.in-Greater.is) in
    record {
      ordered = omega (arith, c.loop-low-test.true, c.loop-low.invariant.ordered);
      within = omega (arith, c.loop-low-test.true, c.loop-low.invariant.within);
      before = c.loop-low.invariant.before;
      after = subst (λ l. AllCompare Greater text (texts_in f l)) (sym split) (back_greater f text (take middle xs) x (drop (middle + 1) xs) up more);
    }

pub returns-in-Equal : goal.returns-in-Equal
returns-in-Equal g c =
    let f = g.L.Listed.path_in in
    let xs = c.args.items.now in
    let middle : ℕ = c.loop-low.low + (c.loop-low.high - c.loop-low.low) / 2 in
    let inside : middle < length xs = omega (arith, c.loop-low-test.true, c.loop-low.invariant.within) in
    let same : bytes_cmp (path_text (f c.index-items-middle.result)) c.args.text.now ≡ Equal = rw c.path_text.ensures.text at (sym c.cmp.ensures ∙ c.in-Equal.is) in
    stands_at f c.args.text.now xs middle c.index-items-middle.result inside c.index-items-middle.is same

pub returns : goal.returns
returns g c =
    let f = g.L.Listed.path_in in
    let xs = c.args.items.now in
    let met : c.loop-low.high ≡ c.loop-low.low = omega (arith, c.loop-low-test.false, c.loop-low.invariant.ordered) in
    let after = subst (λ (n : ℕ). AllCompare Greater c.args.text.now (texts_in f (drop n xs))) met c.loop-low.invariant.after in
    would_stand f c.args.text.now xs c.loop-low.low (omega (arith, met, c.loop-low.invariant.within)) c.loop-low.invariant.before after
