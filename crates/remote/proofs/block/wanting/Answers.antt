use Rattle.std.proofs.Common.{◌≡◌, ℕ, ◌-◌, Bool, true, false, List, [], ◌∷◌, ◌++◌, length, take, refl, arith, rules}
use Rattle.std.proofs.lemmas.Bool.Decides.{Decides-eqb}
use Rattle.std.proofs.lemmas.Slice.Eq.{ends_is}
use Rattle.http_core.specs.Block.{empty_line}
use Rattle.remote.proofs.Endings.{IsNoTail, wants_one, wants_two, wants_three, wants_four, ends_with_more}
use Rattle.remote.proofs.block.wanting.Goals as goal

not_both : (r : Bool) → r ≡ false → r ≡ true → ⊥
not_both r f t = cc

-- a test that failed
no_tail : {X : Type 0} (bytes tail : List ℕ) (r : Bool) → r ≡ false → X × ((front : List ℕ) → bytes ≡ front ++ tail → r ≡ true) → IsNoTail bytes tail
no_tail bytes tail r f h front e = not_both r f (h.1 front e)

pub returns-then-ends_with : goal.returns-then-ends_with
returns-then-ends_with c =
    let bytes = c.args.block.now in
    record {
      fewest = λ more _. omega arith;
      more = [];
      ends = ends_with_more bytes (take (length bytes - 4) bytes) empty_line [] ((ends_is Decides-eqb bytes empty_line c.ends_with.result c.ends_with.ensures.value).0 (search (rules, c.if-ends_with.true))) refl;
      many = refl;
    }

pub returns-then-ends_with-2 : goal.returns-then-ends_with-2
returns-then-ends_with-2 c =
    let bytes = c.args.block.now in
    let all : IsNoTail bytes empty_line = no_tail bytes empty_line c.ends_with.result c.if-ends_with.false (ends_is Decides-eqb bytes empty_line c.ends_with.result c.ends_with.ensures.value) in
    record {
      fewest = λ more. wants_one bytes more all;
      more = (10 ∷ []);
      ends = ends_with_more bytes (take (length bytes - 3) bytes) (13 ∷ 10 ∷ 13 ∷ []) (10 ∷ []) ((ends_is Decides-eqb bytes (13 ∷ 10 ∷ 13 ∷ []) c.ends_with-else-ends_with.result c.ends_with-else-ends_with.ensures.value).0 (search (rules, c.if-ends_with-2.true))) refl;
      many = refl;
    }

pub returns-then-ends_with-3 : goal.returns-then-ends_with-3
returns-then-ends_with-3 c =
    let bytes = c.args.block.now in
    let all : IsNoTail bytes empty_line = no_tail bytes empty_line c.ends_with.result c.if-ends_with.false (ends_is Decides-eqb bytes empty_line c.ends_with.result c.ends_with.ensures.value) in
    let three : IsNoTail bytes (13 ∷ 10 ∷ 13 ∷ []) = no_tail bytes (13 ∷ 10 ∷ 13 ∷ []) c.ends_with-else-ends_with.result c.if-ends_with-2.false (ends_is Decides-eqb bytes (13 ∷ 10 ∷ 13 ∷ []) c.ends_with-else-ends_with.result c.ends_with-else-ends_with.ensures.value) in
    record {
      fewest = λ more. wants_two bytes more all three;
      more = (13 ∷ 10 ∷ []);
      ends = ends_with_more bytes (take (length bytes - 2) bytes) (13 ∷ 10 ∷ []) (13 ∷ 10 ∷ []) ((ends_is Decides-eqb bytes (13 ∷ 10 ∷ []) c.ends_with-else-ends_with-2.result c.ends_with-else-ends_with-2.ensures.value).0 (search (rules, c.if-ends_with-3.true))) refl;
      many = refl;
    }

pub returns-then-ends_with-4 : goal.returns-then-ends_with-4
returns-then-ends_with-4 c =
    let bytes = c.args.block.now in
    let all : IsNoTail bytes empty_line = no_tail bytes empty_line c.ends_with.result c.if-ends_with.false (ends_is Decides-eqb bytes empty_line c.ends_with.result c.ends_with.ensures.value) in
    let three : IsNoTail bytes (13 ∷ 10 ∷ 13 ∷ []) = no_tail bytes (13 ∷ 10 ∷ 13 ∷ []) c.ends_with-else-ends_with.result c.if-ends_with-2.false (ends_is Decides-eqb bytes (13 ∷ 10 ∷ 13 ∷ []) c.ends_with-else-ends_with.result c.ends_with-else-ends_with.ensures.value) in
    let two : IsNoTail bytes (13 ∷ 10 ∷ []) = no_tail bytes (13 ∷ 10 ∷ []) c.ends_with-else-ends_with-2.result c.if-ends_with-3.false (ends_is Decides-eqb bytes (13 ∷ 10 ∷ []) c.ends_with-else-ends_with-2.result c.ends_with-else-ends_with-2.ensures.value) in
    record {
      fewest = λ more. wants_three bytes more all three two;
      more = (10 ∷ 13 ∷ 10 ∷ []);
      ends = ends_with_more bytes (take (length bytes - 1) bytes) (13 ∷ []) (10 ∷ 13 ∷ 10 ∷ []) ((ends_is Decides-eqb bytes (13 ∷ []) c.ends_with-else-ends_with-3.result c.ends_with-else-ends_with-3.ensures.value).0 (search (rules, c.if-ends_with-4.true))) refl;
      many = refl;
    }

pub returns-else-ends_with-4 : goal.returns-else-ends_with-4
returns-else-ends_with-4 c =
    let bytes = c.args.block.now in
    let all : IsNoTail bytes empty_line = no_tail bytes empty_line c.ends_with.result c.if-ends_with.false (ends_is Decides-eqb bytes empty_line c.ends_with.result c.ends_with.ensures.value) in
    let three : IsNoTail bytes (13 ∷ 10 ∷ 13 ∷ []) = no_tail bytes (13 ∷ 10 ∷ 13 ∷ []) c.ends_with-else-ends_with.result c.if-ends_with-2.false (ends_is Decides-eqb bytes (13 ∷ 10 ∷ 13 ∷ []) c.ends_with-else-ends_with.result c.ends_with-else-ends_with.ensures.value) in
    let two : IsNoTail bytes (13 ∷ 10 ∷ []) = no_tail bytes (13 ∷ 10 ∷ []) c.ends_with-else-ends_with-2.result c.if-ends_with-3.false (ends_is Decides-eqb bytes (13 ∷ 10 ∷ []) c.ends_with-else-ends_with-2.result c.ends_with-else-ends_with-2.ensures.value) in
    let one : IsNoTail bytes (13 ∷ []) = no_tail bytes (13 ∷ []) c.ends_with-else-ends_with-3.result c.if-ends_with-4.false (ends_is Decides-eqb bytes (13 ∷ []) c.ends_with-else-ends_with-3.result c.ends_with-else-ends_with-3.ensures.value) in
    record {
      fewest = λ more. wants_four bytes more all three two one;
      more = (13 ∷ 10 ∷ 13 ∷ 10 ∷ []);
      ends = (bytes, refl);
      many = refl;
    }
