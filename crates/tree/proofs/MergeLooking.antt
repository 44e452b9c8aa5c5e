-- What merging lines looks at, while the source tells more and more.
use Rattle.std.proofs.Common.{ℕ, zero, suc, List, [], ◌∷◌, ◌++◌}
use Rattle.std.specs.Prelude.{Option, Some, None}
use Rattle.blob_source.specs.Source.{Blobs, Grows}
use Rattle.tree.specs.Tree.{Name, Entry}
use Rattle.tree.specs.Form.{NodeValue}
use Rattle.tree.specs.Memo.{Asked}
use Rattle.tree.specs.Stage.{Stage}
use Rattle.tree.specs.Merging.{NodeWithin, MergeLines, MergeFault, grouped, counted, line_opened, lone, entry_merged, merged_in}
use Rattle.tree.specs.MergeLooks.{LineLooksAt, OpenedLooksAt, MetLooksAt, StandsOrLooksAt, EachLooksAt, MergeLooksIn}
use Rattle.tree.proofs.StageLaws.{IsStable, IsSteady, steady_without, steady_looks, looks_here, looks_next}
use Rattle.tree.proofs.MergeStages.{stable_line, stable_opened, stable_entry, stable_merged_in}

-- ---- what was looked at is looked at when more is told

pub steady_opened : (ls : MergeLines) → IsSteady (λ B. OpenedLooksAt B ls)
steady_opened [] = steady_without
steady_opened (l ∷ ls) = steady_looks (stable_line l.0 l.1) steady_without (λ _. steady_opened ls)

steady_stands : (o : Option NodeValue) (Others : Blobs → Asked → Type 0) → IsSteady Others → IsSteady (λ B a. StandsOrLooksAt o (Others B a))
steady_stands (Some x) Others h = steady_without
steady_stands None Others h = h

module _ (at : Blobs → Name → MergeLines → Stage MergeFault (Entry NodeValue)) (look : Blobs → Name → MergeLines → Asked → Type 0) where
  steady_each : (gs : List (Name × MergeLines)) → ((n : Name) (given : MergeLines) → IsStable (λ B. at B n given)) → ((n : Name) (given : MergeLines) → IsSteady (λ B. look B n given)) → IsSteady (λ B. EachLooksAt (at B) (look B) gs)
  steady_each [] h k = steady_without
  steady_each (g ∷ gs) h k = steady_looks (h g.0 g.1) (k g.0 g.1) (λ _. steady_each gs h k)

  -- whatever is told later, what the names that are left look at is looked at
  pub record LooksOn (B : Blobs) (rest all : List (Name × MergeLines)) : Type 0 where
    pub looks : (later : Blobs) → Grows B later → (a : Asked) → EachLooksAt (at later) (look later) rest a → EachLooksAt (at later) (look later) all a

  pub looks_first : (B : Blobs) (all : List (Name × MergeLines)) → LooksOn B all all
  looks_first B all = record { looks = λ later g a h. h }

  module _ {B C : Blobs} (n : Name) (given : MergeLines) (rest all : List (Name × MergeLines)) (grows : Grows B C) (old : LooksOn B ((n, given) ∷ rest) all) where
    pub looks_on : (e : Entry NodeValue) → ((later : Blobs) → Grows C later → (at later n given).passes e) → LooksOn C rest all
    looks_on e here = record {
      looks = λ later g a h.
          old.looks later (λ d b q. g d b (grows d b q)) a (looks_next (at later n given) (look later n given) (λ _. EachLooksAt (at later) (look later) rest) a e (here later g) h);
    }

    pub looks_at : (a : Asked) → look C n given a → EachLooksAt (at C) (look C) all a
    looks_at a h = old.looks C grows a (looks_here (at C n given) (look C n given) (λ _. EachLooksAt (at C) (look C) rest) a h)

pub steady_merged_in : (deeper : ℕ) (path : List Name) (ls : MergeLines) → IsSteady (λ B. MergeLooksIn B deeper path ls)
steady_merged_in zero path ls = steady_without
steady_merged_in (suc deeper) path ls =
    steady_each (λ B n given. entry_merged B (merged_in B deeper (path ++ n ∷ [])) deeper (path ++ n ∷ []) (counted [] given))
    (λ B n given a. StandsOrLooksAt (lone (counted [] given)) (MetLooksAt B (MergeLooksIn B deeper (path ++ n ∷ [])) deeper (counted [] given) a)) (grouped ls)
    (λ n given. stable_entry deeper (path ++ n ∷ []) (counted [] given) (λ new. stable_merged_in deeper (path ++ n ∷ []) new))
    (λ n given. steady_stands (lone (counted [] given)) (λ B a. MetLooksAt B (MergeLooksIn B deeper (path ++ n ∷ [])) deeper (counted [] given) a)
    (record {
      still = λ old new g a h. (
        h.0,
        (steady_looks (stable_opened (counted [] given)) (steady_opened (counted [] given)) (λ new. steady_merged_in deeper (path ++ n ∷ []) new)).still old new g a h.1,
      );
    }))

-- ---- lines that are opened, one after another

pub record OpensLooking (B : Blobs) (rest all : MergeLines) : Type 0 where
  pub looks : (later : Blobs) → Grows B later → (a : Asked) → OpenedLooksAt later rest a → OpenedLooksAt later all a

pub opens_looking_first : (B : Blobs) (all : MergeLines) → OpensLooking B all all
opens_looking_first B all = record { looks = λ later g a h. h }

module _ {B C : Blobs} (l : List Name × NodeWithin) (rest all : MergeLines) (grows : Grows B C) (old : OpensLooking B (l ∷ rest) all) where
  pub opens_looking_on : (new : MergeLines) → ((later : Blobs) → Grows C later → (line_opened later l.0 l.1).passes new) → OpensLooking C rest all
  opens_looking_on new here = record {
    looks = λ later g a h.
        old.looks later (λ d b q. g d b (grows d b q)) a (looks_next (line_opened later l.0 l.1) (LineLooksAt l.0 l.1) (λ _. OpenedLooksAt later rest) a new (here later g) h);
  }

  pub opens_looking_at : (a : Asked) → LineLooksAt l.0 l.1 a → OpenedLooksAt C all a
  opens_looking_at a h = old.looks C grows a (looks_here (line_opened C l.0 l.1) (LineLooksAt l.0 l.1) (λ _. OpenedLooksAt C rest) a h)

pub opened_still : {B C : Blobs} (ls : MergeLines) (a : Asked) → Grows B C → OpenedLooksAt B ls a → OpenedLooksAt C ls a
opened_still {B} {C} ls a g h = (steady_opened ls).still B C g a h
