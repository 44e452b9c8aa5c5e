-- What is recalled of evidence, and how two builds compare.
use Rattle.std.proofs.Common.{◌≡◌, ◌≢◌, ◌∙◌, ◌==◌, ◌<◌, ◌≤◌, ℕ, zero, suc, ◌+◌, Bool, true, false, List, [], ◌∷◌, ◌++◌, length, take, drop, take-append-drop, get_or, Option, Some, None, refl, sym, ap, subst, inl, inr, add-one, arith, append_assoc, String, Result, Ok, Err}
use Rattle.std.specs.Prelude.{IfSome, OnOk, IsSome, codes, is_some, option_map, slice_get, string_bytes}
use Rattle.std.specs.List.{count_by}
use Rattle.std.proofs.Math.Logic.{∥∥₁_map}
use Rattle.std.proofs.lemmas.Option.{slice_get-get_or, slice_get_past, slice_get_within}
use Rattle.std.proofs.lemmas.List.Sums.{count_by_more_no, count_by_more_yes}
use Rattle.std.specs.declared.alloc.Global.{Global}
use Rattle.blob_source.specs.Source.{Telling}
use Rattle.text_verifier.specs.Texts.{Question}
use Rattle.text_verifier.specs.declared.lack.Lack.{Lack}
use Rattle.text_verifier.specs.declared.recalling.Recalled.{Recalled}
use Rattle.clap.specs.Words.{Row, first_of}
use Rattle.command_lines.specs.CommandLine.{option_text}
use Rattle.commands.specs.Compared.{FailsCompare, FailsRecallOf, HasSteps, IsFirstOtherLine, IsRecalledIn, IsToldOf, IsYesOf, RecallsAsked, RecallsEvidence, RecallsInside, TellsBoth, compare_words}
use Rattle.commands.specs.Compared.FailsCompare.{in_first, in_memory as no_memory, in_second}
use Rattle.commands.specs.Stages.{IsListed, ListsStages}
use Rattle.commands.specs.Words.{AllValid}
use Rattle.commands.specs.declared.ended.Ended.{Ended}
use Rattle.commands.specs.Evidence.{evidence_options}
use Rattle.commands.specs.Evidence.InEvidence.{archive, folder}
use Rattle.commands.specs.Faults.{OrMemory}
use Rattle.commands.specs.Places.{FailsInFolder, IsOfFolder, LacksInFolder}
use Rattle.commands.specs.Printed.{AsksQuestion, IsNamedPlace, IsOfPlace, LacksAtPlace, NamesStore}
use Rattle.commands.specs.Refusal.{FailsAtPlace, FailsToJudge}
use Rattle.commands.specs.Refusal.FailsToJudge.{in_memory, in_place}
use Rattle.commands.specs.declared.error.CommandError.{CommandError}
use Rattle.commands.specs.World.{Sight}
use Rattle.commands.specs.declared.recalling.Recollection.{Recollection}
use Rattle.commands.specs.declared.verifying.RecordedBuild.{RecordedBuild}
use Rattle.commands.specs.declared.verifying.RecordedBuild.TheVariants.{Both, Folder, Server}
use Rattle.plan.specs.Plan.{IsPlan, plan_text}
use Rattle.plan.specs.Values.{PlanValue}
use Rattle.report.proofs.Unbroken.{none_named}
use Rattle.report.specs.Line.{HasNoNewline, IsOneLine}
use Rattle.verifier.specs.Compared.{HaveSucceeded, HoldsSteps, IsComparison, RecordedStepValue}
use Rattle.verifier.specs.declared.comparing.Comparison.{Comparison}
use Rattle.verifier.specs.declared.comparing.Comparison.TheVariants.{OtherAction, Unlike}

-- where options name a store, that is the place
pub in_folder : (rows : List Row) (b : RecordedBuild) → IsNamedPlace rows b → NamesStore rows → ((f : String Global) → b ≡ Folder f → ⊥) → ⊥
in_folder rows (Folder f) is names other = other f refl
in_folder rows (Server s) is names other = let both : false ≡ true = subst IsSome is.0.store names.store in cc
in_folder rows (Both s f) is names other = let both : false ≡ true = subst IsSome is.0.store names.store in cc

-- evidence names a store, where nothing is said beside it
pub names_store : (evidence at sources claim : List ℕ) → NamesStore (evidence_options [] evidence at sources claim)
names_store evidence at sources claim = record { store = refl; server = refl; prefix = refl; timeout = refl; results = refl }

-- held steps ended with exit code 0
pub succeeded : (t : Telling) (steps : List RecordedStepValue) → HoldsSteps t steps → HaveSucceeded steps
succeeded t [] h = tt
succeeded t (s ∷ steps) h = (h.0.1, succeeded t steps h.1)

asked_steps : (sees : Sight) (rows : List Row) (r : Recollection) → RecallsAsked sees rows r → IsYesOf r → HasSteps r
asked_steps sees rows r h says = record { each = h.recalled.each says; succeeded = succeeded h.told r.recalled.steps.items (h.recalled.held says) }

inside_steps : (sees : Sight) (evidence : List ℕ) (r : Recollection) → RecallsInside sees evidence r → IsYesOf r → HasSteps r
inside_steps sees evidence r h = asked_steps sees _ r h.states.says

pub has_steps : (sees : Sight) (evidence : List ℕ) (r : Recollection) → RecallsEvidence sees evidence r → IsYesOf r → HasSteps r
has_steps sees evidence r (folder lead h) = inside_steps sees evidence r h
has_steps sees evidence r (archive lead contents files holds h) = inside_steps _ evidence r h

-- ---- a store that the options name

lacks_weaker : (o : Option Lack) (P Q : Lack → Type 0) → ((l : Lack) → P l → Q l) → IfSome o P → IfSome o Q
lacks_weaker None P Q is h = tt
lacks_weaker (Some l) P Q is h = is l h

module _ (sees : Sight) (rows : List Row) (at : String Global) (names : NamesStore rows) (place : IsNamedPlace rows (Folder at)) where
  pub store_recalled : (q : Question) (r : Recalled Global) → AsksQuestion sees rows q → IsRecalledIn sees (string_bytes at) q r → RecallsAsked sees rows (record { case = q; recalled = r })
  store_recalled q r asks h = record {
    asks = asks;
    told = h.told;
    source = ∥∥₁_map h.source (λ is. inl (names, subst (λ f. IsOfFolder sees f h.told) place.1 is));
    recalled = h.recalled;
    lacks = lacks_weaker r.answer.lack (λ l. ∥ LacksInFolder sees (string_bytes at) l ∥₁) (λ l. ∥ LacksAtPlace sees rows l ∥₁) (λ l h. ∥∥₁_map h (λ is. inl (names, subst (λ f. LacksInFolder sees f l) place.1 is))) h.lacks;
  }

  pub store_fails : (q : Question) (e : CommandError) → AsksQuestion sees rows q → OrMemory (λ x. ∥ FailsInFolder sees (string_bytes at) x ∥₁) e → FailsToJudge sees rows e
  store_fails q e asks (inl memory) = in_memory memory
  store_fails q e asks (inr fails) = in_place q asks (∥∥₁_map fails (λ is. inl (names, subst (λ f. FailsInFolder sees f e) place.1 is)))

-- ---- lines

-- what was compared of two texts is the same, and the number of the line that was come to
pub record OnLine (one other : List ℕ) (i line : ℕ) : Type 0 where
  pub same : take i one ≡ take i other
  pub line_is : line ≡ 1 + count_by (λ b. b == 10) (take i one)

pub first_line : (one other : List ℕ) → OnLine one other 0 1
first_line one other = record { same = refl; line_is = refl }

head_at : (xs : List ℕ) (i : ℕ) → slice_get (drop i xs) 0 ≡ slice_get xs i
head_at [] zero = refl
head_at [] (suc i) = refl
head_at (x ∷ xs) zero = refl
head_at (x ∷ xs) (suc i) = head_at xs i

pub other_line : (one other : List ℕ) (i line : ℕ) → OnLine one other i line → slice_get one i ≢ slice_get other i → IsFirstOtherLine one other line
other_line one other i line h differ = record {
  front = take i one;
  rest = drop i one;
  other_rest = drop i other;
  cut = sym (take-append-drop i one);
  other_cut = sym (ap (λ t. t ++ drop i other) h.same ∙ take-append-drop i other);
  differ = λ same. differ (sym (head_at one i) ∙ same ∙ head_at other i);
  line_is = h.line_is;
}

some_none : {X : Type 0} (x : X) (o p : Option X) → o ≡ Some x → p ≡ None → o ≡ p → ⊥
some_none x o p some none same = let both : ◌≡◌ {A = Option _} (Some x) None = sym some ∙ same ∙ none in cc

pub ends_there : (one other : List ℕ) (i : ℕ) → i < length one → length other ≤ i → slice_get one i ≢ slice_get other i
ends_there one other i lt past same = some_none (get_or one i 0) (slice_get one i) (slice_get other i) (slice_get-get_or one i 0 lt) (slice_get_past other i past) same

pub begins_there : (one other : List ℕ) (i : ℕ) → length one ≤ i → i < length other → slice_get one i ≢ slice_get other i
begins_there one other i past lt same = some_none (get_or other i 0) (slice_get other i) (slice_get one i) (slice_get-get_or other i 0 lt) (slice_get_past one i past) (sym same)

pub bytes_differ : (one other : List ℕ) (i : ℕ) → i < length one → i < length other → get_or other i 0 ≢ get_or one i 0 → slice_get one i ≢ slice_get other i
bytes_differ one other i lt lt' differ same =
    let both : ◌≡◌ {A = Option ℕ} (Some (get_or other i 0)) (Some (get_or one i 0)) = sym (slice_get-get_or other i 0 lt') ∙ sym same ∙ slice_get-get_or one i 0 lt in
    differ (let is : get_or other i 0 ≡ get_or one i 0 = cc in is)

take_next : {X : Type 0} (xs : List X) (i : ℕ) (x : X) → slice_get xs i ≡ Some x → take (suc i) xs ≡ take i xs ++ x ∷ []
take_next [] i x at = absurd cc
take_next (y ∷ xs) zero x at = let same : y ≡ x = cc in λ k. same k ∷ []
take_next (y ∷ xs) (suc i) x at = ap (λ ys. y ∷ ys) (take_next xs i x at)

same_next : (one other : List ℕ) (i b : ℕ) → take i one ≡ take i other → slice_get one i ≡ Some b → slice_get other i ≡ Some b → take (i + 1) one ≡ take (i + 1) other
same_next one other i b same at there =
    ap (λ n. take n one) (add-one i) ∙ take_next one i b at ∙ ap (λ t. t ++ b ∷ []) same ∙ sym (ap (λ n. take n other) (add-one i) ∙ take_next other i b there)

pub next_line : (one other : List ℕ) (i line b : ℕ) → OnLine one other i line → i < length one → slice_get one i ≡ Some b → slice_get other i ≡ Some b → get_or one i b ≡ b → (b == 10) ≡ true → OnLine one other (i + 1) (line + 1)
next_line one other i line b h lt at there got newline =
    let more = count_by_more_yes (λ x. x == 10) one i b lt (ap (λ x. x == 10) got ∙ newline) in
    let is = h.line_is in
    record { same = same_next one other i b h.same at there; line_is = omega (arith, is, more) }

pub on_line : (one other : List ℕ) (i line b : ℕ) → OnLine one other i line → i < length one → slice_get one i ≡ Some b → slice_get other i ≡ Some b → get_or one i b ≡ b → (b == 10) ≡ false → OnLine one other (i + 1) line
on_line one other i line b h lt at there got newline =
    let more = count_by_more_no (λ x. x == 10) one i b lt (ap (λ x. x == 10) got ∙ newline) in
    record { same = same_next one other i b h.same at there; line_is = h.line_is ∙ ap (λ n. 1 + n) (sym more) }

-- ---- two builds

pub same_plan : ((p q : PlanValue) → IsPlan p → IsPlan q → plan_text p ≡ plan_text q → p ≡ q) → (p q : PlanValue) (t u : List ℕ) → IsPlan p → IsPlan q → t ≡ plan_text p → u ≡ plan_text q → t ≡ u → p ≡ q
same_plan plan_one p q t u valid also is other same = plan_one p q valid also (sym is ∙ same ∙ other)

pub compared_as : (xs ys ones others : List RecordedStepValue) (c d : Comparison Global) → xs ≡ ones → ys ≡ others → c ≡ d → IsComparison xs ys c → IsComparison ones others d
compared_as xs ys ones others c d e f g h = subst (IsComparison ones others) g (subst (λ zs. IsComparison ones zs c) f (subst (λ zs. IsComparison zs ys c) e h))

pub unlike_within : (ones others : List RecordedStepValue) (i : ℕ) (path : List (List ℕ)) → IsComparison {A = Global} ones others (Unlike i path) → (i < length ones) × (i < length others)
unlike_within ones others i path (below, s, t, stand, action, differ) = (slice_get_within ones i s stand.0, slice_get_within others i t stand.1)

pub apart_within : (ones others : List RecordedStepValue) (i : ℕ) → IsComparison {A = Global} ones others (OtherAction i) → (i < length ones) × (i < length others)
apart_within ones others i (below, s, t, stand, other) = (slice_get_within ones i s stand.0, slice_get_within others i t stand.1)

pub named_line : (word line : List ℕ) → HasNoNewline word → IsOneLine line → IsOneLine (word ++ 32 ∷ line)
named_line word line none one = record {
  text = word ++ 32 ∷ one.text;
  unbroken = none_named word one.text none one.unbroken;
  ended = ap (λ t. word ++ 32 ∷ t) one.ended ∙ sym (append_assoc word (32 ∷ one.text) (10 ∷ []));
}

pub where_one : {T E : Type 0} (r : Result T E) (line : List ℕ) → IsOneLine line → OnOk r (IsOneLine line)
where_one (Ok x) line one = one
where_one (Err e) line one = tt

-- ---- evidence

pub stages_listed : {V : Type 0} (f : V → List ℕ) (sees : Sight) (evidence : List ℕ) (o : Option V) → IsListed sees evidence (option_map f o) → is_some o ≡ true → (stages : List ℕ) × ListsStages sees evidence stages
stages_listed f sees evidence None h some = cc
stages_listed f sees evidence (Some v) h some = (f v, h)

pub none_listed : {V : Type 0} (f : V → List ℕ) (sees : Sight) (evidence : List ℕ) (o : Option V) → IsListed sees evidence (option_map f o) → is_some o ≡ false → IsListed sees evidence None
none_listed f sees evidence None h none = h
none_listed f sees evidence (Some v) h none = cc

module _ (sees : Sight) (rows : List Row) (valid : AllValid (compare_words rows)) (p q : List ℕ) (first : p ≡ option_text rows (codes "evidence")) (second : q ≡ option_text rows (codes "other")) where
  pub tells_of : (one other : Recollection) (line : List ℕ) (ended : Ended) → RecallsEvidence sees p one → RecallsEvidence sees q other → IsToldOf one other line ended → TellsBoth sees rows line ended
  tells_of one other line ended h k told = record {
    valid = valid;
    one = one;
    other = other;
    first = subst (λ x. RecallsEvidence sees x one) first h;
    second = subst (λ x. RecallsEvidence sees x other) second k;
    told = told;
  }

  pub first_fails : (e : CommandError) → OrMemory (FailsRecallOf sees p) e → FailsCompare sees rows e
  first_fails e (inl memory) = no_memory memory
  first_fails e (inr h) = in_first valid (subst (λ x. FailsRecallOf sees x e) first h)

  pub second_fails : (one : Recollection) (e : CommandError) → RecallsEvidence sees p one → OrMemory (FailsRecallOf sees q) e → FailsCompare sees rows e
  second_fails one e h (inl memory) = no_memory memory
  second_fails one e h (inr k) = in_second valid one (subst (λ x. RecallsEvidence sees x one) first h) (subst (λ x. FailsRecallOf sees x e) second k)
