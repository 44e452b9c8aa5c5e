-- What is said of a variable after one more setting.
use Rattle.std.proofs.Common.{◌≡◌, ◌≢◌, ℕ, ◌+◌, ◌<◌, length, take, get_or, List, [], ◌∷◌, ◌++◌, Bool, true, false, Some, sym, subst, ◌∙◌, ap, refl}
use Rattle.std.specs.Prelude.{Option, bytes_eq, if◌then◌else◌}
use Rattle.std.proofs.lemmas.List.{take_more}
use Rattle.std.proofs.lemmas.Slice.Eq.{bytes_eq-Decides}
use Rattle.action_messages.specs.Setting.{SettingValue}
use Rattle.processes.specs.Process.{said}

pub said_more : (before : Option (Option (List ℕ))) (ss : List SettingValue) (s : SettingValue) (name : List ℕ)
    → said before (ss ++ s ∷ []) name ≡ (if bytes_eq s.name name then Some (Some s.value) else said before ss name)
said_more before [] s name = refl
said_more before (t ∷ ss) s name = said_more (if bytes_eq t.name name then Some (Some t.value) else before) ss s name

pub said_taken : (before : Option (Option (List ℕ))) (ss : List SettingValue) (i : ℕ) (s : SettingValue) (name : List ℕ) → i < length ss → s ≡ get_or ss i s
    → said before (take (i + 1) ss) name ≡ (if bytes_eq s.name name then Some (Some s.value) else said before (take i ss) name)
said_taken before ss i s name lt is =
    let taken : take (i + 1) ss ≡ take i ss ++ s ∷ [] = take_more ss i s lt ∙ ap (λ y. take i ss ++ y ∷ []) (sym is) in
    ap (λ xs. said before xs name) taken ∙ said_more before (take i ss) s name

pub said_step : (before old new : List ℕ → Option (Option (List ℕ))) (ss : List SettingValue) (i : ℕ) (s : SettingValue) → i < length ss → s ≡ get_or ss i s
    → ((n : List ℕ) → old n ≡ said (before n) (take i ss) n) → new s.name ≡ Some (Some s.value) → ((k : List ℕ) → k ≢ s.name → new k ≡ old k)
    → (n : List ℕ) → new n ≡ said (before n) (take (i + 1) ss) n
said_step before old new ss i s lt is held put others n = by (bytes_eq s.name n) refl ∙ sym (said_taken (before n) ss i s n lt is)
  where
    by : (b : Bool) → bytes_eq s.name n ≡ b → new n ≡ (if bytes_eq s.name n then Some (Some s.value) else said (before n) (take i ss) n)
    by true e =
        let same : s.name ≡ n = (bytes_eq-Decides s.name n).0 e in
        rw e (subst (λ m. new m ≡ Some (Some s.value)) same put)
    by false e =
        let other : n ≢ s.name = λ q. let yes : bytes_eq s.name n ≡ true = (bytes_eq-Decides s.name n).1 (sym q) in cc in
        rw e (others n other ∙ held n)
